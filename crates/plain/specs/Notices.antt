-- A NOTICE, and TOTALS, in the training room: what they answer, and the lists that they leave.
use Rattle.std.specs.Prelude.{ℕ, zero, suc, pos, ◌-ℤ◌, ◌≡◌, Bool, cond, List, length, Option, Result, Some, None, Err}
use Rattle.calendar.specs.declared.Date.{Date}
use Rattle.target_days.specs.Target.{target_code}
use Rattle.record.specs.declared.Record.{Record}
use Rattle.record.specs.declared.Key.{Key}
use Rattle.record.specs.Slot.{mandato_kind, reversale_kind}
use Rattle.body.specs.Body.{cents_of}
use Rattle.rules.specs.Rules.{judge_notice}
use Rattle.rules.specs.Effects.{records_moved}
use Rattle.notices.specs.declared.NoticeRefusal.{NoticeRefusal}
use Rattle.notices.specs.declared.NoticeRefusal.TheVariants.{InvalidTable, WrongDay, UnknownBody}
use Rattle.notices.specs.declared.TotalsAnswer.{TotalsAnswer}
use Rattle.notices.specs.Notices.{noticed, totalled, zero_totals}
use Rattle.plain.specs.Plain.{Plain, body_in, numbered, with_orders, fits}

-- A NOTICE on a TARGET day: of a body's list, and the list afterwards
abbrev pub notice_on : Bool → Key → ℕ → List Record → Result ℕ NoticeRefusal
notice_on executing k line rs = cond (fits rs) (noticed (judge_notice executing k line rs)) (Err InvalidTable)

abbrev pub list_on : Bool → Key → ℕ → List Record → List Record
list_on executing k line rs = cond (fits rs) (records_moved executing line rs (judge_notice executing k line rs)) rs

-- "7 no body has this code"
abbrev pub notice_for : Plain → Bool → Key → ℕ → Option ℕ → Result ℕ NoticeRefusal
notice_for s executing k line (Some b) = notice_on executing k line (body_in s b).orders
notice_for s executing k line None = Err UnknownBody

abbrev pub room_for : Plain → Bool → Key → ℕ → Option ℕ → Plain
room_for s executing k line (Some b) = with_orders s b (list_on executing k line (body_in s b).orders)
room_for s executing k line None = s

-- of a date's code c: "27 no date or outside the years, 28 closing day, both .. before 7" (document 02, Req 08)
abbrev pub day_answer : ℕ → Result ℕ NoticeRefusal → Result ℕ NoticeRefusal
day_answer zero a = a
day_answer (suc c) a = Err (WrongDay (suc c))

abbrev pub day_room : ℕ → Plain → Plain → Plain
day_room zero s s' = s'
day_room (suc c) s s' = s

-- THE PROMISE of a notice's call in the room s: of execution (true) or reversal (false), for the body with this code, of a line of the order with this key, on a date
abbrev pub NoticeLesson : Plain → Bool → List ℕ → Key → ℕ → Date → Result ℕ NoticeRefusal → Plain → Type 0
NoticeLesson s executing code k line d a s' =
    (a ≡ day_answer (target_code d) (notice_for s executing k line (numbered s code))) × (s' ≡ day_room (target_code d) s (room_for s executing k line (numbered s code)))

-- TOTALS of a body's list: "used slots, cents paid (executed mandato lines), cents collected (executed reversale lines), and the balance, collected less paid"
abbrev pub list_totals : List Record → TotalsAnswer
list_totals rs =
    cond (fits rs)
    (totalled 0 (length rs) (cents_of mandato_kind rs) (cents_of reversale_kind rs) (pos (cents_of reversale_kind rs) -ℤ pos (cents_of mandato_kind rs)))
    (zero_totals 1)

abbrev pub totals_for : Plain → Option ℕ → TotalsAnswer
totals_for s (Some b) = list_totals (body_in s b).orders
totals_for s None = zero_totals 7

-- THE PROMISE of a totals call, which changes nothing
abbrev pub TotalsLesson : Plain → List ℕ → TotalsAnswer → Type 0
TotalsLesson s code a = a ≡ totals_for s (numbered s code)
