-- Notices and totals (document 01, "Answers"): what a call answers, and every byte it leaves.
use Rattle.std.specs.Prelude.{ℕ, zero, suc, ℤ, pos, ◌-ℤ◌, ◌≡◌, Bool, cond, List, Result, Ok, Err}
use Rattle.calendar.specs.declared.Date.{Date}
use Rattle.target_days.specs.Target.{target_code}
use Rattle.record.specs.declared.Key.{Key}
use Rattle.record.specs.Slot.{mandato_kind, reversale_kind}
use Rattle.slots.specs.Slots.{records_at, used_at}
use Rattle.body.specs.Body.{cents_of}
use Rattle.address.specs.declared.NoBody.{NoBody}
use Rattle.address.specs.declared.NoBody.TheVariants.{Invalid, Unknown}
use Rattle.table.specs.Table.{table_ok}
use Rattle.address.specs.Address.{addressed}
use Rattle.service.specs.Service.{notice_comes, notice_leaves}
use Rattle.notices.specs.declared.NoticeReply.{NoticeReply}
use Rattle.notices.specs.declared.NoticeRefusal.{NoticeRefusal}
use Rattle.notices.specs.declared.NoticeRefusal.TheVariants.{InvalidTable, WrongDay, UnknownBody, Declined}
use Rattle.notices.specs.declared.TotalsAnswer.{TotalsAnswer}

-- A NOTICE: "A notice names body code, kind, esercizio, number, line" (document 01), and "will carry a date and must fall on a TARGET day" (document 02, Req 08)

-- the key of the order that it names
abbrev pub keyed : ℕ → ℕ → ℕ → Key
keyed kind esercizio number = record { kind = kind; esercizio = esercizio; number = number }

abbrev pub noticed : Result (ℕ × ℕ) ℕ → Result ℕ NoticeRefusal
noticed (Ok (i, cents)) = Ok cents
noticed (Err c) = Err (Declined c)

-- on a TARGET day: what it answers, and the table afterwards
unfoldable pub notice_by : List ℕ → Bool → Key → ℕ → Result (ℕ × ℕ × ℕ) NoBody → Result ℕ NoticeRefusal
notice_by t executing k line (Err Invalid) = Err InvalidTable
notice_by t executing k line (Err Unknown) = Err UnknownBody
notice_by t executing k line (Ok (e, base, n)) = noticed (notice_comes t base n executing k line)

unfoldable pub notice_table_by : List ℕ → Bool → Key → ℕ → Result (ℕ × ℕ × ℕ) NoBody → List ℕ
notice_table_by t executing k line (Err Invalid) = t
notice_table_by t executing k line (Err Unknown) = t
notice_table_by t executing k line (Ok (e, base, n)) = notice_leaves t e base n executing k line

-- of a date's code c: "27 no date or outside the years, 28 closing day, both after 1 and before 7" (document 02, Req 08)
abbrev pub on_day : ℕ → List ℕ → Result ℕ NoticeRefusal → Result ℕ NoticeRefusal
on_day zero t a = a
on_day (suc c) t a = cond (table_ok t) (Err (WrongDay (suc c))) (Err InvalidTable)

abbrev pub table_on_day : ℕ → List ℕ → List ℕ → List ℕ
table_on_day zero t t' = t'
table_on_day (suc c) t t' = t

-- what a notice of execution (true) or reversal (false) on the date d answers, and the table afterwards
abbrev pub notice_answer : List ℕ → Bool → List ℕ → Key → ℕ → Date → Result ℕ NoticeRefusal
notice_answer t executing code k line d = on_day (target_code d) t (notice_by t executing k line (addressed t code))

abbrev pub notice_table : List ℕ → Bool → List ℕ → Key → ℕ → Date → List ℕ
notice_table t executing code k line d = table_on_day (target_code d) t (notice_table_by t executing k line (addressed t code))

-- THE PROMISE of a notice's call: of execution (true) or reversal (false), for the body with this code, of a line of the order with this key, on a date
abbrev pub NoticePromise : List ℕ → Bool → List ℕ → Key → ℕ → Date → Result ℕ NoticeRefusal → List ℕ → Type 0
NoticePromise t executing code k line d a t' = (a ≡ notice_answer t executing code k line d) × (t' ≡ notice_table t executing code k line d)

-- DOCUMENT 01'S NUMBERS of an answer: "cents 0 on refusal"
abbrev refusal : ℕ → NoticeReply
refusal c = record { code = c; cents = 0 }

abbrev pub notice_reply : Result ℕ NoticeRefusal → NoticeReply
notice_reply (Err InvalidTable) = refusal 1
notice_reply (Err (WrongDay c)) = refusal c
notice_reply (Err UnknownBody) = refusal 7
notice_reply (Ok cents) = record { code = 0; cents = cents }
notice_reply (Err (Declined c)) = refusal c

abbrev pub notice_code_of : Result ℕ NoticeRefusal → ℕ
notice_code_of a = (notice_reply a).code

-- the promise in these numbers
abbrev pub NoticeReplies : List ℕ → Bool → List ℕ → Key → ℕ → Date → ℕ → ℕ → List ℕ → Type 0
NoticeReplies t executing code k line d n cents t' =
    (a : Result ℕ NoticeRefusal) × NoticePromise t executing code k line d a t' × (n ≡ (notice_reply a).code) × (cents ≡ (notice_reply a).cents)

-- TOTALS: "Totals name a body: code (0, 1, 7), used slots, cents paid (executed mandato lines), cents collected (executed reversale lines), and the
-- balance, collected less paid, which may be below zero. A refusal gives zeros."
abbrev pub totalled : ℕ → ℕ → ℕ → ℕ → ℤ → TotalsAnswer
totalled c used paid collected balance = record { code = c; used = used; paid = paid; collected = collected; balance = balance }

abbrev pub zero_totals : ℕ → TotalsAnswer
zero_totals c = totalled c 0 0 0 (pos 0)

-- of a body of n slots from base on
unfoldable pub body_totals : List ℕ → ℕ → ℕ → TotalsAnswer
body_totals t base n =
    let paid = cents_of mandato_kind (records_at t base n) in
    let collected = cents_of reversale_kind (records_at t base n) in
    totalled 0 (used_at t base n) paid collected (pos collected -ℤ pos paid)

abbrev pub totals_by : List ℕ → Result (ℕ × ℕ × ℕ) NoBody → TotalsAnswer
totals_by t (Err Invalid) = zero_totals 1
totals_by t (Err Unknown) = zero_totals 7
totals_by t (Ok (e, base, n)) = body_totals t base n

unfoldable pub totals_of : List ℕ → List ℕ → TotalsAnswer
totals_of t code = totals_by t (addressed t code)

-- THE PROMISE of a totals call, which is lent the table to read only
abbrev pub TotalsPromise : List ℕ → List ℕ → TotalsAnswer → Type 0
TotalsPromise t code a = a ≡ totals_of t code
