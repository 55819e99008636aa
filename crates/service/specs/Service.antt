-- Orders and notices served on one body of a table's bytes (document 01, "Answers"): the rules over its records, and the bytes they leave.
use Rattle.std.specs.Prelude.{ℕ, ◌+◌, ◌*◌, ◌≡◌, Bool, cond, List, [], ◌∷◌, ◌++◌, length, eqb, Result, Ok, Err}
use Rattle.words.specs.Numbers.{put, bytes4, bytes8}
use Rattle.codes.specs.Codes.{operation_number}
use Rattle.order.specs.Ordinativo.{Ordinativo}
use Rattle.record.specs.declared.Key.{Key}
use Rattle.record.specs.declared.Record.{Record}
use Rattle.record.specs.Slot.{slot_size, mandato_kind, reversale_kind, record_at, record_bytes}
use Rattle.slots.specs.Slots.{records_at, state_place}
use Rattle.body.specs.Body.{cents_of}
use Rattle.entries.specs.Entry.{entry_fixed, kept_bytes}
use Rattle.replacing.specs.Replacing.{namings, lines_put}
use Rattle.rules.specs.declared.Change.{Change}
use Rattle.rules.specs.declared.Change.TheVariants.{Insert, Vary, Annul, Replace}
use Rattle.rules.specs.Rules.{judge_order, order_code, written, judge_notice, moved_to}
use Rattle.rules.specs.Searches.{steps_of}
use Rattle.service.specs.declared.Counted.{Counted}

-- A BODY of a table: where its slots begin, and how many they are; for a notice, where its entry begins too. An ORDER is served in the flow's esercizio, `year`.

-- what an order comes to
unfoldable pub order_comes : List ℕ → ℕ → ℕ → ℕ → Ordinativo → Result (Change × ℕ) ℕ
order_comes t base n year o = judge_order n year o (records_at t base n)

-- the table beside the order's own record: a SOSTITUZIONE's named lines are replaced (document 02, Req 07)
abbrev pub besides_put : List ℕ → ℕ → ℕ → Ordinativo → Change → List ℕ
besides_put t base n o Insert = t
besides_put t base n o Vary = t
besides_put t base n o Annul = t
besides_put t base n o Replace = lines_put t base n (namings o)

-- the table after it: the accepted order's record in its slot, a SOSTITUZIONE's named lines replaced, every other byte as it was
unfoldable pub order_stored : List ℕ → ℕ → ℕ → ℕ → Ordinativo → Result (Change × ℕ) ℕ → List ℕ
order_stored t base n year o (Ok (c, i)) =
    put (besides_put t base n o c) (base + slot_size * i) (record_bytes (written year o (record_at t (base + slot_size * i)) c))
order_stored t base n year o (Err code) = t

abbrev pub order_leaves : List ℕ → ℕ → ℕ → ℕ → Ordinativo → List ℕ
order_leaves t base n year o = order_stored t base n year o (order_comes t base n year o)

-- the slots that its search looked at (document 02, Req 09)
abbrev pub order_steps : List ℕ → ℕ → ℕ → ℕ → Ordinativo → ℕ
order_steps t base n year o = steps_of year o (records_at t base n)

-- an order served on the table t: the ruling and the steps r, and the table t' afterwards
abbrev pub OrderServed : List ℕ → ℕ → ℕ → ℕ → Ordinativo → Counted → List ℕ → Type 0
OrderServed t base n year o r t' =
    (r.ruling ≡ order_comes t base n year o) × (r.steps ≡ order_steps t base n year o) × (t' ≡ order_leaves t base n year o)

-- "Each writes 16 outcome bytes"
abbrev pub outcome_size : ℕ
outcome_size = 16

-- "0 kind, 1 operation (1 to 4 in the field table's order), 2 code, 3 lines, 4-7 number, 8-15 total"
unfoldable pub outcome_bytes : Ordinativo → ℕ → List ℕ
outcome_bytes o code =
    o.kind ∷ operation_number o.operation ∷ code ∷ length o.lines ∷ (bytes4 o.number ++ bytes8 o.total)

-- THE ORDERS OF A FLOW, "taken as written, each on the table the one before left"

unfoldable pub all_leave : List ℕ → ℕ → ℕ → ℕ → List Ordinativo → List ℕ
all_leave t base n year [] = t
all_leave t base n year (o ∷ os) = all_leave (order_leaves t base n year o) base n year os

unfoldable pub all_outcomes : List ℕ → ℕ → ℕ → ℕ → List Ordinativo → List ℕ
all_outcomes t base n year [] = []
all_outcomes t base n year (o ∷ os) =
    outcome_bytes o (order_code (order_comes t base n year o)) ++ all_outcomes (order_leaves t base n year o) base n year os

-- "accepted (how many of them got outcome code 0)"
unfoldable pub all_accepted : List ℕ → ℕ → ℕ → ℕ → List Ordinativo → ℕ
all_accepted t base n year [] = 0
all_accepted t base n year (o ∷ os) =
    cond (eqb (order_code (order_comes t base n year o)) 0) 1 0 + all_accepted (order_leaves t base n year o) base n year os

-- "The flow's answer carries their sum" (document 02, Req 09)
unfoldable pub all_steps : List ℕ → ℕ → ℕ → ℕ → List Ordinativo → ℕ
all_steps t base n year [] = 0
all_steps t base n year (o ∷ os) = order_steps t base n year o + all_steps (order_leaves t base n year o) base n year os

-- A NOTICE

unfoldable pub notice_comes : List ℕ → ℕ → ℕ → Bool → Key → ℕ → Result (ℕ × ℕ) ℕ
notice_comes t base n executing k line = judge_notice executing k line (records_at t base n)

-- the line's state is set
unfoldable pub line_moved : List ℕ → ℕ → Bool → ℕ → ℕ → List ℕ
line_moved t base executing line i = put t (state_place base i line) (moved_to executing ∷ [])

-- "Every call that moves a line keeps them true" (document 02, Req 04), and so do salvage and a close (Req 13, 14): the entry
-- at e with the cents paid and collected of these records
unfoldable pub settled : List ℕ → ℕ → List Record → List ℕ
settled t e rs = put t (e + entry_fixed) (kept_bytes (cents_of mandato_kind rs) (cents_of reversale_kind rs))

-- the table after it: the line's state and the totals that its body's entry at e keeps, or nothing changes
unfoldable pub notice_stored : List ℕ → ℕ → ℕ → ℕ → Bool → ℕ → Result (ℕ × ℕ) ℕ → List ℕ
notice_stored t e base n executing line (Ok (i, cents)) =
    settled (line_moved t base executing line i) e (records_at (line_moved t base executing line i) base n)
notice_stored t e base n executing line (Err c) = t

abbrev pub notice_leaves : List ℕ → ℕ → ℕ → ℕ → Bool → Key → ℕ → List ℕ
notice_leaves t e base n executing k line = notice_stored t e base n executing line (notice_comes t base n executing k line)

-- a notice served on the table t: what it comes to, m, and the table t' afterwards
abbrev pub NoticeServed : List ℕ → ℕ → ℕ → ℕ → Bool → Key → ℕ → Result (ℕ × ℕ) ℕ → List ℕ → Type 0
NoticeServed t e base n executing k line m t' = (m ≡ notice_comes t base n executing k line) × (t' ≡ notice_leaves t e base n executing k line)
