-- The training room that a table says, where it takes the table: "valid tables whose bodies have at most 32 slots" (document 02, Req 12); it "meets no closed table" (Req 14).
use Rattle.std.specs.Prelude.{ℕ, ◌≡◌, cond, List, [], ◌∷◌, Result, Ok, Err}
use Rattle.table.specs.Table.{table_ok}
use Rattle.plain.specs.Plain.{Plain}
use Rattle.plain.specs.Says.{plain_of, small, unclosed}
use Rattle.enrolment.specs.declared.EnrolRefusal.{EnrolRefusal}
use Rattle.enrolment.specs.declared.EnrolRefusal.TheVariants.{InvalidTable, TooLarge, YearClosed}

-- what is told of a table
abbrev pub enrols : List ℕ → Result Unit EnrolRefusal
enrols t = cond (table_ok t) (cond (small t) (cond (unclosed t) (Ok tt) (Err YearClosed)) (Err TooLarge)) (Err InvalidTable)

-- the room: of a table that is refused one without a body
abbrev pub empty_room : Plain
empty_room = record { abi = 0 ∷ 0 ∷ 0 ∷ 0 ∷ 0 ∷ []; bodies = [] }

abbrev pub room_by : List ℕ → Result Unit EnrolRefusal → Plain
room_by t (Ok tt) = plain_of t
room_by t (Err InvalidTable) = empty_room
room_by t (Err TooLarge) = empty_room
room_by t (Err YearClosed) = empty_room

-- THE PROMISE: what is told of the table t, and the room
abbrev pub EnrolPromise : List ℕ → Result Unit EnrolRefusal → Plain → Type 0
EnrolPromise t told s = (told ≡ enrols t) × (s ≡ room_by t (enrols t))
