-- THE PLAIN ENGINE (document 02, Req 12): "a version that keeps each body's orders as a simple list in order of arrival, unpacked, as many as the body has slots". It
-- takes flows (Flows) and notices and totals (Notices), and "gets no close" (Req 14). It has no bytes: of a table only Says speaks, which tells the room that a table says.
use Rattle.std.specs.Prelude.{ℕ, Bool, true, ◌&&◌, List, [], ◌∷◌, map, get_or, set, leb, Option}
use Rattle.bounds.specs.Bounds.{max_cents}
use Rattle.record.specs.declared.Record.{Record}
use Rattle.entries.specs.Entry.{find_code}

-- A BODY: its code, how many orders it can have, and its orders
pub record Listed : Type 0 where
  pub code : List ℕ
  pub slots : ℕ
  pub orders : List Record

-- THE ROOM: the bank's five digits, and its bodies
pub record Plain : Type 0 where
  pub abi : List ℕ
  pub bodies : List Listed

-- the body with a number, counted from 0
abbrev pub no_body : Listed
no_body = record { code = []; slots = 0; orders = [] }

abbrev pub body_in : Plain → ℕ → Listed
body_in s b = get_or s.bodies b no_body

-- the number of the body with a code, compared byte by byte: "000471 and 471 are two bodies" (document 01)
abbrev pub numbered : Plain → List ℕ → Option ℕ
numbered s code = find_code (map (λ l. l.code) s.bodies) 0 code

-- the same body with other orders, and the same room with other orders of body b
abbrev pub relisted : Listed → List Record → Listed
relisted l rs = record { code = l.code; slots = l.slots; orders = rs }

abbrev pub with_orders : Plain → ℕ → List Record → Plain
with_orders s b rs = record { abi = s.abi; bodies = set s.bodies b (relisted (body_in s b) rs) }

-- A LIST THAT NOTICES AND TOTALS ARE TAKEN ON: no order has more than eight lines, and no amount is greater than a field can write, so that sums can be held. The list
-- of every body of a valid table is one, so that no lesson in a room made of a table is answered 1 (`never-invalid`, crates/lessons).
unfoldable pub amounts_fit : List ℕ → Bool
amounts_fit [] = true
amounts_fit (a ∷ rest) = leb a max_cents && amounts_fit rest

unfoldable pub fits : List Record → Bool
fits [] = true
fits (r ∷ rs) = (leb r.lines 8 && amounts_fit r.amounts) && fits rs
