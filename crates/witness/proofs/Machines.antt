-- WHAT CONDITION 3 RULES OUT, of engines that serve orders, each for a body, on the table's bytes: "no slot" for another body's full slots, a record
-- written over a neighbour's, and a mark left where no body owns the byte. The rules' own engine passes where those fail.
use Rattle.std.specs.Prelude.{Result, Err}
use Prim.Native.Nat.{ℕ, ◌+◌, ◌*◌}
use mathlib.Core.Path.{◌≡◌, refl, ap}
use mathlib.Core.Bool.{Bool, cond, ◌||◌}
use mathlib.Core.Option.{none, some}
use mathlib.Core.List.{List, [], ◌∷◌, map}
use native.Mathlib.Omega.{arith}
use lib.Dec.{eqb, ltb, lit<}
use lib.ListN.{get_or}
use Rattle.scan.specs.Bytes.{part}
use Rattle.words.specs.Numbers.{be2, be4, be8, put}
use Rattle.record.specs.Slot.{slot_size, record_at, flat8, record_bytes, key_is}
use Rattle.slots.specs.Slots.{used_at, slots_at, find_in}
use Rattle.entries.specs.Entry.{kept_bytes, slots_from, slots_of, place_of}
use Rattle.table.specs.Table.{head_size, entry_of}
use Rattle.request.specs.Request.{asked, needed}
use Rattle.contents.specs.Contents.{head_bytes, entry_bytes, entries_bytes}
use Rattle.opening.specs.Opening.{opened}
use Rattle.order.specs.Ordinativo.{Ordinativo}
use Rattle.lines.specs.Lines.{numbered_from, sum_of, line_code}
use Rattle.rules.specs.Rules.{order_code, amounts_of, any_executed, situation_in, situation_of, placed, stepped, judge_order, written}
use Rattle.service.specs.Service.{order_comes, order_stored, order_leaves}
use Rattle.isolation.specs.Machine.{Machine, Isolated, whose, state_after, log}
use Rattle.isolation.specs.Order.{mine}
use Rattle.witness.specs.Flows.{small, order}
use Rattle.rules.specs.declared.Change.{Change}

-- where body b's slots are in the table with one slot each
abbrev base : ℕ → ℕ
base b = place_of small (entry_of b)

abbrev size : ℕ → ℕ
size b = slots_of small (entry_of b)

abbrev comes : List ℕ → ℕ → Ordinativo → Result (Change × ℕ) ℕ
comes t b o = order_comes t (base b) (size b) 2021 o

abbrev leaves : List ℕ → ℕ → Ordinativo → List ℕ
leaves t b o = order_leaves t (base b) (size b) 2021 o

-- how an order is judged, and the table that it leaves
abbrev engine : (List ℕ → ℕ → Ordinativo → Result (Change × ℕ) ℕ) → (List ℕ → ℕ → Ordinativo → List ℕ) → Machine
engine judge next = record {
  State = List ℕ;
  Call = ℕ × Ordinativo;
  Answer = ℕ;
  Part = List ℕ;
  Rest = List ℕ;
  count = 2;
  who = λ c. cond (ltb c.0 2) (some c.0) none;
  answer = λ c t. order_code (judge t c.0 c.1);
  next = λ c t. next t c.0 c.1;
  part = λ b t. part t (base b) (base b + slot_size * size b);
  rest = λ t. part t 0 head_size;
}

-- the rules' own
abbrev right : Machine
right = engine comes leaves

-- "no slot" answered because another body filled its own
abbrev full : List ℕ → ℕ → Bool
full t b = eqb (used_at t (base b) (size b)) (size b)

abbrev crowded : Machine
crowded = engine (λ t b o. cond (full t 0 || full t 1) (Err 15) (comes t b o)) leaves

-- one slot past the body's own is taken for its own
abbrev spilling : Machine
spilling = engine (λ t b o. order_comes t (base b) (size b + 1) 2021 o) (λ t b o. order_leaves t (base b) (size b + 1) 2021 o)

-- a mark is left in the head, which no body owns and no answer tells
abbrev stamping : Machine
stamping = engine comes (λ t b o. put (leaves t b o) 15 (1 ∷ []))

-- THREE SEQUENCES: each body inserts an order; the first inserts two; one order
abbrev each : List (ℕ × Ordinativo)
each = (0, order 1) ∷ (1, order 1) ∷ []

abbrev twice : List (ℕ × Ordinativo)
twice = (0, order 1) ∷ (0, order 2) ∷ []

abbrev once : List (ℕ × Ordinativo)
once = (0, order 1) ∷ []

-- the first of the answers in a log
abbrev told : List ((ℕ × Ordinativo) × ℕ) → ℕ
told ls = get_or (map (λ l. l.1) ls) 0 99

-- WHAT IS COMPUTED, in one place
pub record Facts : Type 0 where
  pub crowded_all : told (mine (whose crowded) 1 (log crowded each small)) ≡ 15
  pub crowded_alone : told (log crowded (mine crowded.who 1 each) small) ≡ 0
  pub spilling_all : get_or (spilling.part 1 (state_after spilling twice small)) 0 99 ≡ 1
  pub spilling_alone : get_or (spilling.part 1 (state_after spilling (mine spilling.who 1 twice) small)) 0 99 ≡ 0
  pub stamping_after : get_or (stamping.rest (state_after stamping once small)) 15 99 ≡ 1
  pub stamping_before : get_or (stamping.rest small) 15 99 ≡ 0
  pub right_answers : mine (whose right) 1 (log right each small) ≡ log right (mine right.who 1 each) small
  pub right_records : right.part 1 (state_after right twice small) ≡ right.part 1 (state_after right (mine right.who 1 twice) small)
  pub right_rest : right.rest (state_after right once small) ≡ right.rest small

pub facts : Facts
unfolding be2 be4 be8 put record_at flat8 record_bytes key_is used_at slots_at find_in slots_of place_of kept_bytes slots_from asked needed head_bytes entry_bytes entries_bytes opened numbered_from sum_of line_code amounts_of any_executed situation_in situation_of placed stepped judge_order written order_comes order_stored
facts = record {
  crowded_all = refl;
  crowded_alone = refl;
  spilling_all = refl;
  spilling_alone = refl;
  stamping_after = refl;
  stamping_before = refl;
  right_answers = refl;
  right_records = refl;
  right_rest = refl;
}

pub crowded_wrong : Isolated crowded small → ⊥
crowded_wrong I = omega (arith, facts.crowded_all, facts.crowded_alone, ap told (I.alone_answers each 1 (lit< tt)))

pub spilling_wrong : Isolated spilling small → ⊥
spilling_wrong I = omega (arith, facts.spilling_all, facts.spilling_alone, ap (λ (x : List ℕ). get_or x 0 99) (I.alone_records twice 1 (lit< tt)))

pub stamping_wrong : Isolated stamping small → ⊥
stamping_wrong I = omega (arith, facts.stamping_after, facts.stamping_before, ap (λ (x : List ℕ). get_or x 15 99) (I.frame once))
