-- REPLACEMENT ORDERS, proved: an accepted one passed every test, so that it stands in the first empty slot and its named lines are all replaced.
use Rattle.std.specs.Prelude.{Result, Some, Ok, Err}
use Prim.Native.Nat.{ℕ, zero, suc, ◌+◌, ◌-◌, ◌<◌}
use mathlib.Core.Path.{◌≡◌, refl, sym, ap, ◌∙◌, subst}
use mathlib.Core.Bool.{Bool, true, false, cond}
use mathlib.Core.Logic.{◌⊎◌, inl, inr}
use mathlib.Core.List.Memᴰ
use mathlib.Core.List.{List, [], ◌∷◌, ◌++◌, Memᴰ}
use native.Mathlib.Omega.{arith}
use lib.Dec.{ltb}
use lib.ListN.{length, get_or, set}
use Rattle.codes.specs.declared.Operation.{Operation}
use Rattle.codes.specs.declared.Operation.TheVariants.{Sostituzione}
use Rattle.order.specs.declared.Line.{Line}
use Rattle.order.specs.Ordinativo.{Ordinativo}
use Rattle.record.specs.declared.Key.{Key}
use Rattle.record.specs.declared.Record.{Record}
use Rattle.record.specs.Slot.{key_is, with_state}
use Rattle.slots.specs.Slots.{find_in, nth, no_record}
use Rattle.slots.proofs.Search.{found_below}
use Rattle.lines.specs.Lines.{line_code}
use Rattle.replacing.specs.declared.Naming.{Naming}
use Rattle.replacing.specs.Replacing.{naming_of, namings_of, namings, line_named_in, named_at, named_code, with_replaced, replace_code, replaced_by}
use Rattle.replacing.proofs.Marks.{marked_find, marked_is, takes, inside_list, or_zero, replaced_length}
use Rattle.replacing.proofs.Twice.{never_twice}
use Rattle.rules.specs.declared.Change.TheVariants.{Replace}
use Rattle.rules.specs.Rules.{change_of, situation_of, step_code, key_for, placed, unless, stepped, judge_change, judge_order, order_code, written, record_of}
use Rattle.rules.specs.Listed.{IsReplaced}
use Rattle.rules.specs.Effects.{stored_at, records_by}
use Rattle.service.proofs.Worth.{stored_end}
use Rattle.theorems.specs.Replacements.{Replaced, Replacements}
use Rattle.rules.specs.declared.Change.{Change}

-- the tests of a replacement: its lines, the step, the lines that it names, an empty slot at k
abbrev tests : ℕ → ℕ → ℕ → Bool → ℕ → Result (Change × ℕ) ℕ
tests lines step named room k = unless Err lines (unless Err step (unless Err named (cond room (Ok (Replace, k)) (Err 15))))

passed : (lines step named : ℕ) (room : Bool) (k : ℕ) → order_code (tests lines step named room k) ≡ 0 → (tests lines step named room k ≡ Ok (Replace, k)) × (named ≡ 0)
passed zero zero zero true k e = (refl, refl)
passed zero zero zero false k e = absurd (omega arith)
passed zero zero (suc n) room k e = absurd (omega arith)
passed zero (suc s) n room k e = absurd (omega arith)
passed (suc l) s n room k e = absurd (omega arith)

module _ (slots year : ℕ) (o : Ordinativo) (rs : List Record) (p : o.operation ≡ Sostituzione) (z : order_code (judge_order slots year o rs) ≡ 0) where
  judged : judge_order slots year o rs
      ≡ tests (line_code o.lines o.total) (step_code Replace (situation_of rs (find_in rs 0 (key_for year o)))) (replace_code rs (namings o)) (ltb (length rs) slots) (length rs)
  unfolding judge_order stepped placed
  judged = ap (λ (x : Operation). judge_change slots year o rs (change_of x)) p

  through : (judge_order slots year o rs ≡ Ok (Replace, (length rs))) × (replace_code rs (namings o) ≡ 0)
  through =
      let w = passed (line_code o.lines o.total) (step_code Replace (situation_of rs (find_in rs 0 (key_for year o)))) (replace_code rs (namings o)) (ltb (length rs) slots) (length rs) (sym (ap order_code judged) ∙ z) in
      (judged ∙ w.0, w.1)

-- A LINE'S STATE, where others or itself become 3
state_stays : (l : List ℕ) (k i : ℕ) → get_or l i 0 ≡ 3 → get_or (set l k 3) i 0 ≡ 3
state_stays [] k i e = e
state_stays (x ∷ l) zero zero e = refl
state_stays (x ∷ l) zero (suc i) e = e
state_stays (x ∷ l) (suc k) zero e = e
state_stays (x ∷ l) (suc k) (suc i) e = state_stays l k i e

state_set : (l : List ℕ) (k : ℕ) → k < length l → get_or (set l k 3) k 0 ≡ 3
state_set [] k h = absurd (omega arith)
state_set (x ∷ l) zero h = refl
state_set (x ∷ l) (suc k) h = state_set l k (omega arith)

-- and among records
stays_in : (rs : List Record) (j q i k : ℕ) → IsReplaced (nth rs i) k → IsReplaced (nth (set rs j (with_state (nth rs j) q 3)) i) k
stays_in [] j q i k e = e
stays_in (x ∷ rs) zero q zero k e = state_stays x.states q k e
stays_in (x ∷ rs) zero q (suc i) k e = e
stays_in (x ∷ rs) (suc j) q zero k e = e
stays_in (x ∷ rs) (suc j) q (suc i) k e = stays_in rs j q i k e

set_in : (rs : List Record) (j q : ℕ) → j < length rs → q < length (nth rs j).states → IsReplaced (nth (set rs j (with_state (nth rs j) q 3)) j) q
set_in [] j q h l = absurd (omega arith)
set_in (x ∷ rs) zero q h l = state_set x.states q l
set_in (x ∷ rs) (suc j) q h l = set_in rs j q (omega arith) l

-- A NAMED LINE becomes replaced, and what is replaced stays so
marks : (rs : List Record) (m : Naming) → named_code rs m ≡ 0 → Replaced (with_replaced rs m) m
marks rs m e =
    let tk = takes rs m e in
    let s = set_in rs tk.at (m.line - 1) (found_below rs m.key tk.at no_record tk.found) (inside_list (nth rs tk.at).states (m.line - 1) tk.stands.state) in
    record {
      at = tk.at;
      found = marked_find rs m 0 m.key ∙ tk.found;
      state = ap (λ (l : List Record). get_or (nth l tk.at).states (m.line - 1) 0) (marked_is rs m m e refl) ∙ s;
    }

keeps : (rs : List Record) (x m : Naming) → named_code rs x ≡ 0 → Replaced rs m → Replaced (with_replaced rs x) m
keeps rs x m e R =
    let j = (takes rs x e).at in
    record {
      at = R.at;
      found = marked_find rs x 0 m.key ∙ R.found;
      state = ap (λ (l : List Record). get_or (nth l R.at).states (m.line - 1) 0) (marked_is rs x x e refl) ∙ stays_in rs j (x.line - 1) R.at (m.line - 1) R.state;
    }

module _ (kind : ℕ) where
  keeps_all : (rs : List Record) (ls : List Line) (m : Naming) → replace_code rs (namings_of kind ls) ≡ 0 → Replaced rs m → Replaced (replaced_by rs (namings_of kind ls)) m
  unfolding replace_code replaced_by namings_of
  keeps_all rs [] m e R = R
  keeps_all rs (x ∷ ls) m e R =
      let z = or_zero (named_code rs (naming_of kind x)) _ e in
      keeps_all (with_replaced rs (naming_of kind x)) ls m z.1 (keeps rs (naming_of kind x) m z.0 R)

  marks_all : (rs : List Record) (ls : List Line) → replace_code rs (namings_of kind ls) ≡ 0 → (l : Line) → Memᴰ l ls → Replaced (replaced_by rs (namings_of kind ls)) (naming_of kind l)
  unfolding replace_code replaced_by namings_of
  marks_all rs [] e l m = absurd (Memᴰ.not-nil m)
  marks_all rs (x ∷ ls) e l m = go (Memᴰ.cases_cons m) (marks_all (with_replaced rs (naming_of kind x)) ls z.1 l)
    where
      z : (named_code rs (naming_of kind x) ≡ 0) × (replace_code (with_replaced rs (naming_of kind x)) (namings_of kind ls) ≡ 0)
      z = or_zero (named_code rs (naming_of kind x)) _ e

      go : (l ≡ x) ⊎ Memᴰ l ls → (Memᴰ l ls → Replaced (replaced_by (with_replaced rs (naming_of kind x)) (namings_of kind ls)) (naming_of kind l))
          → Replaced (replaced_by (with_replaced rs (naming_of kind x)) (namings_of kind ls)) (naming_of kind l)
      go (inl q) next = rw q (keeps_all (with_replaced rs (naming_of kind x)) ls (naming_of kind x) z.1 (marks rs (naming_of kind x) z.0))
      go (inr w) next = next w

-- BEFORE A NEW LAST RECORD all are found and stand as they did
find_before : (rs : List Record) (r : Record) (j : ℕ) (k : Key) (i : ℕ) → find_in rs j k ≡ Some i → find_in (rs ++ r ∷ []) j k ≡ Some i
unfolding find_in
find_before [] r j k i e = let z : ◌≡◌ {A = ℕ} 0 1 = cc in absurd (omega arith)
find_before (x ∷ rs) r j k i e = go (key_is x k) (find_before rs r (j + 1) k i) e
  where
    go : (b : Bool) → (find_in rs (j + 1) k ≡ Some i → find_in (rs ++ r ∷ []) (j + 1) k ≡ Some i) → cond b (Some j) (find_in rs (j + 1) k) ≡ Some i
        → cond b (Some j) (find_in (rs ++ r ∷ []) (j + 1) k) ≡ Some i
    go true f e = e
    go false f e = f e

nth_before : (rs : List Record) (r : Record) (i : ℕ) → i < length rs → nth (rs ++ r ∷ []) i ≡ nth rs i
nth_before [] r i h = absurd (omega arith)
nth_before (x ∷ rs) r zero h = refl
nth_before (x ∷ rs) r (suc i) h = nth_before rs r i (omega arith)

module _ (rs : List Record) (r : Record) (m : Naming) (R : Replaced rs m) where
  as_before : nth (rs ++ r ∷ []) R.at ≡ nth rs R.at
  as_before = nth_before rs r R.at (found_below rs m.key R.at no_record R.found)

  replaced_before : Replaced (rs ++ r ∷ []) m
  replaced_before = record {
    at = R.at;
    found = find_before rs r 0 m.key R.at R.found;
    state = ap (λ (x : Record). get_or x.states (m.line - 1) 0) as_before ∙ R.state;
  }

  code_before : named_code (rs ++ r ∷ []) m ≡ named_code rs m
  unfolding named_code named_at
  code_before =
      ap (named_at (rs ++ r ∷ []) m) (find_before rs r 0 m.key R.at R.found)
      ∙ ap (λ (x : Record). line_named_in x m.line m.amount) as_before
      ∙ sym (ap (named_at rs m) R.found)

-- WHAT AN ACCEPTED ONE LEAVES
module _ (slots year : ℕ) (o : Ordinativo) (rs : List Record) (p : o.operation ≡ Sostituzione) (z : order_code (judge_order slots year o rs) ≡ 0) where
  abbrev marked : List Record
  marked = replaced_by rs (namings o)

  abbrev new : Record
  new = record_of (key_for year o) 1 2 o

  leaves : records_by year o rs (judge_order slots year o rs) ≡ stored_at marked (length rs) new
  unfolding written
  leaves = ap (records_by year o rs) (through slots year o rs p z).0

  at_end : records_by year o rs (judge_order slots year o rs) ≡ marked ++ new ∷ []
  at_end = leaves ∙ stored_end marked (length rs) new (sym (replaced_length rs (namings o)))

  module _ (l : Line) (m : Memᴰ l o.lines) where
    there : Replaced marked (naming_of o.kind l)
    there = marks_all o.kind rs o.lines (through slots year o rs p z).1 l m

    once : Replaced (records_by year o rs (judge_order slots year o rs)) (naming_of o.kind l)
    once = subst (λ (x : List Record). Replaced x (naming_of o.kind l)) (sym at_end) (replaced_before marked new (naming_of o.kind l) there)

    again : named_code (records_by year o rs (judge_order slots year o rs)) (naming_of o.kind l) ≡ 25
    again =
        ap (λ (x : List Record). named_code x (naming_of o.kind l)) at_end ∙ code_before marked new (naming_of o.kind l) there
        ∙ never_twice o.kind rs o.lines (through slots year o rs p z).1 l m

pub replacements : Replacements
replacements = record { leaves = leaves; once = once; again = again }
