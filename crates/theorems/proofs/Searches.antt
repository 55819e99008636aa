-- STEPS OF A SEARCH, proved: an order's code tells whether it was looked for.
use Rattle.std.specs.Prelude.{Option, Result, Some, None, Ok, Err}
use Prim.Native.Nat.{ℕ, zero, suc, ◌-◌, ◌≤◌}
use mathlib.Core.Path.{◌≡◌, refl, ap, ◌∙◌}
use mathlib.Core.Bool.{Bool, true, false, cond, ◌&&◌}
use mathlib.Core.List.{List, [], ◌∷◌}
use mathlib.Core.Logic.{◌⊎◌, inl, inr}
use native.Mathlib.Omega.{arith}
use lib.Dec.{eqb, leb, ltb}
use lib.ListN.{length, get_or}
use Rattle.order.specs.declared.Line.{Line}
use Rattle.order.specs.Ordinativo.{Ordinativo}
use Rattle.record.specs.declared.Record.{Record}
use Rattle.slots.specs.Slots.{find_in, nth}
use Rattle.lines.specs.Lines.{numbered_from, sum_of, line_code}
use Rattle.replacing.specs.declared.Naming.{Naming}
use Rattle.replacing.specs.Replacing.{namings, line_named_in, named_at, named_code, with_replaced, first_code, replace_code}
use Rattle.rules.specs.declared.Situation.{Situation}
use Rattle.rules.specs.declared.Situation.TheVariants.{Absent, Annulled, Waiting, Executed}
use Rattle.rules.specs.declared.Change.{Change}
use Rattle.rules.specs.declared.Change.TheVariants.{Insert, Vary, Annul, Replace}
use Rattle.rules.specs.Rules.{change_of, situation_of, step_code, same_order, placed, unless, stepped, key_for, judge_order, order_code}
use Rattle.rules.specs.Searches.{looked_at, steps_of}
use Rattle.desk.proofs.Refusals.{code_zeros}
use Rattle.theorems.specs.Searches.{Searches}

-- A CODE PAST THE SEARCH: 0, or 14 and above
abbrev Past : ℕ → Type 0
Past c = (c ≡ 0) ⊎ (14 ≤ c)

unless_past : (c : ℕ) (j : Result (Change × ℕ) ℕ) → Past c → Past (order_code j) → Past (order_code (unless Err c j))
unless_past zero j h k = k
unless_past (suc c) j h k = h

step_past : (c : Change) (s : Situation) → Past (step_code c s)
step_past Insert Absent = inl refl
step_past Insert Annulled = inr (omega arith)
step_past Insert Waiting = inr (omega arith)
step_past Insert Executed = inr (omega arith)
step_past Vary Absent = inr (omega arith)
step_past Vary Annulled = inr (omega arith)
step_past Vary Waiting = inl refl
step_past Vary Executed = inr (omega arith)
step_past Annul Absent = inr (omega arith)
step_past Annul Annulled = inr (omega arith)
step_past Annul Waiting = inl refl
step_past Annul Executed = inr (omega arith)
step_past Replace Absent = inl refl
step_past Replace Annulled = inr (omega arith)
step_past Replace Waiting = inr (omega arith)
step_past Replace Executed = inr (omega arith)

-- the lines that a replacement names
named_past : (rs : List Record) (m : Naming) → Past (named_code rs m)
unfolding named_code named_at line_named_in
named_past rs m = at (find_in rs 0 m.key)
  where
    in_record : (a b c : Bool) → Past (cond a (cond b (cond c 0 26) 25) 24)
    in_record false b c = inr (omega arith)
    in_record true false c = inr (omega arith)
    in_record true true false = inr (omega arith)
    in_record true true true = inl refl

    at : (f : Option ℕ) → Past (named_at rs m f)
    at None = inr (omega arith)
    at (Some i) = in_record (leb 1 m.line && leb m.line (nth rs i).lines) (eqb (get_or (nth rs i).states (m.line - 1) 0) 2) (eqb (get_or (nth rs i).amounts (m.line - 1) 0) m.amount)

first_past : (c n : ℕ) → Past c → Past n → Past (first_code c n)
first_past zero n h k = k
first_past (suc c) n h k = h

names_past : (rs : List Record) (ms : List Naming) → Past (replace_code rs ms)
unfolding replace_code
names_past rs [] = inl refl
names_past rs (m ∷ ms) = first_past (named_code rs m) _ (named_past rs m) (names_past (with_replaced rs m) ms)

either_past : (b : Bool) (c : Change) (i code : ℕ) → 14 ≤ code → Past (order_code (cond b (Ok (c, i)) (Err code)))
either_past true c i code h = inl refl
either_past false c i code h = inr h

placed_past : (slots : ℕ) (o : Ordinativo) (rs : List Record) (c : Change) (f : Option ℕ) → Past (order_code (placed slots o rs c f))
unfolding placed
placed_past slots o rs Insert f = either_past (ltb (length rs) slots) Insert (length rs) 15 (omega arith)
placed_past slots o rs Replace f =
    unless_past (replace_code rs (namings o)) _ (names_past rs (namings o)) (either_past (ltb (length rs) slots) Replace (length rs) 15 (omega arith))
placed_past slots o rs Vary (Some i) = inl refl
placed_past slots o rs Vary None = inr (omega arith)
placed_past slots o rs Annul (Some i) = either_past (same_order o (nth rs i)) Annul i 19 (omega arith)
placed_past slots o rs Annul None = inr (omega arith)

stepped_past : (slots : ℕ) (o : Ordinativo) (rs : List Record) (c : Change) (f : Option ℕ) → Past (order_code (stepped slots o rs c f))
unfolding stepped
stepped_past slots o rs c f = unless_past (step_code c (situation_of rs f)) _ (step_past c (situation_of rs f)) (placed_past slots o rs c f)

-- AND ONE BEFORE IT, of its lines: 12 or 13, or none
abbrev Lined : ℕ → Type 0
Lined c = (c ≡ 0) ⊎ ((c ≡ 12) ⊎ (c ≡ 13))

line_codes : (ls : List Line) (total : ℕ) → Lined (line_code ls total)
unfolding line_code
line_codes ls total = go (numbered_from 1 ls) (eqb (sum_of ls) total)
  where
    go : (a b : Bool) → Lined (cond a (cond b 0 13) 12)
    go true true = inl refl
    go true false = inr (inr refl)
    go false b = inr (inl refl)

-- SO AN ORDER'S CODE TELLS what its search counts: nothing, or what was looked at
pub data Told (looked : ℕ) : ℕ → ℕ → Type 0 where
  before : {c : ℕ} → (c ≡ 12) ⊎ (c ≡ 13) → Told looked c 0
  past : {c : ℕ} → Past c → Told looked c looked

lines_told : (code looked : ℕ) (j : Result (Change × ℕ) ℕ) → Lined code → Past (order_code j)
    → Told looked (order_code (unless Err code j)) (unless (λ c. 0) code looked)
lines_told zero looked j h k = past k
lines_told (suc code) looked j (inl e) k = absurd (omega arith)
lines_told (suc code) looked j (inr e) k = before e

order_told : (slots year : ℕ) (o : Ordinativo) (rs : List Record)
    → Told (looked_at rs (find_in rs 0 (key_for year o))) (order_code (judge_order slots year o rs)) (steps_of year o rs)
unfolding judge_order steps_of
order_told slots year o rs =
    lines_told (line_code o.lines o.total) _ _ (line_codes o.lines o.total) (stepped_past slots o rs (change_of o.operation) (find_in rs 0 (key_for year o)))

none_told : {looked code steps : ℕ} → Told looked code steps → (code ≡ 12) ⊎ (code ≡ 13) → steps ≡ 0
none_told (before h) k = refl
none_told (past (inl h)) (inl k) = absurd (omega arith)
none_told (past (inl h)) (inr k) = absurd (omega arith)
none_told (past (inr h)) (inl k) = absurd (omega arith)
none_told (past (inr h)) (inr k) = absurd (omega arith)

looked_told : {looked code steps : ℕ} → Told looked code steps → (code ≡ 12 → ⊥) × (code ≡ 13 → ⊥) → steps ≡ looked
looked_told (before (inl h)) n = absurd (n.0 h)
looked_told (before (inr h)) n = absurd (n.1 h)
looked_told (past h) n = refl

own_only : (year : ℕ) (o p : Ordinativo) (rs : List Record) → key_for year o ≡ key_for year p → line_code o.lines o.total ≡ line_code p.lines p.total
    → steps_of year o rs ≡ steps_of year p rs
unfolding steps_of
own_only year o p rs k e i = unless (λ code. 0) (e i) (looked_at rs (find_in rs 0 (k i)))

pub searches : Searches
searches = record {
  found = λ slots year o rs n i e. looked_told (order_told slots year o rs) n ∙ ap (looked_at rs) e;
  absent = λ slots year o rs n e. looked_told (order_told slots year o rs) n ∙ ap (looked_at rs) e;
  unsearched = λ slots year o rs h. none_told (order_told slots year o rs) h;
  refused_none = λ t ed f out a t' out' p h. (code_zeros a h).2;
  own_only = own_only;
}
