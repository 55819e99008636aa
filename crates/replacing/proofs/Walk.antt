-- Laws of one line of the code at a time: the record that is named, and the earlier lines of the order.
use Prim.Native.Nat.{ℕ, zero, suc, ◌-◌, ◌≤◌, ◌<◌}
use mathlib.Core.Bool.{Bool, true, false, ◌||◌, cond}
use mathlib.Core.List.{List, [], ◌∷◌}
use mathlib.Core.Path.{◌≡◌, refl, sym, ap, ◌∙◌}
use native.Mathlib.Omega.{arith}
use lib.ListN.{length, get_or, take, get_or-eq_default}
use lib.Dec.{eqb}
use borrow.Author.Tests.{le-leb, ne_eqb}
use Rattle.order.specs.declared.Line.{Line}
use Rattle.order.specs.declared.Lines.{Lines}
use Rattle.order.specs.Ordinativo.{no_line, lines_there}
use Rattle.record.specs.declared.Record.{Record}
use Rattle.replacing.specs.declared.Naming.{Naming}
use Rattle.replacing.specs.Replacing.{naming_of, line_named_in, named_code}
use Rattle.replacing.specs.Inner.{naming_at, same_named, named_earlier, code_again, read_code}
use Rattle.replacing.proofs.Marks.{in_there}

-- THE RECORD

module _ (r : Record) (line amount : ℕ) where
  module _ (a : 1 ≤ line) where
    module _ (b : line ≤ r.lines) where
      there : line_named_in r line amount ≡ cond (eqb (get_or r.states (line - 1) 0) 2) (cond (eqb (get_or r.amounts (line - 1) 0) amount) 0 26) 25
      there = in_there r line amount (rw (le-leb 1 line a, le-leb line r.lines b))

      pub not_executed : (get_or r.states (line - 1) 0 ≡ 2 → ⊥) → line_named_in r line amount ≡ 25
      not_executed h = there ∙ rw (ne_eqb _ _ h)

      pub past_eight : length r.states ≡ 8 → 8 < line → line_named_in r line amount ≡ 25
      past_eight l h = not_executed (λ q. let z = get_or-eq_default r.states 0 {n = line - 1} (omega arith) in omega arith)

-- THE EARLIER LINES

module _ (kind : ℕ) (ls : List Line) (i : ℕ) (m : Naming) where
  pub earlier_none : i ≤ 0 → named_earlier kind ls i m ≡ false
  unfolding named_earlier
  earlier_none h = let q : i ≡ 0 = omega arith in rw q

  module _ {x : Naming} {b : Bool} (h : 0 < i) (e : x ≡ naming_at kind ls (i - 1)) (s : b ≡ same_named x m) where
    more : named_earlier kind ls i m ≡ (b || named_earlier kind ls (i - 1) m)
    unfolding named_earlier
    more =
        let q : i ≡ suc (i - 1) = omega arith in
        ap (λ (n : ℕ). named_earlier kind ls n m) q ∙ ap (λ (y : Bool). y || named_earlier kind ls (i - 1) m) (sym (s ∙ ap (λ (y : Naming). same_named y m) e))

    pub earlier_hit : b ≡ true → named_earlier kind ls i m ≡ true
    earlier_hit q = more ∙ rw q

    pub earlier_miss : b ≡ false → named_earlier kind ls i m ≡ named_earlier kind ls (i - 1) m
    earlier_miss q = more ∙ rw q

-- one line, as the code puts it together
pub line_comes : (rs : List Record) (kind : ℕ) (ls : List Line) (j : ℕ) {m : Naming} {b : Bool} {c x : ℕ} → m ≡ naming_at kind ls j → c ≡ named_code rs m → b ≡ named_earlier kind ls j m → x ≡ code_again b c
    → x ≡ read_code kind ls rs j
line_comes rs kind ls j e p q s = s ∙ (λ i. code_again (q i) (p i)) ∙ ap (λ (y : Naming). code_again (named_earlier kind ls j y) (named_code rs y)) e

-- what a line names, read at its own place
pub naming_there : (kind : ℕ) (ls : Lines) (j : ℕ) → j < length (lines_there ls) → naming_of kind (get_or ls.each j no_line) ≡ naming_at kind (lines_there ls) j
unfolding naming_at
naming_there kind ls j h = ap (naming_of kind) (sym (take_get ls.count ls.each j h))
  where
    take_get : (n : ℕ) (e : List Line) (j : ℕ) → j < length (take n e) → get_or (take n e) j no_line ≡ get_or e j no_line
    take_get zero e j h = absurd (omega arith)
    take_get (suc n) [] j h = absurd (omega arith)
    take_get (suc n) (x ∷ e) zero h = refl
    take_get (suc n) (x ∷ e) (suc j) h = take_get n e j (omega arith)
