-- Salvage, proved: its codes, and what follows from the repaired table on.
use Rattle.std.specs.Prelude.{Result, Ok, Err}
use Prim.Native.Nat.{ℕ, ◌<◌}
use mathlib.Core.Path.{◌≡◌, refl, sym, ap, ◌∙◌, subst}
use mathlib.Core.Bool.{Bool, true, false, cond}
use mathlib.Core.List.{List}
use native.Mathlib.Omega.{arith}
use lib.ListN.{length}
use lib.Dec.{leb}
use Rattle.table.specs.Table.{table2, head_size, bodies, contents_ok}
use Rattle.one_table.specs.One.{are_bytes, Matching}
use Rattle.one_table.proofs.One.{one_table}
use Rattle.salvage.specs.declared.SalvageRefusal.{SalvageRefusal}
use Rattle.salvage.specs.declared.SalvageRefusal.TheVariants.{InvalidContents, ShortReport}
use Rattle.salvage.specs.Salvage.{repaired, blanked, report_of, salvage_of, salvage_table, salvage_report, salvage_reply}
use Rattle.salvage.specs.Repaired.{Repairs, Unchanged}
use Rattle.salvage.proofs.Laws.{report_length}
use Rattle.salvage.proofs.All.{repairs}
use Rattle.salvage.proofs.Same.{bytes_repaired, unchanged, once}
use Rattle.theorems.specs.Salvage.{SalvageCodes, AfterSalvage}
use Rattle.theorems.specs.History.{History}
use Rattle.theorems.proofs.Condition3.{condition3}
use Rattle.theorems.proofs.History.{history}

-- THE CODES
abbrev code_of : Result ℕ SalvageRefusal → ℕ
code_of a = (salvage_reply a).code

code_is : (t : List ℕ) (m : ℕ) → code_of (salvage_of t m) ≡ cond (contents_ok table2 t) (cond (leb (length (report_of t)) m) 0 35) 34
unfolding salvage_of
code_is t m = go (contents_ok table2 t) (leb (length (report_of t)) m)
  where
    go : (x y : Bool) → code_of (cond x (cond y (Ok (length (blanked t))) (Err ShortReport)) (Err InvalidContents)) ≡ cond x (cond y 0 35) 34
    go true true = refl
    go true false = refl
    go false y = refl

refusal : (t r : List ℕ) (a : Result ℕ SalvageRefusal) → (code_of a ≡ 0 → ⊥) → ((salvage_reply a).blanked ≡ 0) × (salvage_table a t ≡ t) × (salvage_report a t r ≡ r)
refusal t r (Ok k) n = absurd (n refl)
refusal t r (Err InvalidContents) n = (refl, refl, refl)
refusal t r (Err ShortReport) n = (refl, refl, refl)

pub salvage_codes_lem : SalvageCodes
salvage_codes_lem t r n k t' r' p = (
  p.2 ∙ ap code_of p.1.0 ∙ code_is t (length r)
      ∙ ap (λ (m : ℕ). cond (contents_ok table2 t) (cond (leb m (length r)) 0 35) 34) (report_length t),
  λ f.
      let w = refusal t r p.0 (λ z. f (p.2 ∙ z)) in
      (p.3 ∙ w.0, p.1.1 ∙ w.1, p.1.2 ∙ w.2),
)

-- ANSWERED 0: head and entries are right, and the table is repaired
answered_0 : (t : List ℕ) (m : ℕ) (a : Result ℕ SalvageRefusal) → a ≡ salvage_of t m → code_of a ≡ 0 → (contents_ok table2 t ≡ true) × (a ≡ Ok (length (blanked t)))
unfolding salvage_of
answered_0 t m a e z = go (contents_ok table2 t) (leb (length (report_of t)) m) refl e
  where
    go : (x y : Bool) → contents_ok table2 t ≡ x → a ≡ cond x (cond y (Ok (length (blanked t))) (Err ShortReport)) (Err InvalidContents)
        → (contents_ok table2 t ≡ true) × (a ≡ Ok (length (blanked t)))
    go true true q f = (q, f)
    go true false q f = let w = ap code_of f in absurd (omega arith)
    go false y q f = let w = ap code_of f in absurd (omega arith)

pub salvaged : AfterSalvage
salvaged E t r k t₀ r₀ p = record {
  repairs = R;
  report = p.1.2 ∙ ap (λ (x : Result ℕ SalvageRefusal). salvage_report x t r) is;
  number = many;
  same = λ b ok. let w = unchanged t b ok in (left ∙ w.same, w, many ∙ ap length w.none_blanked);
  again = λ b. subst Unchanged (sym left) (once t b right);
  only = λ b u c U. one_table u t₀ c (ap are_bytes left ∙ bytes_repaired (bodies t) t b head_size) U.valid R.valid (matching u U);
  isolated = condition3 E t₀ R.valid;
  history = λ b l cs.
      let m : b < bodies t₀ = omega (arith, R.number) in
      subst (History E t₀ b cs) (R.records b l) (history E t₀ R.valid b m cs);
}
  where
    A : (contents_ok table2 t ≡ true) × (p.0 ≡ Ok (length (blanked t)))
    A = answered_0 t (length r) p.0 p.1.0 (sym p.2)

    right : contents_ok table2 t ≡ true
    right = A.0

    is : p.0 ≡ Ok (length (blanked t))
    is = A.1

    left : t₀ ≡ repaired t
    left = p.1.1 ∙ ap (λ (x : Result ℕ SalvageRefusal). salvage_table x t) is

    many : k ≡ length (blanked t)
    many = p.3 ∙ ap (λ (x : Result ℕ SalvageRefusal). (salvage_reply x).blanked) is

    R : Repairs t t₀
    R = subst (Repairs t) (sym left) (repairs t right)

    matching : (u : List ℕ) → Repairs t u → Matching u t₀
    matching u U = record {
      bank = U.bank ∙ sym R.bank;
      codes = U.codes ∙ sym R.codes;
      slots = λ b h. let l : b < bodies t = omega (arith, U.number) in U.slots b l ∙ sym (R.slots b l);
      records = λ b h. let l : b < bodies t = omega (arith, U.number) in U.records b l ∙ sym (R.records b l);
      closed = λ b h. let l : b < bodies t = omega (arith, U.number) in U.closed b l ∙ sym (R.closed b l);
    }
