-- Laws of readings: a way out of the code at a time.
use Rattle.std.specs.Prelude.{Option, Some, None, Ok}
use mathlib.Core.Path.{◌≡◌, refl, sym, ap, ◌∙◌}
use mathlib.Core.List.{List}
use Prim.Native.Nat.{ℕ}
use native.Mathlib.Omega.{arith}
use Rattle.fields.specs.declared.Judged.TheVariants.{Stands, Breaks}
use Rattle.fields.specs.declared.Value.{Value}
use Rattle.fields.specs.declared.Form.{Form}
use Rattle.fields.specs.Causes.{cause_of}
use Rattle.fields.specs.Fields.{told, field_value, stands_by, reading_of, field_stands}

-- where a form's own function answers no value, the text breaks: x is what the text says
pub none_breaks : (f : Form) (t : List ℕ) {x : Option Value} → x ≡ field_value f t → x ≡ None → field_stands f t ≡ Breaks
unfolding field_stands
none_breaks f t e h = ap stands_by (sym e ∙ h)

-- what a reading says of whether its text stands
module _ (f : Form) (t : List ℕ) where
  pub stands_holds : {v : Value} → Ok v ≡ reading_of f t → Stands ≡ field_stands f t
  unfolding field_stands
  stands_holds = go (field_value f t)
    where
      go : (x : Option Value) {v : Value} → Ok v ≡ told (cause_of f t) x → Stands ≡ stands_by x
      go (Some u) e = refl
      go None e = let z : ◌≡◌ {A = ℕ} 0 1 = cc in absurd (omega arith)

  pub holds_value : field_stands f t ≡ Stands → (v : Value) × (reading_of f t ≡ Ok v)
  unfolding field_stands
  holds_value = go (field_value f t)
    where
      go : (x : Option Value) → stands_by x ≡ Stands → (v : Value) × (told (cause_of f t) x ≡ Ok v)
      go (Some u) e = (u, refl)
      go None e = let z : ◌≡◌ {A = ℕ} 0 1 = cc in absurd (omega arith)
