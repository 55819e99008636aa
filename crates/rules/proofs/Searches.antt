-- A search looks at no more slots than there are records.
use Rattle.std.specs.Prelude.{Option, Some, None}
use Prim.Native.Nat.{ℕ, zero, suc, ◌≤◌}
use mathlib.Core.Path.{◌≡◌, refl}
use mathlib.Core.List.{List}
use native.Mathlib.Omega.{arith}
use lib.ListN.{length}
use Rattle.order.specs.Ordinativo.{Ordinativo}
use Rattle.record.specs.declared.Record.{Record}
use Rattle.slots.specs.Slots.{no_record, find_in}
use Rattle.slots.proofs.Search.{found_below}
use Rattle.lines.specs.Lines.{line_code}
use Rattle.rules.specs.Rules.{key_for, unless}
use Rattle.rules.specs.Searches.{looked_at, steps_of}

pub steps_most : (year : ℕ) (o : Ordinativo) (rs : List Record) → steps_of year o rs ≤ length rs
unfolding steps_of
steps_most year o rs = lined (line_code o.lines o.total) (looked (find_in rs 0 (key_for year o)) refl)
  where
    looked : (f : Option ℕ) → find_in rs 0 (key_for year o) ≡ f → looked_at rs f ≤ length rs
    looked (Some i) e = omega (arith, found_below rs (key_for year o) i no_record e)
    looked None e = omega arith

    lined : (code : ℕ) {n : ℕ} → n ≤ length rs → unless (λ c. 0) code n ≤ length rs
    lined zero n≤ = n≤
    lined (suc code) n≤ = omega arith
