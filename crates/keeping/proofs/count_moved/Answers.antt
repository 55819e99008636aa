use Prim.Native.Nat.{ℕ, ◌+◌}
use lib.ListN.{drop}
use Rattle.keeping.specs.Keeping.{moved_from}
use Rattle.keeping.proofs.Laws.{moved_up, moved_stays, moved_not, moved_end}
use native.Mathlib.Omega.{arith}
use mathlib.Core.Path.{ap, ◌∙◌}
use Rattle.keeping.proofs.count_moved.Goals as goal
use Rattle.keeping.proofs.count_moved.Goals.{then-flag-eq1, then-i-to, else-i-to, else-flag-eq1}

pub loop-i-init : goal.loop-i-init
loop-i-init c = (omega arith, omega arith, omega arith)

pub loop-i-preserved : goal.loop-i-preserved
loop-i-preserved c = let l = c.loop-i in
    let fs = c.args.flags.now in
    elim c.if-flag-eq1.branch [
      | then-flag-eq1 w ↦ elim w.if-i-to.branch [
        | then-i-to v ↦ (omega (arith, w.to-is), omega (arith, w.count-is, v.count-is), l.invariant.2 ∙ omega (arith, w.count-is, v.count-is, moved_up fs l.i l.to (omega arith) w.if-flag-eq1.true v.if-i-to.true, ap (λ (x : ℕ). moved_from (l.i + 1) x (drop (l.i + 1) fs)) w.to-is))
        | else-i-to v ↦ (omega (arith, w.to-is), omega (arith, w.count-is, v.count-is), l.invariant.2 ∙ omega (arith, w.count-is, v.count-is, moved_stays fs l.i l.to (omega arith) w.if-flag-eq1.true v.if-i-to.false, ap (λ (x : ℕ). moved_from (l.i + 1) x (drop (l.i + 1) fs)) w.to-is))
      ]
      | else-flag-eq1 w ↦ (omega (arith, w.to-is), omega (arith, w.count-is), l.invariant.2 ∙ omega (arith, w.count-is, moved_not fs l.i l.to (omega arith) w.if-flag-eq1.false, ap (λ (x : ℕ). moved_from (l.i + 1) x (drop (l.i + 1) fs)) w.to-is))
    ]

pub returns : goal.returns
returns c = let l = c.loop-i in
    let k = moved_end c.args.flags.now l.i l.to (omega arith) in
    (omega (arith, l.invariant.2, k), omega arith)
