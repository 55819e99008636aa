use mathlib.Core.Path.{sym, ◌∙◌}
use Prim.Native.Nat.{◌-◌}
use native.Mathlib.Omega.{arith}
use lib.ListN.{length}
use Rattle.scan.proofs.Laws.{has_less}
use Rattle.tags.proofs.Words.{eight_more, no_eight, last_eight}
use Rattle.tags.proofs.stands.Goals as goal

pub returns-then-s-at : goal.returns-then-s-at
returns-then-s-at c = let a = c.args in
    sym (has_less a.x.now a.s.now a.at c.requires c.if-s-at.true)

pub loop-i-init : goal.loop-i-init
loop-i-init c = (omega arith, omega arith, omega arith, λ j l. absurd (omega arith))

pub returns-then-read8 : goal.returns-then-read8
returns-then-read8 c = let a = c.args in
    let u = c.read8.ensures in
    let v = c.read8-in-loop-i.ensures in
    sym (no_eight a.s.now a.x.now a.at c.loop-i.i (omega arith) (λ e. c.if-read8.true (u ∙ e ∙ sym v)))

pub loop-i-preserved : goal.loop-i-preserved
loop-i-preserved c = let a = c.args in
    let u = c.read8.ensures in
    let v = c.read8-in-loop-i.ensures in
    let i = c.loop-i.i in
    (omega arith, omega arith, omega arith, eight_more a.s.now a.x.now a.at i i (λ j. omega (arith, c.shared_slice_known-1.given j)) (λ j. omega (arith, c.shared_slice_known-2-1.given j)) (omega arith) c.loop-i.invariant.3 (sym u ∙ c.if-read8.false ∙ v))

pub returns : goal.returns
returns c = let a = c.args in
    let u = c.read8-2.ensures in
    let v = c.read8-3.ensures in
    let l = c.loop-i in
    last_eight a.s.now a.x.now a.at l.i (length a.x.now - 8) c.read8-2.result c.read8-3.result (λ j. omega (arith, c.shared_slice_known-1.given j)) (λ j. omega (arith, c.shared_slice_known-2-1.given j)) (omega arith) (omega arith) (omega arith) l.invariant.3 u v
