use Prim.Native.Nat.{ℕ}
use mathlib.Core.Path.{sym, ap, ◌∙◌}
use native.Mathlib.Omega.{arith}
use lib.Dec.{eqb}
use borrow.Author.Tests.{eq-eqb, ne_eqb}
use Rattle.entries.specs.Entry.{closed_of}
use Rattle.enrolment.proofs.Laws.{valid_head, entry_inside, walk_start, walk_next, walk_not, walk_done}
use Rattle.enrolment.proofs.none_closed.Goals as goal

pub body_count-b-end-requires : goal.body_count-b-end-requires
body_count-b-end-requires c = (valid_head c.args.t.now c.requires).long

pub loop-b-init : goal.loop-b-init
loop-b-init c = walk_start (λ at. eqb (closed_of c.args.t.now at) 0) c.body_count-b-end.result

pub overflow_mul-b : goal.overflow_mul-b
overflow_mul-b c = omega (arith, entry_inside c.args.t.now c.requires c.body_count-b-end.ensures.0 c.loop-b.b (omega arith))

pub overflow_add-b : goal.overflow_add-b
overflow_add-b c = omega (arith, entry_inside c.args.t.now c.requires c.body_count-b-end.ensures.0 c.loop-b.b (omega arith))

pub closed_of-requires : goal.closed_of-requires
closed_of-requires c = omega (arith, entry_inside c.args.t.now c.requires c.body_count-b-end.ensures.0 c.loop-b.b (omega arith))

pub returns-then-closed_of-ne0 : goal.returns-then-closed_of-ne0
returns-then-closed_of-ne0 c = walk_not (λ at. eqb (closed_of c.args.t.now at) 0) c.body_count-b-end.result c.loop-b.b c.loop-b.invariant c.body_count-b-end.ensures.0 (omega arith) (ap (λ (x : ℕ). eqb x 0) (sym c.closed_of.ensures.0) ∙ ne_eqb c.closed_of.result 0 c.if-closed_of-ne0.true)

pub loop-b-preserved : goal.loop-b-preserved
loop-b-preserved c = walk_next (λ at. eqb (closed_of c.args.t.now at) 0) c.body_count-b-end.result c.loop-b.b c.loop-b.invariant (omega arith) (ap (λ (x : ℕ). eqb x 0) (sym c.closed_of.ensures.0) ∙ eq-eqb c.closed_of.result 0 c.if-closed_of-ne0.false)

pub returns : goal.returns
returns c = walk_done (λ at. eqb (closed_of c.args.t.now at) 0) c.body_count-b-end.result c.loop-b.b c.loop-b.invariant c.body_count-b-end.ensures.0 (omega arith)
