use Prim.Native.Nat.{ℕ}
use mathlib.Core.Path.{sym, ap, ◌∙◌}
use native.Mathlib.Omega.{arith}
use lib.Dec.{leb}
use borrow.Author.Tests.{le-leb, lt-leb}
use Rattle.entries.specs.Entry.{slots_of}
use Rattle.training.specs.Training.{places}
use Rattle.enrolment.proofs.Laws.{valid_head, entry_inside, walk_start, walk_next, walk_not, walk_done}
use Rattle.enrolment.proofs.all_small.Goals as goal

pub body_count-b-end-requires : goal.body_count-b-end-requires
body_count-b-end-requires c = (valid_head c.args.t.now c.requires).long

pub loop-b-init : goal.loop-b-init
loop-b-init c = walk_start (λ at. leb (slots_of c.args.t.now at) places) c.body_count-b-end.result

pub overflow_mul-b : goal.overflow_mul-b
overflow_mul-b c = omega (arith, entry_inside c.args.t.now c.requires c.body_count-b-end.ensures.0 c.loop-b.b (omega arith))

pub overflow_add-b : goal.overflow_add-b
overflow_add-b c = omega (arith, entry_inside c.args.t.now c.requires c.body_count-b-end.ensures.0 c.loop-b.b (omega arith))

pub slots_of-requires : goal.slots_of-requires
slots_of-requires c = omega (arith, entry_inside c.args.t.now c.requires c.body_count-b-end.ensures.0 c.loop-b.b (omega arith))

pub returns-then-slots_of-gt-PLACES : goal.returns-then-slots_of-gt-PLACES
returns-then-slots_of-gt-PLACES c = walk_not (λ at. leb (slots_of c.args.t.now at) places) c.body_count-b-end.result c.loop-b.b c.loop-b.invariant c.body_count-b-end.ensures.0 (omega arith) (ap (λ (x : ℕ). leb x places) (sym c.slots_of.ensures.0) ∙ lt-leb c.slots_of.result places (omega arith))

pub loop-b-preserved : goal.loop-b-preserved
loop-b-preserved c = walk_next (λ at. leb (slots_of c.args.t.now at) places) c.body_count-b-end.result c.loop-b.b c.loop-b.invariant (omega arith) (ap (λ (x : ℕ). leb x places) (sym c.slots_of.ensures.0) ∙ le-leb c.slots_of.result places (omega arith))

pub returns : goal.returns
returns c = walk_done (λ at. leb (slots_of c.args.t.now at) places) c.body_count-b-end.result c.loop-b.b c.loop-b.invariant c.body_count-b-end.ensures.0 (omega arith)
