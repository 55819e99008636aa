use Prim.Native.Nat.{◌+◌, ◌-◌, ◌*◌}
use native.Mathlib.Numerals.{unary_clauses}
use native.Mathlib.Omega.{arith}
use Rattle.message_rewrite.proofs.Laws.{going_start, going_end, going_here, going_step}
use Rattle.message_rewrite.proofs.entries_again.Goals as goal

pub loop-k-init : goal.loop-k-init
loop-k-init c = simp unary_clauses (going_start c.args.s.now c.args.v.now c.args.n c.args.to c.args.m.now c.requires.0 c.requires.1 c.requires.2)

pub entry_again-a-requires : goal.entry_again-a-requires
entry_again-a-requires c = let h = going_here c.args.s.now c.args.v.now c.args.n c.args.to c.args.m.now c.loop-k.invariant (λ e. omega arith) in
    (h.there, h.entry, h.room)

pub loop-k-preserved : goal.loop-k-preserved
loop-k-preserved c = going_step c.args.s.now c.args.v.now c.args.n c.args.to c.args.m.now c.loop-k.invariant (λ e. omega arith) c.entry_again-a.ensures (c.args.n - (c.loop-k.k + 1)) (80 + 48 * (c.loop-k.k + 1)) (omega arith) (omega arith)

pub shape_of-m : goal.shape_of-m
shape_of-m c = c.loop-k.invariant.size

pub returns : goal.returns
returns c = going_end c.args.s.now c.args.v.now c.args.n c.args.to c.args.m.now c.loop-k.invariant (omega arith)
