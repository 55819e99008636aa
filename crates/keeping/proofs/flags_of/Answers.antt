use Prim.Native.Nat.{ℕ}
use lib.ListN.{length, length-replicate}
use Rattle.slots.proofs.Filter.{unmarked}
use Rattle.keeping.proofs.Laws.{flags_start, flags_more, flags_end, marked_start, marked_more}
use native.Mathlib.Omega.{arith}
use mathlib.Core.Path.{sym, ◌∙◌}
use Rattle.keeping.proofs.flags_of.Goals as goal

pub loop-i-init : goal.loop-i-init
loop-i-init c = (flags_start c.args.closed c.args.t.now c.args.base _ c.args.flags.now, marked_start c.args.t.now c.args.base c.args.flags.now _ (length-replicate {A = ℕ} 4096 0))

pub bounds-seen-h : goal.bounds-seen-h
bounds-seen-h c = omega (arith, c.loop-i.invariant.1.size, c.mark_of-h.ensures.1)

pub flag_of-requires : goal.flag_of-requires
flag_of-requires c = (omega (arith, c.loop-i.auto.flags), omega (arith, c.loop-i.invariant.1), c.key_at-key.ensures, unmarked c.key_at-key.result c.mark_of-h.result c.loop-i.invariant.1 c.mark_of-h.ensures.0)

pub bounds-seen-h-in-loop-i : goal.bounds-seen-h-in-loop-i
bounds-seen-h-in-loop-i c = omega (arith, c.loop-i.invariant.1.size, c.mark_of-h.ensures.1)

pub loop-i-preserved : goal.loop-i-preserved
loop-i-preserved c = let l = c.loop-i in (
  l.invariant.0 ∙ flags_more c.args.closed c.args.t.now c.args.base (length c.args.flags.now) l.flags l.i _ (sym l.auto.flags) (omega arith) c.flag_of.ensures,
  marked_more c.args.closed c.args.t.now c.args.base l.flags l.seen l.i _ c.mark_of-h.result (omega (arith, l.auto.flags)) c.key_at-key.ensures c.mark_of-h.ensures.0 c.mark_of-h.ensures.1 c.flag_of.ensures l.invariant.1,
)

pub returns : goal.returns
returns c = let l = c.loop-i in
    sym (l.invariant.0 ∙ flags_end c.args.closed c.args.t.now c.args.base (length c.args.flags.now) l.flags l.i (sym l.auto.flags) (omega arith) (omega arith))
