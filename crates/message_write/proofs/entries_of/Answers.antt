use mathlib.Core.Path.{sym, ◌∙◌}
use native.Mathlib.Omega.{arith}
use Rattle.message_write.proofs.Laws.{entering_start, entering_end, entering_order, entering_long, entering_kind, entering_room, entering_step}
use Rattle.message_write.proofs.entries_of.Goals as goal

pub loop-n-init : goal.loop-n-init
loop-n-init c = entering_start c.args.all.root c.args.all.flow.now c.args.all.past.now c.args.all.out.now c.args.kind c.args.c.name.now c.args.c.year c.args.c.time.now c.args.all.from c.args.at c.args.m.now c.requires.0 c.requires.1 c.requires.2

pub next_order-requires : goal.next_order-requires
next_order-requires c = (c.loop-n.invariant.rooted.within, c.loop-n.invariant.rooted.noted)

pub shape_of-m : goal.shape_of-m
shape_of-m c = c.loop-n.invariant.size

pub returns : goal.returns
returns c = entering_end c.args.all.root c.args.all.flow.now c.args.all.past.now c.args.all.out.now c.args.kind c.args.c.name.now c.args.c.year c.args.c.time.now c.args.all.from c.args.at c.args.m.now c.loop-n.invariant (sym c.next_order.ensures ∙ c.in_default.is)

pub entry_at-to-requires : goal.entry_at-to-requires
entry_at-to-requires c = ((entering_order c.args.all.root c.args.all.flow.now c.args.all.past.now c.args.all.out.now c.args.kind c.args.c.name.now c.args.c.year c.args.c.time.now c.args.all.from c.args.at c.args.m.now c.loop-n.invariant c.in-Some.n (sym c.next_order.ensures ∙ c.in-Some.is)).shaped, c.loop-n.invariant.rooted.noted, entering_kind c.args.all.root c.args.all.flow.now c.args.all.past.now c.args.all.out.now c.args.kind c.args.c.name.now c.args.c.year c.args.c.time.now c.args.all.from c.args.at c.args.m.now c.loop-n.invariant c.in-Some.n (sym c.next_order.ensures ∙ c.in-Some.is), entering_long c.args.all.root c.args.all.flow.now c.args.all.past.now c.args.all.out.now c.args.kind c.args.c.name.now c.args.c.year c.args.c.time.now c.args.all.from c.args.at c.args.m.now c.loop-n.invariant c.in-Some.n (sym c.next_order.ensures ∙ c.in-Some.is), entering_room c.args.all.root c.args.all.flow.now c.args.all.past.now c.args.all.out.now c.args.kind c.args.c.name.now c.args.c.year c.args.c.time.now c.args.all.from c.args.at c.args.m.now c.loop-n.invariant c.in-Some.n (sym c.next_order.ensures ∙ c.in-Some.is))

pub overflow_add-k : goal.overflow_add-k
overflow_add-k c = let l = entering_long c.args.all.root c.args.all.flow.now c.args.all.past.now c.args.all.out.now c.args.kind c.args.c.name.now c.args.c.year c.args.c.time.now c.args.all.from c.args.at c.args.m.now c.loop-n.invariant c.in-Some.n (sym c.next_order.ensures ∙ c.in-Some.is) in let r = c.ranges.all in omega arith

pub loop-n-smaller : goal.loop-n-smaller
loop-n-smaller c = let l = (entering_order c.args.all.root c.args.all.flow.now c.args.all.past.now c.args.all.out.now c.args.kind c.args.c.name.now c.args.c.year c.args.c.time.now c.args.all.from c.args.at c.args.m.now c.loop-n.invariant c.in-Some.n (sym c.next_order.ensures ∙ c.in-Some.is)).lies in omega arith

pub loop-n-preserved : goal.loop-n-preserved
loop-n-preserved c = entering_step c.args.all.root c.args.all.flow.now c.args.all.past.now c.args.all.out.now c.args.kind c.args.c.name.now c.args.c.year c.args.c.time.now c.args.all.from c.args.at c.args.m.now c.loop-n.invariant c.in-Some.n (sym c.next_order.ensures ∙ c.in-Some.is) c.entry_at-to.ensures
