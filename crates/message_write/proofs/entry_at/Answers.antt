use native.Mathlib.Omega.{arith}
use mathlib.Core.Path.{◌∙◌}
use Rattle.message_pen.proofs.Laws.{wrote_none}
use Rattle.message_write.proofs.Laws.{entry_other, entry_room, entry_wrote}
use Rattle.message_write.proofs.entry_at.Goals as goal

pub returns-then-byte-kind : goal.returns-then-byte-kind
returns-then-byte-kind c = rw (entry_other c.args.kind c.args.c.name.now c.args.c.year c.args.c.time.now c.args.all.flow.now c.args.n c.args.all.out.now c.args.k c.byte.ensures c.requires.2 c.if-byte-kind.true) (wrote_none _ _)

pub overflow_add-k : goal.overflow_add-k
overflow_add-k c = let l = c.requires.3 in let g = c.well_formed.1.1.1.1.1.1.0.0 in omega arith

pub order_of-o-requires : goal.order_of-o-requires
order_of-o-requires c = (c.requires.0, c.requires.1)

pub entry-requires : goal.entry-requires
entry-requires c = entry_room c.args.kind c.args.c.name.now c.args.c.year c.args.c.time.now c.args.all.flow.now c.args.n c.args.all.out.now c.args.k c.byte.ensures c.requires.2 c.if-byte-kind.false c.order_of-o.ensures.0 (c.from.ensures ∙ c.byte-2.ensures) c.requires.4

pub shape_of-m : goal.shape_of-m
shape_of-m c = c.entry.ensures.wrote.size

pub returns : goal.returns
returns c = entry_wrote c.args.kind c.args.c.name.now c.args.c.year c.args.c.time.now c.args.all.flow.now c.args.n c.args.all.out.now c.args.k c.byte.ensures c.requires.2 c.if-byte-kind.false c.order_of-o.ensures.0 (c.from.ensures ∙ c.byte-2.ensures) c.entry.ensures
