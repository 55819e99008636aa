use mathlib.Core.Path.{sym, ◌∙◌}
use native.Mathlib.Omega.{arith}
use Rattle.schema.specs.declared.Parent.TheVariants.{MessaggiEsito}
use Rattle.parts.proofs.Laws.{lies_less, row_at}
use Rattle.message_read.proofs.Laws.{count_start, count_end, count_step}
use Rattle.message_read.proofs.count_entries.Goals as goal

pub loop-k-init : goal.loop-k-init
loop-k-init c = count_start c.args.kind c.args.s.now c.args.from c.requires.0

pub next_row-requires : goal.next_row-requires
next_row-requires c = (c.loop-k.invariant.within, c.requires.1)

pub returns : goal.returns
returns c = count_end c.args.kind c.args.s.now c.args.from c.loop-k.i c.loop-k.n c.entry_row.result c.loop-k.invariant c.entry_row.ensures (sym c.next_row.ensures ∙ c.in_default.is)

pub overflow_add-n : goal.overflow_add-n
overflow_add-n c = let a = c.loop-k.invariant.few in let b = c.loop-k.invariant.within in omega arith

pub loop-k-smaller : goal.loop-k-smaller
loop-k-smaller c = lies_less (row_at c.entry_row.result MessaggiEsito c.args.s.now c.loop-k.i c.in-Some.k (sym c.next_row.ensures ∙ c.in-Some.is)).lies

pub loop-k-preserved : goal.loop-k-preserved
loop-k-preserved c = count_step c.args.kind c.args.s.now c.args.from c.loop-k.i c.loop-k.n c.entry_row.result c.loop-k.invariant c.entry_row.ensures c.in-Some.k (sym c.next_row.ensures ∙ c.in-Some.is)
