use mathlib.Core.Path.{sym, ◌∙◌}
use Prim.Native.Nat.{◌-◌}
use native.Mathlib.Omega.{arith}
use Rattle.schema.specs.declared.Parent.TheVariants.{MessaggiEsito}
use Rattle.parts.proofs.Laws.{lies_begins, lies_less, lies_inside, row_at}
use Rattle.message_values.proofs.Laws.{entries_start, entries_end, entries_room, entries_step}
use Rattle.message_values.proofs.put_entries.Goals as goal

pub loop-k-init : goal.loop-k-init
loop-k-init c = entries_start c.args.kind c.args.s.now c.args.values.now c.args.from c.args.at c.requires.0 c.requires.1

pub next_row-requires : goal.next_row-requires
next_row-requires c = (c.loop-k.invariant.within, c.requires.2)

pub shape_of-values : goal.shape_of-values
shape_of-values c = c.loop-k.invariant.size

pub returns : goal.returns
returns c = entries_end c.args.kind c.args.s.now c.args.values.now c.args.from c.args.at c.requires.0 c.loop-k.values c.loop-k.to c.loop-k.i c.entry_row-row.result c.loop-k.invariant c.entry_row-row.ensures (sym c.next_row.ensures ∙ c.in_default.is)

pub overflow_add-c : goal.overflow_add-c
overflow_add-c c = omega (arith, lies_begins (row_at c.entry_row-row.result MessaggiEsito c.args.s.now c.loop-k.i c.in-Some.k (sym c.next_row.ensures ∙ c.in-Some.is)).lies)

pub white_end-requires : goal.white_end-requires
white_end-requires c = omega (arith, lies_begins (row_at c.entry_row-row.result MessaggiEsito c.args.s.now c.loop-k.i c.in-Some.k (sym c.next_row.ensures ∙ c.in-Some.is)).lies)

pub put_entry-requires : goal.put_entry-requires
put_entry-requires c = (entries_room c.args.kind c.args.s.now c.args.values.now c.args.from c.args.at c.requires.0 c.loop-k.values c.loop-k.to c.loop-k.i c.entry_row-row.result c.loop-k.invariant c.entry_row-row.ensures c.in-Some.k (sym c.next_row.ensures ∙ c.in-Some.is), lies_inside (row_at c.entry_row-row.result MessaggiEsito c.args.s.now c.loop-k.i c.in-Some.k (sym c.next_row.ensures ∙ c.in-Some.is)).lies c.white_end.ensures, c.requires.2)

pub overflow_add-to : goal.overflow_add-to
overflow_add-to c = omega (arith, entries_room c.args.kind c.args.s.now c.args.values.now c.args.from c.args.at c.requires.0 c.loop-k.values c.loop-k.to c.loop-k.i c.entry_row-row.result c.loop-k.invariant c.entry_row-row.ensures c.in-Some.k (sym c.next_row.ensures ∙ c.in-Some.is))

pub loop-k-smaller : goal.loop-k-smaller
loop-k-smaller c = lies_less (row_at c.entry_row-row.result MessaggiEsito c.args.s.now c.loop-k.i c.in-Some.k (sym c.next_row.ensures ∙ c.in-Some.is)).lies

pub loop-k-preserved : goal.loop-k-preserved
loop-k-preserved c = entries_step c.args.kind c.args.s.now c.args.values.now c.args.from c.args.at c.requires.0 c.loop-k.values c.loop-k.to c.loop-k.i c.entry_row-row.result c.loop-k.invariant c.entry_row-row.ensures c.in-Some.k (sym c.next_row.ensures ∙ c.in-Some.is) c.white_end.ensures c.put_entry.ensures
