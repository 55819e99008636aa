use mathlib.Core.Path.{refl, sym, ◌∙◌}
use native.Mathlib.Omega.{arith}
use Rattle.schema.specs.declared.Parent.TheVariants.{MessaggiEsito}
use Rattle.parts.proofs.Laws.{lies_begins, lies_less, lies_inside, row_at}
use Rattle.agreement.proofs.Laws.{off_kept, off_passed, entries_end, entries_here}
use Rattle.agreement.proofs.entries_off.Goals as goal

pub loop-k-init : goal.loop-k-init
loop-k-init c = (c.requires.0, refl)

pub next_row-requires : goal.next_row-requires
next_row-requires c = (c.loop-k.invariant.0, c.requires.1)

pub returns : goal.returns
returns c = entries_end c.args.kind c.args.s.now c.loop-k.i c.entry_row-row.result c.entry_row-row.ensures (sym c.next_row.ensures ∙ c.in_default.is) ∙ sym c.loop-k.invariant.1

pub overflow_add-c : goal.overflow_add-c
overflow_add-c c = omega (arith, lies_begins (row_at c.entry_row-row.result MessaggiEsito c.args.s.now c.loop-k.i c.in-Some.k (sym c.next_row.ensures ∙ c.in-Some.is)).lies)

pub white_end-requires : goal.white_end-requires
white_end-requires c = omega (arith, lies_begins (row_at c.entry_row-row.result MessaggiEsito c.args.s.now c.loop-k.i c.in-Some.k (sym c.next_row.ensures ∙ c.in-Some.is)).lies)

pub entry_off-off-requires : goal.entry_off-off-requires
entry_off-off-requires c = (lies_inside (row_at c.entry_row-row.result MessaggiEsito c.args.s.now c.loop-k.i c.in-Some.k (sym c.next_row.ensures ∙ c.in-Some.is)).lies c.white_end.ensures, c.requires.1)

pub returns-then-is_some : goal.returns-then-is_some
returns-then-is_some c = off_kept _ _ (sym c.is_some.ensures ∙ c.if-is_some.true) ∙ sym (entries_here c.args.kind c.args.s.now c.loop-k.i c.entry_row-row.result c.entry_row-row.ensures c.in-Some.k (sym c.next_row.ensures ∙ c.in-Some.is) c.args.from c.loop-k.invariant.1 c.white_end.ensures c.entry_off-off.ensures refl)

pub loop-k-smaller : goal.loop-k-smaller
loop-k-smaller c = lies_less (row_at c.entry_row-row.result MessaggiEsito c.args.s.now c.loop-k.i c.in-Some.k (sym c.next_row.ensures ∙ c.in-Some.is)).lies

pub loop-k-preserved : goal.loop-k-preserved
loop-k-preserved c = ((row_at c.entry_row-row.result MessaggiEsito c.args.s.now c.loop-k.i c.in-Some.k (sym c.next_row.ensures ∙ c.in-Some.is)).lies.within, entries_here c.args.kind c.args.s.now c.loop-k.i c.entry_row-row.result c.entry_row-row.ensures c.in-Some.k (sym c.next_row.ensures ∙ c.in-Some.is) c.args.from c.loop-k.invariant.1 c.white_end.ensures c.entry_off-off.ensures refl ∙ off_passed _ _ (sym c.is_some.ensures ∙ c.if-is_some.false))
