use Rattle.std.proofs.Common.{◌≡◌, ◌∙◌, ℕ, ◌+◌, ◌-◌, List, arith, sym, ap}
use Rattle.table.specs.Table.{table2, head_size, entry_of, bodies, contents_ok}
use Rattle.salvage.specs.Salvage.{repaired_from}
use Rattle.salvage.proofs.Laws.{turn, turn_right, turn_bodies, few_bodies, repaired_more, repaired_done}
use Rattle.salvage.proofs.repair_all.Goals as goal

pub loop-i-init : goal.loop-i-init
loop-i-init c = let e : bodies c.args.t.now ≡ c.args.n - 0 = omega (arith, c.requires.1) in
    (c.requires.0, c.requires.1, ap (repaired_from c.args.t.now head_size) e)

pub repair_at-requires : goal.repair_at-requires
repair_at-requires c = let l = c.loop-i in
    turn l.t l.invariant.0 (entry_of l.i) (c.args.n - l.i) l.invariant.1 (omega arith) (omega arith)

pub loop-i-preserved : goal.loop-i-preserved
loop-i-preserved c = let l = c.loop-i in
    let e = c.repair_at.ensures in (
      ap (contents_ok table2) e ∙ turn_right l.t l.invariant.0 (entry_of l.i) (c.args.n - l.i) l.invariant.1 (omega arith) (omega arith),
      turn_bodies l.t l.invariant.0 (entry_of l.i) (c.args.n - l.i) l.invariant.1 (omega arith) (omega arith) ∙ sym (ap bodies e),
      l.invariant.2 ∙ repaired_more l.t c.args.n l.i (omega arith) ∙ ap (λ (s : List ℕ). repaired_from s (entry_of (l.i + 1)) (c.args.n - (l.i + 1))) (sym e),
    )

pub returns : goal.returns
returns c = let l = c.loop-i in
    sym (l.invariant.2 ∙ repaired_done l.t (entry_of l.i) (c.args.n - l.i) (omega arith))

pub overflow_mul-at : goal.overflow_mul-at
overflow_mul-at c = omega (arith, few_bodies c.loop-i.t c.loop-i.invariant.0, c.loop-i.invariant.1)

pub overflow_add-at : goal.overflow_add-at
overflow_add-at c = omega (arith, few_bodies c.loop-i.t c.loop-i.invariant.0, c.loop-i.invariant.1)
