use Rattle.std.specs.Prelude.{Err}
use Rattle.std.proofs.Common.{◌≡◌, ◌+◌, ◌-◌, ◌*◌, sym, ap, ◌∙◌, arith}
use Rattle.slots.proofs.Laws.{records_end, records_none, records_next, seek_first, seek_later, seek_nil}
use Rattle.slots.proofs.seek.Goals as goal

pub returns-then-t-at-eq0 : goal.returns-then-t-at-eq0
returns-then-t-at-eq0 c = let i = c.loop-i.i in
    sym (c.loop-i.invariant ∙ seek_nil (records_end c.args.t.now (c.args.base + 96 * i) (c.args.n - i) c.if-t-at-eq0.true) i c.args.key)

pub returns-then-hit_at : goal.returns-then-hit_at
returns-then-hit_at c = let i = c.loop-i.i in
    sym (c.loop-i.invariant ∙ seek_first (records_next c.args.t.now c.args.base c.args.n i (omega arith) c.if-t-at-eq0.false) i c.args.key (cc))

pub loop-i-preserved : goal.loop-i-preserved
loop-i-preserved c = let i = c.loop-i.i in
    c.loop-i.invariant ∙ seek_later (records_next c.args.t.now c.args.base c.args.n i (omega arith) c.if-t-at-eq0.false) i c.args.key (cc)

pub returns : goal.returns
returns c = let i = c.loop-i.i in
    let q : i ≡ c.args.n = omega arith in
    sym (c.loop-i.invariant ∙ seek_nil (records_none c.args.t.now (c.args.base + 96 * i) (c.args.n - i) (omega arith)) i c.args.key ∙ ap Err q)
