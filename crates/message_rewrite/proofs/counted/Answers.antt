use mathlib.Core.Path.{refl, ◌∙◌}
use Rattle.message_rewrite.proofs.Call.{again_none, again_made}
use Rattle.message_rewrite.proofs.counted.Goals as goal

pub returns-then-b-to : goal.returns-then-b-to
returns-then-b-to c = let w = again_none c.args.b.now c.args.s.now c.args.v.now c.args.n c.again-to.ensures c.if-b-to.true in
    (c.no_message.ensures ∙ w.0, w.1)

pub returns : goal.returns
returns c = again_made c.args.b.now c.args.s.now c.args.v.now c.args.n c.again-to.ensures c.if-b-to.false c.again.ensures refl
