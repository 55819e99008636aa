use Rattle.message_pen.proofs.Laws.{leaf_as, leaf_wrote}
use Rattle.message_pen.proofs.leaf_at.Goals as goal

pub leaf-requires : goal.leaf-requires
leaf-requires c = leaf_as c.args.name.now c.part_at.ensures c.requires.1

pub returns : goal.returns
returns c = leaf_wrote c.args.name.now c.part_at.ensures c.leaf.ensures
