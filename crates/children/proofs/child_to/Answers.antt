use Rattle.children.proofs.child_to.Goals as goal

pub returns : goal.returns
returns c = rw c.white_end-after.ensures
