use Rattle.scan.specs.Bytes.{is_white}
use Rattle.scan.proofs.Laws.{run_within}
use Rattle.structure.proofs.Walk.{text_is}
use Rattle.structure.proofs.text_only.Goals as goal

pub child_at-requires : goal.child_at-requires
child_at-requires c = rw c.white_end.ensures (run_within is_white c.args.s.now c.args.at c.requires.0, c.requires.1)

pub returns : goal.returns
returns c = text_is c.args.s.now c.args.at _ _ c.is_none.ensures (rw c.white_end.ensures at c.child_at.ensures)
