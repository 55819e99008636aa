use Rattle.contents.proofs.Laws.{head_by}
use Rattle.contents.proofs.put_head.Goals as goal

pub returns : goal.returns
returns c = head_by c.args.t.now c.write2.new.s c.write2-2.new.s c.write4.new.s c.copy_in.new.s c.copy_in-2.new.s c.args.n c.args.len c.args.abi.now c.requires.1 c.write2.ensures c.write2-2.ensures c.write4.ensures c.copy_in.ensures c.copy_in-2.ensures
