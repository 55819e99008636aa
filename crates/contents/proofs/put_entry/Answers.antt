use native.Mathlib.Omega.{arith}
use Rattle.contents.proofs.Laws.{entry_by}
use Rattle.contents.proofs.put_entry.Goals as goal

pub returns : goal.returns
returns c = entry_by c.args.t.now c.copy_in.new.s c.write4.new.s c.settle.new.t c.copy_in-2.new.s c.args.to c.args.form.now c.args.p c.args.paid c.args.collected c.requires.1 (omega arith) c.copy_in.ensures c.write4.ensures c.settle.ensures c.copy_in-2.ensures
