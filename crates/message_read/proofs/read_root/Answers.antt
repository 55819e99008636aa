use mathlib.Core.Path.{refl}
use borrow.Author.Tests.{not-true, not-false}
use Rattle.message_read.proofs.Laws.{gives_other, gives_named}
use Rattle.message_read.proofs.read_root.Goals as goal

pub returns-then-not-is : goal.returns-then-not-is
returns-then-not-is c = gives_other c.args.s.now c.args.values.now c.args.lt c.args.e c.args.at c.is.ensures (not-true _ c.if-not-is.true-raw) (c.refusal.ensures, refl)

pub returns : goal.returns
returns c = gives_named c.args.s.now c.args.values.now c.args.lt c.args.e c.args.at c.is.ensures (not-false _ c.if-not-is.false-raw) c.read_content.ensures
