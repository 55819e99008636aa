use borrow.Author.Tests.{le-leb, lt-leb}
use Rattle.message_read.proofs.earlier.Goals as goal

pub returns-then-p-q : goal.returns-then-p-q
returns-then-p-q c = rw (c.in-Some.is, le-leb _ _ c.if-p-q.true)

pub returns-else-p-q : goal.returns-else-p-q
returns-else-p-q c = rw (c.in-Some.is, lt-leb _ _ c.if-p-q.false)

pub returns-in-None : goal.returns-in-None
returns-in-None c = rw c.in-None.is
