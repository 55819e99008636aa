use Rattle.order.specs.Ordinativo.{ordinativo}
use Rattle.training.specs.Training.{list_of}
use Rattle.rules.specs.Rules.{key_for}
use Rattle.training.proofs.Laws.{found_low, change_lines, change_at, change_none}
use Rattle.training.proofs.take_change.Goals as goal

pub returns-then-code-ne0 : goal.returns-then-code-ne0
returns-then-code-ne0 c = change_lines c.args.slots c.args.year (ordinativo c.args.o) (list_of c.args.b) c.args.c c.check_lines-code.ensures c.if-code-ne0.true

pub change_record-requires : goal.change_record-requires
change_record-requires c = found_low (list_of c.args.b) (key_for c.args.year (ordinativo c.args.o)) c.find.ensures c.in-Some.is

pub returns-in-Some : goal.returns-in-Some
returns-in-Some c = change_at c.args.slots c.args.year (ordinativo c.args.o) (list_of c.args.b) c.args.c c.check_lines-code.ensures c.if-code-ne0.false c.find.ensures c.in-Some.is c.change_record.ensures

pub returns-in-None : goal.returns-in-None
returns-in-None c = change_none c.args.slots c.args.year (ordinativo c.args.o) (list_of c.args.b) c.args.c c.check_lines-code.ensures c.if-code-ne0.false c.find.ensures c.in-None.is c.change_absent.ensures
