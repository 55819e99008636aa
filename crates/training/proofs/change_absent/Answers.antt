use Rattle.order.specs.Ordinativo.{ordinativo}
use Rattle.training.specs.Training.{list_of}
use Rattle.training.proofs.Laws.{none_refused, none_room, none_taken}
use Rattle.training.proofs.change_absent.Goals as goal

pub returns-then-code-ne0 : goal.returns-then-code-ne0
returns-then-code-ne0 c = (none_refused c.args.slots c.args.year (ordinativo c.args.o) (list_of c.args.b) c.args.c c.size-n.ensures.0 c.mark_names-m.ensures c.absent_code-code.ensures c.if-code-ne0.true, c.size-n.ensures.0)

pub appended-requires : goal.appended-requires
appended-requires c = none_room c.args.slots c.args.year (ordinativo c.args.o) (list_of c.args.b) c.args.c c.size-n.ensures.0 c.mark_names-m.ensures c.absent_code-code.ensures c.if-code-ne0.false c.requires

pub returns : goal.returns
returns c = (none_taken c.args.slots c.args.year (ordinativo c.args.o) (list_of c.args.b) c.args.c c.size-n.ensures.0 c.mark_names-m.ensures c.absent_code-code.ensures c.if-code-ne0.false c.new_record.ensures c.appended.ensures, c.size-n.ensures.0)
