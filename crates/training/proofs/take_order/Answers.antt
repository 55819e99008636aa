use mathlib.Core.Path.{sym, ap}
use Rattle.order.specs.Ordinativo.{ordinativo}
use Rattle.training.specs.Training.{list_of}
use Rattle.rules.specs.Rules.{change_of}
use Rattle.training.proofs.Laws.{order_taken}
use Rattle.training.proofs.take_order.Goals as goal

pub returns-in-Inserimento : goal.returns-in-Inserimento
returns-in-Inserimento c = order_taken c.args.slots c.args.year (ordinativo c.args.o) (list_of c.args.b) (sym (ap change_of c.in-Inserimento.is)) c.take_change.ensures

pub returns-in-Variazione : goal.returns-in-Variazione
returns-in-Variazione c = order_taken c.args.slots c.args.year (ordinativo c.args.o) (list_of c.args.b) (sym (ap change_of c.in-Variazione.is)) c.take_change-in-Variazione.ensures

pub returns-in-Annullo : goal.returns-in-Annullo
returns-in-Annullo c = order_taken c.args.slots c.args.year (ordinativo c.args.o) (list_of c.args.b) (sym (ap change_of c.in-Annullo.is)) c.take_change-in-Annullo.ensures

pub returns-in-Sostituzione : goal.returns-in-Sostituzione
returns-in-Sostituzione c = order_taken c.args.slots c.args.year (ordinativo c.args.o) (list_of c.args.b) (sym (ap change_of c.in-Sostituzione.is)) c.take_change-in-Sostituzione.ensures
