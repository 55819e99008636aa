use mathlib.Core.Path.{sym, ap}
use Rattle.order.specs.Ordinativo.{ordinativo}
use Rattle.rules.specs.Rules.{change_of}
use Rattle.service.proofs.Laws.{served_change}
use Rattle.service.proofs.serve_order.Goals as goal

pub returns-in-Inserimento : goal.returns-in-Inserimento
returns-in-Inserimento c = served_change c.args.t.now c.args.base c.args.n c.args.year (ordinativo c.args.o) (sym (ap change_of c.in-Inserimento.is)) _ c.serve_change.ensures

pub returns-in-Variazione : goal.returns-in-Variazione
returns-in-Variazione c = served_change c.args.t.now c.args.base c.args.n c.args.year (ordinativo c.args.o) (sym (ap change_of c.in-Variazione.is)) _ c.serve_change-in-Variazione.ensures

pub returns-in-Annullo : goal.returns-in-Annullo
returns-in-Annullo c = served_change c.args.t.now c.args.base c.args.n c.args.year (ordinativo c.args.o) (sym (ap change_of c.in-Annullo.is)) _ c.serve_change-in-Annullo.ensures

pub returns-in-Sostituzione : goal.returns-in-Sostituzione
returns-in-Sostituzione c = served_change c.args.t.now c.args.base c.args.n c.args.year (ordinativo c.args.o) (sym (ap change_of c.in-Sostituzione.is)) _ c.serve_change-in-Sostituzione.ensures
