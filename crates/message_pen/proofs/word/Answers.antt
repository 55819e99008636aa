use Rattle.message_pen.proofs.word.Goals as goal

pub ink-requires : goal.ink-requires
ink-requires c = rw c.in-Inserimento.is at c.requires

pub ink-requires-in-Variazione : goal.ink-requires-in-Variazione
ink-requires-in-Variazione c = rw c.in-Variazione.is at c.requires

pub ink-requires-in-Annullo : goal.ink-requires-in-Annullo
ink-requires-in-Annullo c = rw c.in-Annullo.is at c.requires

pub ink-requires-in-Sostituzione : goal.ink-requires-in-Sostituzione
ink-requires-in-Sostituzione c = rw c.in-Sostituzione.is at c.requires

pub returns-in-Inserimento : goal.returns-in-Inserimento
returns-in-Inserimento c = rw c.in-Inserimento.is c.ink.ensures

pub returns-in-Variazione : goal.returns-in-Variazione
returns-in-Variazione c = rw c.in-Variazione.is c.ink-in-Variazione.ensures

pub returns-in-Annullo : goal.returns-in-Annullo
returns-in-Annullo c = rw c.in-Annullo.is c.ink-in-Annullo.ensures

pub returns-in-Sostituzione : goal.returns-in-Sostituzione
returns-in-Sostituzione c = rw c.in-Sostituzione.is c.ink-in-Sostituzione.ensures
