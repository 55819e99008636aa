use Rattle.std.specs.Prelude.{Ok}
use mathlib.Core.Path.{refl, sym, ap, ◌∙◌}
use native.Mathlib.Omega.{arith}
use Rattle.slots.specs.Slots.{records_at}
use Rattle.entries.specs.Entry.{closed_of}
use Rattle.year_end.proofs.Laws.{no_later, earlier_there, line_there_lem, may_close}
use Rattle.year_end.proofs.close_in.Goals as goal

pub returns-then-year-closed_of : goal.returns-then-year-closed_of
returns-then-year-closed_of c = (no_later (closed_of c.args.t.now c.args.e) c.args.year (records_at c.args.t.now c.args.base c.args.n) (omega arith) (omega arith) (omega (arith, c.closed_of.ensures.0)), refl)

pub returns-then-earlier_remains : goal.returns-then-earlier_remains
returns-then-earlier_remains c = (earlier_there (closed_of c.args.t.now c.args.e) c.args.year (records_at c.args.t.now c.args.base c.args.n) (omega arith) (omega arith) (omega (arith, c.closed_of.ensures.0)) (sym c.earlier_remains.ensures ∙ c.if-earlier_remains.true), refl)

pub returns-then-line_waits : goal.returns-then-line_waits
returns-then-line_waits c = (line_there_lem (closed_of c.args.t.now c.args.e) c.args.year (records_at c.args.t.now c.args.base c.args.n) (omega arith) (omega arith) (omega (arith, c.closed_of.ensures.0)) (sym c.earlier_remains.ensures ∙ c.if-earlier_remains.false) (sym c.line_waits.ensures ∙ c.if-line_waits.true), refl)

pub returns : goal.returns
returns c = (ap Ok c.close_body.ensures.0 ∙ may_close (closed_of c.args.t.now c.args.e) c.args.year (records_at c.args.t.now c.args.base c.args.n) (omega arith) (omega arith) (omega (arith, c.closed_of.ensures.0)) (sym c.earlier_remains.ensures ∙ c.if-earlier_remains.false) (sym c.line_waits.ensures ∙ c.if-line_waits.false), c.close_body.ensures.1)
