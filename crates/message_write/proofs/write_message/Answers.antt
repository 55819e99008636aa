use mathlib.Core.Path.{sym, ◌∙◌}
use Rattle.message_fit.specs.Fit.{caller_by}
use Rattle.message_write.proofs.Laws.{write_held, write_unknown, write_known}
use Rattle.message_write.proofs.write_message.Goals as goal

pub returns-in_default : goal.returns-in_default
returns-in_default c = write_unknown c.args.f.now c.args.out.now (caller_by c.args.created.now c.args.outcome.now c.args.ente.now c.args.described.now c.args.istat.now c.args.fiscal.now c.args.tramite.now c.args.bank.now c.args.flow.now) c.args.m.now c.args.edition (sym c.edition_of.ensures ∙ c.in_default.is)

pub write_in-requires : goal.write_in-requires
write_in-requires c = c.hold-held.ensures.held

pub returns : goal.returns
returns c = write_known c.args.f.now c.args.out.now (caller_by c.args.created.now c.args.outcome.now c.args.ente.now c.args.described.now c.args.istat.now c.args.fiscal.now c.args.tramite.now c.args.bank.now c.args.flow.now) c.args.m.now c.args.edition (sym c.edition_of.ensures ∙ c.in-Some.is) (write_held c.in-Some.e c.args.f.now c.args.out.now c.hold-held.ensures c.args.m.now c.write_in.ensures)
