use Rattle.std.specs.Prelude.{Ok}
use mathlib.Core.Path.{refl, ap, ◌∙◌}
use Rattle.order.specs.Ordinativo.{ordinativo}
use Rattle.record.specs.declared.Record.{Record}
use Rattle.rules.specs.Rules.{written}
use Rattle.rules.specs.Inner.{record_code}
use Rattle.service.specs.Inner.{record_stored}
use Rattle.service.proofs.Laws.{ruled_refused, ruled_stored, record_put}
use Rattle.service.proofs.serve_record.Goals as goal

pub returns-then-code-ne0 : goal.returns-then-code-ne0
returns-then-code-ne0 c = ruled_refused (record_stored c.args.t.now c.args.base c.args.year (ordinativo c.args.o)) (Ok (c.args.c, c.args.i)) (c.record_code-code.ensures ∙ ap (record_code c.args.c (ordinativo c.args.o)) c.record_at-r.ensures) c.if-code-ne0.true refl

pub returns : goal.returns
returns c = ruled_stored (record_stored c.args.t.now c.args.base c.args.year (ordinativo c.args.o)) (Ok (c.args.c, c.args.i)) (c.record_code-code.ensures ∙ ap (record_code c.args.c (ordinativo c.args.o)) c.record_at-r.ensures) refl c.if-code-ne0.false
    (record_put c.args.t.now c.args.base c.args.year (ordinativo c.args.o) c.args.c c.args.i
    (c.written_by.ensures ∙ ap (λ (x : Record). written c.args.year (ordinativo c.args.o) x c.args.c) c.record_at-r.ensures)
    c.put_record.ensures)
