use mathlib.Core.Path.{sym, ap, ◌∙◌}
use Rattle.markup.specs.Markup.{markup_of}
use mathlib.Core.Bool.{Bool}
use Rattle.flow.proofs.Laws.{root_lies}
use Rattle.message_read.proofs.Book.{root_promise, broken_promise}
use Rattle.message_read.proofs.read_noted.Goals as goal

pub read_root-requires : goal.read_root-requires
read_root-requires c = let l = root_lies c.id_allowed.result c.args.s.now _ _ _ (sym c.markup_noted.ensures.0 ∙ c.in-Ok.is) in
    (l.named, l.inside, l.within, c.requires.0, c.markup_noted.ensures.1)

pub returns-in-Ok : goal.returns-in-Ok
returns-in-Ok c = root_promise c.args.ed c.args.s.now c.args.values.now _ _ _ c.requires.0 (ap (λ (b : Bool). markup_of b c.args.s.now) (sym c.id_allowed.ensures) ∙ sym c.markup_noted.ensures.0 ∙ c.in-Ok.is) _ _ c.read_root.ensures

pub returns-in-Err : goal.returns-in-Err
returns-in-Err c = broken_promise c.args.ed c.args.s.now c.args.values.now _ c.requires.0 (ap (λ (b : Bool). markup_of b c.args.s.now) (sym c.id_allowed.ensures) ∙ sym c.markup_noted.ensures.0 ∙ c.in-Err.is) _ c.refusal.ensures
