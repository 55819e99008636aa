use mathlib.Core.Path.{sym, ◌∙◌}
use native.Mathlib.Omega.{arith}
use Rattle.markup.proofs.Laws.{content_at_past}
use Rattle.tokens.proofs.Laws.{end_past}
use Rattle.markup.proofs.close.Goals as goal

pub end_tag-requires : goal.end_tag-requires
end_tag-requires c = let k = content_at_past 11 c.args.s.now c.args.c _ (sym c.requires.2 ∙ c.in_ok-inside.was) in
    (omega arith, omega arith, omega arith)

pub white_end-z-requires : goal.white_end-z-requires
white_end-z-requires c = (end_past c.args.s.now _ _ _ _ (sym c.end_tag.ensures ∙ c.in_ok-q.was)).within
