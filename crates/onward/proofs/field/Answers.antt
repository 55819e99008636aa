use Rattle.std.specs.Prelude.{Ok}
use mathlib.Core.Path.{◌≡◌, refl, sym, ap, ◌∙◌}
use Rattle.tokens.specs.Tokens.{text_at}
use Rattle.tokens.proofs.Laws.{text_past}
use Rattle.fields.specs.Fields.{stands_by, field_stands}
use borrow.Author.Rules.{rules}
use Rattle.onward.proofs.field.Goals as goal

pub returns-in_default : goal.returns-in_default
returns-in_default c = λ f. absurd (f refl)

pub slice_bounds-value_of-count : goal.slice_bounds-value_of-count
slice_bounds-value_of-count c = let s = c.args.s.now in
    let at = c.args.at in
    let p = c.in-Ok.p in
    let t : text_at s at ≡ Ok p = sym c.text.ensures ∙ c.in-Ok.is in
    (text_past s at p t).0

pub slice_bounds-value_of-start : goal.slice_bounds-value_of-start
slice_bounds-value_of-start c = let s = c.args.s.now in
    let at = c.args.at in
    let p = c.in-Ok.p in
    let t : text_at s at ≡ Ok p = sym c.text.ensures ∙ c.in-Ok.is in
    let l = text_past s at p t in
    search rules

pub slice_bounds-value_of-end : goal.slice_bounds-value_of-end
slice_bounds-value_of-end c = let s = c.args.s.now in
    let at = c.args.at in
    let p = c.in-Ok.p in
    let t : text_at s at ≡ Ok p = sym c.text.ensures ∙ c.in-Ok.is in
    let l = text_past s at p t in
    search rules

pub returns-in-Some : goal.returns-in-Some
unfolding field_stands
returns-in-Some c = let s = c.args.s.now in
    let at = c.args.at in
    let p = c.in-Ok.p in
    let t : text_at s at ≡ Ok p = sym c.text.ensures ∙ c.in-Ok.is in
    λ f. record { text = t; stands = ap stands_by (sym c.value_of.ensures ∙ c.in-Some.is) }

pub returns-in-None : goal.returns-in-None
returns-in-None c = λ f. absurd (f refl)
