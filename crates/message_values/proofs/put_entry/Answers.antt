use mathlib.Core.Path.{◌≡◌, ap, ◌∙◌}
use native.Mathlib.Omega.{arith}
use lib.ListN.{get_or}
use Rattle.words.specs.Numbers.{put}
use Rattle.schema.specs.declared.Parent.{Parent}
use Rattle.rows.specs.Kept.{kept_from}
use Rattle.parts.specs.declared.Span.{Span}
use Rattle.parts.specs.Parts.{no_span, parts_in}
use Rattle.parts.proofs.Laws.{all_within, at_within}
use Rattle.agreement.specs.Agreement.{entry_parent}
use Rattle.agreement.proofs.Laws.{list_within}
use Rattle.message_values.specs.Values.{parts_bytes, entry_by, entry_at}
use mathlib.Core.List.{List}
use Rattle.message_values.proofs.put_entry.Goals as goal

pub facts_of-f-requires : goal.facts_of-f-requires
facts_of-f-requires c = let s = c.args.s.now in
    let k = c.args.kind in
    let p = entry_parent k in
    let i = c.args.from in
    let each = c.parts_of-each.result in
    let e : each ≡ parts_in (kept_from p s i) = c.parts_of-each.ensures ∙ ap (λ (q : Parent). parts_in (kept_from q s i)) c.entry_parent.ensures in
    (all_within each p s i e, list_within p s i each e 8 (omega arith), c.requires.2)

pub put_parts-requires : goal.put_parts-requires
put_parts-requires c = let s = c.args.s.now in
    let k = c.args.kind in
    let p = entry_parent k in
    let i = c.args.from in
    let each = c.parts_of-each.result in
    let e : each ≡ parts_in (kept_from p s i) = c.parts_of-each.ensures ∙ ap (λ (q : Parent). parts_in (kept_from q s i)) c.entry_parent.ensures in
    (c.requires.0, (at_within each p s i 0 (omega arith) e).0, (at_within each p s i 7 (omega arith) e).0)

pub returns : goal.returns
unfolding entry_at
returns c = let s = c.args.s.now in
    let k = c.args.kind in
    let p = entry_parent k in
    let i = c.args.from in
    let each = c.parts_of-each.result in
    let e : each ≡ parts_in (kept_from p s i) = c.parts_of-each.ensures ∙ ap (λ (q : Parent). parts_in (kept_from q s i)) c.entry_parent.ensures in
    c.put_parts.ensures ∙ ap (λ f. put c.args.values.now c.args.at (parts_bytes f (get_or each 0 no_span) (get_or each 7 no_span))) c.facts_of-f.ensures ∙ ap (λ (x : List Span). put c.args.values.now c.args.at (entry_by k s x)) e
