use mathlib.Core.Path.{◌≡◌, ap, ◌∙◌}
use native.Mathlib.Omega.{arith}
use borrow.Author.Rules.{rules}
use lib.ListN.{get_or}
use Rattle.scan.specs.Bytes.{is_white}
use Rattle.scan.proofs.Laws.{run_within}
use Rattle.tokens.specs.Tokens.{white_at}
use Rattle.schema.specs.declared.Parent.TheVariants.{MessaggiEsito, TestataMessaggio}
use Rattle.rows.specs.Kept.{kept_from}
use Rattle.parts.specs.Parts.{no_span, parts_in}
use Rattle.parts.proofs.Laws.{at_within}
use Rattle.agreement.proofs.Laws.{list_within}
use Rattle.message_values.proofs.Laws.{head_put}
use borrow.Author.Rules.{rules}
use Rattle.message_values.proofs.put_head.Goals as goal

pub white_end-requires : goal.white_end-requires
white_end-requires c = let s = c.args.s.now in
    let i = c.args.from in
    let root = c.parts_of-root.result in
    let er = c.parts_of-root.ensures in
    list_within MessaggiEsito s i root er 0 (omega arith)

pub parts_of-each-requires : goal.parts_of-each-requires
parts_of-each-requires c = let s = c.args.s.now in
    let i = c.args.from in
    let root = c.parts_of-root.result in
    let er = c.parts_of-root.ensures in
    (rw c.white_end.ensures (run_within is_white s (get_or root 0 no_span).from (list_within MessaggiEsito s i root er 0 (omega arith))), c.requires.2)

pub put_spans-requires : goal.put_spans-requires
put_spans-requires c = let s = c.args.s.now in
    let i = c.args.from in
    let root = c.parts_of-root.result in
    let er = c.parts_of-root.ensures in
    let each = c.parts_of-each.result in
    let ee : each ≡ parts_in (kept_from TestataMessaggio s (white_at s (get_or root 0 no_span).from)) = c.parts_of-each.ensures ∙ ap (λ j. parts_in (kept_from TestataMessaggio s j)) c.white_end.ensures in
    let h = c.requires.0 in
    (omega arith, λ n k. (at_within each TestataMessaggio s (white_at s (get_or root 0 no_span).from) n k ee).0)

pub put_span-requires : goal.put_span-requires
put_span-requires c = let s = c.args.s.now in
    let i = c.args.from in
    let root = c.parts_of-root.result in
    let er = c.parts_of-root.ensures in
    let h = c.requires.0 in
    (search rules, (at_within root MessaggiEsito s i 1 (omega arith) er).0)

pub returns : goal.returns
returns c = let s = c.args.s.now in
    let i = c.args.from in
    let root = c.parts_of-root.result in
    let er = c.parts_of-root.ensures in
    let each = c.parts_of-each.result in
    let ee : each ≡ parts_in (kept_from TestataMessaggio s (white_at s (get_or root 0 no_span).from)) = c.parts_of-each.ensures ∙ ap (λ j. parts_in (kept_from TestataMessaggio s j)) c.white_end.ensures in
    head_put s i root each c.args.values.now c.requires.0 er ee c.put_spans.ensures c.put_span.ensures
