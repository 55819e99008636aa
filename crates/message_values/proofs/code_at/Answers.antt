use mathlib.Core.Path.{◌≡◌, ap, ◌∙◌}
use native.Mathlib.Omega.{arith}
use Rattle.scan.specs.Bytes.{is_white}
use Rattle.scan.proofs.Laws.{run_within}
use Rattle.tokens.specs.Tokens.{white_at}
use Rattle.schema.specs.declared.Parent.{Parent}
use Rattle.rows.specs.Kept.{kept_from}
use Rattle.parts.specs.Parts.{parts_in}
use Rattle.parts.proofs.Laws.{at_within}
use Rattle.agreement.specs.Agreement.{errors_parent}
use Rattle.message_values.proofs.Laws.{code_none, code_is}
use Rattle.message_values.proofs.code_at.Goals as goal

pub returns-then-list-eq0 : goal.returns-then-list-eq0
returns-then-list-eq0 c = code_none c.args.kind c.args.s.now c.args.list c.if-list-eq0.true

pub parts_of-each-requires : goal.parts_of-each-requires
parts_of-each-requires c = (rw c.white_end.ensures (run_within is_white c.args.s.now c.args.list.from c.requires.0), c.requires.1)

pub error_at-requires : goal.error_at-requires
error_at-requires c = let s = c.args.s.now in
    let k = c.args.kind in
    let w = c.args.list in
    let each = c.parts_of-each.result in
    let e : each ≡ parts_in (kept_from (errors_parent k) s (white_at s w.from)) = c.parts_of-each.ensures ∙ ap (λ (q : Parent). parts_in (kept_from q s c.white_end.result)) c.errors_parent.ensures ∙ ap (λ j. parts_in (kept_from (errors_parent k) s j)) c.white_end.ensures in
    at_within each (errors_parent k) s (white_at s w.from) 1 (omega arith) e

pub returns : goal.returns
returns c = let s = c.args.s.now in
    let k = c.args.kind in
    let w = c.args.list in
    let each = c.parts_of-each.result in
    let e : each ≡ parts_in (kept_from (errors_parent k) s (white_at s w.from)) = c.parts_of-each.ensures ∙ ap (λ (q : Parent). parts_in (kept_from q s c.white_end.result)) c.errors_parent.ensures ∙ ap (λ j. parts_in (kept_from (errors_parent k) s j)) c.white_end.ensures in
    code_is k s w c.if-list-eq0.false each e c.error_at.ensures
