use mathlib.Core.Path.{◌≡◌, sym, ap, subst, ◌∙◌}
use mathlib.Core.Bool.{Bool, true, false}
use native.Mathlib.Omega.{arith}
use lib.ListN.{drop}
use Rattle.schema.specs.Table.{table}
use Rattle.rows.specs.Kept.{kept_from}
use Rattle.structure.specs.Structure.{ranges}
use Rattle.orders.specs.Said.{number_of}
use Rattle.orders.specs.Shape.{line_rows, is_replacing, Filled}
use Rattle.orders.proofs.Laws.{found, found_some, says_progressivo, says_importo, named_same, named_none, line_made}
use Rattle.orders.proofs.line_from.Goals as goal

pub first_named-requires : goal.first_named-requires
first_named-requires c = let s = c.args.s.now in
    let p = c.args.parent in
    let i0 = c.args.from in
    (c.requires.1.within, c.requires.2, found_some 1 p s 0 i0 c.requires.1)

pub read_field-requires : goal.read_field-requires
read_field-requires c = let s = c.args.s.now in
    let p = c.args.parent in
    let i0 = c.args.from in
    let xa = c.first_named.result in
    let fa = found 1 p s 0 i0 c.requires.1 xa c.first_named.ensures in
    let i1 = xa.child.after in
    let l = fa.lies in (l.inner, omega arith)

pub first_named-requires-2 : goal.first_named-requires-2
first_named-requires-2 c = let s = c.args.s.now in
    let p = c.args.parent in
    let i0 = c.args.from in
    let xa = c.first_named.result in
    let fa = found 1 p s 0 i0 c.requires.1 xa c.first_named.ensures in
    let i1 = xa.child.after in
    (fa.lies.within, c.requires.2, found_some 1 p s 1 i1 fa.on)

pub read_field-requires-2 : goal.read_field-requires-2
read_field-requires-2 c = let s = c.args.s.now in
    let p = c.args.parent in
    let i0 = c.args.from in
    let xa = c.first_named.result in
    let fa = found 1 p s 0 i0 c.requires.1 xa c.first_named.ensures in
    let i1 = xa.child.after in
    let xb = c.first_named-2.result in
    let fb = found 1 p s 1 i1 fa.on xb c.first_named-2.ensures in
    let i2 = xb.child.after in
    let l = fb.lies in (l.inner, omega arith)

pub named_after-named-requires : goal.named_after-named-requires
named_after-named-requires c = let s = c.args.s.now in
    let p = c.args.parent in
    let i0 = c.args.from in
    let xa = c.first_named.result in
    let fa = found 1 p s 0 i0 c.requires.1 xa c.first_named.ensures in
    let i1 = xa.child.after in
    let xb = c.first_named-2.result in
    let fb = found 1 p s 1 i1 fa.on xb c.first_named-2.ensures in
    let i2 = xb.child.after in
    let r : is_replacing p ≡ true = sym c.is_replacing.ensures ∙ c.if-is_replacing.true in
    (subst (λ (b : Bool). ranges (table p) ≡ line_rows b) r c.requires.0, subst (λ (b : Bool). Filled (drop 2 (line_rows b)) 1 p s 2 i2) r fb.on, c.requires.2, r)

pub returns-then-is_replacing : goal.returns-then-is_replacing
returns-then-is_replacing c = let s = c.args.s.now in
    let p = c.args.parent in
    let i0 = c.args.from in
    let xa = c.first_named.result in
    let fa = found 1 p s 0 i0 c.requires.1 xa c.first_named.ensures in
    let i1 = xa.child.after in
    let xb = c.first_named-2.result in
    let fb = found 1 p s 1 i1 fa.on xb c.first_named-2.ensures in
    let i2 = xb.child.after in
    line_made s (kept_from p s i0) _ (c.number_of-progressivo.ensures ∙ ap number_of c.read_field.ensures ∙ says_progressivo s xa.child _ fa.text) (c.number_of-amount.ensures ∙ ap number_of c.read_field-2.ensures ∙ says_importo s xb.child _ (fa.texts 1 (omega arith) ∙ fb.text)) (c.named_after-named.ensures ∙ sym (named_same s (kept_from p s i0) (kept_from p s i2) (fa.later 3 (omega arith) ∙ fb.later 3 (omega arith))))

pub returns-else-is_replacing : goal.returns-else-is_replacing
returns-else-is_replacing c = let s = c.args.s.now in
    let p = c.args.parent in
    let i0 = c.args.from in
    let xa = c.first_named.result in
    let fa = found 1 p s 0 i0 c.requires.1 xa c.first_named.ensures in
    let i1 = xa.child.after in
    let xb = c.first_named-2.result in
    let fb = found 1 p s 1 i1 fa.on xb c.first_named-2.ensures in
    let i2 = xb.child.after in
    let r : is_replacing p ≡ false = sym c.is_replacing.ensures ∙ c.if-is_replacing.false in
    line_made s (kept_from p s i0) _ (c.number_of-progressivo.ensures ∙ ap number_of c.read_field.ensures ∙ says_progressivo s xa.child _ fa.text) (c.number_of-amount.ensures ∙ ap number_of c.read_field-2.ensures ∙ says_importo s xb.child _ (fa.texts 1 (omega arith) ∙ fb.text)) (c.none_named-named.ensures ∙ sym (named_none p s i0 (subst (λ (b : Bool). ranges (table p) ≡ line_rows b) r c.requires.0)))
