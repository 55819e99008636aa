use mathlib.Core.Path.{ap, ◌∙◌}
use native.Mathlib.Omega.{arith}
use Rattle.rows.specs.Kept.{kept_from}
use Rattle.orders.specs.Said.{number_of}
use Rattle.orders.proofs.Laws.{found, found_some, says_numero, says_progressivo, says_esercizio, named_made}
use Rattle.orders.proofs.named_from.Goals as goal

pub first_named-requires : goal.first_named-requires
first_named-requires c = let s = c.args.s.now in
    let p = c.args.parent in
    let i0 = c.args.from in
    (c.requires.0.within, c.requires.1, found_some 0 p s 0 i0 c.requires.0)

pub read_field-requires : goal.read_field-requires
read_field-requires c = let s = c.args.s.now in
    let p = c.args.parent in
    let i0 = c.args.from in
    let xa = c.first_named.result in
    let fa = found 0 p s 0 i0 c.requires.0 xa c.first_named.ensures in
    let i1 = xa.child.after in
    let l = fa.lies in (l.inner, omega arith)

pub first_named-requires-2 : goal.first_named-requires-2
first_named-requires-2 c = let s = c.args.s.now in
    let p = c.args.parent in
    let i0 = c.args.from in
    let xa = c.first_named.result in
    let fa = found 0 p s 0 i0 c.requires.0 xa c.first_named.ensures in
    let i1 = xa.child.after in
    (fa.lies.within, c.requires.1, found_some 0 p s 1 i1 fa.on)

pub read_field-requires-2 : goal.read_field-requires-2
read_field-requires-2 c = let s = c.args.s.now in
    let p = c.args.parent in
    let i0 = c.args.from in
    let xa = c.first_named.result in
    let fa = found 0 p s 0 i0 c.requires.0 xa c.first_named.ensures in
    let i1 = xa.child.after in
    let xb = c.first_named-2.result in
    let fb = found 0 p s 1 i1 fa.on xb c.first_named-2.ensures in
    let i2 = xb.child.after in
    let l = fb.lies in (l.inner, omega arith)

pub first_named-requires-3 : goal.first_named-requires-3
first_named-requires-3 c = let s = c.args.s.now in
    let p = c.args.parent in
    let i0 = c.args.from in
    let xa = c.first_named.result in
    let fa = found 0 p s 0 i0 c.requires.0 xa c.first_named.ensures in
    let i1 = xa.child.after in
    let xb = c.first_named-2.result in
    let fb = found 0 p s 1 i1 fa.on xb c.first_named-2.ensures in
    let i2 = xb.child.after in
    (fb.lies.within, c.requires.1, found_some 0 p s 2 i2 fb.on)

pub read_field-requires-3 : goal.read_field-requires-3
read_field-requires-3 c = let s = c.args.s.now in
    let p = c.args.parent in
    let i0 = c.args.from in
    let xa = c.first_named.result in
    let fa = found 0 p s 0 i0 c.requires.0 xa c.first_named.ensures in
    let i1 = xa.child.after in
    let xb = c.first_named-2.result in
    let fb = found 0 p s 1 i1 fa.on xb c.first_named-2.ensures in
    let i2 = xb.child.after in
    let xc = c.first_named-3.result in
    let fc = found 0 p s 2 i2 fb.on xc c.first_named-3.ensures in
    let l = fc.lies in (l.inner, omega arith)

pub returns : goal.returns
returns c = let s = c.args.s.now in
    let p = c.args.parent in
    let i0 = c.args.from in
    let xa = c.first_named.result in
    let fa = found 0 p s 0 i0 c.requires.0 xa c.first_named.ensures in
    let i1 = xa.child.after in
    let xb = c.first_named-2.result in
    let fb = found 0 p s 1 i1 fa.on xb c.first_named-2.ensures in
    let i2 = xb.child.after in
    let xc = c.first_named-3.result in
    let fc = found 0 p s 2 i2 fb.on xc c.first_named-3.ensures in
    named_made s (kept_from p s i0) _ (c.number_of-number.ensures ∙ ap number_of c.read_field.ensures ∙ says_numero s xa.child _ fa.text) (c.number_of-line.ensures ∙ ap number_of c.read_field-2.ensures ∙ says_progressivo s xb.child _ (fa.texts 1 (omega arith) ∙ fb.text)) (c.number_of-esercizio.ensures ∙ ap number_of c.read_field-3.ensures ∙ says_esercizio s xc.child _ (fa.texts 2 (omega arith) ∙ fb.texts 2 (omega arith) ∙ fc.text))
