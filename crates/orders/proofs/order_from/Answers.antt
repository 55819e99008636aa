use mathlib.Core.Path.{sym, ap, ◌∙◌}
use native.Mathlib.Omega.{arith}
use Rattle.schema.specs.declared.Holds.TheVariants.{Rows}
use Rattle.rows.specs.Kept.{kept_from}
use Rattle.orders.specs.Orders.{kind_of}
use Rattle.orders.specs.Said.{number_of, date_read, said_operation}
use Rattle.orders.proofs.Laws.{found, found_some, says_operazione, says_numero, says_data, says_importo, lines_same, order_made}
use Rattle.orders.proofs.order_from.Goals as goal

pub first_named-requires : goal.first_named-requires
first_named-requires c = (c.requires.1.within, c.requires.2, found_some 2 c.args.parent c.args.s.now 0 c.args.from c.requires.1)

pub read_field-requires : goal.read_field-requires
read_field-requires c = let s = c.args.s.now in
    let p = c.args.parent in
    let i0 = c.args.from in
    let xa = c.first_named.result in
    let fa = found 2 p s 0 i0 c.requires.1 xa c.first_named.ensures in
    let i1 = xa.child.after in
    let l = fa.lies in
    (l.inner, omega arith)

pub first_named-requires-2 : goal.first_named-requires-2
first_named-requires-2 c = let s = c.args.s.now in
    let p = c.args.parent in
    let i0 = c.args.from in
    let xa = c.first_named.result in
    let fa = found 2 p s 0 i0 c.requires.1 xa c.first_named.ensures in
    let i1 = xa.child.after in
    (fa.lies.within, c.requires.2, found_some 2 p s 1 i1 fa.on)

pub read_field-requires-2 : goal.read_field-requires-2
read_field-requires-2 c = let s = c.args.s.now in
    let p = c.args.parent in
    let i0 = c.args.from in
    let xa = c.first_named.result in
    let fa = found 2 p s 0 i0 c.requires.1 xa c.first_named.ensures in
    let i1 = xa.child.after in
    let xb = c.first_named-2.result in
    let fb = found 2 p s 1 i1 fa.on xb c.first_named-2.ensures in
    let i2 = xb.child.after in
    let l = fb.lies in
    (l.inner, omega arith)

pub first_named-requires-3 : goal.first_named-requires-3
first_named-requires-3 c = let s = c.args.s.now in
    let p = c.args.parent in
    let i0 = c.args.from in
    let xa = c.first_named.result in
    let fa = found 2 p s 0 i0 c.requires.1 xa c.first_named.ensures in
    let i1 = xa.child.after in
    let xb = c.first_named-2.result in
    let fb = found 2 p s 1 i1 fa.on xb c.first_named-2.ensures in
    let i2 = xb.child.after in
    (fb.lies.within, c.requires.2, found_some 2 p s 2 i2 fb.on)

pub read_field-requires-3 : goal.read_field-requires-3
read_field-requires-3 c = let s = c.args.s.now in
    let p = c.args.parent in
    let i0 = c.args.from in
    let xa = c.first_named.result in
    let fa = found 2 p s 0 i0 c.requires.1 xa c.first_named.ensures in
    let i1 = xa.child.after in
    let xb = c.first_named-2.result in
    let fb = found 2 p s 1 i1 fa.on xb c.first_named-2.ensures in
    let i2 = xb.child.after in
    let xc = c.first_named-3.result in
    let fc = found 2 p s 2 i2 fb.on xc c.first_named-3.ensures in
    let i3 = xc.child.after in
    let l = fc.lies in
    (l.inner, omega arith)

pub first_named-requires-4 : goal.first_named-requires-4
first_named-requires-4 c = let s = c.args.s.now in
    let p = c.args.parent in
    let i0 = c.args.from in
    let xa = c.first_named.result in
    let fa = found 2 p s 0 i0 c.requires.1 xa c.first_named.ensures in
    let i1 = xa.child.after in
    let xb = c.first_named-2.result in
    let fb = found 2 p s 1 i1 fa.on xb c.first_named-2.ensures in
    let i2 = xb.child.after in
    let xc = c.first_named-3.result in
    let fc = found 2 p s 2 i2 fb.on xc c.first_named-3.ensures in
    let i3 = xc.child.after in
    (fc.lies.within, c.requires.2, found_some 2 p s 3 i3 fc.on)

pub read_field-requires-4 : goal.read_field-requires-4
read_field-requires-4 c = let s = c.args.s.now in
    let p = c.args.parent in
    let i0 = c.args.from in
    let xa = c.first_named.result in
    let fa = found 2 p s 0 i0 c.requires.1 xa c.first_named.ensures in
    let i1 = xa.child.after in
    let xb = c.first_named-2.result in
    let fb = found 2 p s 1 i1 fa.on xb c.first_named-2.ensures in
    let i2 = xb.child.after in
    let xc = c.first_named-3.result in
    let fc = found 2 p s 2 i2 fb.on xc c.first_named-3.ensures in
    let i3 = xc.child.after in
    let xd = c.first_named-4.result in
    let fd = found 2 p s 3 i3 fc.on xd c.first_named-4.ensures in
    let i4 = xd.child.after in
    let l = fd.lies in
    (l.inner, omega arith)

pub lines_from-lines-requires : goal.lines_from-lines-requires
lines_from-lines-requires c = let s = c.args.s.now in
    let p = c.args.parent in
    let i0 = c.args.from in
    let xa = c.first_named.result in
    let fa = found 2 p s 0 i0 c.requires.1 xa c.first_named.ensures in
    let i1 = xa.child.after in
    let xb = c.first_named-2.result in
    let fb = found 2 p s 1 i1 fa.on xb c.first_named-2.ensures in
    let i2 = xb.child.after in
    let xc = c.first_named-3.result in
    let fc = found 2 p s 2 i2 fb.on xc c.first_named-3.ensures in
    let i3 = xc.child.after in
    let xd = c.first_named-4.result in
    let fd = found 2 p s 3 i3 fc.on xd c.first_named-4.ensures in
    let i4 = xd.child.after in
    (c.requires.0, fd.on, c.requires.2)

pub returns : goal.returns
returns c = let s = c.args.s.now in
    let p = c.args.parent in
    let i0 = c.args.from in
    let xa = c.first_named.result in
    let fa = found 2 p s 0 i0 c.requires.1 xa c.first_named.ensures in
    let i1 = xa.child.after in
    let xb = c.first_named-2.result in
    let fb = found 2 p s 1 i1 fa.on xb c.first_named-2.ensures in
    let i2 = xb.child.after in
    let xc = c.first_named-3.result in
    let fc = found 2 p s 2 i2 fb.on xc c.first_named-3.ensures in
    let i3 = xc.child.after in
    let xd = c.first_named-4.result in
    let fd = found 2 p s 3 i3 fc.on xd c.first_named-4.ensures in
    let i4 = xd.child.after in
    let t1 = fa.texts 1 (omega arith) ∙ fb.text in
    let t2 = fa.texts 2 (omega arith) ∙ fb.texts 2 (omega arith) ∙ fc.text in
    let t3 = fa.texts 3 (omega arith) ∙ fb.texts 3 (omega arith) ∙ fc.texts 3 (omega arith) ∙ fd.text in
    let r = fa.later 4 (omega arith) ∙ fb.later 4 (omega arith) ∙ fc.later 4 (omega arith) ∙ fd.later 4 (omega arith) in
    let w = c.lines_from-lines.ensures.0 ∙ sym (lines_same s (kept_from p s i0) (kept_from p s i4) r) in
    let u0 = c.operation_of-operation.ensures ∙ ap said_operation c.read_field.ensures ∙ says_operazione s xa.child _ fa.text in
    let u1 = c.number_of-number.ensures ∙ ap number_of c.read_field-2.ensures ∙ says_numero s xb.child _ t1 in
    let u2 = c.day_of-date.ensures ∙ ap date_read c.read_field-3.ensures ∙ says_data s xc.child _ t2 in
    let u3 = c.number_of-total.ensures ∙ ap number_of c.read_field-4.ensures ∙ says_importo s xd.child _ t3 in
    (order_made (kind_of (Rows p)) s (kept_from p s i0) _ c.kind_of.ensures u0 u1 u2 u3 w, c.lines_from-lines.ensures.1)
