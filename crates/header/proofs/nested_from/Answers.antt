use Rattle.std.specs.Prelude.{Some}
use mathlib.Core.Path.{◌≡◌, refl, sym, ap, ◌∙◌}
use native.Mathlib.Omega.{arith}
use Rattle.schema.specs.declared.Parent.TheVariants.{FlussoOpi, TestataFlusso}
use Rattle.rows.specs.Kept.{kept_from, next_of}
use Rattle.orders.specs.Said.{number_of}
use Rattle.orders.specs.Orders.{in_row}
use Rattle.orders.proofs.Laws.{row_one, found, found_some, says_esercizio}
use Rattle.editions.specs.declared.Edition.TheVariants.{Opi}
use Rattle.header.specs.Heading.{testata_in}
use Rattle.header.proofs.Laws.{nested, heading_made}
use Rattle.header.proofs.nested_from.Goals as goal

pub first_named-requires : goal.first_named-requires
first_named-requires c = let s = c.args.s.now in
    let i = c.args.from in
    let p = FlussoOpi in
    (c.requires.0.within, c.requires.1, found_some 3 p s 0 i c.requires.0)

pub overflow_add-k : goal.overflow_add-k
overflow_add-k c = let s = c.args.s.now in
    let i = c.args.from in
    let p = FlussoOpi in
    let k = c.first_named.result in
    let f = found 3 p s 0 i c.requires.0 k c.first_named.ensures in
    let l = f.lies in
    omega arith

pub white_end-inner-requires : goal.white_end-inner-requires
white_end-inner-requires c = let s = c.args.s.now in
    let i = c.args.from in
    let p = FlussoOpi in
    let k = c.first_named.result in
    let f = found 3 p s 0 i c.requires.0 k c.first_named.ensures in
    let l = f.lies in
    omega arith

pub testata_from-t-requires : goal.testata_from-t-requires
testata_from-t-requires c = let s = c.args.s.now in
    let i = c.args.from in
    let p = FlussoOpi in
    let k = c.first_named.result in
    let f = found 3 p s 0 i c.requires.0 k c.first_named.ensures in
    let l = f.lies in
    let n = nested s i k c.requires.0 c.first_named.ensures in
    rw c.white_end-inner.ensures (record { depth = 2; others = _; filled = n.inner.filled }, c.requires.1)

pub first_named-requires-2 : goal.first_named-requires-2
first_named-requires-2 c = let s = c.args.s.now in
    let i = c.args.from in
    let p = FlussoOpi in
    let k = c.first_named.result in
    let f = found 3 p s 0 i c.requires.0 k c.first_named.ensures in
    let l = f.lies in
    (l.within, c.requires.1, found_some 3 p s 1 k.child.after f.on)

pub read_field-requires : goal.read_field-requires
read_field-requires c = let s = c.args.s.now in
    let i = c.args.from in
    let p = FlussoOpi in
    let k = c.first_named.result in
    let f = found 3 p s 0 i c.requires.0 k c.first_named.ensures in
    let l = f.lies in
    let e = c.first_named-2.result in
    let j = k.child.after in
    let g = found 3 p s 1 j f.on e c.first_named-2.ensures in
    let m = g.lies in
    (m.inner, omega arith)

pub returns : goal.returns
returns c = let s = c.args.s.now in
    let i = c.args.from in
    let p = FlussoOpi in
    let k = c.first_named.result in
    let f = found 3 p s 0 i c.requires.0 k c.first_named.ensures in
    let l = f.lies in
    let n = nested s i k c.requires.0 c.first_named.ensures in
    let e = c.first_named-2.result in
    let j = k.child.after in
    let g = found 3 p s 1 j f.on e c.first_named-2.ensures in
    let x : next_of (in_row 1 (kept_from p s i)) ≡ Some e = ap next_of (f.later 1 (omega arith) ∙ row_one 1 p s j e c.first_named-2.ensures g.row) in
    let t : c.testata_from-t.result ≡ testata_in (kept_from TestataFlusso s c.white_end-inner.result) = c.testata_from-t.ensures in
    heading_made Opi s i e x c.testata_from-t.result (t ∙ ap (λ (w : _). testata_in (kept_from TestataFlusso s w)) c.white_end-inner.ensures ∙ ap testata_in (sym n.own)) _ refl refl (c.number_of-esercizio.ensures ∙ ap number_of c.read_field.ensures ∙ says_esercizio s e.child _ refl) refl
