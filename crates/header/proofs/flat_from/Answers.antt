use Rattle.std.specs.Prelude.{Some}
use mathlib.Core.Path.{◌≡◌, refl, ap, ◌∙◌}
use native.Mathlib.Omega.{arith}
use Rattle.schema.specs.declared.Parent.TheVariants.{FlussoOrdinativi}
use Rattle.rows.specs.Kept.{kept_from, next_of}
use Rattle.orders.specs.Said.{number_of}
use Rattle.orders.specs.Orders.{in_row}
use Rattle.orders.proofs.Laws.{row_one, found, found_some, says_esercizio}
use Rattle.editions.specs.declared.Edition.TheVariants.{Oil}
use Rattle.header.specs.Heading.{testata_in}
use Rattle.header.proofs.Laws.{four_past, heading_made}
use Rattle.header.proofs.flat_from.Goals as goal

pub first_named-requires : goal.first_named-requires
first_named-requires c = let s = c.args.s.now in
    let i = c.args.from in
    let p = FlussoOrdinativi in
    let j = (testata_in (kept_from p s i)).after in
    let q = four_past 3 p s i c.requires.0 in
    let t = c.testata_from-t.ensures in
    rw t (q.on.within, c.requires.1, found_some 3 p s 4 j q.on)

pub read_field-requires : goal.read_field-requires
read_field-requires c = let s = c.args.s.now in
    let i = c.args.from in
    let p = FlussoOrdinativi in
    let j = (testata_in (kept_from p s i)).after in
    let q = four_past 3 p s i c.requires.0 in
    let t = c.testata_from-t.ensures in
    let k = c.first_named.result in
    let n : next_of (kept_from p s j) ≡ Some k = rw (← t) c.first_named.ensures in
    let f = found 3 p s 4 j q.on k n in
    let l = f.lies in
    (l.inner, omega arith)

pub returns : goal.returns
returns c = let s = c.args.s.now in
    let i = c.args.from in
    let p = FlussoOrdinativi in
    let j = (testata_in (kept_from p s i)).after in
    let q = four_past 3 p s i c.requires.0 in
    let t = c.testata_from-t.ensures in
    let k = c.first_named.result in
    let n : next_of (kept_from p s j) ≡ Some k = rw (← t) c.first_named.ensures in
    let f = found 3 p s 4 j q.on k n in
    let x : next_of (in_row 4 (kept_from p s i)) ≡ Some k = ap next_of (q.later 4 (omega arith) ∙ row_one 4 p s j k n f.row) in
    heading_made Oil s i k x c.testata_from-t.result t _ refl refl (c.number_of-esercizio.ensures ∙ ap number_of c.read_field.ensures ∙ says_esercizio s k.child _ refl) refl
