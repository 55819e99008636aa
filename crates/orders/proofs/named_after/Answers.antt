use mathlib.Core.Path.{sym, ◌∙◌}
use native.Mathlib.Omega.{arith}
use Rattle.orders.proofs.Laws.{found, found_some, named_there, named_shaped}
use Rattle.orders.proofs.named_after.Goals as goal

pub first_named-requires : goal.first_named-requires
first_named-requires c = let s = c.args.s.now in
    let p = c.args.parent in
    let i0 = c.args.from in
    (c.requires.1.within, c.requires.2, found_some 1 p s 2 i0 c.requires.1)

pub first_named-k-requires : goal.first_named-k-requires
first_named-k-requires c = let s = c.args.s.now in
    let p = c.args.parent in
    let i0 = c.args.from in
    let xa = c.first_named.result in
    let fa = found 1 p s 2 i0 c.requires.1 xa c.first_named.ensures in
    let i1 = xa.child.after in
    (fa.lies.within, c.requires.2, found_some 1 p s 3 i1 fa.on)

pub named_of-requires : goal.named_of-requires
named_of-requires c = let s = c.args.s.now in
    let p = c.args.parent in
    let i0 = c.args.from in
    let xa = c.first_named.result in
    let fa = found 1 p s 2 i0 c.requires.1 xa c.first_named.ensures in
    let i1 = xa.child.after in
    let xb = c.first_named-k.result in
    let fb = found 1 p s 3 i1 fa.on xb c.first_named-k.ensures in
    let i2 = xb.child.after in
    (named_shaped p s i1 c.requires.3 fa.on xb c.first_named-k.ensures, c.requires.2)

pub returns : goal.returns
returns c = let s = c.args.s.now in
    let p = c.args.parent in
    let i0 = c.args.from in
    let xa = c.first_named.result in
    let fa = found 1 p s 2 i0 c.requires.1 xa c.first_named.ensures in
    let i1 = xa.child.after in
    let xb = c.first_named-k.result in
    let fb = found 1 p s 3 i1 fa.on xb c.first_named-k.ensures in
    let i2 = xb.child.after in
    c.named_of.ensures ∙ sym (named_there p s i0 i1 xb (fa.later 3 (omega arith)) c.first_named-k.ensures fb.row)
