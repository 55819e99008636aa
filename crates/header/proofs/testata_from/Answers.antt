use mathlib.Core.Path.{refl}
use Rattle.orders.proofs.Laws.{found, found_some}
use Rattle.header.proofs.Laws.{testata_made}
use Rattle.header.proofs.testata_from.Goals as goal

pub first_named-requires : goal.first_named-requires
first_named-requires c = let s = c.args.s.now in
    let p = c.args.parent in
    let q = c.requires.0 in
    let d = q.depth in
    (q.filled.within, c.requires.1, found_some d p s 0 c.args.from q.filled)

pub first_named-requires-2 : goal.first_named-requires-2
first_named-requires-2 c = let s = c.args.s.now in
    let p = c.args.parent in
    let q = c.requires.0 in
    let d = q.depth in
    let a = c.first_named.result in
    let fa = found d p s 0 c.args.from q.filled a c.first_named.ensures in
    (fa.lies.within, c.requires.1, found_some d p s 1 a.child.after fa.on)

pub first_named-requires-3 : goal.first_named-requires-3
first_named-requires-3 c = let s = c.args.s.now in
    let p = c.args.parent in
    let q = c.requires.0 in
    let d = q.depth in
    let a = c.first_named.result in
    let fa = found d p s 0 c.args.from q.filled a c.first_named.ensures in
    let b = c.first_named-2.result in
    let fb = found d p s 1 a.child.after fa.on b c.first_named-2.ensures in
    (fb.lies.within, c.requires.1, found_some d p s 2 b.child.after fb.on)

pub first_named-requires-4 : goal.first_named-requires-4
first_named-requires-4 c = let s = c.args.s.now in
    let p = c.args.parent in
    let q = c.requires.0 in
    let d = q.depth in
    let a = c.first_named.result in
    let fa = found d p s 0 c.args.from q.filled a c.first_named.ensures in
    let b = c.first_named-2.result in
    let fb = found d p s 1 a.child.after fa.on b c.first_named-2.ensures in
    let g = c.first_named-3.result in
    let fg = found d p s 2 b.child.after fb.on g c.first_named-3.ensures in
    (fg.lies.within, c.requires.1, found_some d p s 3 g.child.after fg.on)

pub span_of-requires : goal.span_of-requires
span_of-requires c = let s = c.args.s.now in
    let p = c.args.parent in
    let q = c.requires.0 in
    let d = q.depth in
    let a = c.first_named.result in
    let fa = found d p s 0 c.args.from q.filled a c.first_named.ensures in
    fa.lies.inner

pub span_of-requires-2 : goal.span_of-requires-2
span_of-requires-2 c = let s = c.args.s.now in
    let p = c.args.parent in
    let q = c.requires.0 in
    let d = q.depth in
    let a = c.first_named.result in
    let fa = found d p s 0 c.args.from q.filled a c.first_named.ensures in
    let b = c.first_named-2.result in
    let fb = found d p s 1 a.child.after fa.on b c.first_named-2.ensures in
    let g = c.first_named-3.result in
    let fg = found d p s 2 b.child.after fb.on g c.first_named-3.ensures in
    let h = c.first_named-4.result in
    let fh = found d p s 3 g.child.after fg.on h c.first_named-4.ensures in
    fh.lies.inner

pub returns : goal.returns
returns c = let s = c.args.s.now in
    let p = c.args.parent in
    let q = c.requires.0 in
    let d = q.depth in
    let a = c.first_named.result in
    let fa = found d p s 0 c.args.from q.filled a c.first_named.ensures in
    let b = c.first_named-2.result in
    let fb = found d p s 1 a.child.after fa.on b c.first_named-2.ensures in
    let g = c.first_named-3.result in
    let fg = found d p s 2 b.child.after fb.on g c.first_named-3.ensures in
    let h = c.first_named-4.result in
    let fh = found d p s 3 g.child.after fg.on h c.first_named-4.ensures in
    testata_made d p s c.args.from a b g h fa fb fg fh c.first_named.ensures c.first_named-4.ensures _ c.span_of.ensures.0 c.span_of.ensures.1 c.span_of-2.ensures.0 c.span_of-2.ensures.1 refl
