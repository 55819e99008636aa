use native.Mathlib.Omega.{arith}
use Rattle.bounds.specs.Bounds.{abi_length}
use Rattle.request.proofs.Laws.{request, needed_long}
use Rattle.contents.proofs.Laws.{length_part}
use Rattle.opening.proofs.Laws.{filled}
use Rattle.opening.proofs.fill.Goals as goal

pub length_for-requires : goal.length_for-requires
length_for-requires c = let q = c.args.q.now in
    let r = request q c.requires.0 in
    let long = needed_long q in
    let e = c.requires.1 in
    (e, omega (arith, r.few), omega (arith, r.whole))

pub slice_bounds-put_head-end : goal.slice_bounds-put_head-end
slice_bounds-put_head-end c = let q = c.args.q.now in
    let r = request q c.requires.0 in
    let long = needed_long q in
    let e = c.requires.1 in
    omega (arith, r.whole)

pub put_head-requires : goal.put_head-requires
put_head-requires c = let q = c.args.q.now in
    let r = request q c.requires.0 in
    let long = needed_long q in
    let e = c.requires.1 in
    (omega arith, length_part q 0 abi_length (omega (arith, r.whole)))

pub put_entries-requires : goal.put_entries-requires
put_entries-requires c = let q = c.args.q.now in
    let r = request q c.requires.0 in
    let long = needed_long q in
    let e = c.requires.1 in
    (omega (arith, r.few), omega (arith, r.whole), omega arith)

pub returns : goal.returns
returns c = filled c.args.q.now c.fill.new.self c.put_head.new.t c.put_entries.new.t c.args.n _ c.length_for.result c.requires.0 c.requires.1 c.requires.2 c.length_for.ensures (c.fill.ensures.after (λ y q. q)) c.put_head.ensures c.put_entries.ensures
