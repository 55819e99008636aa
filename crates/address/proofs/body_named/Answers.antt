use mathlib.Core.Path.{refl}
use native.Mathlib.Omega.{arith}
use Rattle.address.proofs.Laws.{row, found_of, to_body}
use Rattle.address.proofs.body_named.Goals as goal

pub overflow_mul-e : goal.overflow_mul-e
overflow_mul-e c = let r = row c.args.t.now c.args.code.now c.requires c.in_ok-b.b (found_of c.find_body.ensures c.ok_or.ensures.value c.in_ok-b.was) in
    omega (arith, r.ends, r.fits)

pub overflow_add-e : goal.overflow_add-e
overflow_add-e c = let r = row c.args.t.now c.args.code.now c.requires c.in_ok-b.b (found_of c.find_body.ensures c.ok_or.ensures.value c.in_ok-b.was) in
    omega (arith, r.ends, r.fits)

pub place_of-requires : goal.place_of-requires
place_of-requires c = let r = row c.args.t.now c.args.code.now c.requires c.in_ok-b.b (found_of c.find_body.ensures c.ok_or.ensures.value c.in_ok-b.was) in
    omega (arith, r.ends)

pub slots_of-requires : goal.slots_of-requires
slots_of-requires c = let r = row c.args.t.now c.args.code.now c.requires c.in_ok-b.b (found_of c.find_body.ensures c.ok_or.ensures.value c.in_ok-b.was) in
    omega (arith, r.ends)

pub returns : goal.returns
returns c = to_body c.args.t.now c.args.code.now (found_of c.find_body.ensures c.ok_or.ensures.value c.in_ok-b.was) refl c.place_of.ensures.0 c.slots_of.ensures.0
