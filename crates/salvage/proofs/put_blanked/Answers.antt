use Rattle.std.proofs.Common.{◌≡◌, ◌∙◌, ℕ, ◌+◌, ◌-◌, ◌*◌, List, length, arith, sym, ap}
use Rattle.table.specs.Table.{head_size, entry_of, bodies}
use Rattle.words.specs.Numbers.{put, bytes4}
use Rattle.keeping.specs.Keeping.{keeps_at, blanked_from, each_bytes}
use Rattle.keeping.proofs.Laws.{put_none}
use Rattle.salvage.specs.Salvage.{blanked_in}
use Rattle.salvage.proofs.Laws.{turn_inside, turn_slots, few_bodies, count_more, blanked_more, blanked_done, places_more, each_four}
use Rattle.salvage.proofs.put_blanked.Goals as goal

pub overflow_mul-to : goal.overflow_mul-to
overflow_mul-to c = let w = few_bodies c.args.t.now c.requires.0 in
    omega (arith, c.requires.1)

pub loop-i-init : goal.loop-i-init
loop-i-init c = let e : bodies c.args.t.now ≡ c.args.n - 0 = omega (arith, c.requires.1) in
    (ap (λ (m : ℕ). 2 * c.args.n + 4 * length (blanked_in c.args.t.now head_size m)) e, ap (λ (m : ℕ). put c.args.r.now (2 * c.args.n) (each_bytes bytes4 (blanked_in c.args.t.now head_size m))) e)

pub place_of-base-requires : goal.place_of-base-requires
place_of-base-requires c = omega (arith, turn_inside c.args.t.now c.requires.0 (entry_of c.loop-i.i) (c.args.n - c.loop-i.i) c.requires.1 (omega arith) (omega arith))

pub slots_of-slots-requires : goal.slots_of-slots-requires
slots_of-slots-requires c = omega (arith, turn_inside c.args.t.now c.requires.0 (entry_of c.loop-i.i) (c.args.n - c.loop-i.i) c.requires.1 (omega arith) (omega arith))

pub closed_of-closed-requires : goal.closed_of-closed-requires
closed_of-closed-requires c = omega (arith, turn_inside c.args.t.now c.requires.0 (entry_of c.loop-i.i) (c.args.n - c.loop-i.i) c.requires.1 (omega arith) (omega arith))

pub places_in-to-requires : goal.places_in-to-requires
places_in-to-requires c = let b = turn_slots c.args.t.now c.requires.0 (entry_of c.loop-i.i) (c.args.n - c.loop-i.i) c.requires.1 (omega arith) (omega arith) c.place_of-base.ensures.0 c.slots_of-slots.ensures.0 in
    let k = count_more c.args.t.now c.args.n c.loop-i.i (omega arith) c.place_of-base.ensures.0 c.slots_of-slots.ensures.0 c.closed_of-closed.ensures.0 in
    (b.0, b.1, omega (arith, c.loop-i.invariant.0))

pub loop-i-preserved : goal.loop-i-preserved
loop-i-preserved c = let l = c.loop-i in
    let k = count_more c.args.t.now c.args.n c.loop-i.i (omega arith) c.place_of-base.ensures.0 c.slots_of-slots.ensures.0 c.closed_of-closed.ensures.0 in
    let xs = blanked_from c.args.t.now c.place_of-base.result (keeps_at c.closed_of-closed.result c.args.t.now c.place_of-base.result c.slots_of-slots.result) in
    let ys = blanked_in c.args.t.now (entry_of (l.i + 1)) (c.args.n - (l.i + 1)) in
    let m = each_four xs in (
      l.invariant.0 ∙ omega (arith, c.places_in-to.ensures.0),
      l.invariant.1 ∙ places_more l.r _ l.to _ (blanked_in c.args.t.now (entry_of l.i) (c.args.n - l.i)) xs ys (blanked_more c.args.t.now c.args.n c.loop-i.i (omega arith) c.place_of-base.ensures.0 c.slots_of-slots.ensures.0 c.closed_of-closed.ensures.0) (omega (arith, l.invariant.0)) c.places_in-to.ensures.0 c.places_in-to.ensures.1,
    )

pub returns : goal.returns
returns c = let l = c.loop-i in
    sym (l.invariant.1 ∙ ap (λ (vs : List ℕ). put l.r l.to (each_bytes bytes4 vs)) (blanked_done c.args.t.now (entry_of c.loop-i.i) (c.args.n - c.loop-i.i) (omega arith)) ∙ put_none bytes4 l.r l.to)

pub overflow_mul-at : goal.overflow_mul-at
overflow_mul-at c = omega (arith, few_bodies c.args.t.now c.requires.0, c.requires.1)

pub overflow_add-at : goal.overflow_add-at
overflow_add-at c = omega (arith, few_bodies c.args.t.now c.requires.0, c.requires.1)
