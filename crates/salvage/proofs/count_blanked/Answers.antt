use Rattle.std.proofs.Common.{◌≡◌, ◌∙◌, ℕ, ◌-◌, length, arith, ap}
use Rattle.table.specs.Table.{head_size, entry_of, bodies}
use Rattle.salvage.specs.Salvage.{blanked_in}
use Rattle.salvage.proofs.Laws.{turn_inside, turn_slots, few_bodies, count_more, blanked_done}
use Rattle.salvage.proofs.count_blanked.Goals as goal

pub loop-i-init : goal.loop-i-init
loop-i-init c = let e : bodies c.args.t.now ≡ c.args.n - 0 = omega (arith, c.requires.1) in
    (ap (λ (m : ℕ). length (blanked_in c.args.t.now head_size m)) e ∙ omega arith, omega arith)

pub place_of-base-requires : goal.place_of-base-requires
place_of-base-requires c = omega (arith, turn_inside c.args.t.now c.requires.0 (entry_of c.loop-i.i) (c.args.n - c.loop-i.i) c.requires.1 (omega arith) (omega arith))

pub slots_of-slots-requires : goal.slots_of-slots-requires
slots_of-slots-requires c = omega (arith, turn_inside c.args.t.now c.requires.0 (entry_of c.loop-i.i) (c.args.n - c.loop-i.i) c.requires.1 (omega arith) (omega arith))

pub closed_of-closed-requires : goal.closed_of-closed-requires
closed_of-closed-requires c = omega (arith, turn_inside c.args.t.now c.requires.0 (entry_of c.loop-i.i) (c.args.n - c.loop-i.i) c.requires.1 (omega arith) (omega arith))

pub blanked_in-count-requires : goal.blanked_in-count-requires
blanked_in-count-requires c = turn_slots c.args.t.now c.requires.0 (entry_of c.loop-i.i) (c.args.n - c.loop-i.i) c.requires.1 (omega arith) (omega arith) c.place_of-base.ensures.0 c.slots_of-slots.ensures.0

pub overflow_add-count : goal.overflow_add-count
overflow_add-count c = omega (arith, few_bodies c.args.t.now c.requires.0, c.requires.1)

pub loop-i-preserved : goal.loop-i-preserved
loop-i-preserved c = let b = turn_slots c.args.t.now c.requires.0 (entry_of c.loop-i.i) (c.args.n - c.loop-i.i) c.requires.1 (omega arith) (omega arith) c.place_of-base.ensures.0 c.slots_of-slots.ensures.0 in
    let k = count_more c.args.t.now c.args.n c.loop-i.i (omega arith) c.place_of-base.ensures.0 c.slots_of-slots.ensures.0 c.closed_of-closed.ensures.0 in
    (c.loop-i.invariant.0 ∙ omega (arith, c.blanked_in-count.ensures.0), omega (arith, c.blanked_in-count.ensures.1))

pub returns : goal.returns
returns c = let k = ap length (blanked_done c.args.t.now (entry_of c.loop-i.i) (c.args.n - c.loop-i.i) (omega arith)) in
    (omega (arith, c.loop-i.invariant.0), omega arith)

pub overflow_mul-at : goal.overflow_mul-at
overflow_mul-at c = omega (arith, few_bodies c.args.t.now c.requires.0, c.requires.1)

pub overflow_add-at : goal.overflow_add-at
overflow_add-at c = omega (arith, few_bodies c.args.t.now c.requires.0, c.requires.1)
