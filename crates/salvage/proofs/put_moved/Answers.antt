use Rattle.std.proofs.Common.{◌≡◌, ◌∙◌, ℕ, ◌+◌, ◌-◌, ◌*◌, List, arith, refl, sym, ap}
use Rattle.table.specs.Table.{entry_of}
use Rattle.words.specs.Numbers.{put, bytes2}
use Rattle.keeping.specs.Keeping.{each_bytes}
use Rattle.keeping.proofs.Laws.{put_more, put_none}
use Rattle.salvage.specs.Salvage.{moved_in}
use Rattle.salvage.proofs.Laws.{turn_inside, turn_slots, few_bodies, moved_more, moved_done}
use Rattle.salvage.proofs.put_moved.Goals as goal

pub place_of-base-requires : goal.place_of-base-requires
place_of-base-requires c = omega (arith, turn_inside c.args.t.now c.requires.0 (entry_of c.loop-i.i) (c.args.n - c.loop-i.i) c.requires.1 (omega arith) (omega arith))

pub slots_of-slots-requires : goal.slots_of-slots-requires
slots_of-slots-requires c = omega (arith, turn_inside c.args.t.now c.requires.0 (entry_of c.loop-i.i) (c.args.n - c.loop-i.i) c.requires.1 (omega arith) (omega arith))

pub closed_of-closed-requires : goal.closed_of-closed-requires
closed_of-closed-requires c = omega (arith, turn_inside c.args.t.now c.requires.0 (entry_of c.loop-i.i) (c.args.n - c.loop-i.i) c.requires.1 (omega arith) (omega arith))

pub moved_in-requires : goal.moved_in-requires
moved_in-requires c = turn_slots c.args.t.now c.requires.0 (entry_of c.loop-i.i) (c.args.n - c.loop-i.i) c.requires.1 (omega arith) (omega arith) c.place_of-base.ensures.0 c.slots_of-slots.ensures.0

pub loop-i-preserved : goal.loop-i-preserved
loop-i-preserved c = let l = c.loop-i in
    let k = moved_more c.args.t.now c.args.n c.loop-i.i (omega arith) c.place_of-base.ensures.0 c.slots_of-slots.ensures.0 c.closed_of-closed.ensures.0 in
    let z = moved_in c.args.t.now (entry_of (l.i + 1)) (c.args.n - (l.i + 1)) in
    let q : 2 * l.i + 2 ≡ 2 * (l.i + 1) = omega arith in
    l.invariant ∙ ap (λ (vs : List ℕ). put l.r (2 * l.i) (each_bytes bytes2 vs)) k
    ∙ put_more bytes2 l.r (2 * l.i) _ 2 _ z refl (omega arith) (c.write2.ensures ∙ ap (λ (v : ℕ). put l.r (2 * l.i) (bytes2 v)) c.moved_in.ensures)
    ∙ ap (λ (p : ℕ). put c.write2.new.s p (each_bytes bytes2 z)) q

pub returns : goal.returns
returns c = let l = c.loop-i in
    sym (l.invariant ∙ ap (λ (vs : List ℕ). put l.r (2 * l.i) (each_bytes bytes2 vs)) (moved_done c.args.t.now (entry_of c.loop-i.i) (c.args.n - c.loop-i.i) (omega arith)) ∙ put_none bytes2 l.r (2 * l.i))

pub overflow_mul-at : goal.overflow_mul-at
overflow_mul-at c = omega (arith, few_bodies c.args.t.now c.requires.0, c.requires.1)

pub overflow_add-at : goal.overflow_add-at
overflow_add-at c = omega (arith, few_bodies c.args.t.now c.requires.0, c.requires.1)
