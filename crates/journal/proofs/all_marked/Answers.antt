use Prim.Native.Nat.{ℕ, ◌+◌, ◌-◌, ◌*◌}
use mathlib.Core.Path.{◌≡◌, sym, ap, ◌∙◌}
use native.Mathlib.Omega.{arith}
use borrow.Author.Tests.{not-true, not-false}
use Rattle.record.specs.Slot.{slot_size}
use Rattle.slots.specs.Slots.{slots_at}
use Rattle.slots.proofs.Laws.{slots_none}
use Rattle.journal.specs.Inner.{all_marked}
use Rattle.journal.proofs.Marks.{all_done, all_turn, all_stop}
use Rattle.journal.proofs.all_marked.Goals as goal

pub loop-i-init : goal.loop-i-init
loop-i-init c = let q : c.args.used - 0 ≡ c.args.used = omega arith in
    let z : c.args.base ≡ c.args.base + slot_size * 0 = omega arith in
    (omega arith, λ i. all_marked c.args.marks.now 0 (slots_at c.args.t.now (z i) (sym q i)))

pub returns-then-not-lines_marked : goal.returns-then-not-lines_marked
returns-then-not-lines_marked c = sym (c.loop-i.invariant.1 ∙ all_stop c.args.marks.now (8 * c.loop-i.i) c.args.t.now (c.args.base + slot_size * c.loop-i.i) (c.args.used - c.loop-i.i) (c.args.used - (c.loop-i.i + 1)) (omega arith) c.lines_marked.ensures (not-true _ c.if-not-lines_marked.true-raw))

pub loop-i-preserved : goal.loop-i-preserved
loop-i-preserved c = let q : 8 * c.loop-i.i + 8 ≡ 8 * (c.loop-i.i + 1) = omega arith in
    let z : c.args.base + slot_size * c.loop-i.i + slot_size ≡ c.args.base + slot_size * (c.loop-i.i + 1) = omega arith in (
      omega arith,
      c.loop-i.invariant.1 ∙ all_turn c.args.marks.now (8 * c.loop-i.i) c.args.t.now (c.args.base + slot_size * c.loop-i.i) (c.args.used - c.loop-i.i) (c.args.used - (c.loop-i.i + 1)) (omega arith) c.lines_marked.ensures (not-false _ c.if-not-lines_marked.false-raw) ∙ ap (λ (x : ℕ). all_marked c.args.marks.now x (slots_at c.args.t.now ((c.args.base + slot_size * c.loop-i.i) + slot_size) (c.args.used - (c.loop-i.i + 1)))) q
          ∙ ap (λ (x : ℕ). all_marked c.args.marks.now (8 * (c.loop-i.i + 1)) (slots_at c.args.t.now x (c.args.used - (c.loop-i.i + 1)))) z,
    )

pub returns : goal.returns
returns c = sym (c.loop-i.invariant.1 ∙ all_done c.args.marks.now (8 * c.loop-i.i) (slots_none c.args.t.now (c.args.base + slot_size * c.loop-i.i) (c.args.used - c.loop-i.i) (omega arith)))
