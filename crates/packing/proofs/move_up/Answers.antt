use Prim.Native.Nat.{ℕ, ◌+◌, ◌*◌, ◌≤◌}
use mathlib.Core.Path.{ap, ◌∙◌}
use mathlib.Core.List.{List}
use lib.Seq.{take_all}
use native.Mathlib.Omega.{arith}
use lib.ListN.{length}
use Rattle.words.specs.Numbers.{put}
use Rattle.record.specs.Slot.{slot_size}
use Rattle.packing.specs.Packing.{chosen_count, chosen_bytes}
use Rattle.packing.proofs.Laws.{kept_more, kept_same, slot_left, slot_kept, none_moved, none_kept}
use Rattle.packing.proofs.move_up.Goals as goal
use Rattle.packing.proofs.move_up.Goals.{then-flag-eq1, else-flag-eq1}

pub loop-i-init : goal.loop-i-init
loop-i-init c = let a = c.args in (omega arith, none_kept a.flags.now, none_moved a.t.now a.base a.flags.now)

pub loop-i-preserved : goal.loop-i-preserved
loop-i-preserved c = let l = c.loop-i in
    let a = c.args in
    let fits : a.base + slot_size * length a.flags.now ≤ length a.t.now = omega arith in
    let below : l.i + 1 ≤ length a.flags.now = omega arith in
    elim c.if-flag-eq1.branch [
      | then-flag-eq1 w ↦
          let k = slot_kept a.t.now l.t a.base a.flags.now l.i fits (omega arith) l.invariant.2 _ l.to l.invariant.1 w.if-flag-eq1.true (w.t-is ∙ w.move_slot.ensures) in (
            omega (arith, w.to-is),
            omega (arith, w.to-is, kept_more a.t.now l.t a.base a.flags.now l.i fits (omega arith) l.invariant.2 w.if-flag-eq1.true),
            k,
          )
      | else-flag-eq1 w ↦ (
        omega (arith, w.to-is),
        omega (arith, w.to-is, kept_same a.t.now l.t a.base a.flags.now l.i fits (omega arith) l.invariant.2 w.if-flag-eq1.false),
        w.t-is ∙ slot_left a.t.now l.t a.base a.flags.now l.i fits (omega arith) l.invariant.2 w.if-flag-eq1.false,
      )
    ]

pub returns : goal.returns
returns c = let l = c.loop-i in
    let a = c.args in
    let e = take_all l.i a.flags.now (omega arith) in
    (l.invariant.1 ∙ ap chosen_count e, omega arith, l.invariant.2 ∙ ap (λ (fs : List ℕ). put a.t.now a.base (chosen_bytes a.t.now a.base fs)) e)
