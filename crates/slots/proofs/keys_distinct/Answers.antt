use Rattle.std.proofs.Common.{◌≡◌, ℕ, ◌+◌, ◌-◌, ◌*◌, refl, sym, ap, ◌∙◌, arith}
use borrow.Author.Tests.{not-true, not-false}
use lib.ListN.{length-replicate}
use Rattle.record.specs.Slot.{slot_size, record_at, key_of}
use Rattle.slots.proofs.Laws.{slots_none, distinct_nil}
use Rattle.slots.proofs.Filter.{marked_none, unmarked, repeated, one_more, distinct_all}
use Rattle.slots.proofs.keys_distinct.Goals as goal

pub loop-later-init : goal.loop-later-init
loop-later-init c = let e = slots_none c.args.t.now (c.args.base + slot_size * (c.args.n - 0)) 0 refl in
    (distinct_nil e, marked_none (length-replicate {A = ℕ} 4096 0) e)

pub bounds-seen-h : goal.bounds-seen-h
bounds-seen-h c = omega (arith, c.loop-later.invariant.1.size, c.mark_of-h.ensures.1)

pub key_new-requires : goal.key_new-requires
key_new-requires c = (omega arith, unmarked c.key_at-key.result c.mark_of-h.result c.loop-later.invariant.1 c.mark_of-h.ensures.0)

pub returns-then-not-key_new : goal.returns-then-not-key_new
returns-then-not-key_new c = let a = c.args in
    let j = c.loop-later.later in
    let next = a.base + slot_size * (a.n - j) in
    sym (repeated a.t.now a.base a.n next j (next - slot_size) (omega arith) (omega arith) (omega arith) c.key_at-key.ensures (sym c.key_new.ensures ∙ not-true _ c.if-not-key_new.true-raw))

pub bounds-seen-h-in-loop-later : goal.bounds-seen-h-in-loop-later
bounds-seen-h-in-loop-later c = omega (arith, c.loop-later.invariant.1.size, c.mark_of-h.ensures.1)

pub loop-later-preserved : goal.loop-later-preserved
loop-later-preserved c = let a = c.args in
    let j = c.loop-later.later in
    let next = a.base + slot_size * (a.n - j) in
    let at = a.base + slot_size * (a.n - (j + 1)) in
    let q : next - slot_size ≡ at = omega arith in
    one_more a.t.now a.base a.n next j at (omega arith) (omega arith) (omega arith) (c.key_at-key.ensures ∙ ap (λ (p : ℕ). key_of (record_at a.t.now p)) q) c.mark_of-h.result c.mark_of-h.ensures.0 c.mark_of-h.ensures.1 (sym c.key_new.ensures ∙ not-false _ c.if-not-key_new.false-raw) c.loop-later.invariant

pub returns : goal.returns
returns c = let a = c.args in
    let j = c.loop-later.later in
    sym (distinct_all a.t.now a.base a.n (a.base + slot_size * (a.n - j)) j (omega arith) (omega arith) (omega arith) c.loop-later.invariant.0)
