use Rattle.std.proofs.Common.{◌+◌, ◌-◌, ◌*◌, sym, ◌∙◌, arith}
use borrow.Author.Tests.{not-true, not-false}
use Rattle.record.specs.Slot.{slot_size}
use Rattle.entries.proofs.Laws.{form, at_next, has_room}
use Rattle.table.specs.Table.{head_size, layout_ok}
use Rattle.table.proofs.Laws.{entries_most, entry, lay_not, lay_on, lay_done}
use Rattle.table.proofs.layout_ok.Goals as goal

pub overflow_mul-p : goal.overflow_mul-p
overflow_mul-p c = let z = entries_most c.requires.0 c.args.n (omega arith) in
    omega arith

pub overflow_add-p : goal.overflow_add-p
overflow_add-p c = let z = entries_most c.requires.0 c.args.n (omega arith) in
    omega arith

pub overflow_mul-at : goal.overflow_mul-at
overflow_mul-at c = let z = entries_most c.requires.0 c.args.n (omega arith) in
    let r = has_room c.args.l.entry head_size c.args.n c.loop-i.i (omega arith) in
    omega arith

pub overflow_add-at : goal.overflow_add-at
overflow_add-at c = let z = entries_most c.requires.0 c.args.n (omega arith) in
    let r = has_room c.args.l.entry head_size c.args.n c.loop-i.i (omega arith) in
    omega arith

pub entry_ok-requires : goal.entry_ok-requires
entry_ok-requires c = let z = entries_most c.requires.0 c.args.n (omega arith) in
    let r = has_room c.args.l.entry head_size c.args.n c.loop-i.i (omega arith) in
    (c.requires.0, omega arith, omega arith)

pub returns-then-not-entry_ok : goal.returns-then-not-entry_ok
returns-then-not-entry_ok c = let a = c.args in
    let i = c.loop-i.i in
    let at = head_size + a.l.entry * i in
    let m = a.n - (i + 1) in
    sym (c.loop-i.invariant.1 ∙ lay_not a.l a.t.now at (a.n - i) m c.loop-i.p (omega arith) (sym c.entry_ok.ensures ∙ not-true _ c.if-not-entry_ok.true-raw))

pub slots_of-requires : goal.slots_of-requires
slots_of-requires c = let z = entries_most c.requires.0 c.args.n (omega arith) in
    let r = has_room c.args.l.entry head_size c.args.n c.loop-i.i (omega arith) in
    let k = c.requires.0.fixed in
    let j = c.requires.0.inside in
    omega arith

pub overflow_add-p-in-loop-i : goal.overflow_add-p-in-loop-i
overflow_add-p-in-loop-i c = let z = entries_most c.requires.0 c.args.n (omega arith) in
    let r = has_room c.args.l.entry head_size c.args.n c.loop-i.i (omega arith) in
    omega arith

pub loop-i-preserved : goal.loop-i-preserved
loop-i-preserved c = let a = c.args in
    let i = c.loop-i.i in
    let at = head_size + a.l.entry * i in
    let m = a.n - (i + 1) in
    let ok = (sym c.entry_ok.ensures ∙ not-false _ c.if-not-entry_ok.false-raw) in
    let most = (form a.t.now at (entry a.l a.t.now at c.loop-i.p ok).formed).most_slots in
    let same = c.slots_of.ensures.0 in (
      omega arith,
      c.loop-i.invariant.1 ∙ lay_on a.l a.t.now at (a.n - i) m c.loop-i.p (omega arith) ok
          ∙ (λ j. layout_ok a.l a.t.now (at_next a.l.entry head_size a.n i j) m (c.loop-i.p + slot_size * sym same j)),
    )

pub returns : goal.returns
returns c = let a = c.args in
    sym (c.loop-i.invariant.1 ∙ lay_done a.l a.t.now (head_size + a.l.entry * c.loop-i.i) (a.n - c.loop-i.i) c.loop-i.p (omega arith))
