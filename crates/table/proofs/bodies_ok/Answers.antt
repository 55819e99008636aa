use Rattle.std.proofs.Common.{ℕ, ◌+◌, ◌-◌, ◌*◌, ◌≡◌, sym, ap, ◌∙◌, arith}
use borrow.Author.Tests.{not-true, not-false}
use Rattle.entries.specs.Entry.{place_of}
use Rattle.entries.proofs.Laws.{at_next, has_room}
use Rattle.table.specs.Table.{head_size, layout_ok, bodies_ok}
use Rattle.table.proofs.Laws.{lay_own, lay_next, lay_room, lay_form, bodies_not, bodies_on, bodies_done}
use Rattle.table.proofs.bodies_ok.Goals as goal

pub loop-i-init : goal.loop-i-init
loop-i-init c = let a = c.args in
    let p : head_size ≡ head_size + a.l.entry * 0 = omega arith in
    let q : a.n ≡ a.n - 0 = omega arith in (
      (λ h. (λ j. layout_ok a.l a.t.now (sym p j) (sym q j) (place_of a.t.now (sym p j))) ∙ lay_own a.l a.t.now head_size a.n (head_size + a.l.entry * a.n) h c.requires.3),
      (λ j. bodies_ok a.l a.t.now (p j) (q j)),
    )

pub overflow_mul-l : goal.overflow_mul-l
overflow_mul-l c = let r = has_room c.args.l.entry head_size c.args.n c.loop-i.i (omega arith) in
    let f = c.requires.0.fixed in
    let j = c.requires.0.inside in
    omega arith

pub overflow_add-l : goal.overflow_add-l
overflow_add-l c = let r = has_room c.args.l.entry head_size c.args.n c.loop-i.i (omega arith) in
    let f = c.requires.0.fixed in
    let j = c.requires.0.inside in
    omega arith

pub body_holds-requires : goal.body_holds-requires
body_holds-requires c = let a = c.args in
    let i = c.loop-i.i in
    let at = head_size + a.l.entry * i in
    let m = a.n - (i + 1) in
    let r = has_room a.l.entry head_size a.n i (omega arith) in
    let w = c.loop-i.invariant.0 (omega arith) in
    (c.requires.0, omega arith, lay_room a.l a.t.now at (a.n - i) (place_of a.t.now at) (omega arith) w, (lay_form a.l a.t.now at (a.n - i) (place_of a.t.now at) (omega arith) w).most_slots)

pub returns-then-not-body_holds : goal.returns-then-not-body_holds
returns-then-not-body_holds c = let a = c.args in
    let i = c.loop-i.i in
    let at = head_size + a.l.entry * i in
    let m = a.n - (i + 1) in
    sym (c.loop-i.invariant.1 ∙ bodies_not a.l a.t.now at (a.n - i) m (omega arith) (sym c.body_holds.ensures ∙ not-true _ c.if-not-body_holds.true-raw))

pub loop-i-preserved : goal.loop-i-preserved
loop-i-preserved c = let a = c.args in
    let i = c.loop-i.i in
    let at = head_size + a.l.entry * i in
    let m = a.n - (i + 1) in
    let e = at_next a.l.entry head_size a.n i in
    let w : a.n - i - 1 ≡ m = omega arith in (
      (λ h. (λ j. layout_ok a.l a.t.now (sym e j) (sym w j) (place_of a.t.now (sym e j))) ∙ lay_own a.l a.t.now (at + a.l.entry) (a.n - i - 1) _ (omega arith) (lay_next a.l a.t.now at (a.n - i) (place_of a.t.now at) (omega arith) (c.loop-i.invariant.0 (omega arith)))),
      c.loop-i.invariant.1 ∙ bodies_on a.l a.t.now at (a.n - i) m (omega arith) (sym c.body_holds.ensures ∙ not-false _ c.if-not-body_holds.false-raw)
          ∙ ap (λ (p : ℕ). bodies_ok a.l a.t.now p m) (at_next a.l.entry head_size a.n i),
    )

pub returns : goal.returns
returns c = let a = c.args in
    sym (c.loop-i.invariant.1 ∙ bodies_done a.l a.t.now (head_size + a.l.entry * c.loop-i.i) (a.n - c.loop-i.i) (omega arith))
