use Rattle.std.proofs.Common.{ℕ, ◌+◌, ◌-◌, ◌*◌, sym, ap, ◌∙◌, arith}
use borrow.Author.Tests.{not-true, not-false}
use Rattle.entries.specs.Entry.{forms_ok}
use Rattle.entries.proofs.Laws.{at_next, has_room, forms_not, forms_on, forms_done}
use Rattle.entries.proofs.forms_ok.Goals as goal

pub overflow_mul-size : goal.overflow_mul-size
overflow_mul-size c = let r = has_room c.args.size c.args.first c.args.n c.loop-i.i (omega arith) in omega arith

pub overflow_add-first : goal.overflow_add-first
overflow_add-first c = let r = has_room c.args.size c.args.first c.args.n c.loop-i.i (omega arith) in omega arith

pub form_ok-requires : goal.form_ok-requires
form_ok-requires c = let r = has_room c.args.size c.args.first c.args.n c.loop-i.i (omega arith) in (omega arith, omega arith)

pub returns-then-not-form_ok : goal.returns-then-not-form_ok
returns-then-not-form_ok c = let a = c.args in
    let i = c.loop-i.i in
    let at = a.first + a.size * i in
    let m = a.n - (i + 1) in
    let r = has_room a.size a.first a.n i (omega arith) in
    sym (c.loop-i.invariant ∙ forms_not a.size a.t.now at (a.n - i) m (omega arith) (sym c.form_ok.ensures ∙ not-true _ c.if-not-form_ok.true-raw))

pub loop-i-preserved : goal.loop-i-preserved
loop-i-preserved c = let a = c.args in
    let i = c.loop-i.i in
    let at = a.first + a.size * i in
    let m = a.n - (i + 1) in
    let r = has_room a.size a.first a.n i (omega arith) in
    c.loop-i.invariant ∙ forms_on a.size a.t.now at (a.n - i) m (omega arith) (sym c.form_ok.ensures ∙ not-false _ c.if-not-form_ok.false-raw)
    ∙ ap (λ (p : ℕ). forms_ok a.size a.t.now p m) (at_next a.size a.first a.n i)

pub returns : goal.returns
returns c = let a = c.args in
    let i = c.loop-i.i in
    sym (c.loop-i.invariant ∙ forms_done a.size a.t.now (a.first + a.size * i) (a.n - i) (omega arith))
