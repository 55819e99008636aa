use Rattle.std.proofs.Common.{ℕ, ◌+◌, ◌-◌, ◌*◌, sym, ap, ◌∙◌, arith}
use Rattle.entries.specs.Entry.{forms_ok, codes_from, find_code}
use Rattle.entries.proofs.Laws.{at_next, has_room, form, forms_split, find_hit, find_on, find_done}
use Rattle.entries.proofs.find_code.Goals as goal

pub overflow_mul-size : goal.overflow_mul-size
overflow_mul-size c = let r = has_room c.args.size c.args.first c.args.n c.loop-i.i (omega arith) in omega arith

pub overflow_add-first : goal.overflow_add-first
overflow_add-first c = let r = has_room c.args.size c.args.first c.args.n c.loop-i.i (omega arith) in omega arith

pub code_is-requires : goal.code_is-requires
code_is-requires c = let a = c.args in
    let i = c.loop-i.i in
    let at = a.first + a.size * i in
    let m = a.n - (i + 1) in
    let r = has_room a.size a.first a.n i (omega arith) in
    (omega arith, (form a.t.now at (forms_split a.size a.t.now at (a.n - i) m (omega arith) c.loop-i.invariant.0).0).short)

pub returns-then-code_is : goal.returns-then-code_is
returns-then-code_is c = let a = c.args in
    let i = c.loop-i.i in
    let at = a.first + a.size * i in
    let m = a.n - (i + 1) in
    let r = has_room a.size a.first a.n i (omega arith) in
    sym (c.loop-i.invariant.1 ∙ find_hit a.size a.t.now at (a.n - i) m (omega arith) i a.code.now (sym c.code_is.ensures ∙ c.if-code_is.true))

pub loop-i-preserved : goal.loop-i-preserved
loop-i-preserved c = let a = c.args in
    let i = c.loop-i.i in
    let at = a.first + a.size * i in
    let m = a.n - (i + 1) in
    let r = has_room a.size a.first a.n i (omega arith) in
    let e = at_next a.size a.first a.n i in (
      ap (λ (p : ℕ). forms_ok a.size a.t.now p m) (sym e) ∙ (forms_split a.size a.t.now at (a.n - i) m (omega arith) c.loop-i.invariant.0).1,
      c.loop-i.invariant.1 ∙ find_on a.size a.t.now at (a.n - i) m (omega arith) i a.code.now (sym c.code_is.ensures ∙ c.if-code_is.false)
          ∙ ap (λ (p : ℕ). find_code (codes_from a.size a.t.now p m) (i + 1) a.code.now) e,
    )

pub returns : goal.returns
returns c = let a = c.args in
    let i = c.loop-i.i in
    sym (c.loop-i.invariant.1 ∙ find_done a.size a.t.now (a.first + a.size * i) (a.n - i) (omega arith) i a.code.now)
