use Rattle.std.proofs.Common.{ℕ, ◌+◌, ◌-◌, ◌*◌, sym, ap, ◌∙◌, arith}
use borrow.Author.Tests.{not-true, not-false}
use Rattle.entries.specs.Entry.{forms_ok, codes_from, distinct_codes}
use Rattle.entries.proofs.Laws.{at_next, has_room, form, forms_split, distinct_not, distinct_on, distinct_done}
use Rattle.entries.proofs.codes_distinct.Goals as goal

pub overflow_mul-size : goal.overflow_mul-size
overflow_mul-size c = let r = has_room c.args.size c.args.first c.args.n c.loop-i.i (omega arith) in omega arith

pub overflow_add-first : goal.overflow_add-first
overflow_add-first c = let r = has_room c.args.size c.args.first c.args.n c.loop-i.i (omega arith) in omega arith

pub code_alone-requires : goal.code_alone-requires
code_alone-requires c = let a = c.args in
    let i = c.loop-i.i in
    let at = a.first + a.size * i in
    let m = a.n - (i + 1) in
    let r = has_room a.size a.first a.n i (omega arith) in
    let f = forms_split a.size a.t.now at (a.n - i) m (omega arith) c.loop-i.invariant.0 in
    (omega arith, omega arith, (form a.t.now at f.0).short, f.1)

pub returns-then-not-code_alone : goal.returns-then-not-code_alone
returns-then-not-code_alone c = let a = c.args in
    let i = c.loop-i.i in
    let at = a.first + a.size * i in
    let m = a.n - (i + 1) in
    let r = has_room a.size a.first a.n i (omega arith) in
    sym (c.loop-i.invariant.1 ∙ distinct_not a.size a.t.now at (a.n - i) m (omega arith) (sym c.code_alone.ensures ∙ not-true _ c.if-not-code_alone.true-raw))

pub loop-i-preserved : goal.loop-i-preserved
loop-i-preserved c = let a = c.args in
    let i = c.loop-i.i in
    let at = a.first + a.size * i in
    let m = a.n - (i + 1) in
    let r = has_room a.size a.first a.n i (omega arith) in
    let e = at_next a.size a.first a.n i in (
      ap (λ (p : ℕ). forms_ok a.size a.t.now p m) (sym e) ∙ (forms_split a.size a.t.now at (a.n - i) m (omega arith) c.loop-i.invariant.0).1,
      c.loop-i.invariant.1 ∙ distinct_on a.size a.t.now at (a.n - i) m (omega arith) (sym c.code_alone.ensures ∙ not-false _ c.if-not-code_alone.false-raw)
          ∙ ap (λ (p : ℕ). distinct_codes (codes_from a.size a.t.now p m)) e,
    )

pub returns : goal.returns
returns c = let a = c.args in
    let i = c.loop-i.i in
    sym (c.loop-i.invariant.1 ∙ distinct_done a.size a.t.now (a.first + a.size * i) (a.n - i) (omega arith))
