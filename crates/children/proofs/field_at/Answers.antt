use Rattle.std.specs.Prelude.{Some}
use mathlib.Core.Path.{◌≡◌, sym, ◌∙◌}
use native.Mathlib.Omega.{arith}
use Rattle.children.specs.Child.{child_at}
use Rattle.children.proofs.Laws.{child_lies, child_beyond, field_none, field_one}
use Rattle.children.proofs.field_at.Goals as goal

pub returns-then-s-place : goal.returns-then-s-place
returns-then-s-place c = let t = c.if-s-place.true in
    field_none c.args.s.now c.args.place (child_beyond c.args.s.now c.args.place (omega arith))

pub overflow_add-name : goal.overflow_add-name
overflow_add-name c = let s = c.args.s.now in
    let i = c.args.place in
    let d = c.in-Some.c in
    let e : child_at s i ≡ Some d = sym c.child_alone.ensures ∙ c.in-Some.is in
    let l = (child_lies s i d e).1 in
    omega arith

pub overflow_add-text : goal.overflow_add-text
overflow_add-text c = let s = c.args.s.now in
    let i = c.args.place in
    let d = c.in-Some.c in
    let e : child_at s i ≡ Some d = sym c.child_alone.ensures ∙ c.in-Some.is in
    let l = (child_lies s i d e).1 in
    omega arith

pub overflow_sub-result : goal.overflow_sub-result
overflow_sub-result c = let s = c.args.s.now in
    let i = c.args.place in
    let d = c.in-Some.c in
    let e : child_at s i ≡ Some d = sym c.child_alone.ensures ∙ c.in-Some.is in
    let l = (child_lies s i d e).1 in
    omega arith

pub overflow_sub-result-in-Some : goal.overflow_sub-result-in-Some
overflow_sub-result-in-Some c = let s = c.args.s.now in
    let i = c.args.place in
    let d = c.in-Some.c in
    let e : child_at s i ≡ Some d = sym c.child_alone.ensures ∙ c.in-Some.is in
    let l = (child_lies s i d e).1 in
    omega arith

pub returns-in-Some : goal.returns-in-Some
returns-in-Some c = field_one c.args.s.now c.args.place c.in-Some.c (sym c.child_alone.ensures ∙ c.in-Some.is)

pub returns-in-None : goal.returns-in-None
returns-in-None c = field_none c.args.s.now c.args.place (sym c.child_alone.ensures ∙ c.in-None.is)
