use mathlib.Core.Path.{◌≡◌, refl, sym, ap, subst, ◌∙◌}
use mathlib.Core.Bool.{true}
use Prim.Native.Nat.{ℕ, ◌+◌, ◌*◌}
use lib.ListN.{length}
use native.Mathlib.Omega.{arith}
use borrow.Author.Tests.{not-true, not-false}
use Rattle.table.specs.declared.Layout.{Layout}
use Rattle.table.specs.Table.{table1, valid_as}
use Rattle.table.specs.Inner.{Known}
use Rattle.table.proofs.Laws.{known_1}
use Rattle.convert.proofs.Laws.{room, few, convert_not, convert_other, convert_done}
use Rattle.convert.proofs.convert.Goals as goal

pub valid_as-requires : goal.valid_as-requires
valid_as-requires c = subst Known (sym c.table_1.ensures) known_1

pub returns-then-not-valid_as : goal.returns-then-not-valid_as
returns-then-not-valid_as c = (convert_not c.args.o.now _ (sym (c.valid_as.ensures ∙ ap (λ (l : Layout). valid_as l c.args.o.now) c.table_1.ensures) ∙ not-true _ c.if-not-valid_as.true-raw), refl)

pub body_count-n-requires : goal.body_count-n-requires
body_count-n-requires c = let ok : valid_as table1 c.args.o.now ≡ true = sym (c.valid_as.ensures ∙ ap (λ (l : Layout). valid_as l c.args.o.now) c.table_1.ensures) ∙ not-false _ c.if-not-valid_as.false-raw in
    let w = room c.args.o.now ok in
    omega arith

pub overflow_mul-n : goal.overflow_mul-n
overflow_mul-n c = let ok : valid_as table1 c.args.o.now ≡ true = sym (c.valid_as.ensures ∙ ap (λ (l : Layout). valid_as l c.args.o.now) c.table_1.ensures) ∙ not-false _ c.if-not-valid_as.false-raw in
    let e = c.body_count-n.ensures.0 in
    let w = room c.args.o.now ok in
    let f = few c.args.o.now ok in
    omega arith

pub overflow_add-o : goal.overflow_add-o
overflow_add-o c = let ok : valid_as table1 c.args.o.now ≡ true = sym (c.valid_as.ensures ∙ ap (λ (l : Layout). valid_as l c.args.o.now) c.table_1.ensures) ∙ not-false _ c.if-not-valid_as.false-raw in
    let e = c.body_count-n.ensures.0 in
    let w = room c.args.o.now ok in
    let f = few c.args.o.now ok in
    omega arith

pub returns-then-t-o : goal.returns-then-t-o
returns-then-t-o c = let ok : valid_as table1 c.args.o.now ≡ true = sym (c.valid_as.ensures ∙ ap (λ (l : Layout). valid_as l c.args.o.now) c.table_1.ensures) ∙ not-false _ c.if-not-valid_as.false-raw in
    (convert_other c.args.o.now _ ok c.body_count-n.ensures.0 c.if-t-o.true, refl)

pub fill-requires : goal.fill-requires
fill-requires c = let ok : valid_as table1 c.args.o.now ≡ true = sym (c.valid_as.ensures ∙ ap (λ (l : Layout). valid_as l c.args.o.now) c.table_1.ensures) ∙ not-false _ c.if-not-valid_as.false-raw in
    let e = c.body_count-n.ensures.0 in
    (ok, e, c.if-t-o.false ∙ ap (λ (x : ℕ). length c.args.o.now + 16 * x) e)

pub returns : goal.returns
returns c = let ok : valid_as table1 c.args.o.now ≡ true = sym (c.valid_as.ensures ∙ ap (λ (l : Layout). valid_as l c.args.o.now) c.table_1.ensures) ∙ not-false _ c.if-not-valid_as.false-raw in
    (convert_done c.args.o.now _ ok c.body_count-n.ensures.0 c.if-t-o.false, c.fill.ensures)
