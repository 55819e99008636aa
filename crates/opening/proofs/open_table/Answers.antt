use mathlib.Core.Path.{◌≡◌, refl, sym, ◌∙◌}
use mathlib.Core.Bool.{true}
use native.Mathlib.Omega.{arith}
use borrow.Author.Tests.{not-true, not-false}
use Rattle.request.specs.Request.{asked, request_ok}
use Rattle.request.proofs.Laws.{request}
use Rattle.opening.proofs.Laws.{open_not, open_other, open_done}
use Rattle.opening.proofs.open_table.Goals as goal

pub returns-then-not-request_ok : goal.returns-then-not-request_ok
returns-then-not-request_ok c = (sym (open_not c.args.q.now _ (sym c.request_ok.ensures ∙ not-true _ c.if-not-request_ok.true-raw)), refl)

pub overflow_sub-n : goal.overflow_sub-n
overflow_sub-n c = let q = c.args.q.now in
    let ok : request_ok q ≡ true = sym c.request_ok.ensures ∙ not-false _ c.if-not-request_ok.false-raw in
    let r = request q ok in
    omega (arith, r.whole)

pub length_for-requires : goal.length_for-requires
unfolding asked
length_for-requires c = let q = c.args.q.now in
    let ok : request_ok q ≡ true = sym c.request_ok.ensures ∙ not-false _ c.if-not-request_ok.false-raw in
    let r = request q ok in
    (refl, r.few, omega (arith, r.whole))

pub returns-then-t-length_for : goal.returns-then-t-length_for
returns-then-t-length_for c = let q = c.args.q.now in
    let ok : request_ok q ≡ true = sym c.request_ok.ensures ∙ not-false _ c.if-not-request_ok.false-raw in
    let r = request q ok in
    (sym (open_other q _ ok c.length_for.result c.length_for.ensures c.if-t-length_for.true), refl)

pub fill-requires : goal.fill-requires
unfolding asked
fill-requires c = let q = c.args.q.now in
    let ok : request_ok q ≡ true = sym c.request_ok.ensures ∙ not-false _ c.if-not-request_ok.false-raw in
    let r = request q ok in
    (ok, refl, c.if-t-length_for.false ∙ c.length_for.ensures)

pub returns : goal.returns
returns c = let q = c.args.q.now in
    let ok : request_ok q ≡ true = sym c.request_ok.ensures ∙ not-false _ c.if-not-request_ok.false-raw in
    let r = request q ok in
    (sym (open_done q _ ok c.length_for.result c.length_for.ensures c.if-t-length_for.false), c.fill.ensures)
