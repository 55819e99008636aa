use mathlib.Core.Path.{◌≡◌, refl, sym, ap, ◌∙◌, subst⁻¹}
use mathlib.Core.Bool.{true}
use native.Mathlib.Omega.{arith}
use lib.ListN.{length}
use borrow.Author.Tests.{not-true, not-false}
use Rattle.words.specs.Numbers.{bytes2}
use Rattle.words.proofs.Laws.{length_put}
use Rattle.table.specs.Table.{table2, head_size, contents_ok}
use Rattle.table.specs.Inner.{Known}
use Rattle.table.specs.declared.Layout.{Layout}
use Rattle.table.proofs.Laws.{known_2}
use Rattle.keeping.specs.Keeping.{each_bytes}
use Rattle.salvage.specs.Salvage.{moved_in}
use Rattle.salvage.proofs.Laws.{few_bodies, moved_two, report_by, salvage_not, salvage_short, salvage_done}
use Rattle.salvage.proofs.salvage.Goals as goal

pub contents_ok-requires : goal.contents_ok-requires
contents_ok-requires c = subst⁻¹ Known c.table_2.ensures known_2

pub returns-then-not-contents_ok : goal.returns-then-not-contents_ok
returns-then-not-contents_ok c = let k = c.contents_ok.ensures ∙ ap (λ (l : Layout). contents_ok l c.args.t.now) c.table_2.ensures in
    (salvage_not c.args.t.now (length c.args.report.now) (sym k ∙ not-true _ c.if-not-contents_ok.true-raw), refl, refl)

pub body_count-n-requires : goal.body_count-n-requires
body_count-n-requires c = let k = c.contents_ok.ensures ∙ ap (λ (l : Layout). contents_ok l c.args.t.now) c.table_2.ensures in
    let g : contents_ok table2 c.args.t.now ≡ true = sym k ∙ not-false _ c.if-not-contents_ok.false-raw in
    (few_bodies c.args.t.now g).0

pub count_blanked-count-requires : goal.count_blanked-count-requires
count_blanked-count-requires c = let k = c.contents_ok.ensures ∙ ap (λ (l : Layout). contents_ok l c.args.t.now) c.table_2.ensures in
    let g : contents_ok table2 c.args.t.now ≡ true = sym k ∙ not-false _ c.if-not-contents_ok.false-raw in
    (g, c.body_count-n.ensures.0)

pub returns-then-report-n : goal.returns-then-report-n
returns-then-report-n c = let k = c.contents_ok.ensures ∙ ap (λ (l : Layout). contents_ok l c.args.t.now) c.table_2.ensures in
    let g : contents_ok table2 c.args.t.now ≡ true = sym k ∙ not-false _ c.if-not-contents_ok.false-raw in
    let e = c.body_count-n.ensures.0 in
    let f = c.count_blanked-count.ensures.0 in
    (salvage_short c.args.t.now (length c.args.report.now) g e f (omega arith), refl, refl)

pub put_moved-requires : goal.put_moved-requires
put_moved-requires c = let k = c.contents_ok.ensures ∙ ap (λ (l : Layout). contents_ok l c.args.t.now) c.table_2.ensures in
    let g : contents_ok table2 c.args.t.now ≡ true = sym k ∙ not-false _ c.if-not-contents_ok.false-raw in
    (g, c.body_count-n.ensures.0, omega arith)

pub put_blanked-requires : goal.put_blanked-requires
put_blanked-requires c = let k = c.contents_ok.ensures ∙ ap (λ (l : Layout). contents_ok l c.args.t.now) c.table_2.ensures in
    let g : contents_ok table2 c.args.t.now ≡ true = sym k ∙ not-false _ c.if-not-contents_ok.false-raw in
    let e = c.body_count-n.ensures.0 in
    let f = c.count_blanked-count.ensures.0 in
    let m = moved_two c.args.t.now c.body_count-n.result in
    let l = ap length c.put_moved.ensures ∙ length_put c.args.report.now 0 (each_bytes bytes2 (moved_in c.args.t.now head_size c.body_count-n.result)) (omega arith) in
    (g, e, omega arith)

pub repair_all-requires : goal.repair_all-requires
repair_all-requires c = let k = c.contents_ok.ensures ∙ ap (λ (l : Layout). contents_ok l c.args.t.now) c.table_2.ensures in
    let g : contents_ok table2 c.args.t.now ≡ true = sym k ∙ not-false _ c.if-not-contents_ok.false-raw in
    (g, c.body_count-n.ensures.0)

pub returns : goal.returns
returns c = let k = c.contents_ok.ensures ∙ ap (λ (l : Layout). contents_ok l c.args.t.now) c.table_2.ensures in
    let g : contents_ok table2 c.args.t.now ≡ true = sym k ∙ not-false _ c.if-not-contents_ok.false-raw in
    let e = c.body_count-n.ensures.0 in
    let f = c.count_blanked-count.ensures.0 in
    (salvage_done c.args.t.now (length c.args.report.now) g e f (omega arith), c.repair_all.ensures, report_by c.args.t.now c.args.report.now _ _ e c.put_moved.ensures c.put_blanked.ensures)
