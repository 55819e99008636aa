use Prim.Native.Nat.{ℕ, ◌+◌, ◌*◌}
use mathlib.Core.Path.{◌≡◌, sym, ap, ◌∙◌}
use mathlib.Core.Bool.{true}
use native.Mathlib.Omega.{arith}
use borrow.Author.Tests.{not-true, not-false}
use Rattle.table.specs.Table.{head_size, bodies, head_ok, layout_ok}
use Rattle.table.proofs.Laws.{head, lay_forms, contents_head}
use Rattle.table.proofs.contents_ok.Goals as goal

pub returns-then-not-head_ok : goal.returns-then-not-head_ok
returns-then-not-head_ok c = sym (contents_head c.args.l c.args.t.now (sym c.head_ok.ensures ∙ not-true _ c.if-not-head_ok.true-raw))

pub body_count-n-requires : goal.body_count-n-requires
body_count-n-requires c = let g : head_ok c.args.l c.args.t.now ≡ true = sym c.head_ok.ensures ∙ not-false _ c.if-not-head_ok.false-raw in
    (head c.args.l c.args.t.now g).long

pub layout_ok-requires : goal.layout_ok-requires
layout_ok-requires c = let g : head_ok c.args.l c.args.t.now ≡ true = sym c.head_ok.ensures ∙ not-false _ c.if-not-head_ok.false-raw in
    let h = head c.args.l c.args.t.now g in
    let f = c.requires.fits in
    let e : c.body_count-n.result ≡ bodies c.args.t.now = c.body_count-n.ensures.0 in
    let n = c.body_count-n.result in
    let z : c.args.l.entry * n ≡ c.args.l.entry * bodies c.args.t.now = ap (λ (x : ℕ). c.args.l.entry * x) e in
    (c.requires, omega (arith, h.few), omega (arith, h.room), omega (arith, h.fits))

pub codes_distinct-requires : goal.codes_distinct-requires
codes_distinct-requires c = let g : head_ok c.args.l c.args.t.now ≡ true = sym c.head_ok.ensures ∙ not-false _ c.if-not-head_ok.false-raw in
    let h = head c.args.l c.args.t.now g in
    let f = c.requires.fits in
    let e : c.body_count-n.result ≡ bodies c.args.t.now = c.body_count-n.ensures.0 in
    let n = c.body_count-n.result in
    let z : c.args.l.entry * n ≡ c.args.l.entry * bodies c.args.t.now = ap (λ (x : ℕ). c.args.l.entry * x) e in
    let l : layout_ok c.args.l c.args.t.now head_size n (head_size + c.args.l.entry * n) ≡ true = sym c.layout_ok.ensures ∙ c.if-layout_ok.true in
    let i = c.requires.inside in
    let j = c.requires.fixed in
    (omega arith, omega (arith, h.room), lay_forms c.args.l c.args.t.now head_size n (head_size + c.args.l.entry * n) l)
