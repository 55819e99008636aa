use Prim.Native.Nat.{ℕ, ◌+◌, ◌*◌}
use mathlib.Core.Path.{◌≡◌, sym, ap, ◌∙◌}
use mathlib.Core.Bool.{true}
use native.Mathlib.Omega.{arith}
use Rattle.table.specs.Table.{head_size, bodies, layout_ok, contents_ok}
use Rattle.table.proofs.Laws.{head, laid}
use Rattle.table.proofs.valid_as.Goals as goal

pub body_count-requires : goal.body_count-requires
body_count-requires c = let g : contents_ok c.args.l c.args.t.now ≡ true = sym c.contents_ok.ensures ∙ c.if-contents_ok.true in
    let w = laid c.args.l c.args.t.now g in
    let h = head c.args.l c.args.t.now w.head_ok in
    h.long

pub bodies_ok-requires : goal.bodies_ok-requires
bodies_ok-requires c = let g : contents_ok c.args.l c.args.t.now ≡ true = sym c.contents_ok.ensures ∙ c.if-contents_ok.true in
    let w = laid c.args.l c.args.t.now g in
    let h = head c.args.l c.args.t.now w.head_ok in
    let f = c.requires.fits in
    let e : c.body_count.result ≡ bodies c.args.t.now = c.body_count.ensures.0 in
    let z : c.args.l.entry * c.body_count.result ≡ c.args.l.entry * bodies c.args.t.now = ap (λ (x : ℕ). c.args.l.entry * x) e in
    (c.requires, omega (arith, h.room), omega (arith, h.fits), (λ i. layout_ok c.args.l c.args.t.now head_size (e i) (head_size + c.args.l.entry * e i)) ∙ w.layout)
