use Rattle.std.specs.Prelude.{Ok}
use mathlib.Core.Path.{◌≡◌, sym, ◌∙◌}
use native.Mathlib.Omega.{arith}
use Rattle.tokens.specs.Tokens.{piece_at}
use Rattle.tokens.proofs.Laws.{piece_past, text_stop, text_step, text_broken}
use Rattle.tokens.proofs.text.Goals as goal

pub plain_end-i-requires : goal.plain_end-i-requires
plain_end-i-requires c = c.requires

pub loop-i-init : goal.loop-i-init
loop-i-init c = (c.plain_end-i.ensures.1, c.plain_end-i.ensures.2)

pub plain_end-i-requires-in-Ok : goal.plain_end-i-requires-in-Ok
plain_end-i-requires-in-Ok c = let s = c.args.s.now in
    let i = c.loop-i.i in
    let q = c.in-Ok.q in
    let e : piece_at s i ≡ Ok q = sym c.piece.ensures ∙ c.in-Ok.is in
    (piece_past s i q e).within

pub loop-i-smaller : goal.loop-i-smaller
loop-i-smaller c = let s = c.args.s.now in
    let i = c.loop-i.i in
    let q = c.in-Ok.q in
    let e : piece_at s i ≡ Ok q = sym c.piece.ensures ∙ c.in-Ok.is in
    let g = piece_past s i q e in
    let f = c.plain_end-i-in-Ok.ensures.0 in
    let h = c.plain_end-i-in-Ok.ensures.1 in
    omega arith

pub loop-i-preserved : goal.loop-i-preserved
loop-i-preserved c = let s = c.args.s.now in
    let i = c.loop-i.i in
    let q = c.in-Ok.q in
    let e : piece_at s i ≡ Ok q = sym c.piece.ensures ∙ c.in-Ok.is in
    (c.plain_end-i-in-Ok.ensures.1, c.loop-i.invariant.1 ∙ (text_step s i q (λ h. c.loop-i-test.true (c.byte.ensures ∙ h)) e ∙ c.plain_end-i-in-Ok.ensures.2))

pub returns-in-Err : goal.returns-in-Err
returns-in-Err c = let s = c.args.s.now in
    let i = c.loop-i.i in
    let p = c.in-Err.p in
    sym (c.loop-i.invariant.1 ∙ text_broken s i p (λ h. c.loop-i-test.true (c.byte.ensures ∙ h)) (sym c.piece.ensures ∙ c.in-Err.is))

pub returns : goal.returns
returns c = let s = c.args.s.now in
    let i = c.loop-i.i in
    sym (c.loop-i.invariant.1 ∙ text_stop s i (sym c.byte.ensures ∙ c.loop-i-test.false))
