use Prim.Native.Nat.{ℕ, ◌+◌}
use mathlib.Core.Path.{◌≡◌, sym, ap, ◌∙◌}
use native.Mathlib.Omega.{arith}
use lib.ListN.{drop}
use borrow.Author.Tests.{not-true, not-false}
use Rattle.record.specs.Slot.{states_offset, eight_at}
use Rattle.journal.specs.Inner.{states_marked}
use Rattle.journal.proofs.Marks.{states_done, states_turn, states_stop}
use Rattle.journal.proofs.lines_marked.Goals as goal

pub loop-k-init : goal.loop-k-init
loop-k-init c = let q : c.args.p + 0 ≡ c.args.p = omega arith in
    (omega arith, ap (λ (x : ℕ). states_marked c.args.marks.now x (eight_at c.args.t.now (c.args.at + states_offset))) (sym q))

pub returns-then-not-line_marked : goal.returns-then-not-line_marked
returns-then-not-line_marked c = sym (c.loop-k.invariant.1 ∙ states_stop c.args.marks.now (c.args.p + c.loop-k.k) c.args.t.now (c.args.at + states_offset) c.loop-k.k (omega arith) c.line_marked.ensures (not-true _ c.if-not-line_marked.true-raw))

pub loop-k-preserved : goal.loop-k-preserved
loop-k-preserved c = let q : c.args.p + c.loop-k.k + 1 ≡ c.args.p + (c.loop-k.k + 1) = omega arith in
    (omega arith, c.loop-k.invariant.1 ∙ states_turn c.args.marks.now (c.args.p + c.loop-k.k) c.args.t.now (c.args.at + states_offset) c.loop-k.k (omega arith) c.line_marked.ensures (not-false _ c.if-not-line_marked.false-raw) ∙ ap (λ (x : ℕ). states_marked c.args.marks.now x (drop (c.loop-k.k + 1) (eight_at c.args.t.now (c.args.at + states_offset)))) q)

pub returns : goal.returns
returns c = sym (c.loop-k.invariant.1 ∙ states_done c.args.marks.now (c.args.p + c.loop-k.k) (eight_at c.args.t.now (c.args.at + states_offset)) c.loop-k.k (omega arith))
