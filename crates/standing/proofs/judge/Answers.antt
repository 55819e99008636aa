use Prim.Native.Nat.{◌≤◌}
use native.Mathlib.Omega.{arith}
use Rattle.standing.proofs.Laws.{level_none, goes_start}
use Rattle.standing.proofs.Second.{judged}
use Rattle.standing.proofs.judge.Goals as goal

pub returns-then-d-eq0 : goal.returns-then-d-eq0
returns-then-d-eq0 c = rw c.if-d-eq0.true (judged 0 c.args.parent c.args.s.now c.args.at (level_none c.args.parent c.args.s.now c.args.at))

pub judge_on-requires : goal.judge_on-requires
judge_on-requires c = let l : 1 ≤ c.args.d = omega (arith, c.if-d-eq0.false) in
    record { at_in_bounds = (c.requires.0, l, c.requires.1); goes = goes_start c.args.d c.args.parent c.args.s.now c.args.at _ c.requires.0 l c.white_end.ensures }
