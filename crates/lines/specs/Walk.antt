-- What the walk over the lines holds: a tally at the start, after one line more, and its answer at the end. The promise speaks of none of it.
use Rattle.std.specs.Prelude.{ℕ, ◌+◌, ◌-◌, true, ◌&&◌, cond, eqb, leb}
use Rattle.order.specs.declared.Line.{Line}
use Rattle.lines.specs.declared.Tally.{Tally}

abbrev pub start_of : ℕ → Tally
start_of total = record { numbered = true; fits = true; left = total }

abbrev pub step_of : Tally → ℕ → Line → Tally
step_of t i l = record {
  numbered = t.numbered && eqb l.progressivo (i + 1);
  fits = t.fits && leb l.amount t.left;
  left = t.left - l.amount;
}

abbrev pub answer_of : Tally → ℕ
answer_of t = cond t.numbered (cond (t.fits && eqb 0 t.left) 0 13) 12
