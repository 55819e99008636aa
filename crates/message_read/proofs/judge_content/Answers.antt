use mathlib.Core.Path.{◌∙◌}
use Rattle.scan.specs.Bytes.{is_white}
use Rattle.scan.proofs.Laws.{run_within}
use Rattle.message_read.proofs.Laws.{judged_made}
use Rattle.message_read.proofs.judge_content.Goals as goal

pub count_entries-requires : goal.count_entries-requires
count_entries-requires c = (rw c.white_end-from.ensures (run_within is_white c.args.s.now c.args.at c.requires.0), c.requires.2)

pub count_entries-requires-2 : goal.count_entries-requires-2
count_entries-requires-2 c = (rw c.white_end-from.ensures (run_within is_white c.args.s.now c.args.at c.requires.0), c.requires.2)

pub first_off-requires : goal.first_off-requires
first_off-requires c = (rw c.white_end-from.ensures (run_within is_white c.args.s.now c.args.at c.requires.0), c.requires.2)

pub returns : goal.returns
returns c = c.settle.ensures ∙ judged_made c.args.s.now c.args.at c.judge-w.ensures c.white_end-from.ensures c.first_off.ensures c.count_entries.ensures.0 c.count_entries-2.ensures.0
