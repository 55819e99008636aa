use mathlib.Core.Path.{sym}
use lib.Seq.{length-take-le}
use Rattle.cases_table.proofs.open_case.Goals as goal

pub slice_bounds-open_table-end : goal.slice_bounds-open_table-end
slice_bounds-open_table-end g c = sym (length-take-le _ _ c.bytes-n.ensures.0)
