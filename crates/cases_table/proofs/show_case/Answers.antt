use mathlib.Core.Path.{sym}
use lib.Seq.{length-take-le}
use Rattle.cases_table.proofs.show_case.Goals as goal

pub slice_bounds-say_table-end : goal.slice_bounds-say_table-end
slice_bounds-say_table-end g c = sym (length-take-le _ _ c.bytes-n.ensures.0)

pub slice_bounds-say_table-end-2 : goal.slice_bounds-say_table-end-2
slice_bounds-say_table-end-2 g c = sym (length-take-le _ _ c.bytes-m.ensures.0)
