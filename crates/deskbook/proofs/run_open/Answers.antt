use mathlib.Core.Path.{sym}
use native.Mathlib.Omega.{arith}
use lib.Seq.{length-take-le}
use Rattle.deskbook.proofs.run_open.Goals as goal

pub slice_bounds-open_table-end-2 : goal.slice_bounds-open_table-end-2
slice_bounds-open_table-end-2 g c = sym (length-take-le _ _ (omega arith))
