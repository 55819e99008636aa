use mathlib.Core.Path.{◌≡◌}
use Rattle.schema.specs.declared.Holds.TheVariants.{Rows}
use Rattle.orders.proofs.Laws.{line_some, line_shaped, line_inside}
use Rattle.orders.proofs.line_of.Goals as goal

pub line_from-requires : goal.line_from-requires
line_from-requires c = let s = c.args.s.now in
    let k = c.args.k in
    let p = c.in-Rows.p in
    let e : k.holds ≡ Rows p = c.in-Rows.is in
    let n = line_shaped s k p e c.requires.0 in
    (n.rows, rw c.white_end.ensures n.filled, c.requires.1)

pub returns-in-Text : goal.returns-in-Text
returns-in-Text c = absurd (line_some c.args.s.now c.args.k c.in-Text.field-0 c.in-Text.is c.requires.0)

pub returns-in-Rows : goal.returns-in-Rows
returns-in-Rows c = let s = c.args.s.now in
    let k = c.args.k in
    let p = c.in-Rows.p in
    let e : k.holds ≡ Rows p = c.in-Rows.is in
    let n = line_shaped s k p e c.requires.0 in
    line_inside s k p c.white_end.result c.white_end.ensures n c.line_from.result c.line_from.ensures
