use mathlib.Core.Path.{◌≡◌}
use Prim.Native.Nat.{◌≤◌, ◌-◌, ◌+◌, ◌*◌}
use lib.ListN.{length}
use Rattle.markup.specs.Markup.{children_by, element_at}
use Rattle.markup.specs.Noted.{Noted}
use Rattle.markup.proofs.+children_content_element.Given as goal

abbrev pub decreases-children : goal.decreases-children
decreases-children l = 2 * (length l.s.now - l.at)

abbrev pub decreases-content : goal.decreases-content
decreases-content l = 2 * (length l.s.now - l.at) + 1

abbrev pub decreases-element : goal.decreases-element
decreases-element l = 2 * (length l.s.now - l.at)

abbrev pub invariant-children-loop-at : goal.invariant-children-loop-at
invariant-children-loop-at l = (l.at ≤ l.i) × (l.i ≤ length l.s) × (children_by (element_at l.depth l.s) l.s l.at ≡ children_by (element_at l.depth l.s) l.s l.i) × Noted l.s l.past × (length l.past ≡ length l.initial.past)

abbrev pub decreases-children-loop-at : goal.decreases-children-loop-at
decreases-children-loop-at l = length l.s - l.i
