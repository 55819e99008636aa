use mathlib.Core.Path.{◌≡◌, sym, ◌∙◌}
use Prim.Native.Nat.{◌/◌}
use lib.ListN.{get_or}
use native.Mathlib.Omega.{arith}
use Rattle.markup.proofs.Noted.{note_past, note_meant, note_unmeant}
use Rattle.markup.proofs.note_at.Goals as goal

pub returns-in_err-n : goal.returns-in_err-n
returns-in_err-n c = c.from_residual.ensures ∙ sym (note_past _ _ (c.in_err-n.ensures.lookup.3))

pub returns-then-n-at : goal.returns-then-n-at
returns-then-n-at c = let v : c.in_ok-n.field-0.now ≡ get_or c.args.past.now (c.args.at / 4) 0 = c.in_ok-n.ensures.lookup.3.1 0 in
    rw v (sym (note_meant _ _ (rw v at c.if-n-at.true)))

pub returns-else-n-at : goal.returns-else-n-at
returns-else-n-at c = let v : c.in_ok-n.field-0.now ≡ get_or c.args.past.now (c.args.at / 4) 0 = c.in_ok-n.ensures.lookup.3.1 0 in
    sym (note_unmeant _ _ (λ e. c.if-n-at.false (omega arith)))
