use Rattle.std.specs.Prelude.{Some}
use mathlib.Core.Path.{◌≡◌, sym, ap, ◌∙◌}
use native.Mathlib.Omega.{arith}
use Rattle.scan.specs.Bytes.{byte_at}
use Rattle.children.proofs.Laws.{child_none}
use Rattle.children.proofs.Whole.{child_noted}
use Rattle.children.proofs.child_at.Goals as goal

pub returns-then-byte-ne60 : goal.returns-then-byte-ne60
returns-then-byte-ne60 c = sym (child_none c.args.s.now c.args.i (λ h. c.if-byte-ne60.true (c.byte.ensures ∙ h)))

pub overflow_add-i-in-Some-2 : goal.overflow_add-i-in-Some-2
overflow_add-i-in-Some-2 c = let l : byte_at c.args.s.now c.args.i ≡ 60 = sym c.byte.ensures ∙ c.if-byte-ne60.false in
    let n = child_noted c.args.s.now c.args.past.now c.args.i c.in-Some.k c.in-Some.q l c.requires.1 (sym c.in-Some.is ∙ c.note_at.ensures) in
    omega arith

pub child_to-requires : goal.child_to-requires
child_to-requires c = let l : byte_at c.args.s.now c.args.i ≡ 60 = sym c.byte.ensures ∙ c.if-byte-ne60.false in
    let n = child_noted c.args.s.now c.args.past.now c.args.i c.in-Some.k c.in-Some.q l c.requires.1 (sym c.in-Some.is ∙ c.note_at.ensures) in
    (omega arith, omega arith, omega arith)

pub returns-in-Some : goal.returns-in-Some
returns-in-Some c = let l : byte_at c.args.s.now c.args.i ≡ 60 = sym c.byte.ensures ∙ c.if-byte-ne60.false in
    let n = child_noted c.args.s.now c.args.past.now c.args.i c.in-Some.k c.in-Some.q l c.requires.1 (sym c.in-Some.is ∙ c.note_at.ensures) in
    ap Some c.child_to.ensures ∙ sym n.child
