use Rattle.std.specs.Prelude.{Ok}
use mathlib.Core.Path.{◌≡◌, refl, sym, ap, ◌∙◌}
use mathlib.Core.Bool.{false}
use Prim.Native.Nat.{◌-◌, ◌+◌}
use native.Mathlib.Omega.{arith}
use borrow.Author.Tests.{eq-eqb, eqb-true, eqb-false, not-true, not-false}
use Rattle.scan.specs.Bytes.{bytes, byte_at, is_white, has_at}
use Rattle.scan.proofs.Laws.{stands, run_from, run_within}
use Rattle.tokens.specs.Tokens.{name_at, white_at}
use Rattle.tokens.proofs.Laws.{name_past}
use Rattle.markup.specs.Markup.{element_at, content_at}
use Rattle.markup.proofs.Noted.{name_short, noted_more}
use Rattle.markup.proofs.Laws.{passed_on, element_past, content_at_past, element_deep, element_no_name, element_no_end, element_inside, element_ends, content_text, content_empty, content_children, children_stop, children_step, children_other, children_broken}
use Prim.Native.Nat.{ℕ}
use Rattle.markup.proofs.+children_content_element.Goals.{content-then-byte-ne60, content-else-byte-ne60}
use Rattle.markup.proofs.+children_content_element.Goals as goal

pub children-loop-at-init : goal.children-loop-at-init
children-loop-at-init t c = (omega arith, c.requires.0, refl, c.requires.2, refl)

pub children-closes-requires : goal.children-closes-requires
children-closes-requires t c = c.loop-at.invariant.1

pub children-returns-then-byte-ne60 : goal.children-returns-then-byte-ne60
children-returns-then-byte-ne60 t c = let s = c.args.s.now in
    let at = c.args.at in
    let d = c.args.depth in
    let i = c.loop-at.i in
    let k : has_at (bytes "</") s i ≡ false = sym c.closes.ensures ∙ not-true _ c.loop-at-test.true-raw in
    (sym (c.loop-at.invariant.2 ∙ children_other d s i k (λ h. c.if-byte-ne60.true (c.byte.ensures ∙ h))), c.loop-at.invariant.3)

pub children-overflow_add-i : goal.children-overflow_add-i
children-overflow_add-i t c = let s = c.args.s.now in
    let at = c.args.at in
    let d = c.args.depth in
    let i = c.loop-at.i in
    let k : has_at (bytes "</") s i ≡ false = sym c.closes.ensures ∙ not-true _ c.loop-at-test.true-raw in
    let x : byte_at s i ≡ 60 = sym c.byte.ensures ∙ c.if-byte-ne60.false in
    let l = stands 59 s i (eq-eqb _ _ x) in
    omega arith

pub children-element-requires : goal.children-element-requires
children-element-requires t c = let s = c.args.s.now in
    let at = c.args.at in
    let d = c.args.depth in
    let i = c.loop-at.i in
    let k : has_at (bytes "</") s i ≡ false = sym c.closes.ensures ∙ not-true _ c.loop-at-test.true-raw in
    let x : byte_at s i ≡ 60 = sym c.byte.ensures ∙ c.if-byte-ne60.false in
    let l = stands 59 s i (eq-eqb _ _ x) in
    (omega arith, (omega arith, c.requires.1, c.loop-at.invariant.3))

pub children-white_end-i-requires : goal.children-white_end-i-requires
children-white_end-i-requires t c = let s = c.args.s.now in
    let at = c.args.at in
    let d = c.args.depth in
    let i = c.loop-at.i in
    let k : has_at (bytes "</") s i ≡ false = sym c.closes.ensures ∙ not-true _ c.loop-at-test.true-raw in
    let q = c.in_ok-q.q in
    let m : element_at d s (i + 1) ≡ Ok q = sym c.element.ensures.0 ∙ c.in_ok-q.was in
    let a = element_past d s (i + 1) q m in
    a.within

pub children-loop-at-smaller : goal.children-loop-at-smaller
children-loop-at-smaller t c = let s = c.args.s.now in
    let at = c.args.at in
    let d = c.args.depth in
    let i = c.loop-at.i in
    let k : has_at (bytes "</") s i ≡ false = sym c.closes.ensures ∙ not-true _ c.loop-at-test.true-raw in
    let q = c.in_ok-q.q in
    let m : element_at d s (i + 1) ≡ Ok q = sym c.element.ensures.0 ∙ c.in_ok-q.was in
    let a = element_past d s (i + 1) q m in
    let u : c.white_end-i.result ≡ white_at s q = c.white_end-i.ensures in
    let f = run_from is_white s q in
    let g = run_within is_white s q a.within in
    omega arith

pub children-loop-at-preserved : goal.children-loop-at-preserved
children-loop-at-preserved t c = let s = c.args.s.now in
    let at = c.args.at in
    let d = c.args.depth in
    let i = c.loop-at.i in
    let k : has_at (bytes "</") s i ≡ false = sym c.closes.ensures ∙ not-true _ c.loop-at-test.true-raw in
    let x : byte_at s i ≡ 60 = sym c.byte.ensures ∙ c.if-byte-ne60.false in
    let l = stands 59 s i (eq-eqb _ _ x) in
    let q = c.in_ok-q.q in
    let m : element_at d s (i + 1) ≡ Ok q = sym c.element.ensures.0 ∙ c.in_ok-q.was in
    let a = element_past d s (i + 1) q m in
    let u : c.white_end-i.result ≡ white_at s q = c.white_end-i.ensures in
    let f = run_from is_white s q in
    let g = run_within is_white s q a.within in
    (omega arith, omega arith, rw u (c.loop-at.invariant.2 ∙ children_step d s i k x q m), c.element.ensures.1, omega (arith, c.past-1.given, c.loop-at.invariant.4))

pub children-returns-in_err-q : goal.children-returns-in_err-q
children-returns-in_err-q t c = let s = c.args.s.now in
    let at = c.args.at in
    let d = c.args.depth in
    let i = c.loop-at.i in
    let k : has_at (bytes "</") s i ≡ false = sym c.closes.ensures ∙ not-true _ c.loop-at-test.true-raw in
    let x : byte_at s i ≡ 60 = sym c.byte.ensures ∙ c.if-byte-ne60.false in
    let l = stands 59 s i (eq-eqb _ _ x) in
    let p = c.in_err-q.field-0.0 in
    (passed_on c.from_residual.result _ c.from_residual.ensures.1 ∙ sym (c.loop-at.invariant.2 ∙ children_broken d s i k x p (sym c.element.ensures.0 ∙ c.in_err-q.was)), c.element.ensures.1)

pub children-returns : goal.children-returns
children-returns t c = let s = c.args.s.now in
    let at = c.args.at in
    let d = c.args.depth in
    let i = c.loop-at.i in
    (sym (c.loop-at.invariant.2 ∙ children_stop d s i (sym c.closes.ensures ∙ not-false _ c.loop-at-test.false-raw)), c.loop-at.invariant.3)

pub content-white_end-w-requires : goal.content-white_end-w-requires
content-white_end-w-requires t c = c.requires.0

pub content-text-requires : goal.content-text-requires
content-text-requires t c = c.requires.0

pub content-overflow_add-w : goal.content-overflow_add-w
content-overflow_add-w t c = let s = c.args.s.now in
    let at = c.args.at in
    let d = c.args.depth in
    let v : c.white_end-w.result ≡ white_at s at = c.white_end-w.ensures in
    let y : c.byte.result ≡ byte_at s (white_at s at) = c.byte.ensures ∙ ap (byte_at s) v in
    let x : byte_at s (white_at s at) ≡ 60 = sym y ∙ c.if-byte-ne60.false in
    let i = stands 59 s (white_at s at) (eq-eqb _ _ x) in
    omega arith

pub element-returns-then-depth-eq0 : goal.element-returns-then-depth-eq0
element-returns-then-depth-eq0 t c = (rw c.if-depth-eq0.true (sym (element_deep c.args.s.now c.args.at)), c.requires.2)

pub element-name_end-requires : goal.element-name_end-requires
element-name_end-requires t c = c.requires.0

pub element-returns-in_err-e : goal.element-returns-in_err-e
element-returns-in_err-e t c = let s = c.args.s.now in
    let at = c.args.at in
    let d = c.args.depth in
    let p = c.in_err-e.field-0.0 in
    (passed_on c.from_residual.result _ c.from_residual.ensures.1 ∙ sym (element_no_name d s at c.if-depth-eq0.false p (sym c.name_end.ensures ∙ c.in_err-e.was)), c.requires.2)

pub element-returns-then-byte-ne62 : goal.element-returns-then-byte-ne62
element-returns-then-byte-ne62 t c = let s = c.args.s.now in
    let at = c.args.at in
    let d = c.args.depth in
    let e = c.in_ok-e.e in
    let n : name_at s at ≡ Ok e = sym c.name_end.ensures ∙ c.in_ok-e.was in
    (sym (element_no_end d s at c.if-depth-eq0.false e n (λ h. c.if-byte-ne62.true (c.byte.ensures ∙ h))), c.requires.2)

pub element-overflow_add-e : goal.element-overflow_add-e
element-overflow_add-e t c = let s = c.args.s.now in
    let at = c.args.at in
    let d = c.args.depth in
    let e = c.in_ok-e.e in
    let n : name_at s at ≡ Ok e = sym c.name_end.ensures ∙ c.in_ok-e.was in
    let y : byte_at s e ≡ 62 = sym c.byte.ensures ∙ c.if-byte-ne62.false in
    let i = stands 61 s e (eq-eqb _ _ y) in
    let g = name_past s at e n in
    omega arith

pub element-content-requires : goal.element-content-requires
element-content-requires t c = let s = c.args.s.now in
    let at = c.args.at in
    let d = c.args.depth in
    let e = c.in_ok-e.e in
    let n : name_at s at ≡ Ok e = sym c.name_end.ensures ∙ c.in_ok-e.was in
    let y : byte_at s e ≡ 62 = sym c.byte.ensures ∙ c.if-byte-ne62.false in
    let i = stands 61 s e (eq-eqb _ _ y) in
    let g = name_past s at e n in
    (omega arith, (omega arith, omega arith, c.requires.2))

pub element-returns-in_err-p : goal.element-returns-in_err-p
element-returns-in_err-p t c = let s = c.args.s.now in
    let at = c.args.at in
    let d = c.args.depth in
    let e = c.in_ok-e.e in
    let n : name_at s at ≡ Ok e = sym c.name_end.ensures ∙ c.in_ok-e.was in
    let y : byte_at s e ≡ 62 = sym c.byte.ensures ∙ c.if-byte-ne62.false in
    let p = c.in_err-p.field-0.0 in
    (passed_on c.from_residual-in_err-p.result _ c.from_residual-in_err-p.ensures.1 ∙ sym (element_inside d s at c.if-depth-eq0.false e n y p (sym c.content.ensures.0 ∙ c.in_err-p.was)), c.content.ensures.1)

pub element-end_tag-requires : goal.element-end_tag-requires
element-end_tag-requires t c = let s = c.args.s.now in
    let at = c.args.at in
    let d = c.args.depth in
    let e = c.in_ok-e.e in
    let n : name_at s at ≡ Ok e = sym c.name_end.ensures ∙ c.in_ok-e.was in
    let y : byte_at s e ≡ 62 = sym c.byte.ensures ∙ c.if-byte-ne62.false in
    let p = c.in_ok-p.p in
    let k : content_at (d - 1) s (e + 1) ≡ Ok p = sym c.content.ensures.0 ∙ c.in_ok-p.was in
    let i = stands 61 s e (eq-eqb _ _ y) in
    let g = name_past s at e n in
    let f = content_at_past (d - 1) s (e + 1) p k in
    (omega arith, omega arith, omega arith)

pub element-returns-in_err-q : goal.element-returns-in_err-q
element-returns-in_err-q t c = let s = c.args.s.now in
    let at = c.args.at in
    let d = c.args.depth in
    let e = c.in_ok-e.e in
    let n : name_at s at ≡ Ok e = sym c.name_end.ensures ∙ c.in_ok-e.was in
    let y : byte_at s e ≡ 62 = sym c.byte.ensures ∙ c.if-byte-ne62.false in
    let p = c.in_ok-p.p in
    let k : content_at (d - 1) s (e + 1) ≡ Ok p = sym c.content.ensures.0 ∙ c.in_ok-p.was in
    (passed_on c.from_residual-in_err-q.result _ c.from_residual-in_err-q.ensures.1 ∙ sym (element_ends d s at c.if-depth-eq0.false e n y p k ∙ (sym c.end_tag.ensures ∙ c.in_err-q.was)), c.content.ensures.1)

pub element-note-requires : goal.element-note-requires
element-note-requires t c = let s = c.args.s.now in
    let at = c.args.at in
    let e = c.in_ok-e.e in
    let n : name_at s at ≡ Ok e = sym c.name_end.ensures ∙ c.in_ok-e.was in
    (omega (arith, (name_past s at e n).on), name_short s at e n)

pub element-returns : goal.element-returns
element-returns t c = let s = c.args.s.now in
    let at = c.args.at in
    let d = c.args.depth in
    let e = c.in_ok-e.e in
    let n : name_at s at ≡ Ok e = sym c.name_end.ensures ∙ c.in_ok-e.was in
    let y : byte_at s e ≡ 62 = sym c.byte.ensures ∙ c.if-byte-ne62.false in
    let p = c.in_ok-p.p in
    let k : content_at (d - 1) s (e + 1) ≡ Ok p = sym c.content.ensures.0 ∙ c.in_ok-p.was in
    let q = c.in_ok-q.q in
    let z : element_at d s at ≡ Ok q = element_ends d s at c.if-depth-eq0.false e n y p k ∙ (sym c.end_tag.ensures ∙ c.in_ok-q.was) in
    (sym z, rw c.note.ensures (noted_more s _ d at e q c.content.ensures.1 c.requires.1 n z))

pub content-children-requires : goal.content-children-requires
content-children-requires t c = let s = c.args.s.now in
    let at = c.args.at in
    let v : c.white_end-w.result ≡ white_at s at = c.white_end-w.ensures in
    let f = run_from is_white s at in
    let g = run_within is_white s at c.requires.0 in
    (omega arith, (omega arith, c.requires.1, c.requires.2))

pub content-returns-then-byte-eq47 : goal.content-returns-then-byte-eq47
content-returns-then-byte-eq47 t c = let s = c.args.s.now in
    let at = c.args.at in
    let d = c.args.depth in
    let v : c.white_end-w.result ≡ white_at s at = c.white_end-w.ensures in
    let y : c.byte.result ≡ byte_at s (white_at s at) = c.byte.ensures ∙ ap (byte_at s) v in
    elim c.if-byte-ne60.branch [
      | content-then-byte-ne60 w ↦ (c.text.ensures ∙ sym (content_text d s at (λ h. w.if-byte-ne60.true (y ∙ h))), c.requires.2)
      | content-else-byte-ne60 w ↦
          let x : byte_at s (white_at s at) ≡ 60 = sym y ∙ w.if-byte-ne60.false in
          let z : byte_at s (white_at s at + 1) ≡ 47 = sym (w.byte-else-byte-ne60.ensures ∙ ap (λ (n : ℕ). byte_at s (n + 1)) v) ∙ eqb-true _ _ (sym w.value-is ∙ c.if-byte-eq47.true) in
          (c.text.ensures ∙ sym (content_empty d s at x z), c.requires.2)
    ]

pub content-returns-else-byte-eq47 : goal.content-returns-else-byte-eq47
content-returns-else-byte-eq47 t c = let s = c.args.s.now in
    let at = c.args.at in
    let d = c.args.depth in
    let v : c.white_end-w.result ≡ white_at s at = c.white_end-w.ensures in
    let y : c.byte.result ≡ byte_at s (white_at s at) = c.byte.ensures ∙ ap (byte_at s) v in
    elim c.if-byte-ne60.branch [
      | content-then-byte-ne60 w ↦ absurd (w.if-byte-ne60.true (eqb-true _ _ (not-false _ (sym w.value-is ∙ c.if-byte-eq47.false))))
      | content-else-byte-ne60 w ↦
          let x : byte_at s (white_at s at) ≡ 60 = sym y ∙ w.if-byte-ne60.false in
          let z = w.byte-else-byte-ne60.ensures ∙ ap (λ (n : ℕ). byte_at s (n + 1)) v in
          (c.children.ensures.0 ∙ sym (rw v (content_children d s at x (λ h. eqb-false _ _ (sym w.value-is ∙ c.if-byte-eq47.false) (z ∙ h)))), c.children.ensures.1)
    ]
