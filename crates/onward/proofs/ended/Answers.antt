use Rattle.std.specs.Prelude.{Ok}
use mathlib.Core.Path.{◌≡◌, refl, sym, ◌∙◌}
use mathlib.Core.Bool.{true}
use Prim.Native.Nat.{◌+◌, ◌-◌}
use native.Mathlib.Omega.{arith}
use borrow.Author.Tests.{not-false}
use Rattle.scan.specs.Bytes.{bytes, has_at}
use Rattle.scan.proofs.Laws.{has_within}
use Rattle.tokens.specs.Tokens.{end_tag_at}
use Rattle.tokens.proofs.Laws.{end_past}
use Rattle.markup.proofs.Noted.{name_short}
use Rattle.onward.proofs.Laws.{tagged_on, end_same, end_noted}
use borrow.Author.Rules.{rules}
use Rattle.onward.proofs.ended.Goals as goal

pub returns-then-not-closes : goal.returns-then-not-closes
returns-then-not-closes c = (λ f. absurd (f refl), c.requires.3)

pub slice_bounds-stands-count : goal.slice_bounds-stands-count
slice_bounds-stands-count c = let s = c.args.s.now in
    let a = c.args.a in
    let e = c.args.e in
    let p = c.args.p in
    let t = c.requires.0 in
    let l = tagged_on t in
    omega arith

pub slice_bounds-stands-start : goal.slice_bounds-stands-start
slice_bounds-stands-start c = let s = c.args.s.now in
    let a = c.args.a in
    let e = c.args.e in
    let p = c.args.p in
    let t = c.requires.0 in
    let l = tagged_on t in
    let w = t.within in
    search rules

pub stands-requires : goal.stands-requires
stands-requires c = let s = c.args.s.now in
    let a = c.args.a in
    let e = c.args.e in
    let p = c.args.p in
    let t = c.requires.0 in
    let l = tagged_on t in
    let o : has_at (bytes "</") s p ≡ true = sym c.closes.ensures ∙ not-false _ c.if-not-closes.false-raw in
    has_within (bytes "</") s p c.requires.1 o

pub returns-then-not-stands : goal.returns-then-not-stands
returns-then-not-stands c = (λ f. absurd (f refl), c.requires.3)

pub overflow_sub-q : goal.overflow_sub-q
overflow_sub-q c = let s = c.args.s.now in
    let a = c.args.a in
    let e = c.args.e in
    let p = c.args.p in
    let t = c.requires.0 in
    let l = tagged_on t in
    omega arith

pub overflow_add-q : goal.overflow_add-q
overflow_add-q c = let s = c.args.s.now in
    let a = c.args.a in
    let e = c.args.e in
    let p = c.args.p in
    let t = c.requires.0 in
    let l = tagged_on t in
    let o : has_at (bytes "</") s p ≡ true = sym c.closes.ensures ∙ not-false _ c.if-not-closes.false-raw in
    let z : end_tag_at s a e p ≡ Ok (p + 2 + (e + 1 - a)) = end_same t p o (sym c.stands.ensures ∙ not-false _ c.if-not-stands.false-raw) in
    let w = end_past s a e p (p + 2 + (e + 1 - a)) z in
    omega arith

pub note-requires : goal.note-requires
note-requires c = let s = c.args.s.now in
    let a = c.args.a in
    let e = c.args.e in
    let p = c.args.p in
    let t = c.requires.0 in
    let l = tagged_on t in
    (omega arith, name_short s a e t.name)

pub white_end-requires : goal.white_end-requires
white_end-requires c = let s = c.args.s.now in
    let a = c.args.a in
    let e = c.args.e in
    let p = c.args.p in
    let t = c.requires.0 in
    let l = tagged_on t in
    let o : has_at (bytes "</") s p ≡ true = sym c.closes.ensures ∙ not-false _ c.if-not-closes.false-raw in
    let z : end_tag_at s a e p ≡ Ok (p + 2 + (e + 1 - a)) = end_same t p o (sym c.stands.ensures ∙ not-false _ c.if-not-stands.false-raw) in
    let w = end_past s a e p (p + 2 + (e + 1 - a)) z in
    w.within

pub returns : goal.returns
returns c = let s = c.args.s.now in
    let a = c.args.a in
    let e = c.args.e in
    let p = c.args.p in
    let t = c.requires.0 in
    let l = tagged_on t in
    let o : has_at (bytes "</") s p ≡ true = sym c.closes.ensures ∙ not-false _ c.if-not-closes.false-raw in
    let z : end_tag_at s a e p ≡ Ok (p + 2 + (e + 1 - a)) = end_same t p o (sym c.stands.ensures ∙ not-false _ c.if-not-stands.false-raw) in
    let w = end_past s a e p (p + 2 + (e + 1 - a)) z in
    (λ f. record { past = p + 2 + (e + 1 - a); closes = o; end = z; next = c.white_end.ensures }, rw c.note.ensures (end_noted t p o _ (p + 2 + (e + 1 - a)) c.requires.2 z c.requires.3))
