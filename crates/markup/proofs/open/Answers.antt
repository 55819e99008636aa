use Rattle.std.specs.Prelude.{Ok}
use mathlib.Core.Path.{◌≡◌, sym, ◌∙◌}
use native.Mathlib.Omega.{arith}
use borrow.Author.Tests.{eq-eqb}
use Prim.Native.Nat.{◌+◌}
use Rattle.scan.specs.Bytes.{byte_at}
use Rattle.scan.proofs.Laws.{stands}
use Rattle.tokens.specs.Tokens.{name_at}
use Rattle.tokens.proofs.Laws.{name_past}
use Rattle.markup.specs.Markup.{root_at}
use Rattle.markup.proofs.Laws.{passed_on, mark_within, declaration_within, root_is, opened_none, opened_no_name, opened_no_tag, opened_tag}
use Rattle.markup.proofs.open.Goals as goal

pub optional-d-requires : goal.optional-d-requires
optional-d-requires c = mark_within c.args.s.now _ c.optional-a.ensures

pub white_end-lt-requires : goal.white_end-lt-requires
white_end-lt-requires c = declaration_within c.args.s.now _ c.optional-a.ensures _ c.optional-d.ensures

pub returns-then-byte-ne60 : goal.returns-then-byte-ne60
returns-then-byte-ne60 c = let s = c.args.s.now in
    let lt = c.white_end-lt.result in
    let v : lt ≡ root_at s = root_is s _ c.optional-a.ensures _ c.optional-d.ensures lt c.white_end-lt.ensures in
    sym (opened_none c.args.ids s lt v (λ h. c.if-byte-ne60.true (c.byte.ensures ∙ h)))

pub overflow_add-lt : goal.overflow_add-lt
overflow_add-lt c = let s = c.args.s.now in
    let lt = c.white_end-lt.result in
    let o : byte_at s lt ≡ 60 = sym c.byte.ensures ∙ c.if-byte-ne60.false in
    let l = stands 59 s lt (eq-eqb _ _ o) in
    omega arith

pub name_end-requires : goal.name_end-requires
name_end-requires c = let s = c.args.s.now in
    let lt = c.white_end-lt.result in
    let o : byte_at s lt ≡ 60 = sym c.byte.ensures ∙ c.if-byte-ne60.false in
    let l = stands 59 s lt (eq-eqb _ _ o) in
    omega arith

pub returns-in_err-e : goal.returns-in_err-e
returns-in_err-e c = let s = c.args.s.now in
    let lt = c.white_end-lt.result in
    let v : lt ≡ root_at s = root_is s _ c.optional-a.ensures _ c.optional-d.ensures lt c.white_end-lt.ensures in
    let o : byte_at s lt ≡ 60 = sym c.byte.ensures ∙ c.if-byte-ne60.false in
    passed_on c.from_residual.result _ c.from_residual.ensures.1 ∙ sym (opened_no_name c.args.ids s lt v o _ (sym c.name_end.ensures ∙ c.in_err-e.was))

pub tag_end-requires : goal.tag_end-requires
tag_end-requires c = let s = c.args.s.now in
    let lt = c.white_end-lt.result in
    let o : byte_at s lt ≡ 60 = sym c.byte.ensures ∙ c.if-byte-ne60.false in
    let e = c.in_ok-e.e in
    let n : name_at s (lt + 1) ≡ Ok e = sym c.name_end.ensures ∙ c.in_ok-e.was in
    (name_past s (lt + 1) e n).within

pub returns-in_err-c : goal.returns-in_err-c
returns-in_err-c c = let s = c.args.s.now in
    let lt = c.white_end-lt.result in
    let v : lt ≡ root_at s = root_is s _ c.optional-a.ensures _ c.optional-d.ensures lt c.white_end-lt.ensures in
    let o : byte_at s lt ≡ 60 = sym c.byte.ensures ∙ c.if-byte-ne60.false in
    let e = c.in_ok-e.e in
    let n : name_at s (lt + 1) ≡ Ok e = sym c.name_end.ensures ∙ c.in_ok-e.was in
    passed_on c.from_residual-in_err-c.result _ c.from_residual-in_err-c.ensures.1 ∙ sym (opened_no_tag c.args.ids s lt v o e n _ (sym c.tag_end.ensures ∙ c.in_err-c.was))

pub returns : goal.returns
returns c = let s = c.args.s.now in
    let lt = c.white_end-lt.result in
    let v : lt ≡ root_at s = root_is s _ c.optional-a.ensures _ c.optional-d.ensures lt c.white_end-lt.ensures in
    let o : byte_at s lt ≡ 60 = sym c.byte.ensures ∙ c.if-byte-ne60.false in
    let e = c.in_ok-e.e in
    let n : name_at s (lt + 1) ≡ Ok e = sym c.name_end.ensures ∙ c.in_ok-e.was in
    sym (opened_tag c.args.ids s lt v o e n _ (sym c.tag_end.ensures ∙ c.in_ok-c.was))
