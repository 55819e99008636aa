use Rattle.std.specs.Prelude.{Ok}
use mathlib.Core.Path.{◌≡◌, sym, ◌∙◌}
use native.Mathlib.Omega.{arith}
use Prim.Native.Nat.{◌+◌}
use borrow.Author.Tests.{eq-eqb}
use Rattle.scan.specs.Bytes.{byte_at}
use Rattle.scan.proofs.Laws.{stands}
use Rattle.tokens.specs.Tokens.{name_at}
use Rattle.tokens.proofs.Laws.{name_past}
use Rattle.onward.proofs.start_by_name.Goals as goal

pub name_end-requires : goal.name_end-requires
name_end-requires c = let s = c.args.s.now in
    let i = c.args.i in
    let y : byte_at s i ≡ 60 = sym c.byte.ensures ∙ c.if-byte-ne60.false in
    let w = stands 59 s i (eq-eqb _ _ y) in
    omega arith

pub spot_of-requires : goal.spot_of-requires
spot_of-requires c = let s = c.args.s.now in
    let i = c.args.i in
    let y : byte_at s i ≡ 60 = sym c.byte.ensures ∙ c.if-byte-ne60.false in
    let e = c.in-Ok.e in
    let n : name_at s (i + 1) ≡ Ok e = sym c.name_end.ensures ∙ c.in-Ok.is in
    let g = name_past s (i + 1) e n in
    (omega arith, g.within)

pub returns-in-None : goal.returns-in-None
returns-in-None c = let s = c.args.s.now in
    let i = c.args.i in
    let y : byte_at s i ≡ 60 = sym c.byte.ensures ∙ c.if-byte-ne60.false in
    let e = c.in-Ok.e in
    let n : name_at s (i + 1) ≡ Ok e = sym c.name_end.ensures ∙ c.in-Ok.is in
    record { gt = e; lt = y; name = n; spot = sym c.spot_of.ensures ∙ c.in-None.is }
