use Prim.Native.Nat.{ℕ, ◌+◌}
use mathlib.Core.List.{List}
use lib.ListN.{length}
use Rattle.words.specs.Numbers.{put, bytes4}
use Rattle.keeping.specs.Keeping.{each_bytes}
use Rattle.keeping.proofs.Laws.{blanked_rest, rest_start, rest_yes, rest_no, rest_end, put_more, put_none}
use native.Mathlib.Omega.{arith}
use mathlib.Core.Path.{refl, sym, ap, ◌∙◌}
use Rattle.keeping.proofs.put_places.Goals as goal
use Rattle.keeping.proofs.put_places.Goals.{then-is_blanked, else-is_blanked}

pub loop-i-init : goal.loop-i-init
loop-i-init c = let e = rest_start c.args.t.now c.args.base c.args.flags.now in
    (omega (arith, ap length e), ap (λ (vs : List ℕ). put c.args.r.now c.args.to (each_bytes bytes4 vs)) e)

pub write4-requires : goal.write4-requires
write4-requires c = let k = rest_yes c.args.t.now c.args.base c.args.flags.now c.loop-i.i (omega arith) c.is_blanked.ensures c.if-is_blanked.true in
    omega (arith, ap length k, c.loop-i.invariant.0)

pub overflow_add-next : goal.overflow_add-next
overflow_add-next c = let k = rest_yes c.args.t.now c.args.base c.args.flags.now c.loop-i.i (omega arith) c.is_blanked.ensures c.if-is_blanked.true in
    omega (arith, ap length k, c.loop-i.invariant.0)

pub loop-i-preserved : goal.loop-i-preserved
loop-i-preserved c = let l = c.loop-i in
    elim c.if-is_blanked.branch [
      | then-is_blanked w ↦
          let k = rest_yes c.args.t.now c.args.base c.args.flags.now l.i (omega arith) c.is_blanked.ensures w.if-is_blanked.true in
          let s = ap length k in
          let z = blanked_rest c.args.t.now c.args.base c.args.flags.now (l.i + 1) in (
            l.invariant.0 ∙ omega (arith, w.next-is),
            l.invariant.1 ∙ ap (λ (vs : List ℕ). put l.r l.next (each_bytes bytes4 vs)) k ∙ put_more bytes4 l.r l.next c.if-is_blanked.r 4 _ z refl (omega (arith, l.invariant.0)) (w.r-is ∙ w.write4.ensures) ∙ (λ j. put c.if-is_blanked.r (sym w.next-is j) (each_bytes bytes4 z)),
          )
      | else-is_blanked w ↦
          let k = rest_no c.args.t.now c.args.base c.args.flags.now l.i (omega arith) c.is_blanked.ensures w.if-is_blanked.false in (
            l.invariant.0 ∙ omega (arith, w.next-is, ap length k),
            l.invariant.1 ∙ (λ j. put (sym w.r-is j) (sym w.next-is j) (each_bytes bytes4 (k j))),
          )
    ]

pub returns : goal.returns
returns c = let l = c.loop-i in
    let k = rest_end c.args.t.now c.args.base c.args.flags.now l.i (omega arith) in
    (omega (arith, l.invariant.0, ap length k), sym (l.invariant.1 ∙ ap (λ (vs : List ℕ). put l.r l.next (each_bytes bytes4 vs)) k ∙ put_none bytes4 l.r l.next))
