use Rattle.std.proofs.Common.{◌≡◌, ◌∙◌, ap, sym, arith, ℕ, ◌+◌, ◌*◌, List, length, get_or, take}
use lib.Seq.{take-length, length-take-le}
use Rattle.words.specs.Numbers.{put, bytes8}
use Rattle.words.proofs.Laws.{put_nil}
use Rattle.record.specs.Slot.{flat8}
use Rattle.record.proofs.Laws.{Puts, next, flat8_next, length_flat8}
use Rattle.record.proofs.put_amounts.Goals as goal

pub loop-i-init : goal.loop-i-init
unfolding flat8
loop-i-init c = sym (put_nil c.args.t.now c.args.at)

pub loop-i-preserved : goal.loop-i-preserved
loop-i-preserved c = let a = c.args in
    let i = c.loop-i.i in
    let l : length (take i a.a.now) ≡ i = length-take-le i a.a.now (omega arith) in
    let p : Puts a.t.now a.at (flat8 (take i a.a.now)) c.loop-i.t = record { is = c.loop-i.invariant } in
    let q = next (a.at + 8 * i) (bytes8 (get_or a.a.now i 0)) p c.write8.ensures (omega arith) (omega (arith, length_flat8 (take i a.a.now))) in
    q.is ∙ ap (put a.t.now a.at) (sym (flat8_next a.a.now i (omega arith)))

pub returns : goal.returns
returns c = let a = c.args in
    let e : c.loop-i.i ≡ length a.a.now = omega arith in
    c.loop-i.invariant ∙ ap (λ (k : ℕ). put a.t.now a.at (flat8 (take k a.a.now))) e
    ∙ ap (λ (l : List ℕ). put a.t.now a.at (flat8 l)) (take-length a.a.now)
