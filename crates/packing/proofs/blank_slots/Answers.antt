use Rattle.std.proofs.Common.{◌∙◌, ap, arith, ℕ, ◌*◌, ◌+◌, ◌-◌, ◌≡◌, drop, length-drop, length-take-le}
use lib.ListN.{replicate, length-replicate}
use Rattle.words.proofs.Parts.{put_part}
use Rattle.packing.proofs.blank_slots.Goals as goal

pub returns : goal.returns
returns c = let a = c.args in
    let k = 96 * a.m in
    let l = length-take-le (a.at + k - a.at) (drop a.at a.t.now) (omega (arith, length-drop a.at a.t.now)) in
    let e : c.fill.new.self ≡ replicate k 0 = c.fill.ensures.after (λ y q. q) ∙ ap (λ (n : ℕ). replicate n 0) (l ∙ omega arith) in
    put_part _ _ _ _ (replicate k 0) e (length-replicate {A = ℕ} k 0 ∙ omega arith)
