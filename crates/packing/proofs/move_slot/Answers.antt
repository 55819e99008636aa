use Rattle.std.proofs.Common.{◌∙◌, ap, arith, ℕ, List, ◌+◌, ◌-◌, ◌≡◌, take, drop}
use Rattle.words.specs.Numbers.{put}
use Rattle.packing.proofs.move_slot.Goals as goal

pub returns : goal.returns
returns c = let a = c.args in
    let k = a.from + 96 - a.from in
    let q : k ≡ 96 = omega arith in
    c.copy_in.ensures ∙ ap (λ (l : List ℕ). put a.t.now a.to l) (c.copy_from_slice.ensures.after ∙ ap (λ (n : ℕ). take n (drop a.from a.t.now)) q)
