use Rattle.std.proofs.Common.{rules, tests, ◌≡◌, ◌∙◌, ap, ◌+◌, ◌-◌, take, drop, length, sym, arith, length-drop, length-take-le}
use Rattle.std.proofs.lemmas.Iterator.{YieldsList-from_slice}
use Rattle.std.proofs.lemmas.Iterator.Search.{any_from_yields_List}
use lib.Dec.{eqb}
use lib.Seq.{ext_get_or, get_or-take, get_or-drop}
use Rattle.record.proofs.Back.{eight_at_lem}
use Rattle.record.specs.Slot.{eight_at}
use Rattle.closing.specs.Closing.{any_waiting}
use Rattle.closing.proofs.Laws.{waiting_is}
use Rattle.closing.proofs.any_waiting.Goals as goal

pub returns : goal.returns
returns c = let a = c.args in
    let part = take (a.at + 8 - a.at) (drop a.at a.t.now) in
    let l : length part ≡ 8 = length-take-le (a.at + 8 - a.at) (drop a.at a.t.now) (omega (arith, length-drop a.at a.t.now)) ∙ omega arith in
    let e : part ≡ eight_at a.t.now a.at = ext_get_or 0 part (eight_at a.t.now a.at) l (λ i h.
    get_or-take (a.at + 8 - a.at) (drop a.at a.t.now) i 0 (omega arith) ∙ get_or-drop a.at a.t.now i 0 ∙ sym (eight_at_lem a.t.now a.at i (omega arith))) in
    any_from_yields_List (λ x. eqb x 1) _ _ _ c.any.ensures.ran (YieldsList-from_slice (take (a.at + 8 - a.at) (drop a.at a.t.now)) cc) (λ x b q k. search (rules, tests)) ∙ waiting_is (take (a.at + 8 - a.at) (drop a.at a.t.now)) ∙ ap any_waiting e
