use Rattle.std.proofs.Common.{◌≡◌, arith, rules, length, refl, ◌+◌, ◌%◌, [], ◌∷◌}
use Rattle.words.specs.Numbers.{bytes2, bytes4, bytes8}
use Rattle.record.specs.Slot.{record_bytes, flat8}
use Rattle.record.proofs.Laws.{Puts, next}
use Rattle.record.proofs.put_record.Goals as goal

pub returns : goal.returns
unfolding record_bytes
returns c = let a = c.args in
    let r = a.r in
    let l : length r.states ≡ 8 = search (rules, c.well_formed.1.1.0.1) in
    let p₁ : Puts a.t.now a.at (r.kind ∷ r.state ∷ r.lines ∷ 0 ∷ []) c.copy_in.new.s = record { is = c.copy_in.ensures } in
    let p₂ = next (a.at + 4) (bytes2 r.esercizio) p₁ c.write2.ensures (omega arith) refl in
    let p₃ = next (a.at + 6) (0 ∷ 0 ∷ []) p₂ c.copy_in-2.ensures (omega arith) refl in
    let p₄ = next (a.at + 8) (bytes4 r.number) p₃ c.write4.ensures (omega arith) refl in
    let p₅ = next (a.at + 12) (bytes2 r.date.year) p₄ c.write2-2.ensures (omega arith) refl in
    let p₆ = next (a.at + 14) (r.date.month % 256 ∷ r.date.day % 256 ∷ []) p₅ c.copy_in-3.ensures (omega arith) refl in
    let p₇ = next (a.at + 16) (bytes8 r.total) p₆ c.write8.ensures (omega arith) refl in
    let p₈ = next (a.at + 24) r.states p₇ c.copy_in-4.ensures (omega arith) refl in
    let p₉ = next (a.at + 32) (flat8 r.amounts) p₈ c.put_amounts.ensures (omega arith) (omega arith) in
    p₉.is
