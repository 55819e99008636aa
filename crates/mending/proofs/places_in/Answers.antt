use Rattle.std.proofs.Common.{◌≡◌, ◌∙◌, ◌+◌, ◌*◌, ap, arith, ℕ, List, length}
use Rattle.packing.proofs.Laws.{room}
use Rattle.words.specs.Numbers.{put, bytes4}
use Rattle.keeping.specs.Keeping.{keeps_at, blanked_from, each_bytes}
use Rattle.mending.proofs.places_in.Goals as goal

pub put_places-requires : goal.put_places-requires
put_places-requires c = let a = c.args in
    let q = room a.n (omega arith) in
    let e : c.flags_of.new.flags ≡ keeps_at a.closed a.t.now a.base a.n = c.flags_of.ensures ∙ ap (keeps_at a.closed a.t.now a.base) q in
    let l = ap (λ (fs : List ℕ). length (blanked_from a.t.now a.base fs)) e in
    (omega arith, omega arith)

pub returns : goal.returns
returns c = let a = c.args in
    let q = room a.n (omega arith) in
    let e : c.flags_of.new.flags ≡ keeps_at a.closed a.t.now a.base a.n = c.flags_of.ensures ∙ ap (keeps_at a.closed a.t.now a.base) q in (
      c.put_places.ensures.0 ∙ ap (λ (fs : List ℕ). a.to + 4 * length (blanked_from a.t.now a.base fs)) e,
      c.put_places.ensures.1 ∙ ap (λ (fs : List ℕ). put a.r.now a.to (each_bytes bytes4 (blanked_from a.t.now a.base fs))) e,
    )
