use mathlib.Core.Path.{◌≡◌, ap, ◌∙◌, subst⁻¹}
use mathlib.Core.List.{List}
use mathlib.Core.Bool.{true}
use Prim.Native.Nat.{ℕ}
use Rattle.entries.specs.Entry.{slots_of, place_of}
use Rattle.body.specs.Body.{body_ok}
use Rattle.table.specs.Table.{records_of}
use Rattle.service.specs.Service.{settled}
use Rattle.salvage.specs.Inner.{Fits}
use Rattle.salvage.proofs.All.{mid_fits, mid_holds, repaired_by}
use Rattle.salvage.proofs.Laws.{packed_by}
use Rattle.salvage.proofs.repair_at.Goals as goal

pub settle_at-requires : goal.settle_at-requires
settle_at-requires c = let k = packed_by c.args.t.now _ c.args.at c.place_of-base.ensures.0 c.slots_of-n.ensures.0 c.closed_of-closed.ensures.0 c.repair_in.ensures in
    subst⁻¹ (λ (s : List ℕ). Fits s c.args.at × (body_ok s (place_of s c.args.at) (slots_of s c.args.at) ≡ true)) k (mid_fits c.args.t.now c.args.at c.requires, mid_holds c.args.t.now c.args.at c.requires)

pub returns : goal.returns
returns c = let k = packed_by c.args.t.now _ c.args.at c.place_of-base.ensures.0 c.slots_of-n.ensures.0 c.closed_of-closed.ensures.0 c.repair_in.ensures in
    c.settle_at.ensures ∙ ap (λ (s : List ℕ). settled s c.args.at (records_of s c.args.at)) k ∙ repaired_by c.args.t.now c.args.at c.requires
