use Prim.Native.Nat.{◌+◌, ◌*◌}
use native.Mathlib.Omega.{arith}
use Rattle.slots.proofs.Search.{key_is_lem}
use Rattle.slots.proofs.Laws.{used_le}
use Rattle.record.specs.Slot.{slot_size, record_at}
use Rattle.journal.proofs.Lines.{stands_told}
use Rattle.journal.proofs.Marks.{slot_found}
use Rattle.journal.proofs.locate.Goals as goal

pub stands_at-requires : goal.stands_at-requires
stands_at-requires c = omega (arith, used_le c.args.t.now c.args.base c.args.n, c.requires.known, c.requires.inside)

pub returns-then-stands_at : goal.returns-then-stands_at
returns-then-stands_at c = let w = stands_told c.args.first c.args.used c.stands_at.ensures c.if-stands_at.true in
    slot_found c.requires c.args.first c.args.key w.0 (key_is_lem (record_at c.args.t.now (c.args.base + slot_size * c.args.first)) c.args.key w.1)

pub stands_at-requires-2 : goal.stands_at-requires-2
stands_at-requires-2 c = omega (arith, used_le c.args.t.now c.args.base c.args.n, c.requires.known, c.requires.inside)

pub returns-then-stands_at-2 : goal.returns-then-stands_at-2
returns-then-stands_at-2 c = let w = stands_told c.args.second c.args.used c.stands_at-2.ensures c.if-stands_at-2.true in
    slot_found c.requires c.args.second c.args.key w.0 (key_is_lem (record_at c.args.t.now (c.args.base + slot_size * c.args.second)) c.args.key w.1)
