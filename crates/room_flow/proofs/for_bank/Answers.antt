use mathlib.Core.Path.{refl}
use borrow.Author.Tests.{not-true, not-false}
use Rattle.flow.specs.Flow.{flow_orders}
use Rattle.flow.proofs.Laws.{flow_stood}
use Rattle.header.specs.Heading.{header_by}
use Rattle.serving.specs.Served.{orders_from}
use Rattle.desk.proofs.Laws.{bank_filled, bank_within, bank_rooted, bank_orders}
use Rattle.room.specs.Room.{room_of}
use Rattle.room_flow.proofs.Laws.{bank_other, bank_own, bank_from}
use Rattle.room_flow.proofs.for_bank.Goals as goal

pub white_end-from-requires : goal.white_end-from-requires
white_end-from-requires c = let a = c.args in
    (flow_stood a.e a.f.now a.at c.requires.0).within

pub header_from-h-requires : goal.header_from-h-requires
header_from-h-requires c = let a = c.args in
    (bank_filled a.e a.f.now a.at c.white_end-from.result c.white_end-from.ensures c.requires.0, c.requires.1)

pub part_at-abi-requires : goal.part_at-abi-requires
part_at-abi-requires c = let a = c.args in
    (bank_within a.e a.f.now a.at c.white_end-from.result c.white_end-from.ensures c.requires.0 c.header_from-h.result c.header_from-h.ensures).abi

pub returns-then-not-bank_is : goal.returns-then-not-bank_is
returns-then-not-bank_is c = let a = c.args in
    let os = flow_orders a.e a.f.now a.at in
    bank_from a.e a.f.now a.at c.white_end-from.result c.white_end-from.ensures c.header_from-h.result c.header_from-h.ensures (room_of a.r) a.out.now os refl (bank_other (room_of a.r) a.out.now (header_by a.f.now c.header_from-h.result) os c.part_at-abi.ensures c.bank_is.ensures (not-true _ c.if-not-bank_is.true-raw))

pub with_code-requires : goal.with_code-requires
with_code-requires c = let a = c.args in
    let h = bank_within a.e a.f.now a.at c.white_end-from.result c.white_end-from.ensures c.requires.0 c.header_from-h.result c.header_from-h.ensures in
    let r = bank_rooted a.e a.f.now a.at c.white_end-from.result c.white_end-from.ensures c.requires.0 c.header_from-h.result c.header_from-h.ensures c.root_of-root.result c.root_of-root.ensures a.past.now c.requires.1 in
    (h, r, c.requires.2)

pub returns : goal.returns
returns c = let a = c.args in
    let os = orders_from c.root_of-root.result a.f.now c.header_from-h.result.orders in
    let o = bank_orders a.e a.f.now a.at c.white_end-from.result c.white_end-from.ensures c.requires.0 c.header_from-h.result c.header_from-h.ensures c.root_of-root.result c.root_of-root.ensures in
    bank_from a.e a.f.now a.at c.white_end-from.result c.white_end-from.ensures c.header_from-h.result c.header_from-h.ensures (room_of a.r) a.out.now os o (bank_own (room_of a.r) a.out.now (header_by a.f.now c.header_from-h.result) os c.part_at-abi.ensures c.bank_is.ensures (not-false _ c.if-not-bank_is.false-raw) c.with_code.ensures)
