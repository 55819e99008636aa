use mathlib.Core.Path.{refl}
use native.Mathlib.Omega.{arith}
use borrow.Author.Tests.{not-true, not-false}
use Rattle.table.specs.Table.{table2}
use Rattle.table.proofs.Laws.{head, table}
use Rattle.flow.specs.Flow.{flow_orders}
use Rattle.flow.proofs.Laws.{flow_stood}
use Rattle.serving.specs.Served.{orders_from}
use Rattle.header.specs.Heading.{header_by}
use Rattle.desk.proofs.Laws.{bank_other, bank_own, bank_filled, bank_within, bank_rooted, bank_storable, bank_orders, bank_from}
use Rattle.desk.proofs.for_bank.Goals as goal

pub white_end-from-requires : goal.white_end-from-requires
white_end-from-requires c = (flow_stood c.args.e c.args.f.now c.args.at c.requires.1).within

pub header_from-h-requires : goal.header_from-h-requires
header_from-h-requires c = (bank_filled c.args.e c.args.f.now c.args.at c.white_end-from.result c.white_end-from.ensures c.requires.1, c.requires.2)

pub part_at-abi-requires : goal.part_at-abi-requires
part_at-abi-requires c = (bank_within c.args.e c.args.f.now c.args.at c.white_end-from.result c.white_end-from.ensures c.requires.1 c.header_from-h.result c.header_from-h.ensures).abi

pub slice_bounds-same-start : goal.slice_bounds-same-start
slice_bounds-same-start c = let l = (head table2 c.args.t.now (table table2 c.args.t.now c.requires.0).head_ok).long in
    omega arith

pub slice_bounds-same-end : goal.slice_bounds-same-end
slice_bounds-same-end c = let l = (head table2 c.args.t.now (table table2 c.args.t.now c.requires.0).head_ok).long in
    omega arith

pub returns-then-not-same : goal.returns-then-not-same
returns-then-not-same c = let os = flow_orders c.args.e c.args.f.now c.args.at in
    bank_from c.args.e c.args.f.now c.args.at c.white_end-from.result c.white_end-from.ensures c.requires.1 c.header_from-h.result c.header_from-h.ensures c.args.t.now c.args.out.now os refl (bank_other c.args.t.now c.args.out.now (header_by c.args.f.now c.header_from-h.result) os c.part_at-abi.ensures c.same.ensures (not-true _ c.if-not-same.true-raw))

pub for_body-requires : goal.for_body-requires
for_body-requires c = (c.requires.0, bank_within c.args.e c.args.f.now c.args.at c.white_end-from.result c.white_end-from.ensures c.requires.1 c.header_from-h.result c.header_from-h.ensures, bank_rooted c.args.e c.args.f.now c.args.at c.white_end-from.result c.white_end-from.ensures c.requires.1 c.header_from-h.result c.header_from-h.ensures c.root_of-root.result c.root_of-root.ensures c.args.past.now c.requires.2, c.requires.3, bank_storable c.args.e c.args.f.now c.args.at c.white_end-from.result c.white_end-from.ensures c.requires.1 c.header_from-h.result c.header_from-h.ensures c.root_of-root.result c.root_of-root.ensures)

pub returns : goal.returns
returns c = let os = orders_from c.root_of-root.result c.args.f.now c.header_from-h.result.orders in
    bank_from c.args.e c.args.f.now c.args.at c.white_end-from.result c.white_end-from.ensures c.requires.1 c.header_from-h.result c.header_from-h.ensures c.args.t.now c.args.out.now os (bank_orders c.args.e c.args.f.now c.args.at c.white_end-from.result c.white_end-from.ensures c.requires.1 c.header_from-h.result c.header_from-h.ensures c.root_of-root.result c.root_of-root.ensures) (bank_own c.args.t.now c.args.out.now (header_by c.args.f.now c.header_from-h.result) os c.part_at-abi.ensures c.same.ensures (not-false _ c.if-not-same.false-raw) c.for_body.ensures)
