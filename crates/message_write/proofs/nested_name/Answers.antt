use mathlib.Core.Path.{sym, ap, ◌∙◌}
use native.Mathlib.Omega.{arith}
use Prim.Native.Nat.{ℕ}
use Rattle.schema.specs.declared.Parent.TheVariants.{FlussoOpi, TestataFlusso}
use Rattle.rows.specs.Kept.{kept_from}
use Rattle.orders.specs.Orders.{text_in}
use Rattle.orders.proofs.Laws.{found, found_some}
use Rattle.header.proofs.Laws.{nested}
use Rattle.message_write.proofs.nested_name.Goals as goal

pub first_named-requires : goal.first_named-requires
first_named-requires c = (c.requires.0.within, c.requires.1, found_some 3 FlussoOpi c.args.f.now 0 c.args.from c.requires.0)

pub overflow_add-k : goal.overflow_add-k
overflow_add-k c = let l = (found 3 FlussoOpi c.args.f.now 0 c.args.from c.requires.0 c.first_named.result c.first_named.ensures).lies in omega arith

pub white_end-inner-requires : goal.white_end-inner-requires
white_end-inner-requires c = let l = (found 3 FlussoOpi c.args.f.now 0 c.args.from c.requires.0 c.first_named.result c.first_named.ensures).lies in omega arith

pub second_from-requires : goal.second_from-requires
second_from-requires c = rw c.white_end-inner.ensures (record { depth = 2; others = _; filled = (nested c.args.f.now c.args.from c.first_named.result c.requires.0 c.first_named.ensures).inner.filled }, c.requires.1)

pub returns : goal.returns
returns c = (c.second_from.ensures.0 ∙ ap (λ (j : ℕ). text_in 1 c.args.f.now (kept_from TestataFlusso c.args.f.now j)) c.white_end-inner.ensures ∙ sym (ap (text_in 1 c.args.f.now) (nested c.args.f.now c.args.from c.first_named.result c.requires.0 c.first_named.ensures).own), c.second_from.ensures.1, c.second_from.ensures.2)
