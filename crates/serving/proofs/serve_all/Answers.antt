use native.Mathlib.Omega.{arith}
use lib.ListN.{length-replicate}
use Prim.Native.Nat.{ℕ}
use Rattle.slots.specs.Slots.{records_at}
use Rattle.slots.proofs.Laws.{used_le}
use Rattle.slots.proofs.Filter.{filters, filters_all}
use Rattle.serving.proofs.serve_all.Goals as goal

pub serve_marked-requires : goal.serve_marked-requires
serve_marked-requires c = (c.requires.0, c.requires.1, c.requires.2, c.requires.3, omega arith, filters_all 0 (records_at c.args.t.now c.args.base c.args.n))

pub returns-then-count-lt4 : goal.returns-then-count-lt4
returns-then-count-lt4 c = c.serve_marked.ensures

pub mark_keys-records-requires : goal.mark_keys-records-requires
mark_keys-records-requires c = (c.requires.0.inside, length-replicate {A = ℕ} 4096 0)

pub serve_marked-requires-2 : goal.serve_marked-requires-2
serve_marked-requires-2 c = (c.requires.0, c.requires.1, c.requires.2, c.requires.3, omega (arith, used_le c.args.t.now c.args.base c.args.n, c.mark_keys-records.ensures.0), filters c.args.t.now c.args.base c.args.n c.mark_keys-records.ensures.0 c.mark_keys-records.ensures.1)

pub returns : goal.returns
returns c = c.serve_marked-2.ensures
