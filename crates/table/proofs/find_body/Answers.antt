use Prim.Native.Nat.{ℕ}
use mathlib.Core.Path.{ap, ◌∙◌}
use native.Mathlib.Omega.{arith}
use Rattle.entries.specs.Entry.{entry_size, codes_from, find_code, forms_ok}
use Rattle.table.specs.Table.{table2, head_size}
use Rattle.table.proofs.Laws.{head, table}
use Rattle.table.proofs.find_body.Goals as goal

pub body_count-n-requires : goal.body_count-n-requires
body_count-n-requires c = let t = c.args.t.now in
    let w = table table2 t c.requires in
    let h = head table2 t w.head_ok in
    h.long

pub find_code-requires : goal.find_code-requires
find_code-requires c = let t = c.args.t.now in
    let w = table table2 t c.requires in
    let h = head table2 t w.head_ok in
    let e = c.body_count-n.ensures.0 in
    (omega arith, omega (arith, h.room), ap (λ (n : ℕ). forms_ok entry_size t head_size n) e ∙ w.forms)

pub returns : goal.returns
returns c = c.find_code.ensures ∙ ap (λ (n : ℕ). find_code (codes_from entry_size c.args.t.now head_size n) 0 c.args.code.now) c.body_count-n.ensures.0
