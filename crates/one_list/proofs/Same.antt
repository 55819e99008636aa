-- THE TWO AGREE on one body: call by call, and by `StandsFor` of the crate isolation over every sequence of them.
use Prim.Native.Nat.{ℕ, ◌+◌, ◌*◌, ◌≤◌}
use mathlib.Core.Path.{◌≡◌, refl, sym, ap, ◌∙◌}
use mathlib.Core.Bool.{true, cond}
use mathlib.Core.List.{List, [], ◌∷◌, ◌++◌}
use native.Mathlib.Omega.{arith}
use lib.ListN.{length}
use lib.Dec.{eqb}
use Rattle.order.specs.Ordinativo.{Ordinativo}
use Rattle.record.specs.declared.Record.{Record}
use Rattle.record.specs.Slot.{slot_size}
use Rattle.slots.specs.Slots.{records_at}
use Rattle.body.specs.Body.{body_ok}
use Rattle.rules.specs.Rules.{judge_order, order_code}
use Rattle.rules.specs.Effects.{records_by}
use Rattle.rules.specs.Searches.{steps_of}
use Rattle.rules.proofs.Kept.{Writables, none, more}
use Rattle.service.specs.Service.{order_comes, order_leaves, outcome_bytes, all_outcomes, all_accepted, all_steps, notice_comes}
use Rattle.service.specs.Inner.{Served}
use Rattle.service.proofs.Kept.{order_kept, order_records, all_kept, all_records_lem}
use Rattle.service.proofs.Moved.{notice_settled, notice_records}
use Rattle.service.proofs.Totals.{Settled, kept_settled}
use Rattle.isolation.proofs.Carry.{StandsFor, run_image, log_image}
use Rattle.one_list.specs.Lists.{list_outcomes, list_accepted, list_steps}
use Rattle.one_list.proofs.OneList.{Call, orders, notice, of_orders, table_answer, table_after, in_table, list_answer, list_after, OneList}

-- A FLOW'S ORDERS
pub record Agrees (t : List ℕ) (base n year : ℕ) (os : List Ordinativo) : Type 0 where
  pub outcomes : list_outcomes n year os (records_at t base n) ≡ all_outcomes t base n year os
  pub accepted : list_accepted n year os (records_at t base n) ≡ all_accepted t base n year os
  pub steps : list_steps n year os (records_at t base n) ≡ all_steps t base n year os

pub flow_agrees : (t : List ℕ) (base n year : ℕ) (os : List Ordinativo) → base + slot_size * n ≤ length t → body_ok t base n ≡ true → Writables os → (2000 ≤ year) × (year ≤ 2099)
    → Agrees t base n year os
unfolding list_outcomes list_accepted list_steps all_outcomes all_accepted all_steps order_comes
flow_agrees t base n year [] fits ok none y = record { outcomes = refl; accepted = refl; steps = refl }
flow_agrees t base n year (o ∷ os) fits ok (more w ws) y =
    let k = order_kept t base n year o fits ok w y in
    let x = flow_agrees (order_leaves t base n year o) base n year os (omega (arith, k.long)) k.ok ws y in
    let l : records_by year o (records_at t base n) (judge_order n year o (records_at t base n)) ≡ records_at (order_leaves t base n year o) base n =
    sym (order_records t base n year o fits ok w y) in
    record {
      outcomes = ap (λ (z : List ℕ). outcome_bytes o (order_code (judge_order n year o (records_at t base n))) ++ z) (ap (list_outcomes n year os) l ∙ x.outcomes);
      accepted = ap (λ (z : ℕ). cond (eqb (order_code (judge_order n year o (records_at t base n))) 0) 1 0 + z) (ap (list_accepted n year os) l ∙ x.accepted);
      steps = ap (λ (z : ℕ). steps_of year o (records_at t base n) + z) (ap (list_steps n year os) l ∙ x.steps);
    }

-- EVERY CALL
module _ (e base n : ℕ) where
  abbrev Good : List ℕ → Type 0
  Good t = Served t e base n

  abbrev image : List ℕ → List Record
  image t = records_at t base n

  still_served : (t t' : List ℕ) → Good t → Settled t t' e base n → Good t'
  still_served t t' g s = record { entry = g.entry; inside = omega (arith, s.long, g.inside); few = g.few; valid = s.ok; agreed = s.agreed }

  stays : (c : Call) (t : List ℕ) → Good t → Good (table_after e base n c t)
  stays (orders year os w y) t g = still_served t _ g (kept_settled g.entry g.agreed (all_kept t base n year os g.inside g.valid w y))
  stays (notice executing k line) t g = still_served t _ g (notice_settled t e base n executing k line g)

  answers : (c : Call) (t : List ℕ) → Good t → list_answer n c (image t) ≡ table_answer e base n c t
  unfolding notice_comes
  answers (orders year os w y) t g = let a = flow_agrees t base n year os g.inside g.valid w y in λ i. of_orders (a.accepted i) (a.steps i) (a.outcomes i)
  answers (notice executing k line) t g = refl

  goes : (c : Call) (t : List ℕ) → Good t → list_after n c (image t) ≡ image (table_after e base n c t)
  goes (orders year os w y) t g = sym (all_records_lem t base n year os g.inside g.valid w y)
  goes (notice executing k line) t g = sym (notice_records t e base n executing k line g)

  stands : StandsFor (in_table e base n) (List Record) (list_answer n) (list_after n) Good image
  stands = record { stays = stays; answers = answers; goes = goes }

-- THE THEOREM
pub one_list : OneList
one_list = record {
  answers = λ e base n cs t g. log_image (in_table e base n) (List Record) (list_answer n) (list_after n) (λ x. Served x e base n) (λ x. records_at x base n) (stands e base n) cs t g;
  lists = λ e base n cs t g. run_image (in_table e base n) (List Record) (list_answer n) (list_after n) (λ x. Served x e base n) (λ x. records_at x base n) (stands e base n) cs t g;
}
