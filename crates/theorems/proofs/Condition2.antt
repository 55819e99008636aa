-- CONDITION 2, proved.
use Rattle.std.specs.Prelude.{Result, Some, None, Ok, Err}
use Prim.Native.Nat.{ℕ, suc, zero}
use lib.IntN.{pos, ◌-ℤ◌}
use mathlib.Core.Path.{◌≡◌, refl, sym, ap, ◌∙◌}
use mathlib.Core.Bool.{Bool, true, false, cond}
use mathlib.Core.List.{List}
use lib.ListN.{length}
use lib.Dec.{eqb}
use Rattle.calendar.specs.declared.Date.{Date}
use Rattle.target_days.specs.Target.{target_code}
use Rattle.record.specs.declared.Key.{Key}
use Rattle.slots.proofs.Index.{length_records}
use Rattle.entries.specs.Entry.{slots_of, place_of}
use Rattle.table.specs.Table.{table_ok, body_of, entry_of}
use Rattle.slots.specs.Slots.{records_at}
use Rattle.table.proofs.Bodies.{body_at_lem}
use Rattle.rules.specs.Rules.{judge_notice}
use Rattle.rules.specs.Effects.{records_moved}
use Rattle.service.specs.Service.{notice_comes}
use Rattle.service.proofs.Moved.{notice_records}
use Rattle.notices.specs.declared.NoticeRefusal.{NoticeRefusal}
use Rattle.notices.specs.declared.NoticeRefusal.TheVariants.{InvalidTable, WrongDay, UnknownBody}
use Rattle.address.specs.declared.NoBody.TheVariants.{Invalid, Unknown}
use Rattle.notices.specs.declared.TotalsAnswer.{TotalsAnswer}
use Rattle.address.specs.Address.{addressed}
use Rattle.notices.specs.Notices.{noticed, notice_by, notice_table_by, on_day, NoticePromise, zero_totals, body_totals, totals_of, TotalsPromise}
use Rattle.notices.proofs.Laws.{only_target, slots_served}
use Rattle.address.proofs.Laws.{slots}
use Rattle.request.specs.Request.{needed, request_ok}
use Rattle.opening.specs.declared.OpenRefusal.{OpenRefusal}
use Rattle.opening.specs.declared.OpenRefusal.TheVariants.{WrongRequest, WrongLength}
use Rattle.opening.specs.Opening.{open_of, open_code, OpenPromise}
use Rattle.tree.proofs.Theorem.{answered}
use Rattle.theorems.specs.Engine.{body_records}
use Rattle.theorems.specs.Condition2.{Condition2}
use Rattle.theorems.proofs.Given.{given_when}
use Rattle.theorems.proofs.Exactly.{order_exactly, order_answer, notice_exactly, notice_answer, no_such_key}
use Rattle.theorems.proofs.Accepted.{accepted_counts}
use Rattle.theorems.proofs.Taken.{flow_taken}

-- A BODY of a valid table
module _ (t : List ℕ) (ok : table_ok t ≡ true) (code : List ℕ) (b : ℕ) (e : body_of t code ≡ Some b) where
  abbrev base : ℕ
  base = place_of t (entry_of b)

  abbrev size : ℕ
  size = slots_of t (entry_of b)

  pub is_body : addressed t code ≡ Ok ((entry_of b), base, size)
  unfolding addressed
  is_body = rw (ok, e)

  noticed_is : (executing : Bool) (k : Key) (line : ℕ) (d : Date) → target_code d ≡ 0 → (a : Result ℕ NoticeRefusal) (t' : List ℕ) → NoticePromise t executing code k line d a t'
      → a ≡ noticed (judge_notice executing k line (body_records b t))
  unfolding notice_by notice_comes
  noticed_is executing k line d o a t' p = (only_target t code executing k line d o p).0 ∙ ap (notice_by t executing k line) is_body

  moved_is : (executing : Bool) (k : Key) (line : ℕ) (d : Date) → target_code d ≡ 0 → (a : Result ℕ NoticeRefusal) (t' : List ℕ) → NoticePromise t executing code k line d a t'
      → records_at t' base size ≡ records_moved executing line (body_records b t) (judge_notice executing k line (body_records b t))
  unfolding notice_table_by
  moved_is executing k line d o a t' p =
      ap (λ (u : List ℕ). records_at u base size) ((only_target t code executing k line d o p).1 ∙ ap (notice_table_by t executing k line) is_body)
      ∙ notice_records t (entry_of b) base size executing k line (slots_served (slots t code is_body))

  totals_are : (a : TotalsAnswer) → TotalsPromise t code a → a ≡ body_totals t base size
  unfolding totals_of
  totals_are a p = p ∙ rw is_body

-- NO BODY
module _ (t : List ℕ) (code : List ℕ) where
  pub no_table : table_ok t ≡ false → addressed t code ≡ Err Invalid
  unfolding addressed
  no_table e = rw e

  pub no_body : table_ok t ≡ true → body_of t code ≡ None → addressed t code ≡ Err Unknown
  unfolding addressed
  no_body ok e = rw (ok, e)

  notice_refused : (executing : Bool) (k : Key) (line : ℕ) (d : Date) (a : Result ℕ NoticeRefusal) (t' : List ℕ) → NoticePromise t executing code k line d a t'
      → (table_ok t ≡ false → a ≡ Err InvalidTable)
      × (table_ok t ≡ true → target_code d ≡ 0 → body_of t code ≡ None → a ≡ Err UnknownBody)
      × (table_ok t ≡ true → (target_code d ≡ 0 → ⊥) → a ≡ Err (WrongDay (target_code d)))
  unfolding notice_by
  notice_refused executing k line d a t' p = (
    λ e. p.0 ∙ invalid (target_code d) e,
    λ ok o e. (only_target t code executing k line d o p).0 ∙ ap (notice_by t executing k line) (no_body ok e),
    λ ok h. p.0 ∙ wrong (target_code d) ok h,
  )
    where
      invalid : (c : ℕ) → table_ok t ≡ false → on_day c t (notice_by t executing k line (addressed t code)) ≡ Err InvalidTable
      invalid zero e = ap (notice_by t executing k line) (no_table e)
      invalid (suc c) e = rw e refl

      wrong : (c : ℕ) → table_ok t ≡ true → (c ≡ 0 → ⊥) → on_day c t (notice_by t executing k line (addressed t code)) ≡ Err (WrongDay c)
      wrong zero ok h = absurd (h refl)
      wrong (suc c) ok h = rw ok refl

  totals_refused : (a : TotalsAnswer) → TotalsPromise t code a → (table_ok t ≡ false → a ≡ zero_totals 1) × (table_ok t ≡ true → body_of t code ≡ None → a ≡ zero_totals 7)
  unfolding totals_of
  totals_refused a p = (λ e. p ∙ rw (no_table e), λ ok e. p ∙ rw (no_body ok e))

opening_is : (q t : List ℕ) (a : Result Unit OpenRefusal) (t' : List ℕ) → OpenPromise q t a t' → open_code a ≡ cond (request_ok q) (cond (eqb (length t) (needed q)) 0 10) 9
unfolding open_of
opening_is q t a t' p = ap open_code p.0 ∙ go (request_ok q) (eqb (length t) (needed q))
  where
    go : (x y : Bool) → open_code (cond x (cond y (Ok tt) (Err WrongLength)) (Err WrongRequest)) ≡ cond x (cond y 0 10) 9
    go true true = refl
    go true false = refl
    go false y = refl

pub condition2 : Condition2
unfolding body_totals
condition2 = record {
  reading = answered;
  refusals = given_when;
  taken = flow_taken;
  accepted = accepted_counts;
  notices = noticed_is;
  moved = moved_is;
  exactly = λ t ok b l year o. order_exactly t (place_of t (entry_of b)) (slots_of t (entry_of b)) (body_at_lem t ok b l).holds.body year o;
  answer = λ t ok b l year o. order_answer t (place_of t (entry_of b)) (slots_of t (entry_of b)) (body_at_lem t ok b l).holds.body year o;
  notice_exactly = λ t ok code b e executing k line d o a t' p.
      notice_exactly t executing code k line d o a t' p (entry_of b) (place_of t (entry_of b)) (slots_of t (entry_of b)) (is_body t ok code b e);
  notice_answer = λ t ok code b e executing k line d o a t' p.
      notice_answer t executing code k line d o a t' p (entry_of b) (place_of t (entry_of b)) (slots_of t (entry_of b)) (is_body t ok code b e);
  notice_refused = λ t executing code. notice_refused t code executing;
  totals_refused = totals_refused;
  opening = opening_is;
  no_such_order = λ t ok code b e executing k line d o a t' p.
      no_such_key t executing code k line d o a t' p (entry_of b) (place_of t (entry_of b)) (slots_of t (entry_of b)) (is_body t ok code b e);
  totals = λ t ok code b e a p.
      let s = totals_are t ok code b e a p in (
        ap (λ (x : TotalsAnswer). x.code) s,
        ap (λ (x : TotalsAnswer). x.used) s ∙ sym (length_records t (place_of t (entry_of b)) (slots_of t (entry_of b))),
        ap (λ (x : TotalsAnswer). x.paid) s,
        ap (λ (x : TotalsAnswer). x.collected) s,
        ap (λ (x : TotalsAnswer). x.balance) s ∙ sym (ap (λ (x : TotalsAnswer). pos x.collected -ℤ pos x.paid) s),
      );
}
