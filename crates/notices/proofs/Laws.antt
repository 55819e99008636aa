-- Laws of notices and totals, a way out of the code at a time.
use Rattle.std.specs.Prelude.{Result, Ok, Err}
use mathlib.Core.Path.{◌≡◌, refl, sym, ap, ◌∙◌}
use mathlib.Core.List.{List}
use mathlib.Core.Bool.{Bool, cond}
use Prim.Native.Nat.{ℕ, zero, suc, ◌*◌, ◌≤◌}
use native.Mathlib.Omega.{arith}
use lib.IntN.{ℤ, pos, ◌-ℤ◌}
use Rattle.calendar.specs.declared.Date.{Date}
use Rattle.target_days.specs.Target.{target_code}
use Rattle.record.specs.declared.Key.{Key}
use Rattle.slots.specs.Slots.{records_at, used_at}
use Rattle.body.specs.Body.{cents_of}
use Rattle.body.proofs.Laws.{cents_most}
use Rattle.bounds.specs.Bounds.{max_cents, max_slots}
use Rattle.entries.specs.Entry.{kept}
use Rattle.service.specs.Service.{notice_comes, notice_leaves}
use Rattle.service.specs.Inner.{Served}
use Rattle.service.proofs.Totals.{agrees_is}
use Rattle.address.specs.declared.NoBody.{NoBody}
use Rattle.address.specs.declared.NoBody.TheVariants.{Invalid, Unknown}
use Rattle.notices.specs.declared.NoticeRefusal.{NoticeRefusal}
use Rattle.notices.specs.declared.NoticeRefusal.TheVariants.{InvalidTable, WrongDay, UnknownBody}
use Rattle.notices.specs.declared.TotalsAnswer.{TotalsAnswer}
use Rattle.table.specs.Table.{table_ok}
use Rattle.address.specs.Address.{addressed}
use Rattle.notices.specs.Notices.{noticed, notice_by, notice_table_by, on_day, table_on_day, NoticePromise, body_totals, totals_by, totals_of}
use Rattle.address.proofs.Laws.{Slots}

-- A NOTICE
module _ (t code : List ℕ) (x : Bool) (k : Key) (line : ℕ) where
  pub no_table : addressed t code ≡ Err Invalid → (Err InvalidTable ≡ notice_by t x k line (addressed t code)) × (t ≡ notice_table_by t x k line (addressed t code))
  unfolding notice_by notice_table_by
  no_table e = (sym (ap (notice_by t x k line) e), sym (ap (notice_table_by t x k line) e))

  pub no_body : addressed t code ≡ Err Unknown → (Err UnknownBody ≡ notice_by t x k line (addressed t code)) × (t ≡ notice_table_by t x k line (addressed t code))
  unfolding notice_by notice_table_by
  no_body e = (sym (ap (notice_by t x k line) e), sym (ap (notice_table_by t x k line) e))

  pub served : {e base n : ℕ} {m : Result (ℕ × ℕ) ℕ} {r : Result ℕ NoticeRefusal} {u : List ℕ} → addressed t code ≡ Ok (e, base, n)
      → m ≡ notice_comes t base n x k line → u ≡ notice_leaves t e base n x k line → r ≡ noticed m
      → (r ≡ notice_by t x k line (addressed t code)) × (u ≡ notice_table_by t x k line (addressed t code))
  unfolding notice_by notice_table_by
  served q f g h = (h ∙ ap noticed f ∙ sym (ap (notice_by t x k line) q), g ∙ sym (ap (notice_table_by t x k line) q))

  -- ON A DATE of code 0, or of another
  pub on_target : {r : Result ℕ NoticeRefusal} {u : List ℕ} (d : Date) → target_code d ≡ 0
      → (r ≡ notice_by t x k line (addressed t code)) × (u ≡ notice_table_by t x k line (addressed t code)) → NoticePromise t x code k line d r u
  on_target d e p =
      (p.0 ∙ ap (λ c. on_day c t (notice_by t x k line (addressed t code))) (sym e), p.1 ∙ ap (λ c. table_on_day c t (notice_table_by t x k line (addressed t code))) (sym e))

  pub only_target : {r : Result ℕ NoticeRefusal} {u : List ℕ} (d : Date) → target_code d ≡ 0 → NoticePromise t x code k line d r u
      → (r ≡ notice_by t x k line (addressed t code)) × (u ≡ notice_table_by t x k line (addressed t code))
  only_target d e p =
      (p.0 ∙ ap (λ c. on_day c t (notice_by t x k line (addressed t code))) e, p.1 ∙ ap (λ c. table_on_day c t (notice_table_by t x k line (addressed t code))) e)

  pub off_target : (d : Date) (c : ℕ) → target_code d ≡ c → (c ≡ 0 → ⊥) → (b : Bool) → table_ok t ≡ b → NoticePromise t x code k line d (cond b (Err (WrongDay c)) (Err InvalidTable)) t
  off_target d zero e h b f = absurd (h refl)
  off_target d (suc c) e h b f = (
    sym (ap (λ n. on_day n t (notice_by t x k line (addressed t code))) e ∙ ap (λ y. cond y (Err (WrongDay (suc c))) (Err InvalidTable)) f),
    sym (ap (λ n. table_on_day n t (notice_table_by t x k line (addressed t code))) e),
  )

-- TOTALS
module _ (t code : List ℕ) where
  pub totals_at : {r : TotalsAnswer} {a : Result (ℕ × ℕ × ℕ) NoBody} → addressed t code ≡ a → r ≡ totals_by t a → r ≡ totals_of t code
  unfolding totals_of
  totals_at e f = f ∙ sym (ap (totals_by t) e)

pub totals_made : (t : List ℕ) (base n : ℕ) {u p c : ℕ} {b : ℤ} → u ≡ used_at t base n → p ≡ cents_of 1 (records_at t base n)
    → c ≡ cents_of 2 (records_at t base n) → b ≡ pos c -ℤ pos p
    → ◌≡◌ {A = TotalsAnswer} (record { code = 0; used = u; paid = p; collected = c; balance = b }) (body_totals t base n)
unfolding body_totals
totals_made t base n e f g h =
    let d = h ∙ (λ i. pos (g i) -ℤ pos (f i)) in
    λ i. record { code = 0; used = e i; paid = f i; collected = g i; balance = d i }

-- what the entry of a body keeps is what its records have, and it is bounded
module _ {t : List ℕ} {e base n : ℕ} (S : Served t e base n) where
  pub paid_is : kept 1 t e ≡ cents_of 1 (records_at t base n)
  paid_is = (agrees_is t e (records_at t base n) S.agreed).0

  pub collected_is : kept 2 t e ≡ cents_of 2 (records_at t base n)
  collected_is = (agrees_is t e (records_at t base n) S.agreed).1

  pub few_cents : (kind : ℕ) → cents_of kind (records_at t base n) ≤ max_cents * max_slots
  few_cents kind = omega (arith, cents_most t base n kind S.valid, S.few)

pub slots_served : {t : List ℕ} {e base n : ℕ} → Slots t e base n → Served t e base n
slots_served s = record { entry = s.entry; inside = s.inside; few = s.few; valid = s.valid; agreed = s.agreed }
