-- ACCEPTED EXACTLY WHEN NO LISTED REFUSAL APPLIES (document 01, "Answers"; what the refusals say: crates/rules/specs/Listed.antt), on a valid body:
--   order-exactly    an order's outcome code is 0 exactly when no listed refusal applies to it
--   order-answer     it is another number exactly when the refusal of that number applies and none that applies has an earlier turn
--   notice-exactly   a notice's code is 0 exactly when no listed refusal applies to it
--   notice-answer    it is another number exactly when the refusal of that number applies and none that applies has an earlier turn
--   no-such-key      "a kind other than 1 and 2, or a number 0, gets 16"
use Rattle.std.specs.Prelude.{Option, Result, Some, None as Nothing, Ok, Err}
use Prim.Native.Nat.{ℕ}
use mathlib.Core.Path.{◌≡◌, refl, sym, ap, ◌∙◌, subst}
use mathlib.Core.Bool.{Bool, true}
use mathlib.Core.List.{List}
use native.Mathlib.Omega.{arith}
use Rattle.journal.specs.Told.{Exactly}
use Rattle.record.specs.declared.Key.{Key}
use Rattle.record.specs.declared.Record.{Record}
use Rattle.slots.specs.Slots.{records_at, find_in, distinct, nth, no_record}
use Rattle.slots.proofs.Search.{found_key}
use Rattle.body.specs.Body.{body_ok}
use Rattle.body.proofs.Slots.{parts, valid_at}
use Rattle.valid.proofs.Valid.{Valid, ok_bounds}
use Rattle.order.specs.Ordinativo.{Ordinativo}
use Rattle.rules.specs.Rules.{judge_order, order_code, notice_at, judge_notice, notice_code}
use Rattle.rules.specs.Listed.{Applies, NoticeApplies, unknown, closed, zeroth, past, already, not_yet, notice_turn}
use Rattle.rules.proofs.Listed.{Decided, taken, stopped, decide, one_in_turn, unmoved_applies, notice_by_lem, moved_none, one_notice_in_turn}
use Rattle.slots.proofs.Held.{search_held}
use Rattle.service.specs.Service.{order_comes, notice_comes, notice_stored}
use Rattle.address.specs.Address.{addressed}
use Rattle.address.proofs.Laws.{slots}
use Rattle.notices.specs.declared.NoticeRefusal.{NoticeRefusal}
use Rattle.notices.specs.declared.NoticeRefusal.TheVariants.{Declined}
use Rattle.calendar.specs.declared.Date.{Date}
use Rattle.target_days.specs.Target.{target_code}
use Rattle.notices.specs.Notices.{noticed, notice_by, notice_table_by, NoticePromise, notice_code_of}
use Rattle.notices.proofs.Laws.{only_target}
use Rattle.theorems.proofs.Codes.{order_coded, never_zero, noticed_code}
use Rattle.theorems.specs.Condition2.{None, NoneListed, FirstListed, InTurn, Strange, kind, number}

-- a record that a search found is valid
pub found_valid : (t : List ℕ) (at n : ℕ) → body_ok t at n ≡ true → (k : Key) (i : ℕ) → find_in (records_at t at n) 0 k ≡ Some i → Valid (nth (records_at t at n) i)
found_valid t at n ok k i f =
    let x = search_held t at n k refl f in
    subst Valid (sym x.same) (valid_at t at n i ok x.used)

module _ (t : List ℕ) (base n : ℕ) (ok : body_ok t base n ≡ true) where
  abbrev records : List Record
  records = records_at t base n

  apart : distinct records ≡ true
  apart = (parts t base n ok).keys

  -- AN ORDER
  module _ (year : ℕ) (o : Ordinativo) where
    pub order_exactly : Exactly (order_code (order_comes t base n year o) ≡ 0) (NoneListed (Applies n year o records))
    unfolding order_comes
    order_exactly = (λ z. clear (decide n year o records apart) z, λ h. free h (decide n year o records apart))
      where
        clear : Decided n year o records apart → order_code (judge_order n year o records) ≡ 0 → NoneListed (Applies n year o records)
        clear (taken c i e none) z = none
        clear (stopped s) z =
            let w = never_zero (judge_order n year o records) (order_coded n year o records) z in
            let y : ◌≡◌ {A = ℕ} 0 1 = cc (w.2, s.is) in
            absurd (omega arith)

        free : NoneListed (Applies n year o records) → Decided n year o records apart → order_code (judge_order n year o records) ≡ 0
        free h (taken c i e none) = ap order_code e
        free h (stopped s) = absurd (h s.turn s.with s.applies)

    pub order_answer : (c : ℕ) → (c ≡ 0 → ⊥) → Exactly (order_code (order_comes t base n year o) ≡ c) (FirstListed (Applies n year o records) c)
    unfolding order_comes
    order_answer c h = (λ e. gives (decide n year o records apart) e, λ x. given x (decide n year o records apart))
      where
        gives : Decided n year o records apart → order_code (judge_order n year o records) ≡ c → FirstListed (Applies n year o records) c
        gives (taken d i e none) q = absurd (h (sym q ∙ ap order_code e))
        gives (stopped s) q = (s.turn, subst (Applies n year o records s.turn) (sym (ap order_code s.is) ∙ q) s.applies, λ u x a. s.first a)

        given : FirstListed (Applies n year o records) c → Decided n year o records apart → order_code (judge_order n year o records) ≡ c
        given x (taken d i e none) = absurd (none x.0 c x.1)
        given x (stopped s) =
            let q : s.turn ≡ x.0 = omega (arith, s.first x.1, x.2 s.turn s.with s.applies) in
            ap order_code s.is ∙ one_in_turn n year o records apart (subst (λ (u : ℕ). Applies n year o records u s.with) q s.applies) x.1

  -- A NOTICE on the body
  module _ (executing : Bool) (k : Key) (line : ℕ) where
    never : {c : ℕ} → NoticeApplies executing k line records c → c ≡ 0 → ⊥
    never (unknown h) e = omega arith
    never (closed r h q) e = omega arith
    never (zeroth q) e = omega arith
    never (past r h q) e = omega arith
    never (already p r h q) e = omega arith
    never (not_yet p r h q) e = omega arith

    comes_exactly : Exactly (notice_code (notice_comes t base n executing k line) ≡ 0) (None (NoticeApplies executing k line records))
    unfolding notice_comes
    comes_exactly = (λ z c a. taken (judge_notice executing k line records) refl z a, λ h. go h (judge_notice executing k line records) refl)
      where
        taken : (m : Result (ℕ × ℕ) ℕ) → judge_notice executing k line records ≡ m → notice_code m ≡ 0 → {c : ℕ} → NoticeApplies executing k line records c → ⊥
        taken (Ok (i, cents)) e z a = moved_none executing k line records apart e a
        taken (Err c) e z a = never (unmoved_applies executing k line records c e) z

        go : None (NoticeApplies executing k line records) → (m : Result (ℕ × ℕ) ℕ) → judge_notice executing k line records ≡ m → notice_code m ≡ 0
        go h (Ok (i, cents)) e = refl
        go h (Err c) e = absurd (h c (unmoved_applies executing k line records c e))

    comes_refused : (m : Result (ℕ × ℕ) ℕ) → notice_comes t base n executing k line ≡ m → (notice_code m ≡ 0 → ⊥) → InTurn notice_turn (NoticeApplies executing k line records) (notice_code m)
    unfolding notice_comes
    comes_refused (Ok (i, cents)) e h = absurd (h refl)
    comes_refused (Err code) e h = (
      unmoved_applies executing k line records code e,
      λ c a. let b = notice_by_lem executing k line records apart a in let q : b.code ≡ code = cc b.is in omega (arith, b.soon, ap notice_turn q),
    )

-- A NOTICE'S CALL that keeps its promise, for a code that names a body
module _ (t : List ℕ) (executing : Bool) (code : List ℕ) (k : Key) (line : ℕ) (d : Date) (o : target_code d ≡ 0) (a : Result ℕ NoticeRefusal) (t' : List ℕ)
    (p : NoticePromise t executing code k line d a t')
    (at base n : ℕ) (e : addressed t code ≡ Ok (at, base, n)) where
  comes : a ≡ noticed (notice_comes t base n executing k line)
  unfolding notice_by
  comes = (only_target t code executing k line d o p).0 ∙ ap (notice_by t executing k line) e

  code_is : notice_code_of a ≡ notice_code (notice_comes t base n executing k line)
  code_is = ap notice_code_of comes ∙ noticed_code (notice_comes t base n executing k line)

  pub notice_exactly : Exactly (notice_code_of a ≡ 0) (None (NoticeApplies executing k line (records_at t base n)))
  notice_exactly =
      let x = comes_exactly t base n (slots t code e).valid executing k line in
      (λ z. x.0 (sym code_is ∙ z), λ h. code_is ∙ x.1 h)

  notice_refused : (notice_code_of a ≡ 0 → ⊥) → InTurn notice_turn (NoticeApplies executing k line (records_at t base n)) (notice_code_of a)
  notice_refused h = rw code_is (comes_refused t base n (slots t code e).valid executing k line (notice_comes t base n executing k line) refl (λ z. h (code_is ∙ z)))

  pub notice_answer : (c : ℕ) → (c ≡ 0 → ⊥) → Exactly (notice_code_of a ≡ c) (InTurn notice_turn (NoticeApplies executing k line (records_at t base n)) c)
  notice_answer c h = (λ q. subst (InTurn notice_turn (NoticeApplies executing k line (records_at t base n))) q (notice_refused (λ z. h (sym q ∙ z))), given)
    where
      given : InTurn notice_turn (NoticeApplies executing k line (records_at t base n)) c → notice_code_of a ≡ c
      given x =
          let y = notice_refused (λ z. notice_exactly.0 z c x.0) in
          one_notice_in_turn executing k line (records_at t base n) y.0 x.0 (omega (arith, y.1 c x.0, x.1 (notice_code_of a) y.0))

  pub no_such_key : Strange k → (a ≡ Err (Declined 16)) × (t' ≡ t)
  unfolding notice_table_by notice_comes judge_notice notice_at notice_stored
  no_such_key s = go (find_in (records_at t base n) 0 k) refl
    where
      never_found : (i : ℕ) → find_in (records_at t base n) 0 k ≡ Some i → Strange k → ⊥
      never_found i f (kind x y) =
          let b = (ok_bounds (nth (records_at t base n) i) (found_valid t base n (slots t code e).valid k i f).ok).kind in
          let q = ap (λ (z : Key). z.kind) (found_key (records_at t base n) k i no_record f) in
          omega arith
      never_found i f (number x) =
          let b = (ok_bounds (nth (records_at t base n) i) (found_valid t base n (slots t code e).valid k i f).ok).number in
          let q = ap (λ (z : Key). z.number) (found_key (records_at t base n) k i no_record f) in
          omega arith

      go : (f : Option ℕ) → find_in (records_at t base n) 0 k ≡ f → (a ≡ Err (Declined 16)) × (t' ≡ t)
      go Nothing f = (
        comes ∙ ap (λ (x : Option ℕ). noticed (notice_at executing line (records_at t base n) x)) f,
        (only_target t code executing k line d o p).1 ∙ ap (notice_table_by t executing k line) e ∙ ap (λ (x : Option ℕ). notice_stored t at base n executing line (notice_at executing line (records_at t base n) x)) f,
      )
      go (Some i) f = absurd (never_found i f s)
