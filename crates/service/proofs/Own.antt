-- What a body's calls answer and leave rests on what it owns alone, its slots and its entry from byte 24 on: where these agree, so do the answers, the
-- outcomes and what it owns afterwards.
use Rattle.std.specs.Prelude.{Result, Ok, Err}
use Prim.Native.Nat.{ℕ, ◌+◌, ◌-◌, ◌*◌, ◌≤◌, ◌<◌}
use mathlib.Core.Bool.{Bool, true, cond}
use mathlib.Core.List.{List, [], ◌∷◌, ◌++◌}
use mathlib.Core.Path.{◌≡◌, refl, sym, ap, ◌∙◌}
use native.Mathlib.Omega.{arith}
use lib.ListN.{length, get_or}
use lib.Dec.{eqb}
use Rattle.words.specs.Numbers.{put, bytes8}
use Rattle.words.proofs.Laws.{Agree, on, get_before, get_in, get_after, length_put}
use Rattle.order.specs.Ordinativo.{Ordinativo}
use Rattle.record.specs.declared.Key.{Key}
use Rattle.record.specs.declared.Record.{Record}
use Rattle.record.specs.Slot.{states_offset, slot_size, record_at, record_bytes}
use Rattle.record.proofs.Back.{same_record, agree_before, agree_after}
use Rattle.slots.specs.Slots.{records_at, state_place, find_in}
use Rattle.entries.specs.Entry.{entry_size, entry_fixed, kept_bytes}
use Rattle.body.specs.Body.{body_ok, cents_of}
use Rattle.body.proofs.Same.{records_agree}
use Rattle.replacing.specs.declared.Naming.{Naming}
use Rattle.replacing.specs.Replacing.{namings, named_code, replace_code, line_put, lines_put}
use Rattle.replacing.proofs.Marks.{or_zero}
use Rattle.replacing.proofs.Bytes.{tk, named_held, named_small, line_put_lem, line_long, line_records}
use Rattle.replacing.proofs.Kept.{lines_long}
use Rattle.rules.specs.declared.Change.{Change}
use Rattle.rules.specs.declared.Change.TheVariants.{Insert, Vary, Annul, Replace}
use Rattle.rules.specs.Inner.{names_code}
use Rattle.rules.proofs.Judging.{names_zero}
use Rattle.rules.specs.Rules.{judge_order, order_code, written, judge_notice, moved_to}
use Rattle.rules.specs.Searches.{steps_of}
use Rattle.valid.proofs.Moved.{split}
use Rattle.service.proofs.Laws.{order_low, notice_line}
use Rattle.rules.proofs.Kept.{Writables, none, more}
use Rattle.service.proofs.Kept.{order_kept}
use Rattle.service.specs.Service.{order_comes, besides_put, order_stored, order_leaves, outcome_bytes, all_leave, all_outcomes, all_accepted, all_steps, notice_comes, line_moved, settled, notice_stored, notice_leaves}
use Rattle.service.specs.Inner.{Served}

-- the same bytes put at the same place
pub put_agree : {s t : List ℕ} {p q m : ℕ} → Agree s p t q m → (k : ℕ) (v : List ℕ) → p + k ≤ length s → q + k ≤ length t → Agree (put s (p + k) v) p (put t (q + k) v) q m
put_agree {s} {t} {p} {q} a k v hs ht = record {
  same = λ i h.
      split i k
      (λ l. get_before s (p + k) v (p + i) (omega arith) hs ∙ a.same i h ∙ sym (get_before t (q + k) v (q + i) (omega arith) ht))
      (λ l. split (i - k) (length v)
      (λ b.
      let x : p + i ≡ p + k + (i - k) = omega arith in
      let z : q + i ≡ q + k + (i - k) = omega arith in
      ap (λ (j : ℕ). get_or (put s (p + k) v) j 0) x ∙ get_in s (p + k) v (i - k) b hs ∙ sym (ap (λ (j : ℕ). get_or (put t (q + k) v) j 0) z ∙ get_in t (q + k) v (i - k) b ht))
      (λ b. get_after s (p + k) v (p + i) (omega arith) hs ∙ a.same i h ∙ sym (get_after t (q + k) v (q + i) (omega arith) ht)));
}

-- THE LINES THAT AN ORDER NAMES

line_same : {s t : List ℕ} {p q : ℕ} (n : ℕ) (m : Naming) → Agree s p t q (slot_size * n) → p + slot_size * n ≤ length s → q + slot_size * n ≤ length t
    → named_code (records_at t q n) m ≡ 0 → Agree (line_put s p n m) p (line_put t q n m) q (slot_size * n)
line_same {s} {t} {p} {q} n m a hs ht e =
    let r = records_agree n a in
    let f = ap (λ (rs : List Record). named_code rs m) r ∙ e in
    let w = tk t q n m e in
    let h = named_held t q n m e in
    let k = named_small t q n m e in
    let x : state_place p w.at m.line ≡ p + (slot_size * w.at + states_offset + (m.line - 1)) = omega arith in
    let y : state_place q w.at m.line ≡ q + (slot_size * w.at + states_offset + (m.line - 1)) = omega arith in
    let u : line_put s p n m ≡ put s (p + (slot_size * w.at + states_offset + (m.line - 1))) (3 ∷ []) =
    line_put_lem s p n m f refl (ap (λ (rs : List Record). find_in rs 0 m.key) r ∙ w.found) ∙ ap (λ (z : ℕ). put s z (3 ∷ [])) x in
    let v : line_put t q n m ≡ put t (q + (slot_size * w.at + states_offset + (m.line - 1))) (3 ∷ []) = line_put_lem t q n m e refl w.found ∙ ap (λ (z : ℕ). put t z (3 ∷ [])) y in
    rw (u, v) (put_agree a (slot_size * w.at + states_offset + (m.line - 1)) (3 ∷ []) (omega (arith, h.low)) (omega (arith, h.low)))

lines_same : {s t : List ℕ} {p q : ℕ} (n : ℕ) (ms : List Naming) → Agree s p t q (slot_size * n) → p + slot_size * n ≤ length s → q + slot_size * n ≤ length t
    → replace_code (records_at t q n) ms ≡ 0 → Agree (lines_put s p n ms) p (lines_put t q n ms) q (slot_size * n)
unfolding lines_put replace_code
lines_same n [] a hs ht e = a
lines_same {s} {t} {p} {q} n (m ∷ ms) a hs ht e =
    let z = or_zero (named_code (records_at t q n) m) _ e in
    let f = ap (λ (rs : List Record). named_code rs m) (records_agree n a) ∙ z.0 in
    lines_same {s = line_put s p n m} {t = line_put t q n m} n ms (line_same n m a hs ht z.0) (omega (arith, line_long s p n m f hs)) (omega (arith, line_long t q n m z.0 ht))
    (ap (λ (rs : List Record). replace_code rs ms) (line_records t q n m z.0 ht) ∙ z.1)

-- AN ORDER

module _ {s t : List ℕ} {p q : ℕ} (n : ℕ) (a : Agree s p t q (slot_size * n)) where
  pub order_same : (year : ℕ) (o : Ordinativo) → order_comes s p n year o ≡ order_comes t q n year o
  unfolding order_comes
  order_same year o = ap (judge_order n year o) (records_agree n a)

  slot_same : (i : ℕ) → i < n → record_at s (p + slot_size * i) ≡ record_at t (q + slot_size * i)
  slot_same i h = same_record (on a (slot_size * i) slot_size (omega arith))

  module _ (hs : p + slot_size * n ≤ length s) (ht : q + slot_size * n ≤ length t) where
    besides_same : (year : ℕ) (o : Ordinativo) (c : Change) (i : ℕ) → order_comes t q n year o ≡ Ok (c, i)
        → (length (besides_put s p n o c) ≡ length s) × (length (besides_put t q n o c) ≡ length t) × Agree (besides_put s p n o c) p (besides_put t q n o c) q (slot_size * n)
    unfolding order_comes
    besides_same year o c i e = go c (names_zero n year o (records_at t q n) c i e)
      where
        go : (c : Change) → names_code c o (records_at t q n) ≡ 0
            → (length (besides_put s p n o c) ≡ length s) × (length (besides_put t q n o c) ≡ length t) × Agree (besides_put s p n o c) p (besides_put t q n o c) q (slot_size * n)
        go Insert z = (refl, refl, a)
        go Vary z = (refl, refl, a)
        go Annul z = (refl, refl, a)
        go Replace z =
            let y = ap (λ (rs : List Record). replace_code rs (namings o)) (records_agree n a) ∙ z in
            (lines_long s p n (namings o) y hs, lines_long t q n (namings o) z ht, lines_same n (namings o) a hs ht z)

    stored_same : (year : ℕ) (o : Ordinativo) (j : Result (Change × ℕ) ℕ) → order_comes t q n year o ≡ j → Agree (order_stored s p n year o j) p (order_stored t q n year o j) q (slot_size * n)
    unfolding order_stored
    stored_same year o (Ok (c, i)) z =
        let l = order_low t q n year o c i z in
        let m = besides_same year o c i z in
        let e : record_bytes (written year o (record_at t (q + slot_size * i)) c) ≡ record_bytes (written year o (record_at s (p + slot_size * i)) c) =
        ap (λ r. record_bytes (written year o r c)) (sym (slot_same i l)) in
        rw e (put_agree m.2 (slot_size * i) (record_bytes (written year o (record_at s (p + slot_size * i)) c)) (omega (arith, m.0)) (omega (arith, m.1)))
    stored_same year o (Err code) z = a

    pub order_own : (year : ℕ) (o : Ordinativo) → Agree (order_leaves s p n year o) p (order_leaves t q n year o) q (slot_size * n)
    order_own year o = rw (order_same year o) (stored_same year o (order_comes t q n year o) refl)

    -- A NOTICE

    pub notice_same : (executing : Bool) (k : Key) (line : ℕ) → notice_comes s p n executing k line ≡ notice_comes t q n executing k line
    unfolding notice_comes
    notice_same executing k line = ap (judge_notice executing k line) (records_agree n a)

-- what a notice leaves: by the slots and by the entry from byte 24 on
module _ {s t : List ℕ} {e base n : ℕ} (a : Agree s base t base (slot_size * n)) (S : Served s e base n) (T : Served t e base n) (executing : Bool) (line : ℕ) where
  lined : (i : ℕ) → i < n → (1 ≤ line) × (line ≤ 8) → Agree (line_moved s base executing line i) base (line_moved t base executing line i) base (slot_size * n)
  unfolding line_moved
  lined i h l =
      let x : base + slot_size * i + states_offset + (line - 1) ≡ base + (slot_size * i + states_offset + (line - 1)) = omega arith in
      let u = S.inside in
      let v = T.inside in
      rw x (put_agree a (slot_size * i + states_offset + (line - 1)) (moved_to executing ∷ []) (omega arith) (omega arith))

  long : (t : List ℕ) → Served t e base n → (i : ℕ) → i < n → (1 ≤ line) × (line ≤ 8) → length (line_moved t base executing line i) ≡ length t
  unfolding line_moved
  long t U i h l = let v = U.inside in length_put t (state_place base i line) (moved_to executing ∷ []) (omega arith)

  -- the entry's bytes before it is settled
  tailed : Agree s (e + entry_fixed) t (e + entry_fixed) (entry_size - entry_fixed) → (i : ℕ) → i < n → (1 ≤ line) × (line ≤ 8)
      → Agree (line_moved s base executing line i) (e + entry_fixed) (line_moved t base executing line i) (e + entry_fixed) (entry_size - entry_fixed)
  unfolding line_moved
  tailed b i h l =
      let x = S.entry in
      let u = S.inside in
      let v = T.inside in
      let f = agree_before s (state_place base i line) (moved_to executing ∷ []) (e + entry_fixed) (omega arith) (entry_size - entry_fixed) (omega arith) in
      let g = agree_before t (state_place base i line) (moved_to executing ∷ []) (e + entry_fixed) (omega arith) (entry_size - entry_fixed) (omega arith) in
      record { same = λ j k. f.same j k ∙ b.same j k ∙ sym (g.same j k) }

  moved_same : Agree s (e + entry_fixed) t (e + entry_fixed) (entry_size - entry_fixed) → (m : Result (ℕ × ℕ) ℕ) → ((i cents : ℕ) → m ≡ Ok (i, cents) → (i < n) × (1 ≤ line) × (line ≤ 8))
      → Agree (notice_stored s e base n executing line m) base (notice_stored t e base n executing line m) base (slot_size * n)
      × Agree (notice_stored s e base n executing line m) (e + entry_fixed) (notice_stored t e base n executing line m) (e + entry_fixed) (entry_size - entry_fixed)
  unfolding notice_stored settled kept_bytes
  moved_same b (Ok (i, cents)) h =
      let l = h i cents refl in
      let low = l.0 in
      let many : (1 ≤ line) × (line ≤ 8) = (l.1, l.2) in
      let c = lined i low many in
      let rs = records_agree n c in
      let x : List ℕ = line_moved s base executing line i in
      let y : List ℕ = line_moved t base executing line i in
      let v : List ℕ = bytes8 (cents_of 1 (records_at y base n)) ++ bytes8 (cents_of 2 (records_at y base n)) in
      let p = S.entry in
      let u = S.inside in
      let w = T.inside in
      let lx = long s S i low many in
      let ly = long t T i low many in
      let f = agree_after x (e + entry_fixed) v base (omega arith) (slot_size * n) (omega arith) in
      let g = agree_after y (e + entry_fixed) v base (omega arith) (slot_size * n) (omega arith) in
      let z : e + entry_fixed ≡ e + entry_fixed + 0 = omega arith in
      rw rs (
        record { same = λ j k. f.same j k ∙ c.same j k ∙ sym (g.same j k) },
        rw (ap (λ (q : ℕ). put x q v) z, ap (λ (q : ℕ). put y q v) z) (put_agree (tailed b i low many) 0 v (omega arith) (omega arith)),
      )
  moved_same b (Err c) h = (a, b)

pub notice_own : {s t : List ℕ} {e base n : ℕ} → Agree s base t base (slot_size * n) → Agree s (e + entry_fixed) t (e + entry_fixed) (entry_size - entry_fixed)
    → Served s e base n → Served t e base n → (executing : Bool) (k : Key) (line : ℕ)
    → Agree (notice_leaves s e base n executing k line) base (notice_leaves t e base n executing k line) base (slot_size * n)
    × Agree (notice_leaves s e base n executing k line) (e + entry_fixed) (notice_leaves t e base n executing k line) (e + entry_fixed) (entry_size - entry_fixed)
notice_own {s} {t} {e} {base} {n} a b S T executing k line =
    rw (notice_same n a S.inside T.inside executing k line)
    (moved_same a S T executing line b (notice_comes t base n executing k line)
    (λ i cents q. let l = notice_line t base n executing k line i cents T.valid q in (l.low, l.first, l.last)))

-- ALL ORDERS OF A FLOW

pub record Same (s t : List ℕ) (p q n year : ℕ) (os : List Ordinativo) : Type 0 where
  pub outcomes : all_outcomes s p n year os ≡ all_outcomes t q n year os
  pub accepted : all_accepted s p n year os ≡ all_accepted t q n year os
  pub steps : all_steps s p n year os ≡ all_steps t q n year os
  pub left : Agree (all_leave s p n year os) p (all_leave t q n year os) q (slot_size * n)

-- a body that a call can be served on
abbrev pub Ready : List ℕ → ℕ → ℕ → Type 0
Ready t base n = (base + slot_size * n ≤ length t) × (body_ok t base n ≡ true)

pub all_own : {s t : List ℕ} {p q : ℕ} (n year : ℕ) (os : List Ordinativo) → Agree s p t q (slot_size * n) → Ready s p n → Ready t q n → Writables os → (2000 ≤ year) × (year ≤ 2099)
    → Same s t p q n year os
unfolding all_outcomes all_accepted all_steps all_leave
all_own n year [] a hs ht none y = record { outcomes = refl; accepted = refl; steps = refl; left = a }
all_own {s} {t} {p} {q} n year (o ∷ os) a hs ht (more w ws) y =
    let e = order_same n a year o in
    let ks = order_kept s p n year o hs.0 hs.1 w y in
    let kt = order_kept t q n year o ht.0 ht.1 w y in
    let b = order_own n a hs.0 ht.0 year o in
    let r = all_own {s = order_leaves s p n year o} {t = order_leaves t q n year o} n year os b (omega (arith, ks.long, hs), ks.ok) (omega (arith, kt.long, ht), kt.ok) ws y in
    record {
      outcomes = λ k. outcome_bytes o (order_code (e k)) ++ r.outcomes k;
      accepted = λ k. cond (eqb (order_code (e k)) 0) 1 0 + r.accepted k;
      steps = λ k. steps_of year o (records_agree n a k) + r.steps k;
      left = r.left;
    }
