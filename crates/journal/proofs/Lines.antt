-- The executed lines of a body's records: whether a movement is among them, by the one record of its key.
use Rattle.std.specs.Prelude.{Some, None}
use Prim.Native.Nat.{ℕ, zero, suc, ◌+◌, ◌-◌, ◌*◌, ◌≤◌, ◌<◌}
use mathlib.Core.Bool.{Bool, true, false, ◌&&◌, ◌||◌, cond, and-false, and-true, or-false}
use mathlib.Core.List.{List, [], ◌∷◌, ◌++◌}
use mathlib.Core.Path.{◌≡◌, refl, sym, ap, ◌∙◌}
use native.Mathlib.Omega.{arith}
use native.Mathlib.Nat.{not-suc-le-zero}
use lib.ListN.{length, get_or, get_or-eq_default}
use lib.Dec.{eqb, leb, ltb}
use borrow.Author.Tests.{eq-eqb, ne_eqb, le-leb, lt-leb, leb-true, leb-false, ltb-true}
use Rattle.scan.specs.Bytes.{between}
use Rattle.scan.proofs.Laws.{both}
use Rattle.words.specs.Numbers.{be8}
use Rattle.record.specs.Slot.{executed_line, states_offset, amounts_offset, record_at, key_is, key_of}
use Rattle.record.proofs.Back.{eight_at_lem, be8s_at}
use Rattle.record.specs.declared.Record.{Record}
use Rattle.record.specs.declared.Key.{Key}
use Rattle.ranges.specs.Ranges.{is_nothing}
use Rattle.slots.specs.Slots.{find_in, distinct}
use Rattle.slots.proofs.Laws.{find_first, find_later}
use Rattle.slots.proofs.Search.{key_is_lem, nothing_is}
use Rattle.journal.specs.declared.Movement.{Movement}
use Rattle.journal.specs.Journal.{movement_of, executed_from, executed_of, executed_lines, same_line, any_of, movement_code, code_then}
use Rattle.journal.specs.Inner.{movement_key, line_executed, code_by}
use Rattle.journal.proofs.Laws.{clash, any_append, any_same, is_line, not_line}

-- KEYS

pub key_test : (r : Record) (k : Key) → key_of r ≡ k → key_is r k ≡ true
unfolding key_is
key_test r k e =
    let a : r.kind ≡ k.kind = ap (λ (q : Key). q.kind) e in
    let b : r.esercizio ≡ k.esercizio = ap (λ (q : Key). q.esercizio) e in
    let c : r.number ≡ k.number = ap (λ (q : Key). q.number) e in
    rw (eq-eqb _ _ a, eq-eqb _ _ b, eq-eqb _ _ c)

-- where none is found, none has the key
none_at : (rs : List Record) (j : ℕ) (k : Key) (i : ℕ) (d : Record) → find_in rs j k ≡ None → i < length rs → key_is (get_or rs i d) k ≡ false
unfolding find_in
none_at [] j k i d e h = absurd (not-suc-le-zero h)
none_at (r ∷ rs) j k i d e h = go (key_is r k) refl e i h (λ i q g. none_at rs (j + 1) k i d q g)
  where
    go : (b : Bool) → key_is r k ≡ b → cond b (Some j) (find_in rs (j + 1) k) ≡ None → (i : ℕ) → i < length (r ∷ rs)
        → ((i : ℕ) → find_in rs (j + 1) k ≡ None → i < length rs → key_is (get_or rs i d) k ≡ false) → key_is (get_or (r ∷ rs) i d) k ≡ false
    go true f q i h later = let z : ◌≡◌ {A = ℕ} 0 1 = cc in absurd (omega arith)
    go false f q zero h later = f
    go false f q (suc i) h later = later i q (omega arith)

-- of records with distinct keys, the one with the key is found
pub apart : (r : Record) (rs : List Record) → distinct (r ∷ rs) ≡ true → (find_in rs 0 (key_of r) ≡ None) × (distinct rs ≡ true)
unfolding distinct
apart r rs e =
    let w = both (is_nothing (find_in rs 0 (key_of r))) (distinct rs) e in
    (nothing_is (find_in rs 0 (key_of r)) w.0, w.1)

-- the first has the key of none that comes later
first_other : (r : Record) (rs : List Record) (i : ℕ) (d : Record) (k : Key) → distinct (r ∷ rs) ≡ true → i < length rs → key_is (get_or rs i d) k ≡ true → key_is r k ≡ false
first_other r rs i d k e h f = go (key_is r k) refl
  where
    go : (b : Bool) → key_is r k ≡ b → key_is r k ≡ false
    go true g = clash (sym (none_at rs 0 (key_of r) i d (apart r rs e).0 h) ∙ ap (key_is (get_or rs i d)) (key_is_lem r k g) ∙ f)
    go false g = g

find_from : (rs : List Record) (j : ℕ) (k : Key) (i : ℕ) (d : Record) → distinct rs ≡ true → i < length rs → key_is (get_or rs i d) k ≡ true → find_in rs j k ≡ Some (j + i)
find_from [] j k i d e h f = absurd (not-suc-le-zero h)
find_from (r ∷ rs) j k zero d e h f = let q : j ≡ j + 0 = omega arith in find_first refl j k f ∙ ap Some q
find_from (r ∷ rs) j k (suc i) d e h f =
    let q : j + 1 + i ≡ j + suc i = omega arith in
    find_later refl j k (first_other r rs i d k e (omega arith) f) ∙ find_from rs (j + 1) k i d (apart r rs e).1 (omega arith) f ∙ ap Some q

pub hit_found : (rs : List Record) (k : Key) (i : ℕ) (d : Record) → distinct rs ≡ true → i < length rs → key_is (get_or rs i d) k ≡ true → Some i ≡ find_in rs 0 k
hit_found rs k i d e h f = let q : 0 + i ≡ i = omega arith in sym (find_from rs 0 k i d e h f ∙ ap Some q)

-- A MOVEMENT AMONG EXECUTED LINES, with f asked of the cents there

abbrev asked : Movement → (ℕ → Bool) → Movement → Bool
asked m f x = same_line m x && f x.cents

-- a record's line with this number is executed, and f holds of its amount
abbrev executed_with : Record → (ℕ → Bool) → ℕ → Bool
executed_with r f n = line_executed r n && f (get_or r.amounts (n - 1) 0)

line_none : (r : Record) (f : ℕ → Bool) → executed_with r f 0 ≡ false
line_none r f = refl

line_at : (r : Record) (f : ℕ → Bool) (n : ℕ) → length r.states ≡ 8 → executed_with r f (suc n) ≡ (eqb (get_or r.states n 0) executed_line && f (get_or r.amounts n 0))
line_at r f n p = go (leb (suc n) 8) refl
  where
    z : suc n - 1 ≡ n
    z = omega arith

    go : (b : Bool) → leb (suc n) 8 ≡ b → executed_with r f (suc n) ≡ (eqb (get_or r.states n 0) executed_line && f (get_or r.amounts n 0))
    go true g =
        let o = le-leb 1 (suc n) (omega arith) in
        λ i. ((o i && g i) && eqb (get_or r.states (z i) 0) executed_line) && f (get_or r.amounts (z i) 0)
    go false g =
        let o = le-leb 1 (suc n) (omega arith) in
        let y = leb-false (suc n) 8 g in
        let x : get_or r.states n 0 ≡ 0 = get_or-eq_default r.states 0 (omega arith) in
        (λ i. ((o i && g i) && eqb (get_or r.states (z i) 0) executed_line) && f (get_or r.amounts (z i) 0))
        ∙ sym (ap (λ (v : ℕ). eqb v executed_line && f (get_or r.amounts n 0)) x)

module _ (m : Movement) (f : ℕ → Bool) where
  -- another order's line
  other_order : (r : Record) (l a : ℕ) → key_is r (movement_key m) ≡ false → same_line m (movement_of r l a) ≡ false
  unfolding key_is
  other_order r l a n =
      not_line m (movement_of r l a) (λ o. clash (sym n ∙ rw (eq-eqb _ _ (sym o.kind), eq-eqb _ _ (sym o.esercizio), eq-eqb _ _ (sym o.number))))

  none_from : (r : Record) → key_is r (movement_key m) ≡ false → (l : ℕ) (states amounts : List ℕ) → any_of (asked m f) (executed_from r l states amounts) ≡ false
  unfolding executed_from any_of
  none_from r n l [] amounts = refl
  none_from r n l (s ∷ states) [] = refl
  none_from r n l (s ∷ states) (a ∷ amounts) = go (eqb s executed_line) (none_from r n (l + 1) states amounts)
    where
      go : (b : Bool) → any_of (asked m f) (executed_from r (l + 1) states amounts) ≡ false
          → any_of (asked m f) (cond b (movement_of r l a ∷ executed_from r (l + 1) states amounts) (executed_from r (l + 1) states amounts)) ≡ false
      go true e = rw (other_order r l a n) e
      go false e = e

  -- the order's own lines, numbered from l on
  module _ (r : Record) (k : key_of r ≡ movement_key m) where
    own_line : (l a : ℕ) → m.line ≡ l → same_line m (movement_of r l a) ≡ true
    own_line l a e =
        is_line m (movement_of r l a)
        (record { kind = sym (ap (λ (q : Key). q.kind) k); line = e; esercizio = sym (ap (λ (q : Key). q.esercizio) k); number = sym (ap (λ (q : Key). q.number) k) })

    not_own : (l a : ℕ) → (m.line ≡ l → ⊥) → same_line m (movement_of r l a) ≡ false
    not_own l a n = not_line m (movement_of r l a) (λ o. n o.line)

    pub past_from : (l : ℕ) (states amounts : List ℕ) → m.line < l → any_of (asked m f) (executed_from r l states amounts) ≡ false
    unfolding executed_from any_of
    past_from l [] amounts h = refl
    past_from l (s ∷ states) [] h = refl
    past_from l (s ∷ states) (a ∷ amounts) h = go (eqb s executed_line) (past_from (l + 1) states amounts (omega arith))
      where
        go : (b : Bool) → any_of (asked m f) (executed_from r (l + 1) states amounts) ≡ false
            → any_of (asked m f) (cond b (movement_of r l a ∷ executed_from r (l + 1) states amounts) (executed_from r (l + 1) states amounts)) ≡ false
        go true e = rw (not_own l a (λ q. omega arith)) e
        go false e = e

    any_from : (l : ℕ) (states amounts : List ℕ) (i : ℕ) → m.line ≡ l + i → length states ≤ length amounts
        → any_of (asked m f) (executed_from r l states amounts) ≡ (eqb (get_or states i 0) executed_line && f (get_or amounts i 0))
    unfolding executed_from any_of
    any_from l [] amounts i q h = refl
    any_from l (s ∷ states) [] i q h = absurd (not-suc-le-zero h)
    any_from l (s ∷ states) (a ∷ amounts) zero q h = go (eqb s executed_line) (past_from (l + 1) states amounts (omega arith))
      where
        go : (b : Bool) → any_of (asked m f) (executed_from r (l + 1) states amounts) ≡ false
            → any_of (asked m f) (cond b (movement_of r l a ∷ executed_from r (l + 1) states amounts) (executed_from r (l + 1) states amounts)) ≡ (b && f a)
        go true e = rw (own_line l a (omega arith), e) (or-false (f a))
        go false e = e
    any_from l (s ∷ states) (a ∷ amounts) (suc i) q h = go (eqb s executed_line) (any_from (l + 1) states amounts i (omega arith) (omega arith))
      where
        go : (b : Bool) → any_of (asked m f) (executed_from r (l + 1) states amounts) ≡ (eqb (get_or states i 0) executed_line && f (get_or amounts i 0))
            → any_of (asked m f) (cond b (movement_of r l a ∷ executed_from r (l + 1) states amounts) (executed_from r (l + 1) states amounts))
            ≡ (eqb (get_or states i 0) executed_line && f (get_or amounts i 0))
        go true e = rw (not_own l a (λ z. omega arith)) e
        go false e = e

  -- all orders' lines
  pub none_lines : (rs : List Record) (j : ℕ) → find_in rs j (movement_key m) ≡ None → any_of (asked m f) (executed_lines rs) ≡ false
  unfolding executed_lines any_of
  none_lines [] j e = refl
  none_lines (r ∷ rs) j e = go (key_is r (movement_key m)) refl (none_lines rs (j + 1))
    where
      go : (b : Bool) → key_is r (movement_key m) ≡ b → (find_in rs (j + 1) (movement_key m) ≡ None → any_of (asked m f) (executed_lines rs) ≡ false)
          → any_of (asked m f) (executed_of r ++ executed_lines rs) ≡ false
      go true g later = let z = sym (find_first refl j (movement_key m) g) ∙ e in let y : ◌≡◌ {A = ℕ} 0 1 = cc in absurd (omega arith)
      go false g later =
          any_append (asked m f) (executed_of r) (executed_lines rs)
          ∙ ap (λ (b : Bool). b || any_of (asked m f) (executed_lines rs)) (none_from r g 1 r.states r.amounts)
          ∙ later (sym (find_later refl j (movement_key m) g) ∙ e)

  its_lines : (rs : List Record) (i : ℕ) (d : Record) → distinct rs ≡ true → i < length rs → key_is (get_or rs i d) (movement_key m) ≡ true
      → any_of (asked m f) (executed_lines rs) ≡ any_of (asked m f) (executed_of (get_or rs i d))
  unfolding executed_lines
  its_lines [] i d e h g = absurd (not-suc-le-zero h)
  its_lines (r ∷ rs) zero d e h g =
      any_append (asked m f) (executed_of r) (executed_lines rs)
      ∙ ap (λ (b : Bool). any_of (asked m f) (executed_of r) || b) (none_lines rs 0 (ap (find_in rs 0) (sym (key_is_lem r (movement_key m) g)) ∙ (apart r rs e).0))
      ∙ or-false _
  its_lines (r ∷ rs) (suc i) d e h g =
      any_append (asked m f) (executed_of r) (executed_lines rs)
      ∙ ap (λ (b : Bool). b || any_of (asked m f) (executed_lines rs)) (none_from r (first_other r rs i d (movement_key m) e (omega arith) g) 1 r.states r.amounts)
      ∙ its_lines rs i d (apart r rs e).1 (omega arith) g

  -- a record of eight lines
  record_lines : (r : Record) → length r.states ≡ 8 → length r.amounts ≡ 8 → key_of r ≡ movement_key m → any_of (asked m f) (executed_of r) ≡ executed_with r f m.line
  record_lines r p q k = go m.line refl
    where
      go : (n : ℕ) → m.line ≡ n → any_of (asked m f) (executed_of r) ≡ executed_with r f m.line
      go zero e = past_from r k 1 r.states r.amounts (omega arith) ∙ sym (ap (executed_with r f) e ∙ line_none r f)
      go (suc n) e = any_from r k 1 r.states r.amounts n (omega arith) (omega arith) ∙ sym (ap (executed_with r f) e ∙ line_at r f n p)

-- A MOVEMENT'S CODE, by the record r of its key
pub code_none : (rs : List Record) (m : Movement) → find_in rs 0 (movement_key m) ≡ None → (before : List Movement) → movement_code (executed_lines rs) before m ≡ 30
unfolding movement_code
code_none rs m e before = rw (any_same (same_line m) (asked m (λ c. true)) (λ x. sym (and-true (same_line m x))) (executed_lines rs) ∙ none_lines m (λ c. true) rs 0 e)

codes : (x y : Bool) (w : ℕ) → cond x (cond (x && y) w 31) 30 ≡ code_then (cond x (cond y 0 31) 30) w
codes true true w = refl
codes true false w = refl
codes false y w = refl

pub code_is : (rs : List Record) (m : Movement) (i : ℕ) (r : Record) → distinct rs ≡ true → i < length rs → get_or rs i r ≡ r → key_of r ≡ movement_key m
    → length r.states ≡ 8 → length r.amounts ≡ 8
    → (before : List Movement) → movement_code (executed_lines rs) before m ≡ code_then (code_by r m) (cond (any_of (same_line m) before) 32 0)
unfolding movement_code code_by
code_is rs m i r e h g k p q before =
    let hit = ap (λ (x : Record). key_is x (movement_key m)) g ∙ key_test r (movement_key m) k in
    let among : (f : ℕ → Bool) → any_of (asked m f) (executed_lines rs) ≡ executed_with r f m.line =
    λ f. its_lines m f rs i r e h hit ∙ ap (λ (x : Record). any_of (asked m f) (executed_of x)) g ∙ record_lines m f r p q k in
    let a = any_same (same_line m) (asked m (λ c. true)) (λ x. sym (and-true (same_line m x))) (executed_lines rs) ∙ among (λ c. true) ∙ and-true (line_executed r m.line) in
    let b = among (eqb m.cents) in
    (λ j. cond (a j) (cond (b j) (cond (any_of (same_line m) before) 32 0) 31) 30)
    ∙ codes (line_executed r m.line) (eqb m.cents (get_or r.amounts (m.line - 1) 0)) (cond (any_of (same_line m) before) 32 0)

-- THE CODE'S TESTS, over the bytes of the slot at `at`
module _ (t : List ℕ) (at : ℕ) where
  pub record_states : length (record_at t at).states ≡ 8
  unfolding record_at
  record_states = refl

  pub record_amounts : length (record_at t at).amounts ≡ 8
  unfolding record_at
  record_amounts = refl

  module _ (m : Movement) where
    pub by_low : m.line < 1 → 30 ≡ code_by (record_at t at) m
    unfolding code_by
    by_low h = rw (lt-leb 1 m.line h)

    pub by_high : 8 < m.line → 30 ≡ code_by (record_at t at) m
    unfolding code_by
    by_high h = rw (lt-leb m.line 8 h, and-false)

    module _ (low : 1 ≤ m.line) (high : m.line ≤ 8) where
      state_at : get_or (record_at t at).states (m.line - 1) 0 ≡ get_or t (at + states_offset + (m.line - 1)) 0
      unfolding record_at
      state_at = eight_at_lem t (at + states_offset) (m.line - 1) (omega arith)

      amount_at : get_or (record_at t at).amounts (m.line - 1) 0 ≡ be8 t (at + amounts_offset + 8 * (m.line - 1))
      unfolding record_at
      amount_at = be8s_at t (at + amounts_offset) (m.line - 1) (omega arith)

      pub by_state : (get_or t (at + states_offset + (m.line - 1)) 0 ≡ executed_line → ⊥) → 30 ≡ code_by (record_at t at) m
      unfolding code_by
      by_state n = rw (ne_eqb _ executed_line (λ (e : get_or (record_at t at).states (m.line - 1) 0 ≡ executed_line). n (sym state_at ∙ e)), and-false)

      module _ (e : get_or t (at + states_offset + (m.line - 1)) 0 ≡ executed_line) where
        is_executed : line_executed (record_at t at) m.line ≡ true
        is_executed = rw (le-leb 1 m.line low, le-leb m.line 8 high, eq-eqb _ executed_line (state_at ∙ e))

        pub by_cents : (be8 t (at + amounts_offset + 8 * (m.line - 1)) ≡ m.cents → ⊥) → 31 ≡ code_by (record_at t at) m
        unfolding code_by
        by_cents n = rw (is_executed, ne_eqb m.cents _ (λ (q : m.cents ≡ get_or (record_at t at).amounts (m.line - 1) 0). n (sym (q ∙ amount_at))))

        pub by_right : be8 t (at + amounts_offset + 8 * (m.line - 1)) ≡ m.cents → 0 ≡ code_by (record_at t at) m
        unfolding code_by
        by_right q = rw (is_executed, eq-eqb m.cents _ (sym (amount_at ∙ q)))

-- a code other than 30 names a line of the eight
pub by_line : (r : Record) (m : Movement) → code_by r m ≡ 0 → (1 ≤ m.line) × (m.line ≤ 8)
unfolding code_by
by_line r m e = go (line_executed r m.line) refl e
  where
    go : (b : Bool) → line_executed r m.line ≡ b → ◌≡◌ {A = ℕ} (cond b (cond (eqb m.cents (get_or r.amounts (m.line - 1) 0)) 0 31) 30) 0 → (1 ≤ m.line) × (m.line ≤ 8)
    go true f q =
        let w = both (between 1 8 m.line) _ f in
        let v = both (leb 1 m.line) (leb m.line 8) w.0 in
        (leb-true 1 m.line v.0, leb-true m.line 8 v.1)
    go false f q = absurd (omega arith)

-- a place that may be the order's
pub stands_told : (i used : ℕ) {x y : Bool} → y ≡ (ltb i used && x) → y ≡ true → (i < used) × (x ≡ true)
stands_told i used {x} e f =
    let w = both (ltb i used) x (sym e ∙ f) in
    (ltb-true i used w.0, w.1)
