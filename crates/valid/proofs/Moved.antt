-- A record's lines, one at a time: what a valid one has, and that it stays valid as a line's state changes.
use Prim.Native.Nat.{ℕ, ◌≤◌, ◌<◌}
use mathlib.Core.Bool.{Bool, true, false, ◌&&◌, cond}
use mathlib.Core.Path.{◌≡◌, refl, sym, ap, ◌∙◌}
use native.Mathlib.Omega.{arith}
use lib.ListN.{get_or, set, length-set}
use lib.Seq.{get_or-set_same, get_or-set_other}
use lib.Dec.{eqb, leb, ltb}
use borrow.Author.Tests.{lt-ltb, le-ltb, le-leb, ltb-true, ltb-false, ne_eqb, eq-eqb, eqb-true, eqb-false}
use Rattle.scan.specs.Bytes.{between}
use Rattle.scan.proofs.Laws.{both, in_range}
use Rattle.bounds.specs.Bounds.{max_cents}
use Rattle.record.specs.declared.Record.{Record}
use Rattle.record.specs.Slot.{with_state}
use Rattle.valid.specs.Valid.{line_there, line_absent, line_ok, ranges_ok}
use Rattle.valid.proofs.Valid.{Valid, ok_bounds, ok_line, ok_sum, ok_amount, ok_tests, ok_from}

pub within : (lo hi b : ℕ) → (lo ≤ b) × (b ≤ hi) → between lo hi b ≡ true
within lo hi b h = rw (le-leb lo b h.0, le-leb b hi h.1)

-- A LINE, counted from 0

pub split : (k n : ℕ) {A : Type 0} → (k < n → A) → (n ≤ k → A) → A
split k n {A} f g = go (ltb k n) refl
  where
    go : (b : Bool) → ltb k n ≡ b → A
    go true e = f (ltb-true k n e)
    go false e = g (ltb-false k n e)

module _ (r : Record) (k : ℕ) where
  abbrev state_of : ℕ
  state_of = get_or r.states k 0

  abbrev amount_of : ℕ
  amount_of = get_or r.amounts k 0

  module _ (h : k < r.lines) where
    pub line_there_lem : line_ok r k ≡ line_there (eqb r.state 2) state_of amount_of
    unfolding line_ok
    line_there_lem = rw (lt-ltb k r.lines h)

    pub line_waits : state_of ≡ 1 → amount_of ≤ max_cents → line_ok r k ≡ true
    unfolding line_there
    line_waits s a = line_there_lem ∙ rw (s, le-leb amount_of max_cents a) (go (eqb r.state 2))
      where
        go : (b : Bool) → ((leb 1 1 && leb 1 (cond b 1 3)) && true) ≡ true
        go true = refl
        go false = refl

    pub line_moved : (r.state ≡ 2 → ⊥) → (1 ≤ state_of) × (state_of ≤ 3) → amount_of ≤ max_cents → line_ok r k ≡ true
    unfolding line_there
    line_moved q s a = line_there_lem ∙ rw (ne_eqb _ _ q, within 1 3 state_of s, le-leb amount_of max_cents a)

    pub line_in : line_ok r k ≡ true → (1 ≤ state_of) × (state_of ≤ 3)
    unfolding line_there
    line_in e = go (eqb r.state 2) (sym line_there_lem ∙ e)
      where
        go : (b : Bool) → (between 1 (cond b 1 3) state_of && leb amount_of max_cents) ≡ true → (1 ≤ state_of) × (state_of ≤ 3)
        go true f = let q = in_range 1 1 state_of (both (between 1 1 state_of) _ f).0 in (omega arith, omega arith)
        go false f = in_range 1 3 state_of (both (between 1 3 state_of) _ f).0

  module _ (h : r.lines ≤ k) where
    pub line_absent_lem : line_ok r k ≡ line_absent state_of amount_of
    unfolding line_ok
    line_absent_lem = rw (le-ltb k r.lines h)

    pub line_none : state_of ≡ 0 → amount_of ≡ 0 → line_ok r k ≡ true
    unfolding line_absent
    line_none s a = line_absent_lem ∙ rw (s, a)

-- an executed line is an acquired order's
pub executed_acquired : (r : Record) (k : ℕ) → Valid r → k < r.lines → get_or r.states k 0 ≡ 2 → r.state ≡ 2 → ⊥
unfolding line_there
executed_acquired r k v h s a =
    let e = sym (line_there_lem r k h) ∙ ok_line r v.ok k (omega (arith, (ok_bounds r v.ok).lines)) in
    let f : (between 1 1 (get_or r.states k 0) && leb (get_or r.amounts k 0) max_cents) ≡ true = sym (rw (eq-eqb r.state 2 a)) ∙ e in
    let q = in_range 1 1 (get_or r.states k 0) (both (between 1 1 (get_or r.states k 0)) _ f).0 in
    omega arith

-- a line whose state stays is as valid as it was
same_line : (r : Record) (k s j : ℕ) → get_or (set r.states k s) j 0 ≡ get_or r.states j 0 → line_ok (with_state r k s) j ≡ line_ok r j
unfolding line_ok
same_line r k s j t = rw t

module _ (r : Record) (k s : ℕ) (v : Valid r) (a : r.state ≡ 2 → ⊥) (h : k < r.lines) (b : (1 ≤ s) × (s ≤ 3)) where
  moved_ranges : ranges_ok (with_state r k s) ≡ true
  unfolding ranges_ok
  moved_ranges = (ok_tests r v.ok).0

  moved_line : (j : ℕ) → j < 8 → (x : Bool) → eqb j k ≡ x → line_ok (with_state r k s) j ≡ true
  moved_line j g true q =
      let e : j ≡ k = eqb-true j k q in
      let t : get_or (set r.states k s) j 0 ≡ s = ap (λ (n : ℕ). get_or (set r.states k s) n 0) e ∙ get_or-set_same r.states k s 0 (omega (arith, (ok_bounds r v.ok).lines, v.states)) in
      line_moved (with_state r k s) j (omega arith) a (omega arith, omega arith) (ok_amount r v.ok j)
  moved_line j g false q = same_line r k s j (get_or-set_other r.states k j s 0 (eqb-false j k q)) ∙ ok_line r v.ok j g

  pub moved_valid : Valid (with_state r k s)
  moved_valid = record {
    ok = ok_from (with_state r k s) moved_ranges (λ j g. moved_line j g (eqb j k) refl) (ok_sum r v.ok);
    states = length-set r.states k s ∙ v.states;
    amounts = v.amounts;
  }
