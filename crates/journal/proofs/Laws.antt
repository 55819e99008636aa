-- Laws of tests over movements, of the movements' bytes and of the codes, a way out of the code at a time.
use Rattle.std.specs.Prelude.{Result}
use Prim.Native.Nat.{ℕ, zero, suc, ◌+◌, ◌*◌, ◌/◌, ◌%◌, ◌≤◌, ◌<◌}
use mathlib.Core.Bool.{Bool, true, false, ◌&&◌, ◌||◌, cond, or_assoc, or-false, and_assoc}
use mathlib.Core.List.{List, [], ◌∷◌, ◌++◌}
use mathlib.Core.Path.{◌≡◌, refl, sym, ap, ◌∙◌}
use native.Mathlib.Omega.{arith}
use native.Mathlib.Numerals.{add-one}
use lib.ListN.{length}
use lib.Dec.{eqb}
use borrow.Author.Tests.{eq-eqb, ne_eqb, eqb-true, le-leb, lt-leb}
use Rattle.scan.proofs.Laws.{both}
use Rattle.record.specs.declared.Record.{Record}
use Rattle.address.specs.declared.NoBody.{NoBody}
use Rattle.address.specs.Address.{addressed}
use Rattle.journal.specs.declared.Movement.{Movement}
use Rattle.journal.specs.Journal.{movement_size, max_movements, movement_at, movements_at, movements_in, whole_movements, executed_lines, same_line, same_movement, any_of, all_of, movement_code, missing_code, code_then, journal_code, checked, journal_by, journal_of}
use Rattle.journal.specs.Told.{OneLine}

pub clash : {A : Type 0} → ◌≡◌ {A = Bool} false true → A
clash e = let z : ◌≡◌ {A = ℕ} 0 1 = cc in absurd (omega arith)

-- TESTS OVER MOVEMENTS

pub any_append : (p : Movement → Bool) (xs ys : List Movement) → any_of p (xs ++ ys) ≡ (any_of p xs || any_of p ys)
unfolding any_of
any_append p [] ys = refl
any_append p (x ∷ xs) ys = ap (λ (b : Bool). p x || b) (any_append p xs ys) ∙ sym (or_assoc (p x) (any_of p xs) (any_of p ys))

pub any_one : (p : Movement → Bool) (m : Movement) → any_of p (m ∷ []) ≡ p m
unfolding any_of
any_one p m = or-false (p m)

pub any_add : (p : Movement → Bool) (xs : List Movement) (m : Movement) → any_of p (xs ++ m ∷ []) ≡ (any_of p xs || p m)
any_add p xs m = any_append p xs (m ∷ []) ∙ ap (λ (b : Bool). any_of p xs || b) (any_one p m)

pub any_nil : (p : Movement → Bool) → any_of p [] ≡ false
unfolding any_of
any_nil p = refl

pub any_same : (p q : Movement → Bool) → ((x : Movement) → p x ≡ q x) → (xs : List Movement) → any_of p xs ≡ any_of q xs
unfolding any_of
any_same p q e [] = refl
any_same p q e (x ∷ xs) =
    let a = e x in
    let b = any_same p q e xs in
    λ i. a i || b i

pub all_append : (p : Movement → Bool) (xs ys : List Movement) → all_of p (xs ++ ys) ≡ (all_of p xs && all_of p ys)
unfolding all_of
all_append p [] ys = refl
all_append p (x ∷ xs) ys = ap (λ (b : Bool). p x && b) (all_append p xs ys) ∙ sym (and_assoc (p x) (all_of p xs) (all_of p ys))

-- TWO MOVEMENTS OF ONE LINE

module _ (m x : Movement) where
  pub line_is : same_line m x ≡ true → OneLine m x
  unfolding same_line
  line_is e =
      let a = both (eqb m.kind x.kind) _ e in
      let b = both (eqb m.line x.line) _ a.1 in
      let c = both (eqb m.esercizio x.esercizio) (eqb m.number x.number) b.1 in
      record { kind = eqb-true _ _ a.0; line = eqb-true _ _ b.0; esercizio = eqb-true _ _ c.0; number = eqb-true _ _ c.1 }

  pub is_line : OneLine m x → same_line m x ≡ true
  unfolding same_line
  is_line o = rw (eq-eqb _ _ o.kind, eq-eqb _ _ o.line, eq-eqb _ _ o.esercizio, eq-eqb _ _ o.number)

  pub not_line : (OneLine m x → ⊥) → same_line m x ≡ false
  not_line n = go (same_line m x) refl
    where
      go : (b : Bool) → same_line m x ≡ b → same_line m x ≡ false
      go true e = absurd (n (line_is e))
      go false e = e

-- THE MOVEMENTS OF A JOURNAL'S BYTES

pub movements_more : (s : List ℕ) (at n k : ℕ) → n ≡ suc k → movements_at s at n ≡ movement_at s at ∷ movements_at s (at + movement_size) k
unfolding movements_at
movements_more s at n k q = rw q

pub movements_none : (s : List ℕ) (at n : ℕ) → n ≡ 0 → movements_at s at n ≡ []
unfolding movements_at
movements_none s at n q = rw q

movements_snoc : (s : List ℕ) (at j : ℕ) → movements_at s at (suc j) ≡ movements_at s at j ++ movement_at s (at + movement_size * j) ∷ []
unfolding movements_at
movements_snoc s at zero =
    let q : at ≡ at + movement_size * 0 = omega arith in
    ap (λ (p : ℕ). movement_at s p ∷ []) q
movements_snoc s at (suc j) =
    let q : at + movement_size + movement_size * j ≡ at + movement_size * suc j = omega arith in
    ap (λ (l : List Movement). movement_at s at ∷ l) (movements_snoc s (at + movement_size) j ∙ ap (λ (p : ℕ). movements_at s (at + movement_size) j ++ movement_at s p ∷ []) q)

pub movements_add : (s : List ℕ) (at j : ℕ) → movements_at s at (j + 1) ≡ movements_at s at j ++ movement_at s (at + movement_size * j) ∷ []
movements_add s at j = ap (movements_at s at) (add-one j) ∙ movements_snoc s at j

-- THE CODES, one by one; E are the body's executed lines, ms the movements, `before` those listed before them

module _ (E before : List Movement) {ms rest : List Movement} {m : Movement} (q : ms ≡ m ∷ rest) where
  pub code_more : journal_code E before ms ≡ code_then (movement_code E before m) (journal_code E (before ++ m ∷ []) rest)
  unfolding journal_code
  code_more = rw q

  pub code_stops : (c : ℕ) → (c ≡ 0 → ⊥) → movement_code E before m ≡ c → journal_code E before ms ≡ c
  code_stops zero n e = absurd (n refl)
  code_stops (suc c) n e = code_more ∙ ap (λ (d : ℕ). code_then d (journal_code E (before ++ m ∷ []) rest)) e

  pub code_goes : movement_code E before m ≡ 0 → journal_code E before ms ≡ journal_code E (before ++ m ∷ []) rest
  code_goes e = code_more ∙ ap (λ (d : ℕ). code_then d (journal_code E (before ++ m ∷ []) rest)) e

pub code_ends : (E before : List Movement) {ms : List Movement} → ms ≡ [] → journal_code E before ms ≡ missing_code E before
unfolding journal_code
code_ends E before q = rw q

pub missing_by : (E listed : List Movement) {b : Bool} → b ≡ all_of (λ e. any_of (same_line e) listed) E → missing_code E listed ≡ cond b 0 33
unfolding missing_code
missing_by E listed e = ap (λ (x : Bool). cond x 0 33) (sym e)

-- THE WHOLE CALL

module _ (rs : List Record) (s : List ℕ) where
  pub not_whole : (length s % movement_size ≡ 0 → ⊥) → checked rs s ≡ 29
  unfolding checked whole_movements
  not_whole n = rw (ne_eqb (length s % movement_size) 0 n)

  pub too_many : length s % movement_size ≡ 0 → max_movements < length s / movement_size → checked rs s ≡ 29
  unfolding checked whole_movements
  too_many e l = rw (eq-eqb (length s % movement_size) 0 e, lt-leb (length s / movement_size) max_movements l)

  pub whole : length s % movement_size ≡ 0 → length s / movement_size ≤ max_movements → checked rs s ≡ journal_code (executed_lines rs) [] (movements_in s)
  unfolding checked whole_movements
  whole e l = rw (eq-eqb (length s % movement_size) 0 e, le-leb (length s / movement_size) max_movements l)

pub call_at : (t code s : List ℕ) {a : Result (ℕ × ℕ × ℕ) NoBody} → addressed t code ≡ a → journal_by t s a ≡ journal_of t code s
unfolding journal_of
call_at t code s e = ap (journal_by t s) (sym e)

-- WHICH CODES THERE ARE: what holds of each of these holds of every journal's

module _ (P : ℕ → Type 0) (p0 : P 0) (p30 : P 30) (p31 : P 31) (p32 : P 32) (p33 : P 33) where
  missing_one : (b : Bool) → P (cond b 0 33)
  missing_one true = p0
  missing_one false = p33

  movement_one : (x y z : Bool) (c : ℕ) → P c → P (code_then (cond x (cond y (cond z 32 0) 31) 30) c)
  movement_one true true true c h = p32
  movement_one true true false c h = h
  movement_one true false z c h = p31
  movement_one false y z c h = p30

  journal_one : (E before ms : List Movement) → P (journal_code E before ms)
  unfolding journal_code movement_code missing_code
  journal_one E before [] = missing_one (all_of (λ e. any_of (same_line e) before) E)
  journal_one E before (m ∷ ms) =
      movement_one (any_of (same_line m) E) (any_of (same_movement m) E) (any_of (same_line m) before) (journal_code E (before ++ m ∷ []) ms) (journal_one E (before ++ m ∷ []) ms)

  pub checked_one : P 29 → (rs : List Record) (s : List ℕ) → P (checked rs s)
  unfolding checked
  checked_one p29 rs s = go (whole_movements s) (journal_one (executed_lines rs) [] (movements_in s))
    where
      go : (b : Bool) → P (journal_code (executed_lines rs) [] (movements_in s)) → P (cond b (journal_code (executed_lines rs) [] (movements_in s)) 29)
      go true h = h
      go false h = p29
