-- The totals that a body's entry keeps: what settles them, and what a call on the body leaves of its table.
use Rattle.std.specs.Prelude.{Ok}
use Prim.Native.Nat.{ℕ, ◌+◌, ◌*◌, ◌≤◌}
use mathlib.Core.Bool.{Bool, true, false, ◌&&◌}
use mathlib.Core.List.{List}
use mathlib.Core.Path.{◌≡◌, sym, ap, ◌∙◌}
use native.Mathlib.Omega.{arith}
use lib.ListN.{length}
use lib.Dec.{eqb}
use borrow.Author.Tests.{eqb-true, eq-eqb}
use Rattle.scan.proofs.Laws.{both}
use Rattle.words.specs.Numbers.{put, be8, bytes8}
use Rattle.words.proofs.Laws.{Agree, on, same8, round8, put_put, length_put}
use Rattle.record.specs.declared.Key.{Key}
use Rattle.record.specs.declared.Record.{Record}
use Rattle.record.specs.Slot.{slot_size}
use Rattle.record.proofs.Back.{agree_before}
use Rattle.slots.specs.Slots.{records_at, nth}
use Rattle.body.specs.Body.{body_ok, cents_of}
use Rattle.entries.specs.Entry.{entry_size, entry_fixed, closed_place, kept, kept_bytes}
use Rattle.table.specs.Table.{agrees}
use Rattle.valid.proofs.Valid.{Valid}
use Rattle.rules.specs.Rules.{judge_notice}
use Rattle.rules.specs.Effects.{records_moved}
use Rattle.service.specs.Inner.{sum_moved, Movable, its, kept_moved}
use Rattle.service.proofs.Worth.{execute_cash, reverse_cash}
use Rattle.service.proofs.Kept.{Kept}

-- AGREEMENT

pub agrees_is : (t : List ℕ) (e : ℕ) (rs : List Record) → agrees t e rs ≡ true → (kept 1 t e ≡ cents_of 1 rs) × (kept 2 t e ≡ cents_of 2 rs)
unfolding agrees
agrees_is t e rs h =
    let w = both (eqb (kept 1 t e) (cents_of 1 rs)) (eqb (kept 2 t e) (cents_of 2 rs)) h in
    (eqb-true (kept 1 t e) (cents_of 1 rs) w.0, eqb-true (kept 2 t e) (cents_of 2 rs) w.1)

pub is_agrees : (t : List ℕ) (e : ℕ) (rs : List Record) → kept 1 t e ≡ cents_of 1 rs → kept 2 t e ≡ cents_of 2 rs → agrees t e rs ≡ true
unfolding agrees
is_agrees t e rs a b =
    let x = eq-eqb (kept 1 t e) (cents_of 1 rs) a in
    let y = eq-eqb (kept 2 t e) (cents_of 2 rs) b in
    λ i. x i && y i

-- the same entry's bytes keep the same
pub kept_same : {s t : List ℕ} (e : ℕ) → Agree s (e + entry_fixed) t (e + entry_fixed) 16 → (kept 1 s e ≡ kept 1 t e) × (kept 2 s e ≡ kept 2 t e)
kept_same {s} {t} e a =
    let q : e + 32 ≡ e + entry_fixed + 8 = omega arith in
    (same8 a (omega arith), ap (be8 s) q ∙ same8 (on a 8 8 (omega arith)) (omega arith) ∙ ap (be8 t) (sym q))

-- SETTLED: the entry keeps what was put
module _ (t : List ℕ) (e p q : ℕ) (fits : e + entry_size ≤ length t) where
  abbrev first : List ℕ
  first = put t (e + 24) (bytes8 p)

  one : length first ≡ length t
  one = length_put t (e + 24) (bytes8 p) (omega arith)

  two : put t (e + entry_fixed) (kept_bytes p q) ≡ put first (e + 32) (bytes8 q)
  unfolding kept_bytes
  two = sym (put_put t (e + 24) (bytes8 p) (bytes8 q) (e + 32) (omega arith) (omega arith))

  pub put_paid : p ≤ 18446744073709551615 → kept 1 (put t (e + entry_fixed) (kept_bytes p q)) e ≡ p
  put_paid h =
      ap (λ (x : List ℕ). kept 1 x e) two
      ∙ same8 (agree_before first (e + 32) (bytes8 q) (e + 24) (omega (arith, one)) 8 (omega arith)) (omega arith)
      ∙ round8 t (e + 24) p (omega arith) (omega arith)

  pub put_collected : q ≤ 18446744073709551615 → kept 2 (put t (e + entry_fixed) (kept_bytes p q)) e ≡ q
  put_collected h = ap (λ (x : List ℕ). kept 2 x e) two ∙ round8 first (e + 32) q (omega (arith, one)) (omega arith)

-- THE KEPT SUMS, as the code reads and moves them
pub movable_by : (executing : Bool) {sum s cents c : ℕ} → sum ≡ s → cents ≡ c → Movable executing s c → Movable executing sum cents
movable_by executing e f h = rw (e, f) h

pub kept_by : (t : List ℕ) (e : ℕ) (executing : Bool) (kind cents : ℕ) {a b x y p q : ℕ} → a ≡ kept 1 t e → b ≡ kept 2 t e → x ≡ its kind 1 cents → y ≡ its kind 2 cents
    → p ≡ sum_moved executing a x → q ≡ sum_moved executing b y
    → put t (e + entry_fixed) (kept_bytes p q) ≡ put t (e + entry_fixed) (kept_moved t e executing kind cents)
kept_by t e executing kind cents ea eb ex ey ep eq =
    let u = ep ∙ (λ i. sum_moved executing (ea i) (ex i)) in
    let v = eq ∙ (λ i. sum_moved executing (eb i) (ey i)) in
    λ i. put t (e + entry_fixed) (kept_bytes (u i) (v i))

-- A NOTICE moves the cash of each kind as a kept sum moves
pub cash_moves : (executing : Bool) (key : Key) (line : ℕ) (rs : List Record) (i cents kind : ℕ) → judge_notice executing key line rs ≡ Ok (i, cents) → Valid (nth rs i)
    → cents_of kind (records_moved executing line rs (Ok (i, cents))) ≤ 18446744073709551615
    → Movable executing (cents_of kind rs) (its key.kind kind cents)
    × (sum_moved executing (cents_of kind rs) (its key.kind kind cents) ≡ cents_of kind (records_moved executing line rs (Ok (i, cents))))
cash_moves true key line rs i cents kind e ok h =
    let x = execute_cash key line rs i cents kind e ok in
    (omega arith, sym x)
cash_moves false key line rs i cents kind e ok h =
    let x = reverse_cash key line rs i cents kind e ok in
    (omega arith, omega arith)

-- A CALL ON A BODY of n slots from base on, whose entry is at e, left t' of t: it wrote its slots and its entry's totals, and these agree
pub record Settled (t t' : List ℕ) (e base n : ℕ) : Type 0 where
  pub long : length t' ≡ length t
  pub before : (p m : ℕ) → p + m ≤ e + entry_fixed → Agree t' p t p m
  pub between : (p m : ℕ) → e + closed_place ≤ p → p + m ≤ base → Agree t' p t p m
  pub after : (p m : ℕ) → base + slot_size * n ≤ p → Agree t' p t p m
  pub ok : body_ok t' base n ≡ true
  pub agreed : agrees t' e (records_at t' base n) ≡ true

-- what writes into the slots alone and leaves the cash as it was
pub kept_settled : {t t' : List ℕ} {e base n : ℕ} → e + entry_size ≤ base → agrees t e (records_at t base n) ≡ true → Kept t t' base n → Settled t t' e base n
kept_settled {t} {t'} {e} {base} {n} h a k =
    let w = agrees_is t e (records_at t base n) a in
    let s = kept_same e (k.before (e + entry_fixed) 16 (omega arith)) in
    record {
      long = k.long;
      before = λ p m f. k.before p m (omega arith);
      between = λ p m f g. k.before p m g;
      after = k.after;
      ok = k.ok;
      agreed = is_agrees t' e (records_at t' base n) (s.0 ∙ w.0 ∙ sym (k.cash 1)) (s.1 ∙ w.1 ∙ sym (k.cash 2));
    }
