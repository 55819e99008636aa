-- The search over a list of records, and lists where no key stands twice.
use Rattle.std.specs.Prelude.{Option, Result, Some, None, Ok, Err}
use Rattle.std.specs.Result.{result_ok}
use Prim.Native.Nat.{ℕ, zero, suc, ◌+◌, ◌-◌, ◌≤◌, ◌<◌}
use mathlib.Core.Bool.{Bool, true, false, ◌&&◌, cond}
use mathlib.Core.List.{List, [], ◌∷◌, ◌++◌}
use mathlib.Core.Path.{◌≡◌, refl, sym, ap, ◌∙◌}
use native.Mathlib.Omega.{arith}
use lib.ListN.{length, get_or, set}
use lib.Dec.{eqb}
use borrow.Author.Tests.{eqb-true}
use Rattle.scan.proofs.Laws.{both}
use Rattle.record.specs.Slot.{key_is, key_of}
use Rattle.record.specs.declared.Record.{Record}
use Rattle.record.specs.declared.Key.{Key}
use Rattle.ranges.specs.Ranges.{is_nothing}
use Rattle.slots.specs.Slots.{find_in, distinct}
use Rattle.slots.specs.Inner.{seek_in}
use Rattle.valid.proofs.Laws.{same_test}

clash : {A : Type 0} → ◌≡◌ {A = Bool} false true → A
clash e = let z : ◌≡◌ {A = ℕ} 0 1 = cc in absurd (omega arith)

-- KEYS

pub key_is_lem : (r : Record) (k : Key) → key_is r k ≡ true → key_of r ≡ k
unfolding key_is
key_is_lem r k e =
    let a = both (eqb r.kind k.kind) _ e in
    let b = both (eqb r.esercizio k.esercizio) (eqb r.number k.number) a.1 in
    let x = eqb-true _ _ a.0 in
    let y = eqb-true _ _ b.0 in
    let z = eqb-true _ _ b.1 in
    λ i. record { kind = x i; esercizio = y i; number = z i }

key_same : (r x : Record) → key_of r ≡ key_of x → (k : Key) → key_is r k ≡ key_is x k
unfolding key_is
key_same r x e k = ap (λ (q : Key). eqb q.kind k.kind && (eqb q.esercizio k.esercizio && eqb q.number k.number)) e

key_swap : (r x : Record) → key_is r (key_of x) ≡ key_is x (key_of r)
unfolding key_is
key_swap r x =
    let s : (m n : ℕ) → eqb m n ≡ eqb n m = λ m n. same_test m n n m sym sym in
    λ i. s r.kind x.kind i && (s r.esercizio x.esercizio i && s r.number x.number i)

-- WHAT IS FOUND

pub nothing_is : (f : Option ℕ) → is_nothing f ≡ true → f ≡ None
nothing_is None e = refl
nothing_is (Some i) e = clash e

-- it is one of the records, and the one with the key
pub record Hit (rs : List Record) (k : Key) (i j : ℕ) (d : Record) : Type 0 where
  pub from : i ≤ j
  pub below : j < i + length rs
  pub key : key_of (get_or rs (j - i) d) ≡ k

find_hit : (rs : List Record) (i : ℕ) (k : Key) (j : ℕ) (d : Record) → find_in rs i k ≡ Some j → Hit rs k i j d
unfolding find_in
find_hit [] i k j d e = clash (sym (ap is_nothing e))
find_hit (r ∷ rs) i k j d e = go (key_is r k) refl e (find_hit rs (i + 1) k j d) where
  go : (b : Bool) → key_is r k ≡ b → cond b (Some i) (find_in rs (i + 1) k) ≡ Some j → (find_in rs (i + 1) k ≡ Some j → Hit rs k (i + 1) j d) → Hit (r ∷ rs) k i j d
  go true h f next =
      let q : i ≡ j = cc in
      let z : j - i ≡ 0 = omega arith in
      record { from = omega arith; below = omega arith; key = ap (λ (m : ℕ). key_of (get_or (r ∷ rs) m d)) z ∙ key_is_lem r k h }
  go false h f next =
      let g = next f in
      let z : j - i ≡ suc (j - (i + 1)) = omega arith in
      record { from = omega arith; below = omega arith; key = ap (λ (m : ℕ). key_of (get_or (r ∷ rs) m d)) z ∙ g.key }

module _ (rs : List Record) (k : Key) (j : ℕ) (d : Record) (e : find_in rs 0 k ≡ Some j) where
  pub found_below : j < length rs
  found_below = omega (arith, (find_hit rs 0 k j d e).below)

  pub found_key : key_of (get_or rs j d) ≡ k
  found_key = let q : j ≡ j - 0 = omega arith in ap (λ (m : ℕ). key_of (get_or rs m d)) q ∙ (find_hit rs 0 k j d e).key

-- THE SEARCH FOR AN ORDER finds what the search does, and counts the records where it finds none
told : {A : Type 0} {j m : ℕ} → ◌≡◌ {A = Result ℕ ℕ} (Ok j) (Err m) → A
told e = let z : ◌≡◌ {A = ℕ} 0 1 = cc in absurd (omega arith)

pub seek_at : (rs : List Record) (i : ℕ) (k : Key) (j : ℕ) → seek_in rs i k ≡ Ok j → find_in rs i k ≡ Some j
unfolding seek_in find_in
seek_at [] i k j e = told (sym e)
seek_at (r ∷ rs) i k j e = go (key_is r k) e (seek_at rs (i + 1) k j)
  where
    go : (b : Bool) → cond b (Ok i) (seek_in rs (i + 1) k) ≡ Ok j → (seek_in rs (i + 1) k ≡ Ok j → find_in rs (i + 1) k ≡ Some j)
        → cond b (Some i) (find_in rs (i + 1) k) ≡ Some j
    go true f next = let q : i ≡ j = cc in ap Some q
    go false f next = next f

pub seek_absent : (rs : List Record) (i : ℕ) (k : Key) (m : ℕ) → seek_in rs i k ≡ Err m → (find_in rs i k ≡ None) × (m ≡ i + length rs)
unfolding seek_in find_in
seek_absent [] i k m e = let q : i ≡ m = cc in (refl, omega arith)
seek_absent (r ∷ rs) i k m e = go (key_is r k) e (seek_absent rs (i + 1) k m)
  where
    go : (b : Bool) → cond b (Ok i) (seek_in rs (i + 1) k) ≡ Err m → (seek_in rs (i + 1) k ≡ Err m → (find_in rs (i + 1) k ≡ None) × (m ≡ i + 1 + length rs))
        → (cond b (Some i) (find_in rs (i + 1) k) ≡ None) × (m ≡ i + suc (length rs))
    go true f next = told f
    go false f next = let n = next f in (n.0, omega arith)

-- what a search finds is what it found where it walked
pub seek_found : (rs : List Record) (i : ℕ) (k : Key) → result_ok (seek_in rs i k) ≡ find_in rs i k
unfolding seek_in find_in
seek_found [] i k = refl
seek_found (r ∷ rs) i k = go (key_is r k) (seek_found rs (i + 1) k)
  where
    go : (b : Bool) → result_ok (seek_in rs (i + 1) k) ≡ find_in rs (i + 1) k → result_ok (cond b (Ok i) (seek_in rs (i + 1) k)) ≡ cond b (Some i) (find_in rs (i + 1) k)
    go true e = refl
    go false e = e

pub seek_none : (rs : List Record) (k : Key) → find_in rs 0 k ≡ None → seek_in rs 0 k ≡ Err (length rs)
seek_none rs k n = go (seek_in rs 0 k) refl
  where
    go : (s : Result ℕ ℕ) → seek_in rs 0 k ≡ s → seek_in rs 0 k ≡ Err (length rs)
    go (Ok j) e = clash (ap is_nothing (sym (seek_at rs 0 k j e) ∙ n))
    go (Err m) e = let q : m ≡ length rs = omega (arith, (seek_absent rs 0 k m e).1) in e ∙ ap Err q

-- A RECORD REPLACED BY ONE OF THE SAME KEY

pub find_set : (rs : List Record) (i : ℕ) (r d : Record) → key_of r ≡ key_of (get_or rs i d) → (j : ℕ) (k : Key) → find_in (set rs i r) j k ≡ find_in rs j k
unfolding find_in
find_set [] i r d e j k = refl
find_set (x ∷ rs) zero r d e j k = ap (λ (b : Bool). cond b (Some j) (find_in rs (j + 1) k)) (key_same r x e k)
find_set (x ∷ rs) (suc i) r d e j k = ap (cond (key_is x k) (Some j)) (find_set rs i r d e (j + 1) k)

pub distinct_set : (rs : List Record) (i : ℕ) (r d : Record) → key_of r ≡ key_of (get_or rs i d) → distinct (set rs i r) ≡ distinct rs
unfolding distinct
distinct_set [] i r d e = refl
distinct_set (x ∷ rs) zero r d e = ap (λ (k : Key). is_nothing (find_in rs 0 k) && distinct rs) e
distinct_set (x ∷ rs) (suc i) r d e =
    let a = find_set rs i r d e 0 (key_of x) in
    let b = distinct_set rs i r d e in
    λ j. is_nothing (a j) && b j

-- A RECORD OF A NEW KEY AT THE END

-- none is found from one index on as from another
none_any : (rs : List Record) (i j : ℕ) (k : Key) → is_nothing (find_in rs i k) ≡ is_nothing (find_in rs j k)
unfolding find_in
none_any [] i j k = refl
none_any (r ∷ rs) i j k = go (key_is r k) (none_any rs (i + 1) (j + 1) k) where
  go : (b : Bool) → is_nothing (find_in rs (i + 1) k) ≡ is_nothing (find_in rs (j + 1) k)
      → is_nothing (cond b (Some i) (find_in rs (i + 1) k)) ≡ is_nothing (cond b (Some j) (find_in rs (j + 1) k))
  go true e = refl
  go false e = e

-- where none is found, it is not the first, and none of the others
none_cons : (r : Record) (rs : List Record) (k : Key) → is_nothing (find_in (r ∷ rs) 0 k) ≡ true → (key_is r k ≡ false) × (is_nothing (find_in rs 0 k) ≡ true)
unfolding find_in
none_cons r rs k e = go (key_is r k) e where
  go : (b : Bool) → is_nothing (cond b (Some 0) (find_in rs (0 + 1) k)) ≡ true → (b ≡ false) × (is_nothing (find_in rs 0 k) ≡ true)
  go true f = clash f
  go false f = (refl, none_any rs 0 1 k ∙ f)

pub cons_none : (r : Record) (rs : List Record) (k : Key) → key_is r k ≡ false → is_nothing (find_in rs 0 k) ≡ true → is_nothing (find_in (r ∷ rs) 0 k) ≡ true
unfolding find_in
cons_none r rs k e f = ap (λ (b : Bool). is_nothing (cond b (Some 0) (find_in rs (0 + 1) k))) e ∙ none_any rs 1 0 k ∙ f

pub none_add : (rs : List Record) (r : Record) (k : Key) → key_is r k ≡ false → is_nothing (find_in rs 0 k) ≡ true → is_nothing (find_in (rs ++ r ∷ []) 0 k) ≡ true
none_add [] r k m e = cons_none r [] k m e
none_add (x ∷ rs) r k m e = let f = none_cons x rs k e in cons_none x (rs ++ r ∷ []) k f.0 (none_add rs r k m f.1)

pub distinct_add : (rs : List Record) (r : Record) → is_nothing (find_in rs 0 (key_of r)) ≡ true → distinct rs ≡ true → distinct (rs ++ r ∷ []) ≡ true
unfolding distinct
distinct_add [] r n e = ap (λ (b : Bool). b && true) n
distinct_add (x ∷ rs) r n e =
    let f = none_cons x rs (key_of r) n in
    let g = both (is_nothing (find_in rs 0 (key_of x))) (distinct rs) e in
    let a = none_add rs r (key_of x) (key_swap r x ∙ f.0) g.0 in
    let b = distinct_add rs r f.1 g.1 in
    λ i. a i && b i
