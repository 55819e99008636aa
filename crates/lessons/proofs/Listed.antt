-- THE BODIES THAT A TABLE SAYS, entry by entry: their codes, one of them, and one in place of another; and tests of every entry.
use Prim.Native.Nat.{ℕ, zero, suc, ◌+◌, ◌*◌, ◌≤◌, ◌<◌}
use mathlib.Core.Path.{◌≡◌, refl, ap, ◌∙◌, subst}
use mathlib.Core.Bool.{Bool, true, ◌&&◌}
use mathlib.Core.List.{List, ◌∷◌, map}
use native.Mathlib.Omega.{arith}
use native.Mathlib.Nat.{not-suc-le-zero}
use lib.ListN.{length, get_or, set}
use Rattle.scan.proofs.Laws.{both}
use Rattle.slots.proofs.Laws.{used_le}
use Rattle.slots.proofs.Index.{length_records}
use Rattle.entries.specs.Entry.{entry_size, code_at, slots_of, place_of, codes_from}
use Rattle.table.proofs.Kept.{first, later}
use Rattle.plain.specs.Plain.{Listed, no_body}
use Rattle.plain.specs.Says.{listed_at, listed_from, each_entry}

pub codes_is : (t : List ℕ) (at n : ℕ) → map (λ (l : Listed). l.code) (listed_from t at n) ≡ codes_from entry_size t at n
unfolding listed_from codes_from
codes_is t at zero = refl
codes_is t at (suc n) = ap (λ (xs : List (List ℕ)). code_at t at ∷ xs) (codes_is t (at + entry_size) n)

pub listed_at_lem : (t : List ℕ) (at n b : ℕ) (d : Listed) → b < n → get_or (listed_from t at n) b d ≡ listed_at t (at + entry_size * b)
unfolding listed_from
listed_at_lem t at zero b d h = absurd (not-suc-le-zero h)
listed_at_lem t at (suc n) zero d h = let q : at ≡ at + entry_size * 0 = omega arith in ap (listed_at t) q
listed_at_lem t at (suc n) (suc b) d h =
    let q : at + entry_size + entry_size * b ≡ at + entry_size * suc b = omega arith in
    listed_at_lem t (at + entry_size) n b d (omega arith) ∙ ap (listed_at t) q

-- none has more orders than slots
pub within_slots : (t : List ℕ) (at n b : ℕ) → length (get_or (listed_from t at n) b no_body).orders ≤ (get_or (listed_from t at n) b no_body).slots
unfolding listed_from
within_slots t at zero b = omega arith
within_slots t at (suc n) zero = omega (arith, length_records t (place_of t at) (slots_of t at), used_le t (place_of t at) (slots_of t at))
within_slots t at (suc n) (suc b) = within_slots t (at + entry_size) n b

-- two tables say the same of the n entries from `at` on
same_listed : (t u : List ℕ) (at n : ℕ) → ((b : ℕ) → b < n → listed_at t (at + entry_size * b) ≡ listed_at u (at + entry_size * b)) → listed_from t at n ≡ listed_from u at n
unfolding listed_from
same_listed t u at zero f = refl
same_listed t u at (suc n) f =
    let x = first (λ p. listed_at t p ≡ listed_at u p) at n f in
    let y = same_listed t u (at + entry_size) n (later (λ p. listed_at t p ≡ listed_at u p) at n f) in
    λ i. x i ∷ y i

-- but of the entry b
pub set_listed : (t u : List ℕ) (at n b : ℕ) (x : Listed) → b < n → x ≡ listed_at u (at + entry_size * b)
    → ((c : ℕ) → c < n → (b ≡ c → ⊥) → listed_at t (at + entry_size * c) ≡ listed_at u (at + entry_size * c)) → set (listed_from t at n) b x ≡ listed_from u at n
unfolding listed_from
set_listed t u at zero b x h e f = absurd (not-suc-le-zero h)
set_listed t u at (suc n) zero x h e f =
    let q : at + entry_size * 0 ≡ at = omega arith in
    let y = e ∙ ap (listed_at u) q in
    let z = same_listed t u (at + entry_size) n (λ c l.
    let p : at + entry_size * suc c ≡ at + entry_size + entry_size * c = omega arith in
    subst (λ (k : ℕ). listed_at t k ≡ listed_at u k) p (f (suc c) (omega arith) (λ w. omega arith))) in
    λ i. y i ∷ z i
set_listed t u at (suc n) (suc b) x h e f =
    let q : at + entry_size * 0 ≡ at = omega arith in
    let y = subst (λ (k : ℕ). listed_at t k ≡ listed_at u k) q (f 0 (omega arith) (λ w. omega arith)) in
    let r : at + entry_size * suc b ≡ at + entry_size + entry_size * b = omega arith in
    let z = set_listed t u (at + entry_size) n b x (omega arith) (e ∙ ap (listed_at u) r) (λ c l d.
    let p : at + entry_size * suc c ≡ at + entry_size + entry_size * c = omega arith in
    subst (λ (k : ℕ). listed_at t k ≡ listed_at u k) p (f (suc c) (omega arith) (λ w. d (omega arith)))) in
    λ i. y i ∷ z i

-- A TEST OF EVERY ENTRY holds of each, and is as another that is the same of each
pub each_at : (test : ℕ → Bool) (at n b : ℕ) → each_entry test at n ≡ true → b < n → test (at + entry_size * b) ≡ true
unfolding each_entry
each_at test at zero b e h = absurd (not-suc-le-zero h)
each_at test at (suc n) zero e h = let q : at + entry_size * 0 ≡ at = omega arith in ap test q ∙ (both (test at) _ e).0
each_at test at (suc n) (suc b) e h =
    let q : at + entry_size * suc b ≡ at + entry_size + entry_size * b = omega arith in
    ap test q ∙ each_at test (at + entry_size) n b (both (test at) _ e).1 (omega arith)

pub each_same : (f g : ℕ → Bool) (at n : ℕ) → ((b : ℕ) → b < n → f (at + entry_size * b) ≡ g (at + entry_size * b)) → each_entry f at n ≡ each_entry g at n
unfolding each_entry
each_same f g at zero h = refl
each_same f g at (suc n) h =
    let x = first (λ p. f p ≡ g p) at n h in
    let y = each_same f g (at + entry_size) n (later (λ p. f p ≡ g p) at n h) in
    λ i. x i && y i
