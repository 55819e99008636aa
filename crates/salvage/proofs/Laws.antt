-- Laws of the code, one way through it at a time: the walk over the entries, the report, the repaired bodies, the answer.
use Rattle.std.specs.Prelude.{Ok, Err}
use Prim.Native.Nat.{ℕ, zero, suc, ◌+◌, ◌-◌, ◌*◌, ◌/◌, ◌≤◌, ◌<◌}
use mathlib.Core.Bool.{Bool, true, false, cond}
use mathlib.Core.List.{List, [], ◌∷◌, ◌++◌, append_assoc}
use mathlib.Core.Path.{◌≡◌, refl, sym, ap, ◌∙◌, subst}
use native.Mathlib.Omega.{arith}
use lib.ListN.{length, length-append}
use lib.Dec.{leb}
use borrow.Author.Tests.{le-leb, lt-leb}
use Rattle.bounds.specs.Bounds.{max_slots}
use Rattle.words.specs.Numbers.{put, bytes2, bytes4}
use Rattle.words.proofs.Laws.{put_put}
use Rattle.record.specs.Slot.{slot_size}
use Rattle.body.specs.Body.{cents_of}
use Rattle.entries.specs.Entry.{entry_size, entry_fixed, kept_bytes, closed_of, slots_of, place_of}
use Rattle.table.specs.Table.{table2, head_size, bodies, contents_ok, records_of, entry_of}
use Rattle.table.proofs.Laws.{head, laid}
use Rattle.table.proofs.Kept.{number}
use Rattle.service.specs.Service.{settled}
use Rattle.packing.specs.Packing.{packed}
use Rattle.keeping.specs.Keeping.{keeps_at, blanked_from, moved, each_bytes}
use Rattle.salvage.specs.declared.SalvageRefusal.TheVariants.{InvalidContents, ShortReport}
use Rattle.salvage.specs.Salvage.{keeps_of, body_repaired, repaired_from, moved_in, blanked_in, blanked, report_of, salvage_of}
use Rattle.salvage.specs.Inner.{Fits}
use Rattle.salvage.proofs.All.{fits_of, step_contents, step_right}

-- THE WALK: the next of `left` entries, at `at`, of the n of a table
module _ (t : List ℕ) (ok : contents_ok table2 t ≡ true) (at left : ℕ) {n : ℕ} (e : n ≡ bodies t) (q : at + entry_size * left ≡ head_size + entry_size * n) (h : 0 < left) where
  here : entry_of (n - left) ≡ at
  here = omega arith

  pub turn : Fits t at
  turn = subst (Fits t) here (fits_of t ok (n - left) (omega arith))

  pub turn_inside : at + entry_size ≤ length t
  turn_inside = omega (arith, turn.past, turn.inside)

  -- its slots, of the place and the number that were read
  pub turn_slots : {p s : ℕ} → p ≡ place_of t at → s ≡ slots_of t at → (p + slot_size * s ≤ length t) × (s ≤ max_slots)
  turn_slots e f = (omega (arith, turn.inside), omega (arith, turn.few))

  pub turn_right : contents_ok table2 (body_repaired t at) ≡ true
  turn_right = subst (λ (p : ℕ). contents_ok table2 (body_repaired t p) ≡ true) here (step_right t ok (n - left) (omega arith))

  pub turn_bodies : n ≡ bodies (body_repaired t at)
  turn_bodies = e ∙ sym (subst (λ (p : ℕ). bodies (body_repaired t p) ≡ bodies t) here (number (step_contents t ok (n - left) (omega arith)) ok))

pub few_bodies : (t : List ℕ) → contents_ok table2 t ≡ true → (head_size ≤ length t) × (bodies t ≤ 16)
few_bodies t ok = let w = head table2 t (laid table2 t ok).head_ok in (w.long, w.few)

-- ONE MORE BODY, of k; p, s and y are its place, its slots and its closed year as they were read
module _ (t : List ℕ) (n i : ℕ) (h : i < n) where
  abbrev its_place : ℕ
  its_place = entry_of i

  more : n - i ≡ suc (n - (i + 1))
  more = omega arith

  next : its_place + entry_size ≡ entry_of (i + 1)
  next = omega arith

  pub repaired_more : repaired_from t its_place (n - i) ≡ repaired_from (body_repaired t its_place) (entry_of (i + 1)) (n - (i + 1))
  unfolding repaired_from
  repaired_more = ap (repaired_from t its_place) more ∙ ap (λ (p : ℕ). repaired_from (body_repaired t its_place) p (n - (i + 1))) next

  module _ {p s y : ℕ} (e : p ≡ place_of t its_place) (f : s ≡ slots_of t its_place) (g : y ≡ closed_of t its_place) where
    pub moved_more : moved_in t its_place (n - i) ≡ moved (keeps_at y t p s) ∷ moved_in t (entry_of (i + 1)) (n - (i + 1))
    unfolding moved_in
    moved_more = ap (moved_in t its_place) more ∙ (λ j. moved (keeps_at (sym g j) t (sym e j) (sym f j)) ∷ moved_in t (next j) (n - (i + 1)))

    pub blanked_more : blanked_in t its_place (n - i) ≡ blanked_from t p (keeps_at y t p s) ++ blanked_in t (entry_of (i + 1)) (n - (i + 1))
    unfolding blanked_in
    blanked_more = ap (blanked_in t its_place) more ∙ (λ j. blanked_from t (sym e j) (keeps_at (sym g j) t (sym e j) (sym f j)) ++ blanked_in t (next j) (n - (i + 1)))

    pub count_more : length (blanked_in t its_place (n - i)) ≡ length (blanked_from t p (keeps_at y t p s)) + length (blanked_in t (entry_of (i + 1)) (n - (i + 1)))
    count_more = ap length blanked_more ∙ length-append (blanked_from t p (keeps_at y t p s)) (blanked_in t (entry_of (i + 1)) (n - (i + 1)))

module _ (t : List ℕ) (at k : ℕ) (h : k ≤ 0) where
  none : k ≡ 0
  none = omega arith

  pub repaired_done : repaired_from t at k ≡ t
  unfolding repaired_from
  repaired_done = ap (repaired_from t at) none

  pub moved_done : moved_in t at k ≡ []
  unfolding moved_in
  moved_done = ap (moved_in t at) none

  pub blanked_done : blanked_in t at k ≡ []
  unfolding blanked_in
  blanked_done = ap (blanked_in t at) none

-- NUMBERS WRITTEN one after the other
each_append : (bytes : ℕ → List ℕ) (xs ys : List ℕ) → each_bytes bytes (xs ++ ys) ≡ each_bytes bytes xs ++ each_bytes bytes ys
unfolding each_bytes
each_append bytes [] ys = refl
each_append bytes (x ∷ xs) ys =
    ap (λ (r : List ℕ). bytes x ++ r) (each_append bytes xs ys) ∙ sym (append_assoc (bytes x) (each_bytes bytes xs) (each_bytes bytes ys))

pub each_four : (xs : List ℕ) → length (each_bytes bytes4 xs) ≡ 4 * length xs
unfolding each_bytes
each_four [] = refl
each_four (x ∷ xs) = omega (arith, length-append (bytes4 x) (each_bytes bytes4 xs), length-append (bytes2 (x / 65536)) (bytes2 x), each_four xs)

each_two : (xs : List ℕ) → length (each_bytes bytes2 xs) ≡ 2 * length xs
unfolding each_bytes
each_two [] = refl
each_two (x ∷ xs) = omega (arith, length-append (bytes2 x) (each_bytes bytes2 xs), each_two xs)

-- the places of one body's blanked slots, and those of the bodies after it
pub places_more : (r r' : List ℕ) (to to' : ℕ) (vs xs ys : List ℕ) → vs ≡ xs ++ ys → to ≤ length r → to' ≡ to + 4 * length xs → r' ≡ put r to (each_bytes bytes4 xs)
    → put r to (each_bytes bytes4 vs) ≡ put r' to' (each_bytes bytes4 ys)
places_more r r' to to' vs xs ys q h l e =
    ap (put r to) (ap (each_bytes bytes4) q ∙ each_append bytes4 xs ys)
    ∙ sym ((λ i. put (e i) to' (each_bytes bytes4 ys)) ∙ put_put r to (each_bytes bytes4 xs) (each_bytes bytes4 ys) to' h (omega (arith, each_four xs)))

-- THE REPORT
moved_length : (t : List ℕ) (at n : ℕ) → length (moved_in t at n) ≡ n
unfolding moved_in
moved_length t at zero = refl
moved_length t at (suc n) = ap suc (moved_length t (at + entry_size) n)

-- the counts take two bytes for each body
pub moved_two : (t : List ℕ) (n : ℕ) → length (each_bytes bytes2 (moved_in t head_size n)) ≡ 2 * n
moved_two t n = each_two (moved_in t head_size n) ∙ ap (λ (m : ℕ). 2 * m) (moved_length t head_size n)

pub report_length : (t : List ℕ) → length (report_of t) ≡ 2 * bodies t + 4 * length (blanked t)
unfolding report_of
report_length t =
    let a = moved_two t (bodies t) in
    let c = each_four (blanked t) in
    length-append (each_bytes bytes2 (moved_in t head_size (bodies t))) (each_bytes bytes4 (blanked t)) ∙ omega arith

-- counts, then places
pub report_by : (t r r₁ r₂ : List ℕ) {n : ℕ} → n ≡ bodies t → r₁ ≡ put r 0 (each_bytes bytes2 (moved_in t head_size n)) → r₂ ≡ put r₁ (2 * n) (each_bytes bytes4 (blanked t)) → r₂ ≡ put r 0 (report_of t)
unfolding report_of
report_by t r r₁ r₂ {n} e f g =
    let x = moved_two t n in
    g ∙ ap (λ (s : List ℕ). put s (2 * n) (each_bytes bytes4 (blanked t))) f
    ∙ put_put r 0 (each_bytes bytes2 (moved_in t head_size n)) (each_bytes bytes4 (blanked t)) (2 * n) (omega arith) (omega arith)
    ∙ ap (λ (m : ℕ). put r 0 (each_bytes bytes2 (moved_in t head_size m) ++ each_bytes bytes4 (blanked t))) e

-- TOTALS SET ANEW
pub settled_with : (t t' : List ℕ) (at : ℕ) {a b : ℕ} → a ≡ cents_of 1 (records_of t at) → b ≡ cents_of 2 (records_of t at) → t' ≡ put t (at + entry_fixed) (kept_bytes a b)
    → t' ≡ settled t at (records_of t at)
unfolding settled
settled_with t t' at e f g = g ∙ (λ i. put t (at + entry_fixed) (kept_bytes (e i) (f i)))

-- a body packed by the place, the slots and the closed year that were read
pub packed_by : (t t' : List ℕ) (at : ℕ) {p s y : ℕ} → p ≡ place_of t at → s ≡ slots_of t at → y ≡ closed_of t at
    → t' ≡ packed t p (keeps_at y t p s) → t' ≡ packed t (place_of t at) (keeps_of t at)
packed_by t t' at e f h g = g ∙ (λ i. packed t (e i) (keeps_at (h i) t (e i) (f i)))

-- THE ANSWER; n and c as they were counted, m the report's length
module _ (t : List ℕ) (m : ℕ) where
  pub salvage_not : contents_ok table2 t ≡ false → Err InvalidContents ≡ salvage_of t m
  unfolding salvage_of
  salvage_not h = ap (λ (b : Bool). cond b (cond (leb (length (report_of t)) m) (Ok (length (blanked t))) (Err ShortReport)) (Err InvalidContents)) (sym h)

  module _ (g : contents_ok table2 t ≡ true) {n c : ℕ} (e : n ≡ bodies t) (f : c ≡ length (blanked t)) where
    fit_is : {b : Bool} → leb (length (report_of t)) m ≡ b → cond b (Ok (length (blanked t))) (Err ShortReport) ≡ salvage_of t m
    unfolding salvage_of
    fit_is q = λ i. cond (sym g i) (cond (sym q i) (Ok (length (blanked t))) (Err ShortReport)) (Err InvalidContents)

    pub salvage_short : m < 2 * n + 4 * c → Err ShortReport ≡ salvage_of t m
    salvage_short h = fit_is (lt-leb (length (report_of t)) m (omega (arith, report_length t)))

    pub salvage_done : 2 * n + 4 * c ≤ m → Ok c ≡ salvage_of t m
    salvage_done h = ap Ok f ∙ fit_is (le-leb (length (report_of t)) m (omega (arith, report_length t)))
