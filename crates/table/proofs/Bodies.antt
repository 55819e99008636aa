-- What a table whose contents are right tells of each body: its slots lie past the entries, within the table and apart from those of every other body, and its code is its own.
use Rattle.std.specs.Prelude.{Some}
use mathlib.Core.Path.{◌≡◌, refl, sym, ap, ◌∙◌}
use mathlib.Core.List.{List}
use mathlib.Core.Bool.{Bool, true, false, ◌&&◌}
use mathlib.Core.Logic.{◌⊎◌, inl, inr}
use Prim.Native.Nat.{ℕ, zero, suc, ◌+◌, ◌-◌, ◌*◌, ◌≤◌, ◌<◌}
use native.Mathlib.Nat.{add-zero, mul-zero, mul-le-mul_left}
use native.Mathlib.Omega.{arith}
use lib.ListN.{length}
use lib.Dec.{leb}
use borrow.Author.Tests.{leb-true, leb-false}
use Rattle.record.specs.Slot.{slot_size}
use Rattle.entries.specs.Entry.{entry_size, code_at, slots_of, place_of}
use Rattle.entries.proofs.Laws.{times, Form, form}
use Rattle.entries.proofs.Codes.{found_below, found_code, found_own, found_one}
use Rattle.table.specs.declared.Layout.{Layout}
use Rattle.table.specs.Table.{table2, head_size, bodies, layout_ok, body_holds, bodies_ok, contents_ok, valid_as, table_ok, body_of, entry_of}
use Rattle.table.specs.Inner.{Known}
use Rattle.table.proofs.Laws.{known_2, Entry, entry, lay_split, lay_own, lay_next, lay_room, Holds, holds, bodies_split, laid, valid_split, table}

below : (a b : ℕ) → a ≤ b → (a ≡ b → ⊥) → a < b
below a b h n = go (leb (suc a) b) refl
  where
    go : (x : Bool) → leb (suc a) b ≡ x → a < b
    go true e = leb-true (suc a) b e
    go false e = absurd (n (omega (arith, leb-false (suc a) b e)))

-- n entries of a layout from `at` on
module _ {L : Layout} (K : Known L) (t : List ℕ) where
  -- the first of them, and the one that is b + 1 on
  start : (at : ℕ) → at + L.entry * 0 ≡ at
  start at = ap (λ (x : ℕ). at + x) (mul-zero L.entry) ∙ add-zero at

  step : (at b : ℕ) → at + L.entry * suc b ≡ at + L.entry + L.entry * b
  step at b = omega (arith, times L.entry (suc b) b refl)

  -- what holds at the first of the entries holds at entry b
  lay_at : (at n p b : ℕ) → layout_ok L t at n p ≡ true → b < n → layout_ok L t (at + L.entry * b) (n - b) (place_of t (at + L.entry * b)) ≡ true
  lay_at at n p zero e h =
      let q = start at in
      let r : n - 0 ≡ n = omega arith in
      (λ i. layout_ok L t (q i) (r i) (place_of t (q i))) ∙ lay_own L t at n p h e
  lay_at at n p (suc b) e h =
      let q = step at b in
      let r : n - suc b ≡ n - 1 - b = omega arith in
      (λ i. layout_ok L t (q i) (r i) (place_of t (q i)))
      ∙ lay_at (at + L.entry) (n - 1) (p + slot_size * slots_of t at) b (lay_next L t at n p (omega arith) e) (omega arith)

  pub lay_past : (at n p b : ℕ) → layout_ok L t at n p ≡ true → b < n → p ≤ place_of t (at + L.entry * b)
  lay_past at n p zero e h =
      omega (arith, ap (place_of t) (start at), (entry L t at p (lay_split L t at n (n - 1) p (omega arith) e).0).placed)
  lay_past at n p (suc b) e h =
      omega (arith, ap (place_of t) (step at b), lay_past (at + L.entry) (n - 1) (p + slot_size * slots_of t at) b (lay_next L t at n p (omega arith) e) (omega arith))

  bodies_at : (at n b : ℕ) → bodies_ok L t at n ≡ true → b < n → body_holds L t (at + L.entry * b) ≡ true
  bodies_at at n zero e h = ap (body_holds L t) (start at) ∙ (bodies_split L t at n (n - 1) (omega arith) e).0
  bodies_at at n (suc b) e h =
      ap (body_holds L t) (step at b) ∙ bodies_at (at + L.entry) (n - 1) b (bodies_split L t at n (n - 1) (omega arith) e).1 (omega arith)

  pub bodies_each : (at n : ℕ) → ((b : ℕ) → b < n → body_holds L t (at + L.entry * b) ≡ true) → bodies_ok L t at n ≡ true
  unfolding bodies_ok
  bodies_each at zero f = refl
  bodies_each at (suc n) f =
      let a = ap (body_holds L t) (sym (start at)) ∙ f 0 (omega arith) in
      let c = bodies_each (at + L.entry) n (λ b h. ap (body_holds L t) (sym (step at b)) ∙ f (suc b) (omega arith)) in
      λ i. a i && c i

-- where body b's entry begins in a table of a layout
abbrev pub entry_at : Layout → ℕ → ℕ
entry_at L b = head_size + L.entry * b

-- body b of a table of a layout whose contents are right
pub record Placed (L : Layout) (t : List ℕ) (b : ℕ) : Type 0 where
  pub entry_in : entry_at L b + L.entry ≤ head_size + L.entry * bodies t
  pub own_entry : Entry L t (entry_at L b) (place_of t (entry_at L b))
  pub own_form : Form t (entry_at L b)
  pub past : head_size + L.entry * bodies t ≤ place_of t (entry_at L b)
  pub inside : place_of t (entry_at L b) + slot_size * slots_of t (entry_at L b) ≤ length t

pub placed_of : {L : Layout} (K : Known L) (t : List ℕ) → contents_ok L t ≡ true → (b : ℕ) → b < bodies t → Placed L t b
placed_of {L} K t ok b h =
    let w = laid L t ok in
    let at : ℕ = entry_at L b in
    let l = lay_at K t head_size (bodies t) (head_size + L.entry * bodies t) b w.layout h in
    let e : Entry L t at (place_of t at) =
    entry L t at (place_of t at) (lay_split L t at (bodies t - b) (bodies t - b - 1) (place_of t at) (omega arith) l).0 in
    let m : L.entry * suc b ≤ L.entry * bodies t = mul-le-mul_left L.entry (omega arith) in
    record {
      entry_in = omega (arith, times L.entry (suc b) b refl);
      own_entry = e;
      own_form = form t at e.formed;
      past = lay_past K t head_size (bodies t) (head_size + L.entry * bodies t) b w.layout h;
      inside = lay_room L t at (bodies t - b) (place_of t at) (omega arith) l;
    }

-- body b of a valid one
pub record Body (L : Layout) (t : List ℕ) (b : ℕ) : Type 0 where
  pub entry_in : entry_at L b + L.entry ≤ head_size + L.entry * bodies t
  pub own_entry : Entry L t (entry_at L b) (place_of t (entry_at L b))
  pub own_form : Form t (entry_at L b)
  pub past : head_size + L.entry * bodies t ≤ place_of t (entry_at L b)
  pub inside : place_of t (entry_at L b) + slot_size * slots_of t (entry_at L b) ≤ length t
  pub holds : Holds L t (entry_at L b)

pub body_of_lem : {L : Layout} (K : Known L) (t : List ℕ) → valid_as L t ≡ true → (b : ℕ) → b < bodies t → Body L t b
body_of_lem {L} K t ok b h =
    let w = valid_split L t ok in
    let p = placed_of K t w.0 b h in
    record {
      entry_in = p.entry_in;
      own_entry = p.own_entry;
      own_form = p.own_form;
      past = p.past;
      inside = p.inside;
      holds = holds L t (entry_at L b) (bodies_at K t head_size (bodies t) b w.1 h);
    }

-- TABLE 2

-- the slots of a body end before those of a later one
pub placed_before : (t : List ℕ) → contents_ok table2 t ≡ true → (b c : ℕ) → b < c → c < bodies t
    → place_of t (entry_of b) + slot_size * slots_of t (entry_of b) ≤ place_of t (entry_of c)
placed_before t ok b c h k =
    let at : ℕ = entry_of b in
    let q : at + entry_size + entry_size * (c - b - 1) ≡ entry_of c = omega arith in
    let l = lay_at known_2 t head_size (bodies t) (head_size + entry_size * bodies t) b (laid table2 t ok).layout (omega arith) in
    let r = lay_next table2 t at (bodies t - b) (place_of t at) (omega arith) l in
    omega (arith, ap (place_of t) q, lay_past known_2 t (at + entry_size) (bodies t - b - 1) (place_of t at + slot_size * slots_of t at) (c - b - 1) r (omega arith))

module _ (t : List ℕ) (ok : table_ok t ≡ true) where
  pub body_at_lem : (b : ℕ) → b < bodies t → Body table2 t b
  body_at_lem = body_of_lem known_2 t ok

  pub before : (b c : ℕ) → b < c → c < bodies t → place_of t (entry_of b) + slot_size * slots_of t (entry_of b) ≤ place_of t (entry_of c)
  before = placed_before t (valid_split table2 t ok).0

  -- two bodies' slots do not meet
  pub apart : (b c : ℕ) → (b ≡ c → ⊥) → b < bodies t → c < bodies t
      → (place_of t (entry_of b) + slot_size * slots_of t (entry_of b) ≤ place_of t (entry_of c)) ⊎ (place_of t (entry_of c) + slot_size * slots_of t (entry_of c) ≤ place_of t (entry_of b))
  apart b c n h k = go (leb (suc b) c) refl
    where
      go : (x : Bool) → leb (suc b) c ≡ x
          → (place_of t (entry_of b) + slot_size * slots_of t (entry_of b) ≤ place_of t (entry_of c)) ⊎ (place_of t (entry_of c) + slot_size * slots_of t (entry_of c) ≤ place_of t (entry_of b))
      go true e = inl (before b c (leb-true (suc b) c e) k)
      go false e =
          let l = leb-false (suc b) c e in
          let d : (c ≡ b → ⊥) = λ z. n (sym z) in
          inr (before c b (below c b (omega arith) d) h)

  -- BODIES BY CODE: what is found has the code, each code finds its own body, and no two bodies share one
  pub found_body : (code : List ℕ) (b : ℕ) → body_of t code ≡ Some b → b < bodies t
  found_body code b e = found_below entry_size t head_size (bodies t) code b e

  pub body_code : (code : List ℕ) (b : ℕ) → body_of t code ≡ Some b → code_at t (entry_of b) ≡ code
  body_code code b e = found_code entry_size t head_size (bodies t) code b e

  pub own_body : (b : ℕ) → b < bodies t → body_of t (code_at t (entry_of b)) ≡ Some b
  own_body b h = found_own entry_size t head_size (bodies t) (table table2 t ok).distinct b h

  pub one_body : (b c : ℕ) → b < bodies t → c < bodies t → code_at t (entry_of b) ≡ code_at t (entry_of c) → b ≡ c
  one_body b c h k e = found_one entry_size t head_size (bodies t) (table table2 t ok).distinct b c h k e
