-- A table with the same head, codes, slots and places as one whose contents are right is valid where each of its bodies is.
use mathlib.Core.Path.{◌≡◌, refl, ap, ◌∙◌, subst}
use mathlib.Core.List.{List}
use mathlib.Core.Bool.{true, ◌&&◌}
use Prim.Native.Nat.{ℕ, zero, suc, ◌+◌, ◌-◌, ◌*◌, ◌≤◌, ◌<◌}
use native.Mathlib.Omega.{arith}
use lib.ListN.{length}
use lib.Dec.{eqb, leb}
use borrow.Author.Tests.{eq-eqb}
use Rattle.scan.specs.Bytes.{between, all, is_digit}
use Rattle.words.proofs.Laws.{Agree, on, same2, same4}
use Rattle.record.specs.Slot.{slot_size}
use Rattle.slots.specs.Slots.{records_at}
use Rattle.body.specs.Body.{body_ok, all_later}
use Rattle.body.proofs.Same.{fewer}
use Rattle.ranges.specs.Ranges.{zeros}
use Rattle.entries.specs.Entry.{entry_size, entry_fixed, closed_place, entry_rest, request_size, slots_of, place_of, closed_of, closed_ok, codes_from, find_code}
use Rattle.entries.proofs.Same.{part_agree, zeros_agree, slots_agree, place_agree, closed_agree, form_agree, Rows, codes_rows}
use Rattle.entries.proofs.Same.Rows.{none, row}
use Rattle.bounds.specs.Bounds.{max_length}
use Rattle.table.specs.Table.{table2, head_size, bodies, abi_of, head_ok, entry_ok, layout_ok, agrees, body_holds, bodies_ok, contents_ok, valid_as, table_ok, codes_of, body_of, entry_of}
use Rattle.table.proofs.Laws.{entry, lay_split, head, laid, valid_split}

-- what holds of the n + 1 entries from `at` on holds of the first, and of the n after it
module _ (P : ℕ → Type 0) (at n : ℕ) (f : (b : ℕ) → b < suc n → P (at + entry_size * b)) where
  pub first : P at
  first = let z : at + entry_size * 0 ≡ at = omega arith in subst P z (f 0 (omega arith))

  pub later : (b : ℕ) → b < n → P (at + entry_size + entry_size * b)
  later b h = let z : at + entry_size * suc b ≡ at + entry_size + entry_size * b = omega arith in subst P z (f (suc b) (omega arith))

-- u has t's length and head, and those bytes of each entry
pub record Contents (u t : List ℕ) : Type 0 where
  pub long : length u ≡ length t
  pub top : Agree u 0 t 0 head_size
  pub entries : (b : ℕ) → b < bodies t → Agree u (entry_of b) t (entry_of b) entry_fixed

-- an entry's bytes past what is kept: its closed year and the rest
pub record Rest (u : List ℕ) (at : ℕ) : Type 0 where
  pub year : closed_ok (closed_of u at) ≡ true
  pub zero : zeros u (at + entry_rest) (at + entry_size) ≡ true

-- these bytes agree with those of an entry that has them right
pub rest_agree : {u t : List ℕ} (at : ℕ) → Agree u (at + closed_place) t (at + closed_place) (entry_size - closed_place)
    → at + entry_size ≤ length u → at + entry_size ≤ length t → Rest t at → Rest u at
rest_agree {u} {t} at a lu lt r =
    record {
      year = ap (λ (y : ℕ). closed_ok y) (closed_agree at at (fewer a 2 (omega arith))) ∙ r.year;
      zero = zeros_agree a 2 8 (omega arith) (at + entry_rest) (at + entry_size) (at + entry_rest) (at + entry_size)
          (omega arith) (omega arith) (omega arith) (omega arith) lu lt ∙ r.zero;
    }

-- what makes one body of u valid, at the place and with the slots that t gives it: its slots, its kept totals, its records later than its closed year, and
-- the rest of its entry
pub record Own (u t : List ℕ) (at : ℕ) : Type 0 where
  pub body : body_ok u (place_of t at) (slots_of t at) ≡ true
  pub kept : agrees u at (records_at u (place_of t at) (slots_of t at)) ≡ true
  pub later : all_later (closed_of u at) (records_at u (place_of t at) (slots_of t at)) ≡ true
  pub rest : Rest u at

module _ {u t : List ℕ} (s : Contents u t) (ok : contents_ok table2 t ≡ true) where
  room : head_size + entry_size * bodies t ≤ length t
  room = (head table2 t (laid table2 t ok).head_ok).room

  pub number : bodies u ≡ bodies t
  number = same2 s.top (omega arith)

  pub bank : abi_of u ≡ abi_of t
  bank =
      let l = s.long in
      let r = room in
      part_agree s.top 8 13 (omega arith) 8 13 8 13 refl refl refl refl (omega arith) (omega arith)

  heading : head_ok table2 u ≡ head_ok table2 t
  unfolding head_ok
  heading =
      let l = s.long in
      let r = room in
      let n = number in
      let f = same2 (on s.top 2 2 (omega arith)) (omega arith) in
      let g = same4 (on s.top 4 4 (omega arith)) (omega arith) in
      let a = bank in
      let z = zeros_agree s.top 13 16 (omega arith) 13 16 13 16 refl refl refl refl (omega arith) (omega arith) in
      λ i.
      between head_size max_length (l i)
      && (between 1 16 (n i) && (eqb (f i) 2 && (eqb (g i) (l i) && (all is_digit (a i) && (z i && leb (head_size + entry_size * n i) (l i))))))

  abbrev Same : ℕ → Type 0
  Same at = Agree u at t at entry_fixed

  abbrev Fits : ℕ → Type 0
  Fits at = Same at × Rest u at

  entry_same : (at p : ℕ) → at + entry_size ≤ head_size + entry_size * bodies t → Fits at → entry_ok table2 t at p ≡ true → entry_ok table2 u at p ≡ true
  unfolding entry_ok
  entry_same at p h a e =
      let l = s.long in
      let r = room in
      let w = entry table2 t at p e in
      let f = form_agree (fewer a.0 request_size (omega arith)) (omega arith) (omega arith) w.formed in
      let q = place_agree a.0 (omega arith) ∙ w.placed in
      rw (f, a.1.year, a.1.zero, eq-eqb (place_of u at) p q)

  layout_same : (at n p : ℕ) → at + entry_size * n ≤ head_size + entry_size * bodies t → ((b : ℕ) → b < n → Fits (at + entry_size * b)) → layout_ok table2 t at n p ≡ true → layout_ok table2 u at n p ≡ true
  unfolding layout_ok
  layout_same at zero p h a e = ap (eqb p) s.long ∙ e
  layout_same at (suc n) p h a e =
      let w = lay_split table2 t at (suc n) n p refl e in
      let x = first Fits at n a in
      let k = slots_agree x.0 (omega arith) in
      rw (entry_same at p (omega arith) x w.0, k) (layout_same (at + entry_size) n (p + slot_size * slots_of t at) (omega arith) (later Fits at n a) w.1)

  rows : (at n : ℕ) → at + entry_size * n ≤ head_size + entry_size * bodies t → ((b : ℕ) → b < n → Same (at + entry_size * b)) → Rows u t entry_size entry_size at at n
  rows at zero h a = none
  rows at (suc n) h a =
      let l = s.long in
      let r = room in
      row (fewer (first Same at n a) request_size (omega arith)) (omega arith) (omega arith) (rows (at + entry_size) n (omega arith) (later Same at n a))

  pub codes : codes_of u ≡ codes_of t
  codes =
      ap (codes_from entry_size u head_size) number ∙ codes_rows (rows head_size (bodies t) (omega arith) s.entries) (laid table2 t ok).forms

  abbrev Valid : ℕ → Type 0
  Valid at = Same at × Own u t at

  bodies_same : (at n : ℕ) → ((b : ℕ) → b < n → Valid (at + entry_size * b)) → bodies_ok table2 u at n ≡ true
  unfolding bodies_ok body_holds
  bodies_same at zero f = refl
  bodies_same at (suc n) f =
      let a = first Valid at n f in
      let p = place_agree a.0 (omega arith) in
      let k = slots_agree a.0 (omega arith) in
      rw (p, k, a.1.body, a.1.later, a.1.kept) (bodies_same (at + entry_size) n (later Valid at n f))

  -- its contents are right, and it is valid where each body is
  pub same_contents : ((b : ℕ) → b < bodies t → Rest u (entry_of b)) → contents_ok table2 u ≡ true
  same_contents f =
      let w = laid table2 t ok in
      rw (
        heading,
        w.head_ok,
        codes,
        w.distinct,
        number,
        layout_same head_size (bodies t) (head_size + entry_size * bodies t) (omega arith) (λ b h. (s.entries b h, f b h)) w.layout,
      )

  pub same_valid : ((b : ℕ) → b < bodies t → Own u t (entry_of b)) → table_ok u ≡ true
  unfolding valid_as
  same_valid f =
      let c = same_contents (λ b h. (f b h).rest) in
      let v = ap (bodies_ok table2 u head_size) number ∙ bodies_same head_size (bodies t) (λ b h. (s.entries b h, f b h)) in
      λ i. c i && v i

-- of a valid one
module _ {u t : List ℕ} (s : Contents u t) (ok : table_ok t ≡ true) where
  right : contents_ok table2 t ≡ true
  right = (valid_split table2 t ok).0

  pub same_bodies : bodies u ≡ bodies t
  same_bodies = number s right

  pub same_abi : abi_of u ≡ abi_of t
  same_abi = bank s right

  pub same_find : (code : List ℕ) → body_of u code ≡ body_of t code
  same_find code = ap (λ (xs : List (List ℕ)). find_code xs 0 code) (codes s right)

  module _ (b : ℕ) (h : b < bodies t) where
    pub same_slots : slots_of u (entry_of b) ≡ slots_of t (entry_of b)
    same_slots = slots_agree (s.entries b h) (omega arith)

    pub same_place : place_of u (entry_of b) ≡ place_of t (entry_of b)
    same_place = place_agree (s.entries b h) (omega arith)

  pub same_table : ((b : ℕ) → b < bodies t → Own u t (entry_of b)) → table_ok u ≡ true
  same_table = same_valid s right
