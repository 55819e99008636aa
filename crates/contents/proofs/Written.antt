-- What written contents say: the head, each entry, and the layout.
use mathlib.Core.Path.{◌≡◌, refl, sym, ap, ◌∙◌}
use mathlib.Core.List.{List, [], ◌∷◌, ◌++◌}
use mathlib.Core.Bool.{true}
use Prim.Native.Nat.{ℕ, zero, suc, ◌+◌, ◌-◌, ◌*◌, ◌≤◌, ◌<◌}
use native.Mathlib.Nat.{zero-add, add-zero, mul-zero, add_assoc, mod-eq_of_lt, not-suc-le-zero}
use native.Mathlib.Omega.{arith}
use lib.ListN.{length, get_or, take, drop, replicate, length-append, get_or-append}
use lib.Seq.{take-length, get_or-take, get_or-drop, get_or-append-add}
use borrow.Author.Tests.{le-leb, eq-eqb}
use Rattle.scan.specs.Bytes.{part, all, is_digit}
use Rattle.words.specs.Numbers.{be2, be4, be8, bytes2, bytes4, bytes8}
use Rattle.words.proofs.Laws.{Agree, on, same2, same4, same8, be2_bytes, be4_bytes, be8_bytes}
use Rattle.bounds.specs.Bounds.{abi_length, max_bodies, max_length}
use Rattle.record.specs.Slot.{slot_size}
use Rattle.ranges.specs.Ranges.{zeros}
use Rattle.ranges.proofs.Laws.{get_zeros}
use Rattle.entries.specs.Entry.{entry_size, closed_place, entry_rest, request_size, slots_of, place_of, kept, kept_bytes, closed_of, forms_ok, slots_from}
use Rattle.entries.proofs.Laws.{times, forms_split}
use Rattle.entries.proofs.Same.{part_agree, slots_agree, form_agree, Rows}
use Rattle.entries.proofs.Same.Rows.{none, row}
use Rattle.table.specs.Table.{table2, head_size, bodies, abi_of, head_ok, entry_ok, layout_ok}
use Rattle.contents.specs.Contents.{head_bytes, entry_bytes, entries_bytes}
use Rattle.contents.proofs.Laws.{length_part, length_kept, length_entry}

-- WHERE A LIST'S PARTS STAND

-- the elements of the second of two lists
pub get_d_second : (x y : List ℕ) (n i : ℕ) → length x ≡ n → get_or (x ++ y) (n + i) 0 ≡ get_or y i 0
get_d_second x y n i l = ap (λ (k : ℕ). get_or (x ++ y) (k + i) 0) (sym l) ∙ get_or-append-add x y i 0

-- what agrees with two lists joined agrees with each
module _ {o : List ℕ} {p n : ℕ} (x y : List ℕ) (h : Agree o p (x ++ y) 0 n) where
  pub agree_left : (m : ℕ) → m ≤ length x → m ≤ n → Agree o p x 0 m
  agree_left m l f = record { same = λ i b. h.same i (omega arith) ∙ get_or-append x y 0 (0 + i) (omega arith) }

  pub agree_right : (m k : ℕ) → length x ≡ m → m + k ≤ n → Agree o (p + m) y 0 k
  agree_right m k l f = record {
    same = λ i b.
        let u : 0 + (m + i) ≡ m + (0 + i) = omega arith in
        ap (λ (z : ℕ). get_or o z 0) (add_assoc p m i) ∙ h.same (m + i) (omega arith)
        ∙ ap (λ (z : ℕ). get_or (x ++ y) z 0) u ∙ get_d_second x y m (0 + i) l;
  }

pub get_d_zeros : (n i : ℕ) → get_or {A = ℕ} (replicate n 0) i 0 ≡ 0
get_d_zeros zero i = refl
get_d_zeros (suc n) zero = refl
get_d_zeros (suc n) (suc i) = get_d_zeros n i

agree_zeros : (o : List ℕ) (p n a e : ℕ) → Agree o p (replicate n 0) 0 n → p ≤ a → e ≤ p + n → zeros o a e ≡ true
agree_zeros o p n a e h k f =
    get_zeros o a e
    (λ i l u.
    let q : i ≡ p + (i - p) = omega arith in
    ap (λ (z : ℕ). get_or o z 0) q ∙ h.same (i - p) (omega arith) ∙ get_d_zeros n (0 + (i - p)))

-- a part of q
pub agree_part : (o q : List ℕ) (p at n : ℕ) → Agree o p (part q at (at + n)) 0 n → Agree o p q at n
agree_part o q p at n h = record {
  same = λ i b.
      h.same i b ∙ ap (λ (z : ℕ). get_or (part q at (at + n)) z 0) (zero-add i)
      ∙ get_or-take (at + n - at) (drop at q) i 0 (omega arith) ∙ get_or-drop at q i 0;
}

-- THE HEAD

module _ (o : List ℕ) (n len : ℕ) (abi : List ℕ) (five : length abi ≡ abi_length) (h : Agree o 0 (head_bytes n len abi) 0 head_size) where
  pub head_bodies : n ≤ max_bodies → bodies o ≡ n
  unfolding head_bytes be2
  head_bodies b = same2 h (omega arith) ∙ be2_bytes n ∙ mod-eq_of_lt (omega arith)

  head_number : be2 o 2 ≡ 2
  unfolding head_bytes be2
  head_number = same2 (on h 2 2 (omega arith)) (omega arith)

  head_stated : len ≤ max_length → be4 o 4 ≡ len
  unfolding head_bytes be4 be2
  head_stated b = same4 (on h 4 4 (omega arith)) (omega arith) ∙ be4_bytes len ∙ mod-eq_of_lt (omega arith)

  first_13 : Agree o 0 (bytes2 n ++ bytes2 2 ++ bytes4 len ++ abi) 0 13
  unfolding head_bytes
  first_13 =
      let l = length-append (bytes2 n ++ bytes2 2 ++ bytes4 len) abi in
      agree_left (bytes2 n ++ bytes2 2 ++ bytes4 len ++ abi) (0 ∷ 0 ∷ 0 ∷ []) h 13 (omega arith) (omega arith)

  pub head_abi : head_size ≤ length o → abi_of o ≡ abi
  head_abi b =
      let a = agree_right (bytes2 n ++ bytes2 2 ++ bytes4 len) abi first_13 8 5 refl (omega arith) in
      let e : part abi 0 5 ≡ abi = ap (λ (k : ℕ). take k abi) (sym five) ∙ take-length abi in
      part_agree a 0 5 (omega arith) 8 13 0 5 refl refl refl refl (omega arith) (omega arith) ∙ e

  head_padded : zeros o 13 16 ≡ true
  unfolding head_bytes
  head_padded =
      let l = length-append (bytes2 n ++ bytes2 2 ++ bytes4 len) abi in
      agree_zeros o 13 3 13 16 (agree_right (bytes2 n ++ bytes2 2 ++ bytes4 len ++ abi) (0 ∷ 0 ∷ 0 ∷ []) h 13 3 (omega arith) (omega arith)) (omega arith) (omega arith)

  pub head_valid : 1 ≤ n → n ≤ max_bodies → length o ≡ len → len ≤ max_length → all is_digit abi ≡ true → head_size + entry_size * n ≤ len → head_ok table2 o ≡ true
  unfolding head_ok
  head_valid some few l most digits room =
      let a = ap (all is_digit) (head_abi (omega arith)) ∙ digits in
      rw (
        l,
        head_bodies few,
        head_number,
        head_stated most,
        head_padded,
        a,
        le-leb head_size len (omega arith),
        le-leb len max_length most,
        le-leb 1 n some,
        le-leb n max_bodies few,
        eq-eqb len len refl,
        le-leb (head_size + entry_size * n) len room,
      )

-- AN ENTRY

module _ (o : List ℕ) (to : ℕ) (form : List ℕ) (p paid collected : ℕ) (twenty : length form ≡ request_size)
    (h : Agree o to (entry_bytes form p paid collected) 0 entry_size) where
  first_40 : Agree o to (form ++ bytes4 p ++ kept_bytes paid collected) 0 40
  unfolding entry_bytes
  first_40 =
      let l = length-append form (bytes4 p) in
      let m = length-append (form ++ bytes4 p) (kept_bytes paid collected) in
      agree_left (form ++ bytes4 p ++ kept_bytes paid collected) (replicate 8 0) h 40 (omega (arith, length_kept paid collected)) (omega arith)

  first_24 : Agree o to (form ++ bytes4 p) 0 24
  first_24 =
      let l = length-append form (bytes4 p) in
      agree_left (form ++ bytes4 p) (kept_bytes paid collected) first_40 24 (omega arith) (omega arith)

  pub entry_form : Agree o to form 0 request_size
  entry_form = agree_left form (bytes4 p) first_24 request_size (omega arith) (omega arith)

  pub entry_place : p < 4294967296 → place_of o to ≡ p
  unfolding place_of
  entry_place b = same4 (agree_right form (bytes4 p) first_24 request_size 4 twenty (omega arith)) (omega arith) ∙ be4_bytes p ∙ mod-eq_of_lt b

  its_kept : Agree o (to + 24) (bytes8 paid ++ bytes8 collected) 0 16
  unfolding kept_bytes
  its_kept =
      let l = length-append form (bytes4 p) in
      agree_right (form ++ bytes4 p) (bytes8 paid ++ bytes8 collected) first_40 24 16 (omega arith) (omega arith)

  pub entry_paid : paid < 18446744073709551616 → kept 1 o to ≡ paid
  entry_paid b = same8 (agree_left (bytes8 paid) (bytes8 collected) its_kept 8 (omega arith) (omega arith)) (omega arith) ∙ be8_bytes paid ∙ mod-eq_of_lt b

  pub entry_collected : collected < 18446744073709551616 → kept 2 o to ≡ collected
  entry_collected b =
      let q : to + 32 ≡ to + 24 + 8 = omega arith in
      ap (be8 o) q ∙ same8 (agree_right (bytes8 paid) (bytes8 collected) its_kept 8 8 refl (omega arith)) (omega arith) ∙ be8_bytes collected ∙ mod-eq_of_lt b

  last_8 : Agree o (to + closed_place) (replicate 8 0) 0 8
  unfolding entry_bytes
  last_8 =
      let l = length-append form (bytes4 p) in
      let m = length-append (form ++ bytes4 p) (kept_bytes paid collected) in
      agree_right (form ++ bytes4 p ++ kept_bytes paid collected) (replicate 8 0) h closed_place 8 (omega (arith, length_kept paid collected)) (omega arith)

  pub entry_closed : closed_of o to ≡ 0
  unfolding closed_of be2
  entry_closed = same2 last_8 (omega arith)

  pub entry_rest_lem : zeros o (to + entry_rest) (to + entry_size) ≡ true
  entry_rest_lem = agree_zeros o (to + closed_place) 8 (to + entry_rest) (to + entry_size) last_8 (omega arith) (omega arith)

-- ENTRIES written from s: the n of o from `to` on
pub record Written (size : ℕ) (cents : ℕ → ℕ → ℕ) (o s : List ℕ) (to at n p : ℕ) : Type 0 where
  pub bytes : Agree o to (entries_bytes size cents s at n p) 0 (entry_size * n)
  pub from : at + size * n ≤ length s
  pub fits : to + entry_size * n ≤ length o

module _ {size : ℕ} {cents : ℕ → ℕ → ℕ} (wide : request_size ≤ size) {o s : List ℕ} where
  module _ {to at n p : ℕ} (w : Written size cents o s to at (suc n) p) where
    room : at + request_size ≤ length s
    room = omega (arith, w.from, times size (suc n) n refl)

    its_form : length (part s at (at + request_size)) ≡ request_size
    its_form = length_part s at request_size room

    pub written_first : Agree o to (entry_bytes (part s at (at + request_size)) p (cents 1 at) (cents 2 at)) 0 entry_size
    unfolding entries_bytes
    written_first =
        agree_left (entry_bytes (part s at (at + request_size)) p (cents 1 at) (cents 2 at))
        (entries_bytes size cents s (at + size) n (p + slot_size * slots_of s at)) w.bytes entry_size
        (omega (arith, length_entry (part s at (at + request_size)) p (cents 1 at) (cents 2 at) its_form)) (omega arith)

    pub written_rest : Written size cents o s (to + entry_size) (at + size) n (p + slot_size * slots_of s at)
    unfolding entries_bytes
    written_rest =
        let a = w.from in
        let f = w.fits in
        let x = times size (suc n) n refl in
        record {
          bytes = agree_right (entry_bytes (part s at (at + request_size)) p (cents 1 at) (cents 2 at))
              (entries_bytes size cents s (at + size) n (p + slot_size * slots_of s at)) w.bytes entry_size (entry_size * n)
              (length_entry (part s at (at + request_size)) p (cents 1 at) (cents 2 at) its_form) (omega arith);
          from = omega arith;
          fits = omega arith;
        }

    -- bytes 0 to 19 of the first
    pub written_form : Agree o to s at request_size
    written_form =
        agree_part o s to at request_size
        (entry_form o to (part s at (at + request_size)) p (cents 1 at) (cents 2 at) its_form written_first)

    pub written_place : p < 4294967296 → place_of o to ≡ p
    written_place = entry_place o to (part s at (at + request_size)) p (cents 1 at) (cents 2 at) its_form written_first

    pub written_closed : closed_of o to ≡ 0
    written_closed = entry_closed o to (part s at (at + request_size)) p (cents 1 at) (cents 2 at) its_form written_first

    written_zeros : zeros o (to + entry_rest) (to + entry_size) ≡ true
    written_zeros = entry_rest_lem o to (part s at (at + request_size)) p (cents 1 at) (cents 2 at) its_form written_first

  pub written_rows : (to at n p : ℕ) → Written size cents o s to at n p → Rows o s entry_size size to at n
  written_rows to at zero p w = none
  written_rows to at (suc n) p w =
      let f = w.fits in
      row (written_form w) (omega arith) (room w) (written_rows (to + entry_size) (at + size) n (p + slot_size * slots_of s at) (written_rest w))

  pub written_layout : (to at n p : ℕ) → Written size cents o s to at n p → forms_ok size s at n ≡ true → p + slot_size * slots_from size s at n ≡ length o
      → length o ≤ max_length → layout_ok table2 o to n p ≡ true
  unfolding layout_ok slots_from entry_ok
  written_layout to at zero p w f l m = eq-eqb p (length o) (omega arith)
  written_layout to at (suc n) p w f l m =
      let r = w.fits in
      let k = written_form w in
      let g = forms_split size s at (suc n) n refl f in
      let e = eq-eqb (place_of o to) p (written_place w (omega arith)) in
      rw (form_agree k (omega arith) (room w) g.0, e, written_closed w, written_zeros w, slots_agree k (omega arith))
      (written_layout (to + entry_size) (at + size) n (p + slot_size * slots_of s at) (written_rest w) g.1 (omega arith) m)

  -- what entry b keeps
  pub written_kept : (to at n p b : ℕ) → Written size cents o s to at n p → b < n
      → (cents 1 (at + size * b) < 18446744073709551616 → kept 1 o (to + entry_size * b) ≡ cents 1 (at + size * b))
      × (cents 2 (at + size * b) < 18446744073709551616 → kept 2 o (to + entry_size * b) ≡ cents 2 (at + size * b))
  written_kept to at zero p b w h = absurd (not-suc-le-zero h)
  written_kept to at (suc n) p zero w h =
      let x : to + entry_size * 0 ≡ to = omega arith in
      let y : at + size * 0 ≡ at = ap (λ (z : ℕ). at + z) (mul-zero size) ∙ add-zero at in
      let f = part s at (at + request_size) in
      rw (x, y) (
        entry_paid o to f p (cents 1 at) (cents 2 at) (its_form w) (written_first w),
        entry_collected o to f p (cents 1 at) (cents 2 at) (its_form w) (written_first w),
      )
  written_kept to at (suc n) p (suc b) w h =
      let x : to + entry_size * suc b ≡ to + entry_size + entry_size * b = omega arith in
      let y : at + size * suc b ≡ at + size + size * b = omega (arith, times size (suc b) b refl) in
      rw (x, y) (written_kept (to + entry_size) (at + size) n (p + slot_size * slots_of s at) b (written_rest w) (omega arith))

  -- and no year is closed in it
  pub written_open : (to at n p b : ℕ) → Written size cents o s to at n p → b < n → closed_of o (to + entry_size * b) ≡ 0
  written_open to at zero p b w h = absurd (not-suc-le-zero h)
  written_open to at (suc n) p zero w h = let x : to + entry_size * 0 ≡ to = omega arith in rw x (written_closed w)
  written_open to at (suc n) p (suc b) w h =
      let x : to + entry_size * suc b ≡ to + entry_size + entry_size * b = omega arith in
      rw x (written_open (to + entry_size) (at + size) n (p + slot_size * slots_of s at) b (written_rest w) (omega arith))
