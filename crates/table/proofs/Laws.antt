-- Laws of the head, the entries and the layout: what the code of this crate goes by, and what a valid table tells.
use Rattle.std.specs.Prelude.{Some, None}
use Rattle.std.proofs.lemmas.Option.{some_pair_parts}
use mathlib.Core.Path.{◌≡◌, refl, sym, ap, ◌∙◌}
use mathlib.Core.List.{List}
use mathlib.Core.Bool.{Bool, true, false, ◌&&◌, cond}
use Rattle.std.proofs.lemmas.Option.{some_pair_parts}
use Prim.Native.Nat.{ℕ, zero, suc, ◌+◌, ◌-◌, ◌*◌, ◌≤◌, ◌<◌}
use native.Mathlib.Nat.{mul-le-mul}
use native.Mathlib.Omega.{arith}
use lib.ListN.{length}
use lib.Dec.{leb, eqb}
use borrow.Author.Tests.{leb-true, eqb-true, le-leb, lt-leb, eq-eqb, ne_eqb}
use Rattle.scan.specs.Bytes.{between, part, all, is_digit}
use Rattle.scan.proofs.Laws.{both}
use Rattle.words.specs.Numbers.{be2, be4}
use Rattle.record.specs.Slot.{slot_size}
use Rattle.ranges.specs.Ranges.{zeros}
use Rattle.slots.specs.Slots.{records_at}
use Rattle.record.specs.declared.Record.{Record}
use Rattle.body.specs.Body.{body_ok, all_later}
use Rattle.body.specs.Inner.{summed}
use Rattle.body.proofs.Laws.{summed_right, summed_broken}
use Rattle.body.proofs.Later.{open_later}
use Rattle.entries.specs.Entry.{entry_size, closed_of, closed_ok, slots_of, place_of, form_ok, forms_ok, codes_from, distinct_codes}
use Rattle.entries.proofs.Laws.{times, Form, form}
use Rattle.bounds.specs.Bounds.{max_bodies}
use Rattle.table.specs.declared.Layout.{Layout}
use Rattle.table.specs.Table.{table1, table2, head_size, bodies, abi_of, head_ok, year_ok, entry_ok, layout_ok, agrees, records_of, lines_hold, years_hold, body_holds, bodies_ok, valid_as, contents_ok}
use Rattle.table.specs.Inner.{Known, sums_agree}

-- LAYOUTS
pub known_1 : Known table1
known_1 = record {
  fixed = omega arith;
  inside = omega arith;
  small = omega arith;
  room = λ (e : false ≡ true). let z : ◌≡◌ {A = ℕ} 0 1 = cc in absurd (omega arith);
  year = λ (e : false ≡ true). let z : ◌≡◌ {A = ℕ} 0 1 = cc in absurd (omega arith);
  fits = omega arith;
}

pub known_2 : Known table2
known_2 = record { fixed = omega arith; inside = omega arith; small = omega arith; room = λ e. omega arith; year = λ e. omega arith; fits = omega arith }

-- a few entries take few bytes
pub entries_most : {L : Layout} → Known L → (n : ℕ) → n ≤ max_bodies → L.entry * n ≤ entry_size * max_bodies
entries_most k n h = mul-le-mul k.small h

-- the next of `left` entries, of the n of a table: how far they and it reach
pub record Next (L : Layout) (n left : ℕ) : Type 0 where
  pub most : L.entry * n ≤ entry_size * max_bodies
  pub more : L.entry * left ≡ L.entry + L.entry * (left - 1)
  pub known : Known L

pub next : {L : Layout} → Known L → (n left : ℕ) → n ≤ max_bodies → 0 < left → Next L n left
next {L} k n left h l = record { most = entries_most k n h; more = times L.entry left (left - 1) (omega arith); known = k }

-- THE HEAD, a way out of the code at a time; n, v, l are the numbers read
module _ (L : Layout) (t : List ℕ) where
  pub head_short : length t < head_size → head_ok L t ≡ false
  unfolding head_ok
  head_short h = rw (lt-leb head_size (length t) h)

  module _ (lo : head_size ≤ length t) (hi : length t ≤ L.most) (n : ℕ) (e : n ≡ bodies t) where
    module _ (a : 1 ≤ n) (b : n ≤ 16) (v : ℕ) (f : v ≡ be2 t 2) where
      pub head_first : (v ≡ L.number → ⊥) → head_ok L t ≡ false
      unfolding head_ok
      head_first h = rw (le-leb head_size (length t) lo, le-leb (length t) L.most hi, ← e, le-leb 1 n a, le-leb n 16 b, ← f, ne_eqb v L.number h)

      module _ (o : v ≡ L.number) (l : ℕ) (g : l ≡ be4 t 4) where
        module _ (s : l ≡ length t) where
          -- what is left to test
          rest : head_ok L t ≡ (all is_digit (part t 8 13) && (zeros t 13 16 && leb (head_size + L.entry * n) (length t)))
          unfolding head_ok
          rest = rw (le-leb head_size (length t) lo, le-leb (length t) L.most hi, ← e, le-leb 1 n a, le-leb n 16 b, ← f, eq-eqb v L.number o, ← g, eq-eqb l (length t) s)

          pub head_abi : all is_digit (part t 8 13) ≡ false → head_ok L t ≡ false
          head_abi h = rw (rest, h)

          module _ (d : all is_digit (part t 8 13) ≡ true) where
            pub head_room : zeros t 13 16 ≡ true → head_ok L t ≡ leb (head_size + L.entry * n) (length t)
            head_room h = rw (rest, d, h)

-- AN ENTRY
module _ (L : Layout) (t : List ℕ) (at p : ℕ) where
  pub entry_form : form_ok t at ≡ false → entry_ok L t at p ≡ false
  unfolding entry_ok
  entry_form h = rw h

  module _ (f : form_ok t at ≡ true) (q : ℕ) (e : q ≡ place_of t at) where
    pub entry_place : (q ≡ p → ⊥) → entry_ok L t at p ≡ false
    unfolding entry_ok
    entry_place h = rw (f, ← e, ne_eqb q p h)

    module _ (h : q ≡ p) {b : Bool} (g : b ≡ year_ok L t at) where
      pub entry_rest_lem : b ≡ true → entry_ok L t at p ≡ zeros t (at + L.rest) (at + L.entry)
      unfolding entry_ok
      entry_rest_lem y = rw (f, ← e, eq-eqb q p h, ← g, y)

-- its closed year is read
pub year_is : (L : Layout) (t : List ℕ) (at : ℕ) → L.closes ≡ true → {year : ℕ} → year ≡ closed_of t at → closed_ok year ≡ year_ok L t at
year_is L t at k e = sym (λ i. cond (k i) (closed_ok (sym e i)) true)

pub record Entry (L : Layout) (t : List ℕ) (at p : ℕ) : Type 0 where
  pub formed : form_ok t at ≡ true
  pub placed : place_of t at ≡ p
  pub closed : year_ok L t at ≡ true
  pub padded : zeros t (at + L.rest) (at + L.entry) ≡ true

pub entry : (L : Layout) (t : List ℕ) (at p : ℕ) → entry_ok L t at p ≡ true → Entry L t at p
unfolding entry_ok
entry L t at p e =
    let z = zeros t (at + L.rest) (at + L.entry) in
    let a = both (form_ok t at) (eqb (place_of t at) p && (year_ok L t at && z)) e in
    let b = both (eqb (place_of t at) p) (year_ok L t at && z) a.1 in
    let c = both (year_ok L t at) z b.1 in
    record { formed = a.0; placed = eqb-true (place_of t at) p b.0; closed = c.0; padded = c.1 }

-- THE LAYOUT: the first of k = m + 1 entries, and the rest
module _ (L : Layout) (t : List ℕ) (at k m p : ℕ) (e : k ≡ suc m) where
  pub lay_not : entry_ok L t at p ≡ false → layout_ok L t at k p ≡ false
  unfolding layout_ok
  lay_not h = rw (e, h)

  pub lay_on : entry_ok L t at p ≡ true → layout_ok L t at k p ≡ layout_ok L t (at + L.entry) m (p + slot_size * slots_of t at)
  unfolding layout_ok
  lay_on h = rw (e, h)

  pub lay_split : layout_ok L t at k p ≡ true → (entry_ok L t at p ≡ true) × (layout_ok L t (at + L.entry) m (p + slot_size * slots_of t at) ≡ true)
  unfolding layout_ok
  lay_split h = both (entry_ok L t at p) (layout_ok L t (at + L.entry) m (p + slot_size * slots_of t at)) (rw e at h)

module _ (L : Layout) (t : List ℕ) where
  pub lay_done : (at k p : ℕ) → k ≤ 0 → layout_ok L t at k p ≡ eqb p (length t)
  unfolding layout_ok
  lay_done at k p h = let e : k ≡ 0 = omega arith in rw e

  pub lay_forms : (at k p : ℕ) → layout_ok L t at k p ≡ true → forms_ok L.entry t at k ≡ true
  unfolding forms_ok
  lay_forms at zero p h = refl
  lay_forms at (suc k) p h =
      let s = lay_split L t at (suc k) k p refl h in
      rw (entry L t at p s.0).formed (lay_forms (at + L.entry) k (p + slot_size * slots_of t at) s.1)

  pub lay_within : (at k p : ℕ) → layout_ok L t at k p ≡ true → p ≤ length t
  unfolding layout_ok
  lay_within at zero p h = omega (arith, eqb-true p (length t) h)
  lay_within at (suc k) p h =
      omega (arith, lay_within (at + L.entry) k (p + slot_size * slots_of t at) (lay_split L t at (suc k) k p refl h).1)

-- the first entry names the place itself, and its slots end within the table
module _ (L : Layout) (t : List ℕ) (at k p : ℕ) (h : 0 < k) (l : layout_ok L t at k p ≡ true) where
  pub lay_own : layout_ok L t at k (place_of t at) ≡ true
  lay_own =
      let e : k ≡ suc (k - 1) = omega arith in
      ap (layout_ok L t at k) (entry L t at p (lay_split L t at k (k - 1) p e l).0).placed ∙ l

  pub lay_form : Form t at
  lay_form = let e : k ≡ suc (k - 1) = omega arith in form t at (entry L t at p (lay_split L t at k (k - 1) p e l).0).formed

  pub lay_next : layout_ok L t (at + L.entry) (k - 1) (p + slot_size * slots_of t at) ≡ true
  lay_next = let e : k ≡ suc (k - 1) = omega arith in (lay_split L t at k (k - 1) p e l).1

  pub lay_room : p + slot_size * slots_of t at ≤ length t
  lay_room = lay_within L t (at + L.entry) (k - 1) (p + slot_size * slots_of t at) lay_next

-- THE BODIES

pub body_same : (t : List ℕ) {a b p n : ℕ} → a ≡ p → b ≡ n → body_ok t a b ≡ body_ok t p n
body_same t e f i = body_ok t (e i) (f i)

-- the body of one entry, judged: its place p and its slots n are read, and its sums told
module _ (L : Layout) (t : List ℕ) (at : ℕ) {p n : ℕ} (e : p ≡ place_of t at) (f : n ≡ slots_of t at) where
  its : summed (body_ok t p n) (records_at t p n) ≡ summed (body_ok t (place_of t at) (slots_of t at)) (records_of t at)
  its i = summed (body_ok t (e i) (f i)) (records_at t (e i) (f i))

  pub holds_not : summed (body_ok t p n) (records_at t p n) ≡ None → body_holds L t at ≡ false
  unfolding body_holds
  holds_not g = rw (summed_broken (body_ok t (place_of t at) (slots_of t at)) (records_of t at) (sym its ∙ g))

  module _ {a b : ℕ} (g : summed (body_ok t p n) (records_at t p n) ≡ Some (a, b)) where
    its_right : (body_ok t (place_of t at) (slots_of t at) ≡ true) × (Some (a, b) ≡ summed true (records_of t at))
    its_right = summed_right (body_ok t (place_of t at) (slots_of t at)) (records_of t at) (a, b) (sym its ∙ g)

    module _ {c : Bool} (q : c ≡ lines_hold L (records_at t p n)) where
      read_lines : lines_hold L (records_at t p n) ≡ lines_hold L (records_of t at)
      read_lines i = lines_hold L (records_at t (e i) (f i))

      its_lines : {d : Bool} → c ≡ d → lines_hold L (records_of t at) ≡ d
      its_lines x = sym read_lines ∙ sym q ∙ x

      pub holds_lines : c ≡ false → body_holds L t at ≡ false
      unfolding body_holds
      holds_lines x =
          λ i. its_right.0 i && (its_lines x i && (years_hold L t at (records_of t at) && cond L.keeps (agrees t at (records_of t at)) true))

      module _ (h : c ≡ true) {d : Bool} (r : d ≡ years_hold L t at (records_at t p n)) where
        read_years : years_hold L t at (records_at t p n) ≡ years_hold L t at (records_of t at)
        read_years i = years_hold L t at (records_at t (e i) (f i))

        its_years : {x : Bool} → d ≡ x → years_hold L t at (records_of t at) ≡ x
        its_years x = sym read_years ∙ sym r ∙ x

        -- the last test
        its_last : {x : Bool} → d ≡ x → {k : Bool} → L.keeps ≡ k → body_holds L t at ≡ (x && cond k (agrees t at (records_of t at)) true)
        unfolding body_holds
        its_last x k = λ i. its_right.0 i && (its_lines h i && (its_years x i && cond (k i) (agrees t at (records_of t at)) true))

        pub holds_years : d ≡ false → body_holds L t at ≡ false
        holds_years x = its_last x refl

        pub holds_kept : d ≡ true → L.keeps ≡ true → body_holds L t at ≡ sums_agree t at a b
        unfolding agrees
        holds_kept x k =
            let z = some_pair_parts a _ b _ its_right.1 in
            its_last x k ∙ rw (← z.0, ← z.1)

        pub holds_bare : d ≡ true → L.keeps ≡ false → body_holds L t at ≡ true
        holds_bare x k = its_last x k

-- a valid body that never closed has no record of a closed year
pub years_bare : (L : Layout) (t : List ℕ) (at : ℕ) (rs : List Record) → L.closes ≡ false → years_hold L t at rs ≡ true
years_bare L t at rs k = ap (λ (b : Bool). cond b (all_later (closed_of t at) rs) true) k

module _ (L : Layout) (t : List ℕ) (at p n : ℕ) (k : L.closes ≡ true) {year : ℕ} (e : year ≡ closed_of t at) where
  pub years_are : years_hold L t at (records_at t p n) ≡ all_later year (records_at t p n)
  years_are i = cond (k i) (all_later (sym e i) (records_at t p n)) true

  pub years_none : year ≡ 0 → body_ok t p n ≡ true → years_hold L t at (records_at t p n) ≡ true
  years_none z ok = years_are ∙ open_later t p n year (omega arith) ok

-- what an entry whose body holds tells
pub record Holds (L : Layout) (t : List ℕ) (at : ℕ) : Type 0 where
  pub body : body_ok t (place_of t at) (slots_of t at) ≡ true
  pub lines : lines_hold L (records_of t at) ≡ true
  pub later : years_hold L t at (records_of t at) ≡ true
  pub kept : L.keeps ≡ true → agrees t at (records_of t at) ≡ true

pub holds : (L : Layout) (t : List ℕ) (at : ℕ) → body_holds L t at ≡ true → Holds L t at
unfolding body_holds
holds L t at e =
    let k = cond L.keeps (agrees t at (records_of t at)) true in
    let a = both (body_ok t (place_of t at) (slots_of t at)) (lines_hold L (records_of t at) && (years_hold L t at (records_of t at) && k)) e in
    let c = both (lines_hold L (records_of t at)) (years_hold L t at (records_of t at) && k) a.1 in
    let d = both (years_hold L t at (records_of t at)) k c.1 in
    record { body = a.0; lines = c.0; later = d.0; kept = λ k. ap (λ (b : Bool). cond b (agrees t at (records_of t at)) true) (sym k) ∙ d.1 }

module _ (L : Layout) (t : List ℕ) (at k m : ℕ) (e : k ≡ suc m) where
  pub bodies_not : body_holds L t at ≡ false → bodies_ok L t at k ≡ false
  unfolding bodies_ok
  bodies_not h = rw (e, h)

  pub bodies_on : body_holds L t at ≡ true → bodies_ok L t at k ≡ bodies_ok L t (at + L.entry) m
  unfolding bodies_ok
  bodies_on h = rw (e, h)

  pub bodies_split : bodies_ok L t at k ≡ true → (body_holds L t at ≡ true) × (bodies_ok L t (at + L.entry) m ≡ true)
  unfolding bodies_ok
  bodies_split h = both (body_holds L t at) (bodies_ok L t (at + L.entry) m) (rw e at h)

pub bodies_done : (L : Layout) (t : List ℕ) (at k : ℕ) → k ≤ 0 → bodies_ok L t at k ≡ true
unfolding bodies_ok
bodies_done L t at k h = let e : k ≡ 0 = omega arith in rw e

-- THE TABLE: what a right head tells
pub record Head (L : Layout) (t : List ℕ) : Type 0 where
  pub long : head_size ≤ length t
  pub fits : length t ≤ L.most
  pub some : 1 ≤ bodies t
  pub few : bodies t ≤ 16
  pub first : be2 t 2 ≡ L.number
  pub stated : be4 t 4 ≡ length t
  pub digits : all is_digit (abi_of t) ≡ true
  pub padded : zeros t 13 16 ≡ true
  pub room : head_size + L.entry * bodies t ≤ length t

pub head : (L : Layout) (t : List ℕ) → head_ok L t ≡ true → Head L t
unfolding head_ok
head L t e =
    let r₆ = zeros t 13 16 && leb (head_size + L.entry * bodies t) (length t) in
    let r₅ = all is_digit (abi_of t) && r₆ in
    let r₄ = eqb (be4 t 4) (length t) && r₅ in
    let r₃ = eqb (be2 t 2) L.number && r₄ in
    let a = both (between head_size L.most (length t)) (between 1 16 (bodies t) && r₃) e in
    let b = both (between 1 16 (bodies t)) r₃ a.1 in
    let c = both (eqb (be2 t 2) L.number) r₄ b.1 in
    let d = both (eqb (be4 t 4) (length t)) r₅ c.1 in
    let f = both (all is_digit (abi_of t)) r₆ d.1 in
    let g = both (zeros t 13 16) (leb (head_size + L.entry * bodies t) (length t)) f.1 in
    let l = both (leb head_size (length t)) (leb (length t) L.most) a.0 in
    let n = both (leb 1 (bodies t)) (leb (bodies t) 16) b.0 in
    record {
      long = leb-true head_size (length t) l.0;
      fits = leb-true (length t) L.most l.1;
      some = leb-true 1 (bodies t) n.0;
      few = leb-true (bodies t) 16 n.1;
      first = eqb-true (be2 t 2) L.number c.0;
      stated = eqb-true (be4 t 4) (length t) d.0;
      digits = f.0;
      padded = g.0;
      room = leb-true (head_size + L.entry * bodies t) (length t) g.1;
    }

-- what right contents tell
pub record Laid (L : Layout) (t : List ℕ) : Type 0 where
  pub head_ok : head_ok L t ≡ true
  pub layout : layout_ok L t head_size (bodies t) (head_size + L.entry * bodies t) ≡ true
  pub forms : forms_ok L.entry t head_size (bodies t) ≡ true
  pub distinct : distinct_codes (codes_from L.entry t head_size (bodies t)) ≡ true

pub laid : (L : Layout) (t : List ℕ) → contents_ok L t ≡ true → Laid L t
laid L t e =
    let l = layout_ok L t head_size (bodies t) (head_size + L.entry * bodies t) in
    let d = distinct_codes (codes_from L.entry t head_size (bodies t)) in
    let a = both (head_ok L t) (l && d) e in
    let b = both l d a.1 in
    record { head_ok = a.0; layout = b.0; forms = lay_forms L t head_size (bodies t) (head_size + L.entry * bodies t) b.0; distinct = b.1 }

-- what a valid table tells
pub record Table (L : Layout) (t : List ℕ) : Type 0 where
  pub head_ok : head_ok L t ≡ true
  pub layout : layout_ok L t head_size (bodies t) (head_size + L.entry * bodies t) ≡ true
  pub forms : forms_ok L.entry t head_size (bodies t) ≡ true
  pub distinct : distinct_codes (codes_from L.entry t head_size (bodies t)) ≡ true
  pub valid : bodies_ok L t head_size (bodies t) ≡ true

pub valid_split : (L : Layout) (t : List ℕ) → valid_as L t ≡ true → (contents_ok L t ≡ true) × (bodies_ok L t head_size (bodies t) ≡ true)
unfolding valid_as
valid_split L t e = both (contents_ok L t) (bodies_ok L t head_size (bodies t)) e

pub table : (L : Layout) (t : List ℕ) → valid_as L t ≡ true → Table L t
table L t e =
    let w = valid_split L t e in
    let a = laid L t w.0 in
    record { head_ok = a.head_ok; layout = a.layout; forms = a.forms; distinct = a.distinct; valid = w.1 }

-- contents_ok, a way out of the code at a time; n is the number of bodies read
module _ (L : Layout) (t : List ℕ) where
  pub contents_head : head_ok L t ≡ false → contents_ok L t ≡ false
  contents_head h = rw h

  module _ (g : head_ok L t ≡ true) (n : ℕ) (e : n ≡ bodies t) where
    pub contents_layout : layout_ok L t head_size n (head_size + L.entry * n) ≡ false → contents_ok L t ≡ false
    contents_layout h = rw (g, ← e, h)

    pub contents_codes : layout_ok L t head_size n (head_size + L.entry * n) ≡ true → contents_ok L t ≡ distinct_codes (codes_from L.entry t head_size n)
    contents_codes l = rw (g, ← e, l)

-- valid_as, likewise
module _ (L : Layout) (t : List ℕ) where
  pub table_contents : contents_ok L t ≡ false → valid_as L t ≡ false
  unfolding valid_as
  table_contents h = ap (λ (b : Bool). b && bodies_ok L t head_size (bodies t)) h

  pub table_bodies : contents_ok L t ≡ true → (n : ℕ) → n ≡ bodies t → valid_as L t ≡ bodies_ok L t head_size n
  unfolding valid_as
  table_bodies h n e = (λ i. h i && bodies_ok L t head_size (sym e i))
