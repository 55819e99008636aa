-- What holds of a table after any calls that start from t₀: it is valid, and it has t₀'s length and head and the bytes before 24 of t₀'s entries.
-- So each body lies where t₀ has it, and what one body's call leaves keeps all that and what the other bodies own.
use Prim.Native.Nat.{ℕ, zero, suc, ◌+◌, ◌-◌, ◌*◌, ◌≤◌, ◌<◌}
use mathlib.Core.Path.{◌≡◌, refl, sym, ap, ◌∙◌}
use mathlib.Core.Bool.{Bool, true, false}
use mathlib.Core.List.{List, ◌∷◌, ◌++◌}
use mathlib.Core.Logic.{⊎_elim}
use native.Mathlib.Omega.{arith}
use lib.ListN.{length, get_or, take, drop}
use lib.Seq.{ext_get_or, get_or-take, get_or-drop, take_at, drop_at}
use lib.Dec.{eqb, ltb}
use borrow.Author.Tests.{eqb-true, eqb-false, ltb-true, ltb-false}
use Rattle.scan.specs.Bytes.{part}
use Rattle.words.proofs.Laws.{Agree, on}
use Rattle.record.specs.Slot.{slot_size}
use Rattle.slots.specs.Slots.{records_at}
use Rattle.body.specs.Body.{body_ok, cents_of, all_later}
use Rattle.body.proofs.Same.{fewer, records_agree, body_agree}
use Rattle.entries.specs.Entry.{entry_size, entry_fixed, closed_place, slots_of, place_of, closed_of}
use Rattle.entries.proofs.Same.{part_agree, closed_agree}
use Rattle.table.specs.Table.{table2, head_size, bodies, abi_of, entry_ok, layout_ok, agrees, table_ok, body_of, entry_of}
use Rattle.table.proofs.Laws.{entry, lay_split, head, table}
use Rattle.table.proofs.Bodies.{body_at_lem, apart}
use Rattle.table.proofs.Kept.{Contents, Own, rest_agree, first, later, same_bodies, same_abi, same_find, same_slots, same_place, same_table}
use Rattle.contents.proofs.Laws.{length_part}
use Rattle.valid.proofs.Moved.{split}
use Rattle.service.specs.Inner.{Served}
use Rattle.service.proofs.Kept.{Kept}
use Rattle.service.proofs.Totals.{agrees_is, is_agrees, kept_same, Settled, kept_settled}
use Rattle.service.proofs.Own.{Ready}
use Rattle.theorems.specs.Engine.{owned, fixed_bytes, unowned}

pub record Good (t₀ t : List ℕ) : Type 0 where
  pub ok : table_ok t ≡ true
  pub contents : Contents t t₀

-- where body b's slots begin, and how many they are
abbrev pub base : List ℕ → ℕ → ℕ
base t₀ b = place_of t₀ (entry_of b)

abbrev pub size : List ℕ → ℕ → ℕ
size t₀ b = slots_of t₀ (entry_of b)

-- where its entry's own bytes begin, and how many they are
abbrev pub tail_of : ℕ → ℕ
tail_of b = entry_of b + entry_fixed

abbrev pub tail_size : ℕ
tail_size = entry_size - entry_fixed

-- s and t have the same bytes where body b owns them
pub record Alike (t₀ : List ℕ) (b : ℕ) (s t : List ℕ) : Type 0 where
  pub tail : Agree s (tail_of b) t (tail_of b) tail_size
  pub slots : Agree s (base t₀ b) t (base t₀ b) (slot_size * size t₀ b)

-- WHAT A CALL ON BODY b WRITES: bytes that body b owns, as a valid table has them, and no other
pub record Wrote (t₀ t t' : List ℕ) (b : ℕ) : Type 0 where
  pub long : length t' ≡ length t
  pub before : (p m : ℕ) → p + m ≤ tail_of b → Agree t' p t p m
  pub between : (p m : ℕ) → tail_of b + tail_size ≤ p → p + m ≤ base t₀ b → Agree t' p t p m
  pub after : (p m : ℕ) → base t₀ b + slot_size * size t₀ b ≤ p → Agree t' p t p m
  pub own : Own t' t₀ (entry_of b)

-- WHAT IT LEAVES: what no body owns, and what every other body does
pub record Left (t₀ t t' : List ℕ) (b : ℕ) : Type 0 where
  pub contents : Contents t' t
  pub others : (c : ℕ) → c < bodies t₀ → (b ≡ c → ⊥) → Alike t₀ c t' t
  pub own : Own t' t₀ (entry_of b)

-- an equal part, byte by byte
part_same : (s t : List ℕ) (p n : ℕ) → part s p (p + n) ≡ part t p (p + n) → Agree s p t p n
part_same s t p n e = record {
  same = λ i h.
      sym (get_or-take (p + n - p) (drop p s) i 0 (omega arith) ∙ get_or-drop p s i 0) ∙ ap (λ (x : List ℕ). get_or x i 0) e
      ∙ get_or-take (p + n - p) (drop p t) i 0 (omega arith) ∙ get_or-drop p t i 0;
}

-- two lists in one, the first of a known length
parted : {xs ys xs' ys' : List ℕ} (n : ℕ) → length xs ≡ n → length xs' ≡ n → xs ++ ys ≡ xs' ++ ys' → (xs ≡ xs') × (ys ≡ ys')
parted {xs} {ys} {xs'} {ys'} n l l' e =
    (sym (take_at xs ys n l) ∙ ap (take n) e ∙ take_at xs' ys' n l', sym (drop_at xs ys n l) ∙ ap (drop n) e ∙ drop_at xs' ys' n l')

part_of : {s t : List ℕ} {p n : ℕ} → Agree s p t p n → p + n ≤ length s → p + n ≤ length t → part s p (p + n) ≡ part t p (p + n)
part_of {s} {t} {p} {n} a ls lt = part_agree a 0 n (omega arith) p (p + n) p (p + n) (omega arith) refl (omega arith) refl ls lt

-- an entry's bytes past what is kept: its closed year and the rest
past_kept : {s t : List ℕ} (b : ℕ) → Agree s (tail_of b) t (tail_of b) tail_size → Agree s (entry_of b + closed_place) t (entry_of b + closed_place) (entry_size - closed_place)
past_kept b a = let q : entry_of b + closed_place ≡ tail_of b + 16 = omega arith in rw q (on a 16 8 (omega arith))

pub closed_alike : {t₀ s t : List ℕ} (b : ℕ) → Alike t₀ b s t → closed_of s (entry_of b) ≡ closed_of t (entry_of b)
closed_alike b a = closed_agree (entry_of b) (entry_of b) (fewer (past_kept b a.tail) 2 (omega arith))

-- what a body owns makes it valid in s where it does in t, which agrees with s there
own_kept : (t₀ : List ℕ) {s t : List ℕ} (b : ℕ) → Alike t₀ b s t → tail_of b + tail_size ≤ length s → tail_of b + tail_size ≤ length t → Own t t₀ (entry_of b) → Own s t₀ (entry_of b)
own_kept t₀ {s} {t} b a ls lt o =
    let k = kept_same (entry_of b) (fewer a.tail 16 (omega arith)) in
    let r = records_agree (size t₀ b) a.slots in
    let w = agrees_is t (entry_of b) (records_at t (base t₀ b) (size t₀ b)) o.kept in
    record {
      body = body_agree (size t₀ b) a.slots ∙ o.body;
      kept = is_agrees s (entry_of b) (records_at s (base t₀ b) (size t₀ b)) (k.0 ∙ w.0 ∙ ap (cents_of 1) (sym r)) (k.1 ∙ w.1 ∙ ap (cents_of 2) (sym r));
      later = (λ i. all_later (closed_alike b a i) (r i)) ∙ o.later;
      rest = rest_agree (entry_of b) (past_kept b a.tail) (omega arith) (omega arith) o.rest;
    }

-- what agrees in each entry agrees in all of them
listed : (s t : List ℕ) (at n : ℕ) → ((b : ℕ) → b < n → Agree s (at + entry_size * b) t (at + entry_size * b) entry_size)
    → (i : ℕ) → at ≤ i → i < at + entry_size * n → get_or s i 0 ≡ get_or t i 0
listed s t at zero f i lo hi = absurd (omega arith)
listed s t at (suc n) f i lo hi = go (ltb i (at + entry_size)) refl (listed s t (at + entry_size) n (later (λ p. Agree s p t p entry_size) at n f) i)
  where
    go : (x : Bool) → ltb i (at + entry_size) ≡ x → (at + entry_size ≤ i → i < at + entry_size + entry_size * n → get_or s i 0 ≡ get_or t i 0) → get_or s i 0 ≡ get_or t i 0
    go true e ih =
        let l = ltb-true i (at + entry_size) e in
        let y : at + (i - at) ≡ i = omega arith in
        rw y at ((first (λ p. Agree s p t p entry_size) at n f).same (i - at) (omega arith))
    go false e ih = ih (ltb-false i (at + entry_size) e) (omega arith)

-- what agrees in the slots of all bodies agrees from the first slot to the end
laid : (s t : List ℕ) (at n p : ℕ) → layout_ok table2 t at n p ≡ true
    → ((b : ℕ) → b < n → Agree s (place_of t (at + entry_size * b)) t (place_of t (at + entry_size * b)) (slot_size * slots_of t (at + entry_size * b)))
    → (i : ℕ) → p ≤ i → i < length t → get_or s i 0 ≡ get_or t i 0
unfolding layout_ok
laid s t at zero p e f i lo hi = absurd (omega (arith, eqb-true p (length t) e))
laid s t at (suc n) p e f i lo hi = go (ltb i (p + slot_size * slots_of t at)) refl (laid s t (at + entry_size) n (p + slot_size * slots_of t at) w.1 (later Slots at n f) i)
  where
    Slots : ℕ → Type 0
    Slots k = Agree s (place_of t k) t (place_of t k) (slot_size * slots_of t k)

    w : (entry_ok table2 t at p ≡ true) × (layout_ok table2 t (at + entry_size) n (p + slot_size * slots_of t at) ≡ true)
    w = lay_split table2 t at (suc n) n p refl e

    go : (x : Bool) → ltb i (p + slot_size * slots_of t at) ≡ x → (p + slot_size * slots_of t at ≤ i → i < length t → get_or s i 0 ≡ get_or t i 0) → get_or s i 0 ≡ get_or t i 0
    go true k ih =
        let l = ltb-true i (p + slot_size * slots_of t at) k in
        let g = first Slots at n f in
        let d = (entry table2 t at p w.0).placed in
        let y : place_of t at + (i - place_of t at) ≡ i = omega arith in
        rw y at (g.same (i - place_of t at) (omega arith))
    go false k ih = ih (ltb-false i (p + slot_size * slots_of t at) k) hi

-- the fixed bytes of entries that agree
fixed_same : (s t : List ℕ) (at n : ℕ) → at + entry_size * n ≤ length s → at + entry_size * n ≤ length t → ((b : ℕ) → b < n → Agree s (at + entry_size * b) t (at + entry_size * b) entry_fixed)
    → fixed_bytes s at n ≡ fixed_bytes t at n
unfolding fixed_bytes
fixed_same s t at zero ls lt f = refl
fixed_same s t at (suc n) ls lt f =
    let x : part s at (at + entry_fixed) ≡ part t at (at + entry_fixed) = part_of (first (λ p. Agree s p t p entry_fixed) at n f) (omega arith) (omega arith) in
    let y = fixed_same s t (at + entry_size) n (omega arith) (omega arith) (later (λ p. Agree s p t p entry_fixed) at n f) in
    λ i. x i ∷ y i

module _ (t₀ : List ℕ) (r : table_ok t₀ ≡ true) where
  pub fresh : Good t₀ t₀
  fresh = record { ok = r; contents = record { long = refl; top = record { same = λ i b. refl }; entries = λ b h. record { same = λ i l. refl } } }

  -- a body's entry and slots
  pub inside : (b : ℕ) → b < bodies t₀ → (head_size + entry_size * bodies t₀ ≤ base t₀ b) × (base t₀ b + slot_size * size t₀ b ≤ length t₀)
  inside b h = let w = body_at_lem t₀ r b h in (w.past, w.inside)

  entries_in : head_size + entry_size * bodies t₀ ≤ length t₀
  entries_in = let w = table table2 t₀ r in (head table2 t₀ w.head_ok).room

  module _ (t : List ℕ) (g : Good t₀ t) where
    pub count_is : bodies t ≡ bodies t₀
    count_is = same_bodies g.contents r

    pub abi_is : abi_of t ≡ abi_of t₀
    abi_is = same_abi g.contents r

    pub find_is : (code : List ℕ) → body_of t code ≡ body_of t₀ code
    find_is = same_find g.contents r

    -- what no body owns is t₀'s
    pub unowned_is : unowned t₀ t ≡ unowned t₀ t₀
    unowned_is =
        let l = g.contents.long in
        let k = entries_in in
        let h : part t 0 head_size ≡ part t₀ 0 head_size = part_of g.contents.top (omega arith) (omega arith) in
        let e = fixed_same t t₀ head_size (bodies t₀) (omega arith) (omega arith) g.contents.entries in
        λ i. record { long = l i; head = h i; entries = e i }

    module _ (b : ℕ) (h : b < bodies t₀) where
      pub place_is : place_of t (entry_of b) ≡ base t₀ b
      place_is = same_place g.contents r b h

      pub slots_is : slots_of t (entry_of b) ≡ size t₀ b
      slots_is = same_slots g.contents r b h

      pub own_is : Own t t₀ (entry_of b)
      own_is =
          let w = body_at_lem t g.ok b (omega (arith, count_is)) in
          record {
            body = sym (λ i. body_ok t (place_is i) (slots_is i)) ∙ w.holds.body;
            kept = sym (λ i. agrees t (entry_of b) (records_at t (place_is i) (slots_is i))) ∙ w.holds.kept refl;
            later = sym (λ i. all_later (closed_of t (entry_of b)) (records_at t (place_is i) (slots_is i))) ∙ w.holds.later;
            rest = record { year = w.own_entry.closed; zero = w.own_entry.padded };
          }

      pub ready : Ready t (base t₀ b) (size t₀ b)
      ready =
          let l = g.contents.long in
          (omega (arith, inside b h), own_is.body)

      -- its records are of years later than the one it closed last
      pub open_is : all_later (closed_of t (entry_of b)) (records_at t (base t₀ b) (size t₀ b)) ≡ true
      open_is = own_is.later

      pub tail_in : tail_of b + tail_size ≤ length t
      tail_in = omega (arith, g.contents.long, entries_in)

      pub served : Served t (entry_of b) (base t₀ b) (size t₀ b)
      served = record {
        entry = omega (arith, inside b h);
        inside = ready.0;
        few = (body_at_lem t₀ r b h).own_form.most_slots;
        valid = own_is.body;
        agreed = own_is.kept;
      }

  owned_is : (t : List ℕ) (b : ℕ) → owned t₀ b t ≡ part t (tail_of b) (tail_of b + tail_size) ++ part t (base t₀ b) (base t₀ b + slot_size * size t₀ b)
  owned_is t b =
      let z : entry_of b + entry_size ≡ tail_of b + tail_size = omega arith in
      ap (λ (e : ℕ). part t (tail_of b) e ++ part t (base t₀ b) (base t₀ b + slot_size * size t₀ b)) z

  -- EQUAL PARTS, byte by byte
  module _ (s t : List ℕ) (g : Good t₀ s) (h : Good t₀ t) (b : ℕ) (l : b < bodies t₀) where
    pub owned_alike : owned t₀ b s ≡ owned t₀ b t → Alike t₀ b s t
    owned_alike e =
        let x = parted tail_size (length_part s (tail_of b) tail_size (tail_in s g b l)) (length_part t (tail_of b) tail_size (tail_in t h b l)) (sym (owned_is s b) ∙ e ∙ owned_is t b) in
        record { tail = part_same s t (tail_of b) tail_size x.0; slots = part_same s t (base t₀ b) (slot_size * size t₀ b) x.1 }

    pub alike_owned : Alike t₀ b s t → owned t₀ b s ≡ owned t₀ b t
    alike_owned a =
        let x = part_of a.tail (tail_in s g b l) (tail_in t h b l) in
        let y = part_of a.slots (ready s g b l).0 (ready t h b l).0 in
        owned_is s b ∙ (λ i. x i ++ y i) ∙ sym (owned_is t b)

  -- two tables alike for body b, in which its slots alone were written
  pub alike_left : {s t s' t' : List ℕ} (b : ℕ) → b < bodies t₀ → Alike t₀ b s t → Kept s s' (base t₀ b) (size t₀ b) → Kept t t' (base t₀ b) (size t₀ b)
      → Agree s' (base t₀ b) t' (base t₀ b) (slot_size * size t₀ b) → Alike t₀ b s' t'
  alike_left b l a j k e =
      let i = (inside b l).0 in
      record {
        tail = record { same = λ m h. (j.before (tail_of b) tail_size (omega arith)).same m h ∙ a.tail.same m h ∙ sym ((k.before (tail_of b) tail_size (omega arith)).same m h) };
        slots = e;
      }

  module _ (t t' : List ℕ) (g : Good t₀ t) (b : ℕ) (h : b < bodies t₀) where
    -- what writes body b's slots, where its records stay of open years, and settles its entry
    pub settled_wrote : Settled t t' (entry_of b) (base t₀ b) (size t₀ b) → all_later (closed_of t (entry_of b)) (records_at t' (base t₀ b) (size t₀ b)) ≡ true → Wrote t₀ t t' b
    settled_wrote k o =
        let i = (inside b h).0 in
        let m = tail_in t g b h in
        let rest = k.between (entry_of b + closed_place) (entry_size - closed_place) (omega arith) (omega arith) in
        let c = closed_agree (entry_of b) (entry_of b) (fewer rest 2 (omega arith)) in
        record {
          long = k.long;
          before = k.before;
          between = λ p n f e. k.between p n (omega arith) e;
          after = k.after;
          own = record {
            body = k.ok;
            kept = k.agreed;
            later = ap (λ (y : ℕ). all_later y (records_at t' (base t₀ b) (size t₀ b))) c ∙ o;
            rest = rest_agree (entry_of b) rest (omega (arith, k.long)) (omega arith) (own_is t g b h).rest;
          };
        }

    -- what writes its slots alone
    pub kept_wrote : Kept t t' (base t₀ b) (size t₀ b) → all_later (closed_of t (entry_of b)) (records_at t' (base t₀ b) (size t₀ b)) ≡ true → Wrote t₀ t t' b
    kept_wrote k o = let s = served t g b h in settled_wrote (kept_settled s.entry s.agreed k) o

    pub wrote_left : Wrote t₀ t t' b → Left t₀ t t' b
    wrote_left k =
        let n = count_is t g in
        let i = inside b h in
        record {
          contents = record {
            long = k.long;
            top = k.before 0 head_size (omega arith);
            entries = λ c l.
                let m : c < bodies t₀ = omega arith in
                split b c (λ x. k.between (entry_of c) entry_fixed (omega arith) (omega arith)) (λ x. k.before (entry_of c) entry_fixed (omega arith));
          };
          others = λ c l ne. record {
            tail = split b c (λ x. k.between (tail_of c) tail_size (omega arith) (omega arith)) (λ x.
                let d : (c ≡ b → ⊥) = λ z. ne (sym z) in
                k.before (tail_of c) tail_size (omega arith));
            slots =
                let j = (inside c l).0 in
                ⊎_elim (λ x. k.after (base t₀ c) (slot_size * size t₀ c) x) (λ x. k.between (base t₀ c) (slot_size * size t₀ c) (omega arith) x) (apart t₀ r b c ne h l);
          };
          own = k.own;
        }

    module _ (x : Left t₀ t t' b) where
      bodies_kept : (c : ℕ) → c < bodies t₀ → Own t' t₀ (entry_of c)
      bodies_kept c l = go (eqb b c) refl
        where
          go : (y : Bool) → eqb b c ≡ y → Own t' t₀ (entry_of c)
          go true e = rw (← eqb-true b c e) x.own
          go false e = own_kept t₀ c (x.others c l (eqb-false b c e)) (omega (arith, x.contents.long, tail_in t g c l)) (tail_in t g c l) (own_is t g c l)

      pub left_good : Good t₀ t'
      left_good =
          let n = count_is t g in
          record {
            ok = same_table x.contents g.ok (λ c l.
                let m : c < bodies t₀ = omega arith in
                let k = bodies_kept c m in
                record {
                  body = (λ j. body_ok t' (place_is t g c m j) (slots_is t g c m j)) ∙ k.body;
                  kept = (λ j. agrees t' (entry_of c) (records_at t' (place_is t g c m j) (slots_is t g c m j))) ∙ k.kept;
                  later = (λ j. all_later (closed_of t' (entry_of c)) (records_at t' (place_is t g c m j) (slots_is t g c m j))) ∙ k.later;
                  rest = k.rest;
                });
            contents = record {
              long = x.contents.long ∙ g.contents.long;
              top = record { same = λ j l. x.contents.top.same j l ∙ g.contents.top.same j l };
              entries = λ c l. record { same = λ j m. (x.contents.entries c (omega arith)).same j m ∙ (g.contents.entries c l).same j m };
            };
          }

      pub other_owned : (a : ℕ) → a < bodies t₀ → (a ≡ b → ⊥) → owned t₀ a t' ≡ owned t₀ a t
      other_owned a l n = alike_owned t' t left_good g a l (x.others a l (λ z. n (sym z)))

  -- THE PARTS ARE THE WHOLE
  pub whole : (s t : List ℕ) → Good t₀ s → Good t₀ t → ((b : ℕ) → b < bodies t₀ → owned t₀ b s ≡ owned t₀ b t) → s ≡ t
  whole s t g h f =
      ext_get_or 0 s t (g.contents.long ∙ sym h.contents.long) (λ i l. go i (omega (arith, g.contents.long, h.contents.long)) (ltb i head_size) refl (ltb i (head_size + entry_size * bodies t₀)) refl)
    where
      alike : (b : ℕ) → b < bodies t₀ → Alike t₀ b s t
      alike b l = owned_alike s t g h b l (f b l)

      entries : (b : ℕ) → b < bodies t₀ → Agree s (entry_of b) t (entry_of b) entry_size
      entries b l = record { same = λ i m. near i m (ltb i entry_fixed) refl }
        where
          near : (i : ℕ) → i < entry_size → (x : Bool) → ltb i entry_fixed ≡ x → get_or s (entry_of b + i) 0 ≡ get_or t (entry_of b + i) 0
          near i m true e =
              let k = ltb-true i entry_fixed e in
              (g.contents.entries b l).same i k ∙ sym ((h.contents.entries b l).same i k)
          near i m false e =
              let k = ltb-false i entry_fixed e in
              let y : tail_of b + (i - entry_fixed) ≡ entry_of b + i = omega arith in
              rw y at ((alike b l).tail.same (i - entry_fixed) (omega arith))

      slots : (b : ℕ) → b < bodies t → Agree s (place_of t (entry_of b)) t (place_of t (entry_of b)) (slot_size * slots_of t (entry_of b))
      slots b l =
          let m : b < bodies t₀ = omega (arith, count_is t h) in
          rw (place_is t h b m, slots_is t h b m) (alike b m).slots

      go : (i : ℕ) → i < length t → (x : Bool) → ltb i head_size ≡ x → (y : Bool) → ltb i (head_size + entry_size * bodies t₀) ≡ y → get_or s i 0 ≡ get_or t i 0
      go i l true e y d =
          let k = ltb-true i head_size e in
          let z : 0 + i ≡ i = omega arith in
          rw z at (g.contents.top.same i k ∙ sym (h.contents.top.same i k))
      go i l false e true d = listed s t head_size (bodies t₀) entries i (ltb-false i head_size e) (ltb-true i (head_size + entry_size * bodies t₀) d)
      go i l false e false d =
          laid s t head_size (bodies t) (head_size + entry_size * bodies t) (table table2 t h.ok).layout slots i
          (omega (arith, count_is t h, ltb-false i (head_size + entry_size * bodies t₀) d)) l
