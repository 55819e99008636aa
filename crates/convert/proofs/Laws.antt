-- Laws of the bytes that conversion writes, and of its answer.
use Rattle.std.proofs.lemmas.Option.{some_pair_parts}
use Rattle.std.specs.Prelude.{Option, Some, None, Ok, Err}
use Rattle.std.specs.Option.{unwrap_or}
use mathlib.Core.Path.{◌≡◌, refl, sym, ap, ◌∙◌, subst}
use mathlib.Core.List.{List, [], ◌++◌, append-nil}
use mathlib.Core.Bool.{Bool, true, false}
use Prim.Native.Nat.{ℕ, zero, suc, ◌+◌, ◌-◌, ◌*◌, ◌≤◌, ◌<◌}
use native.Mathlib.Omega.{arith}
use lib.ListN.{length, drop, length-append, length-drop, drop_of_length-le}
use lib.Seq.{length-take-le}
use borrow.Author.Tests.{eqb-true, eq-eqb, ne_eqb}
use Rattle.scan.specs.Bytes.{part}
use Rattle.words.specs.Numbers.{put}
use Rattle.bounds.specs.Bounds.{abi_length, max_bodies, max_slots}
use Rattle.record.specs.Slot.{slot_size}
use Rattle.slots.specs.Slots.{records_at}
use Rattle.body.specs.Body.{body_ok}
use Rattle.body.specs.Inner.{summed}
use Rattle.entries.specs.Entry.{entry_size, request_size, slots_of, place_of, slots_from}
use Rattle.entries.proofs.Laws.{put_next}
use Rattle.table.specs.declared.Layout.{Layout}
use Rattle.table.specs.Table.{table1, head_size, bodies, abi_of, records_of, layout_ok, valid_as}
use Rattle.table.proofs.Laws.{known_1, lay_split, head, table}
use Rattle.table.proofs.Bodies.{body_of_lem}
use Rattle.contents.specs.Contents.{head_bytes, entry_bytes, entries_bytes}
use Rattle.contents.proofs.Laws.{length_part, length_head, length_entries}
use Rattle.convert.specs.declared.ConvertRefusal.TheVariants.{InvalidTable, WrongLength}
use Rattle.convert.specs.Convert.{grown_length, cents_at, converted, convert_of}

-- THE TOTALS of a valid body, as its judge tells them
module _ (o : List ℕ) (at : ℕ) {p n : ℕ} (e : p ≡ place_of o at) (f : n ≡ slots_of o at) (ok : body_ok o (place_of o at) (slots_of o at) ≡ true) where
  its : summed (body_ok o p n) (records_at o p n) ≡ Some ((cents_at o 1 at), (cents_at o 2 at))
  its = (λ i. summed (body_ok o (e i) (f i)) (records_at o (e i) (f i))) ∙ ap (λ (b : Bool). summed b (records_of o at)) ok

  pub totals_right : {a b : ℕ} → summed (body_ok o p n) (records_at o p n) ≡ Some (a, b) → (a ≡ cents_at o 1 at) × (b ≡ cents_at o 2 at)
  totals_right {a} {b} g = some_pair_parts a (cents_at o 1 at) b (cents_at o 2 at) (sym g ∙ its)

  pub totals_told : {x : Option (ℕ × ℕ)} {r : ℕ × ℕ} → x ≡ summed (body_ok o p n) (records_at o p n) → r ≡ unwrap_or x (0, 0)
      → (r.0 ≡ cents_at o 1 at) × (r.1 ≡ cents_at o 2 at)
  totals_told g h =
      let q = h ∙ ap (λ (s : Option (ℕ × ℕ)). unwrap_or s (0, 0)) (g ∙ its) in
      (ap (λ (w : ℕ × ℕ). w.0) q, ap (λ (w : ℕ × ℕ). w.1) q)

  pub totals_broken : summed (body_ok o p n) (records_at o p n) ≡ None → ⊥
  totals_broken g = let h = its in let z : ◌≡◌ {A = ℕ} 0 1 = cc in omega arith

-- THE LAYOUT of a valid table: its slots end it
pub lay_sum : (L : Layout) (t : List ℕ) (at n p : ℕ) → layout_ok L t at n p ≡ true → p + slot_size * slots_from L.entry t at n ≡ length t
unfolding layout_ok slots_from
lay_sum L t at zero p e = omega (arith, eqb-true p (length t) e)
lay_sum L t at (suc n) p e = omega (arith, lay_sum L t (at + L.entry) n (p + slot_size * slots_of t at) (lay_split L t at (suc n) n p refl e).1)

-- a whole buffer written
put_whole : (t v : List ℕ) → length v ≡ length t → put t 0 v ≡ v
unfolding put
put_whole t v e =
    let d : drop (0 + length v) t ≡ [] = drop_of_length-le t {i = 0 + length v} (omega arith) in
    ap (λ (x : List ℕ). v ++ x) d ∙ append-nil v

module _ (o : List ℕ) (ok : valid_as table1 o ≡ true) where
  abbrev n : ℕ
  n = bodies o

  pub room : head_size + table1.entry * bodies o ≤ length o
  room = (head table1 o (table table1 o ok).head_ok).room

  pub few : bodies o ≤ max_bodies
  few = (head table1 o (table table1 o ok).head_ok).few

  pub five : length (abi_of o) ≡ abi_length
  five = length_part o 8 5 (omega (arith, room))

  pub long_head : length (head_bytes n (grown_length o) (abi_of o)) ≡ head_size
  long_head = length_head n (grown_length o) (abi_of o) five

  pub long_entries : length (entries_bytes table1.entry (cents_at o) o head_size n (head_size + entry_size * n)) ≡ entry_size * n
  long_entries = length_entries table1.entry (cents_at o) o (omega arith) head_size n (head_size + entry_size * n) room

  pub long_slots : length (part o (head_size + table1.entry * n) (length o)) ≡ length o - (head_size + table1.entry * n)
  long_slots = length-take-le (length o - (head_size + table1.entry * n)) (drop (head_size + table1.entry * n) o) (omega (arith, length-drop (head_size + table1.entry * n) o))

  -- how many bodies there are, m as it was read, and how long both tables are, len that of the new one
  pub record Sizes (m len : ℕ) : Type 0 where
    pub number : m ≡ bodies o
    pub few_bodies : bodies o ≤ max_bodies
    pub old_room : head_size + table1.entry * bodies o ≤ length o
    pub new_length : len ≡ grown_length o

  pub sizes : {m len : ℕ} → m ≡ bodies o → len ≡ grown_length o → Sizes m len
  sizes e l = record { number = e; few_bodies = few; old_room = room; new_length = l }

  -- and they fit where they are put
  pub slots_fit : {m : ℕ} → m ≡ bodies o → head_size + entry_size * m + length (part o (head_size + table1.entry * m) (length o)) ≡ grown_length o
  slots_fit e =
      ap (λ (x : ℕ). head_size + entry_size * x + length (part o (head_size + table1.entry * x) (length o))) e ∙ omega (arith, long_slots, room)

  pub converted_long : length (converted o) ≡ grown_length o
  unfolding converted
  converted_long =
      simp length-append (omega (arith, long_head, long_entries, long_slots, room))

  -- head, entries and slots, written one after the other
  pub filled : {m : ℕ} (t t₁ t₂ t₃ : List ℕ) → m ≡ bodies o → length t ≡ grown_length o → t₁ ≡ put t 0 (head_bytes m (length t) (abi_of o))
      → t₂ ≡ put t₁ head_size (entries_bytes table1.entry (cents_at o) o head_size m (head_size + entry_size * m))
      → t₃ ≡ put t₂ (head_size + entry_size * m) (part o (head_size + table1.entry * m) (length o)) → t₃ ≡ converted o
  unfolding converted
  filled {m} t t₁ t₂ t₃ e l e₁ e₂ e₃ =
      let hs : List ℕ = head_bytes n (grown_length o) (abi_of o) in
      let es : List ℕ = entries_bytes table1.entry (cents_at o) o head_size n (head_size + entry_size * n) in
      let ss : List ℕ = part o (head_size + table1.entry * n) (length o) in
      let f₁ : t₁ ≡ put t 0 hs = e₁ ∙ (λ i. put t 0 (head_bytes (e i) (l i) (abi_of o))) in
      let f₂ : t₂ ≡ put t₁ head_size es = e₂ ∙ (λ i. put t₁ head_size (entries_bytes table1.entry (cents_at o) o head_size (e i) (head_size + entry_size * e i))) in
      let f₃ : t₃ ≡ put t₂ (head_size + entry_size * n) ss = e₃ ∙ (λ i. put t₂ (head_size + entry_size * e i) (part o (head_size + table1.entry * e i) (length o))) in
      let a = put_next t 0 hs es head_size (omega arith) (omega (arith, long_head)) f₁ f₂ in
      let k = length-append hs es in
      let b = put_next t 0 (hs ++ es) ss (head_size + entry_size * n) (omega arith) (omega (arith, long_head, long_entries)) a f₃ in
      b ∙ put_whole t (hs ++ es ++ ss) (simp length-append (omega (arith, long_head, long_entries, long_slots, room)))

-- A TURN of the walk over the old entries: the body of the entry at `at`, with `left` still to come
pub record Turn (o : List ℕ) (at : ℕ) : Type 0 where
  pub fixed : at + 24 ≤ length o
  pub inside : place_of o at + slot_size * slots_of o at ≤ length o
  pub few : slots_of o at ≤ max_slots
  pub valid : body_ok o (place_of o at) (slots_of o at) ≡ true

pub turn : (o : List ℕ) → valid_as table1 o ≡ true → {n at left : ℕ} → n ≡ bodies o → at + table1.entry * left ≡ head_size + table1.entry * n → 0 < left → Turn o at
turn o ok {n} {at} {left} e q h =
    let b : ℕ = n - left in
    let x : head_size + table1.entry * b ≡ at = omega arith in
    let w = body_of_lem known_1 o ok b (omega arith) in
    let r = room o ok in
    let i = w.entry_in in
    record {
      fixed = omega arith;
      inside = subst (λ (a : ℕ). place_of o a + slot_size * slots_of o a ≤ length o) x w.inside;
      few = subst (λ (a : ℕ). slots_of o a ≤ max_slots) x w.own_form.most_slots;
      valid = subst (λ (a : ℕ). body_ok o (place_of o a) (slots_of o a) ≡ true) x w.holds.body;
    }

-- an entry written with the sums that were told
pub put_same : (t : List ℕ) (to : ℕ) (o : List ℕ) (at p : ℕ) {a b : ℕ} → a ≡ cents_at o 1 at → b ≡ cents_at o 2 at
    → put t to (entry_bytes (part o at (at + request_size)) p a b) ≡ put t to (entry_bytes (part o at (at + request_size)) p (cents_at o 1 at) (cents_at o 2 at))
put_same t to o at p e f i = put t to (entry_bytes (part o at (at + request_size)) p (e i) (f i))

-- THE ANSWER
module _ (o : List ℕ) (n : ℕ) where
  pub convert_not : valid_as table1 o ≡ false → Err InvalidTable ≡ convert_of o n
  unfolding convert_of
  convert_not h = rw h

  module _ (g : valid_as table1 o ≡ true) {m : ℕ} (e : m ≡ bodies o) where
    pub convert_other : (n ≡ length o + 16 * m → ⊥) → Err WrongLength ≡ convert_of o n
    unfolding convert_of
    convert_other h = rw (g, ← e, ne_eqb n (length o + 16 * m) h)

    pub convert_done : n ≡ length o + 16 * m → Ok tt ≡ convert_of o n
    unfolding convert_of
    convert_done h = rw (g, ← e, eq-eqb n (length o + 16 * m) h)
