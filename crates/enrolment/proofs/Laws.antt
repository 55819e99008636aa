-- Laws of the room that a table says: arrays that are filled from the front, and walks over a table's entries.
use Prim.Native.Nat.{ℕ, zero, suc, ◌+◌, ◌-◌, ◌*◌, ◌≤◌, ◌<◌}
use mathlib.Core.Bool.{Bool, true, false, ◌&&◌, cond}
use mathlib.Core.List.{List, [], ◌∷◌, ◌++◌, map, map-append}
use mathlib.Core.Path.{◌≡◌, refl, sym, ap, ◌∙◌}
use native.Mathlib.Numerals.{add-one}
use native.Mathlib.Omega.{arith}
use lib.ListN.{length, get_or, take, set}
use lib.Seq.{take-suc-set, drop-cons}
use lib.Dec.{leb}
use borrow.Author.Tests.{leb-true, le-leb}
use Rattle.scan.specs.Bytes.{part}
use Rattle.scan.proofs.Laws.{both}
use Rattle.record.specs.Slot.{slot_size, record_at}
use Rattle.record.specs.declared.Record.{Record}
use Rattle.slots.specs.Slots.{used_at, slots_at, records_at}
use Rattle.slots.proofs.Laws.{used_le}
use Rattle.slots.proofs.Index.{slots_snoc}
use Rattle.entries.specs.Entry.{entry_size, code_length, code_at, slots_of, place_of}
use Rattle.table.specs.Table.{table2, head_size, bodies, abi_of, table_ok, entry_of}
use Rattle.table.proofs.Laws.{Head, head, table}
use Rattle.training.specs.Training.{places}
use Rattle.plain.specs.Plain.{Listed}
use Rattle.plain.specs.Says.{listed_at, listed_from, each_entry, small}
use Rattle.room.specs.declared.Seat.{Seat}
use Rattle.room.specs.Room.{listed}

-- FILLED FROM THE FRONT: one element more
filled_more : {A : Type 0} (f : ℕ → List A) (l : List A) (i : ℕ) (x : A) → i < length l → take i l ≡ f i → f (suc i) ≡ f i ++ x ∷ [] → take (i + 1) (set l i x) ≡ f (i + 1)
filled_more f l i x h e s =
    ap (λ (k : ℕ). take k (set l i x)) (add-one i) ∙ take-suc-set l i x h ∙ ap (λ r. r ++ x ∷ []) e ∙ sym s ∙ ap f (sym (add-one i))

filled_all : {A : Type 0} (f : ℕ → List A) (l : List A) (i n : ℕ) → i ≤ n → n ≤ i → take i l ≡ f i → take n l ≡ f n
filled_all f l i n a b e = let z : i ≡ n = omega arith in ap (λ (k : ℕ). take k l) (sym z) ∙ e ∙ ap f z

-- A BODY'S ORDERS
module _ (t : List ℕ) (base : ℕ) where
  pub orders_none : (rs : List Record) → take 0 rs ≡ slots_at t base 0
  unfolding slots_at
  orders_none rs = refl

  pub orders_more : (rs : List Record) (i : ℕ) {r : Record} → i < length rs → take i rs ≡ slots_at t base i → r ≡ record_at t (base + slot_size * i)
      → take (i + 1) (set rs i r) ≡ slots_at t base (i + 1)
  orders_more rs i {r} h e g =
      filled_more (slots_at t base) rs i r h e (slots_snoc t base i ∙ ap (λ (x : Record). slots_at t base i ++ x ∷ []) (sym g))

  pub orders_all : (rs : List Record) (i n u : ℕ) → u ≡ used_at t base n → i ≤ u → u ≤ i → take i rs ≡ slots_at t base i → take u rs ≡ records_at t base n
  orders_all rs i n u q a b e = filled_all (slots_at t base) rs i u a b e ∙ ap (slots_at t base) q

  pub orders_few : (n u : ℕ) → u ≡ used_at t base n → u ≤ n
  orders_few n u q = omega (arith, used_le t base n)

-- THE BODY of an entry: its size, slots and place are read
pub seat_says : (t : List ℕ) (e : ℕ) (code : List ℕ) {size slots place : ℕ} {rs : List Record} → size ≡ code_length t e → slots ≡ slots_of t e → place ≡ place_of t e
    → slots ≤ places → take size code ≡ part t (e + 1) (e + 1 + size) → rs ≡ records_at t place slots
    → ◌≡◌ {A = Listed} (record { code = take size code; slots = cond (leb slots places) slots places; orders = rs }) (listed_at t e)
unfolding code_at
seat_says t e code {size} {slots} {place} {rs} p q r h c o =
    let u : take size code ≡ code_at t e = c ∙ ap (λ (n : ℕ). part t (e + 1) (e + 1 + n)) p in
    let v : cond (leb slots places) slots places ≡ slots_of t e = ap (λ (b : Bool). cond b slots places) (le-leb slots places h) ∙ q in
    let w : rs ≡ records_at t (place_of t e) (slots_of t e) = o ∙ (λ i. records_at t (r i) (q i)) in
    λ i. record { code = u i; slots = v i; orders = w i }

-- A VALID TABLE: its head
pub valid_head : (t : List ℕ) → table_ok t ≡ true → Head table2 t
valid_head t ok = head table2 t (table table2 t ok).head_ok

-- and each of its n entries lies in it
pub entry_inside : (t : List ℕ) → table_ok t ≡ true → {n : ℕ} → n ≡ bodies t → (b : ℕ) → b < n → entry_of b + entry_size ≤ length t
entry_inside t ok e b h = omega (arith, valid_head t ok)

-- A WALK OVER ITS ENTRIES: of n the first b pass a test
pub record Walking (test : ℕ → Bool) (n b : ℕ) : Type 0 where
  pub low : b ≤ n
  pub rest : each_entry test head_size n ≡ each_entry test (entry_of b) (n - b)

module _ (test : ℕ → Bool) (n : ℕ) where
  pub walk_start : Walking test n 0
  walk_start = let m : n ≡ n - 0 = omega arith in record { low = omega arith; rest = ap (each_entry test head_size) m }

  module _ (b : ℕ) (w : Walking test n b) where
    here : b < n → {x : Bool} → test (entry_of b) ≡ x → each_entry test head_size n ≡ (x && each_entry test (entry_of (b + 1)) (n - (b + 1)))
    unfolding each_entry
    here h e =
        let m : n - b ≡ suc (n - (b + 1)) = omega arith in
        let q : entry_of b + entry_size ≡ entry_of (b + 1) = omega arith in
        w.rest ∙ ap (each_entry test (entry_of b)) m ∙ (λ i. e i && each_entry test (q i) (n - (b + 1)))

    pub walk_next : b < n → test (entry_of b) ≡ true → Walking test n (b + 1)
    walk_next h e = record { low = omega arith; rest = here h e }

    module _ {m : ℕ} (q : n ≡ m) where
      pub walk_not : b < n → test (entry_of b) ≡ false → false ≡ each_entry test head_size m
      walk_not h e = sym (here h e) ∙ ap (each_entry test head_size) q

      pub walk_done : n ≤ b → true ≡ each_entry test head_size m
      unfolding each_entry
      walk_done h =
          let z : n - b ≡ 0 = omega arith in
          sym (w.rest ∙ ap (each_entry test (entry_of b)) z) ∙ ap (each_entry test head_size) q

-- what every entry passes entry b passes
each_at : (test : ℕ → Bool) (at n b : ℕ) → each_entry test at n ≡ true → b < n → test (at + entry_size * b) ≡ true
unfolding each_entry
each_at test at zero b e h = absurd (omega arith)
each_at test at (suc n) zero e h =
    let q : at + entry_size * 0 ≡ at = omega arith in
    ap test q ∙ (both (test at) (each_entry test (at + entry_size) n) e).0
each_at test at (suc n) (suc b) e h =
    let q : at + entry_size * suc b ≡ at + entry_size + entry_size * b = omega arith in
    ap test q ∙ each_at test (at + entry_size) n b (both (test at) (each_entry test (at + entry_size) n) e).1 (omega arith)

pub small_at : (t : List ℕ) (b : ℕ) → small t ≡ true → b < bodies t → slots_of t (entry_of b) ≤ places
small_at t b e h = leb-true (slots_of t (entry_of b)) places (each_at (λ at. leb (slots_of t at) places) head_size (bodies t) b e h)

-- THE BODIES of a table
listed_snoc : (t : List ℕ) (at n : ℕ) → listed_from t at (suc n) ≡ listed_from t at n ++ listed_at t (at + entry_size * n) ∷ []
unfolding listed_from
listed_snoc t at zero = let q : at ≡ at + entry_size * 0 = omega arith in ap (λ (p : ℕ). listed_at t p ∷ []) q
listed_snoc t at (suc n) =
    let q : at + entry_size + entry_size * n ≡ at + entry_size * suc n = omega arith in
    ap (λ (ls : List Listed). listed_at t at ∷ ls)
    (listed_snoc t (at + entry_size) n ∙ ap (λ (p : ℕ). listed_from t (at + entry_size) n ++ listed_at t p ∷ []) q)

-- b of them are seated
pub seats_none : (t : List ℕ) (ps : List Seat) → map listed (take 0 ps) ≡ listed_from t head_size 0
unfolding listed_from
seats_none t ps = refl

pub seats_more : (t : List ℕ) (ps : List Seat) (b : ℕ) (p : Seat) → b < length ps → map listed (take b ps) ≡ listed_from t head_size b → listed p ≡ listed_at t (entry_of b)
    → map listed (take (b + 1) (set ps b p)) ≡ listed_from t head_size (b + 1)
seats_more t ps b p h e g =
    ap (λ (k : ℕ). map listed (take k (set ps b p))) (add-one b)
    ∙ ap (map listed) (take-suc-set ps b p h)
    ∙ map-append listed (take b ps) (p ∷ [])
    ∙ (λ i. e i ++ g i ∷ [])
    ∙ sym (listed_snoc t head_size b)
    ∙ ap (listed_from t head_size) (sym (add-one b))

pub seats_all : (t : List ℕ) (ps : List Seat) (b n : ℕ) → n ≡ bodies t → b ≤ n → n ≤ b → map listed (take b ps) ≡ listed_from t head_size b
    → map listed (take n ps) ≡ listed_from t head_size (bodies t)
seats_all t ps b n q x y e =
    let z : b ≡ n = omega arith in
    ap (λ (k : ℕ). map listed (take k ps)) (sym z) ∙ e ∙ ap (listed_from t head_size) (z ∙ q)

-- THE BANK'S DIGITS
pub abi_is : (t : List ℕ) → 13 ≤ length t → get_or t 8 0 ∷ get_or t 9 0 ∷ get_or t 10 0 ∷ get_or t 11 0 ∷ get_or t 12 0 ∷ [] ≡ abi_of t
abi_is t h = sym (rw (drop-cons t 8 0 (omega arith), drop-cons t 9 0 (omega arith), drop-cons t 10 0 (omega arith), drop-cons t 11 0 (omega arith), drop-cons t 12 0 (omega arith)))
