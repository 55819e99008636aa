-- Named lines over a body's records: what one mark changes, and that judging by reading only is judging on what earlier lines marked.
use Rattle.std.specs.Prelude.{Option, Some, None}
use Prim.Native.Nat.{ℕ, zero, suc, ◌+◌, ◌-◌, ◌≤◌, ◌<◌}
use mathlib.Core.Bool.{Bool, true, false, ◌&&◌, ◌||◌, cond, and-true}
use mathlib.Core.List.{List, [], ◌∷◌}
use mathlib.Core.Path.{◌≡◌, refl, sym, ap, subst, ◌∙◌}
use native.Mathlib.Omega.{arith}
use native.Mathlib.Numerals.{add-one}
use lib.ListN.{length, get_or, set, drop, length-set, get_or-eq_default}
use lib.Seq.{get_or-set_same, get_or-set_other, drop-cons, drop-length}
use lib.Dec.{eqb, leb, ltb}
use borrow.Author.Tests.{eqb-true, eqb-false, leb-true, eq-eqb, ltb-true, ltb-false}
use Rattle.scan.proofs.Laws.{both}
use Rattle.order.specs.declared.Line.{Line}
use Rattle.order.specs.Ordinativo.{no_line}
use Rattle.record.specs.declared.Record.{Record}
use Rattle.record.specs.declared.Key.{Key}
use Rattle.record.specs.Slot.{key_of, with_state}
use Rattle.slots.specs.Slots.{find_in, distinct, no_record, nth}
use Rattle.slots.proofs.Search.{find_set, distinct_set, found_below, found_key}
use Rattle.replacing.specs.declared.Naming.{Naming}
use Rattle.replacing.specs.Replacing.{namings_of, line_named_in, named_at, named_code, with_replaced_at, with_replaced, first_code, replace_code, replaced_by}
use Rattle.replacing.specs.Inner.{naming_at, same_named, named_earlier, code_again, read_code, replaced_to}

abbrev clash : Type 0
clash = ◌≡◌ {A = ℕ} 0 1

no : clash → ⊥
no z = omega arith

-- KEYS: a mark changes none, so that every search finds what it found

pub marked_find : (rs : List Record) (m : Naming) (j : ℕ) (k : Key) → find_in (with_replaced rs m) j k ≡ find_in rs j k
unfolding with_replaced with_replaced_at
marked_find rs m j k = go (find_in rs 0 m.key)
  where
    go : (f : Option ℕ) → find_in (with_replaced_at rs m f) j k ≡ find_in rs j k
    go None = refl
    go (Some i) = find_set rs i (with_state (nth rs i) (m.line - 1) 3) no_record refl j k

pub marked_distinct : (rs : List Record) (m : Naming) → distinct (with_replaced rs m) ≡ distinct rs
unfolding with_replaced with_replaced_at
marked_distinct rs m = go (find_in rs 0 m.key)
  where
    go : (f : Option ℕ) → distinct (with_replaced_at rs m f) ≡ distinct rs
    go None = refl
    go (Some i) = distinct_set rs i (with_state (nth rs i) (m.line - 1) 3) no_record refl

pub marked_length : (rs : List Record) (m : Naming) → length (with_replaced rs m) ≡ length rs
unfolding with_replaced with_replaced_at
marked_length rs m = go (find_in rs 0 m.key)
  where
    go : (f : Option ℕ) → length (with_replaced_at rs m f) ≡ length rs
    go None = refl
    go (Some i) = length-set rs i (with_state (nth rs i) (m.line - 1) 3)

pub replaced_find : (rs : List Record) (ms : List Naming) (j : ℕ) (k : Key) → find_in (replaced_by rs ms) j k ≡ find_in rs j k
unfolding replaced_by
replaced_find rs [] j k = refl
replaced_find rs (m ∷ ms) j k = replaced_find (with_replaced rs m) ms j k ∙ marked_find rs m j k

pub replaced_length : (rs : List Record) (ms : List Naming) → length (replaced_by rs ms) ≡ length rs
unfolding replaced_by
replaced_length rs [] = refl
replaced_length rs (m ∷ ms) = replaced_length (with_replaced rs m) ms ∙ marked_length rs m

-- A LINE THAT STANDS: code 0

module _ (r : Record) (line amount : ℕ) where
  abbrev inside : Bool
  inside = leb 1 line && leb line r.lines

  abbrev state_at : ℕ
  state_at = get_or r.states (line - 1) 0

  abbrev amount_at : ℕ
  amount_at = get_or r.amounts (line - 1) 0

  pub in_out : inside ≡ false → line_named_in r line amount ≡ 24
  unfolding line_named_in
  in_out e = rw e

  pub in_there : inside ≡ true → line_named_in r line amount ≡ cond (eqb state_at 2) (cond (eqb amount_at amount) 0 26) 25
  unfolding line_named_in
  in_there e = rw e

  pub record Stands : Type 0 where
    pub first : 1 ≤ line
    pub last : line ≤ r.lines
    pub state : state_at ≡ 2
    pub same : amount_at ≡ amount

  pub in_zero : line_named_in r line amount ≡ 0 → Stands
  unfolding line_named_in
  in_zero e = go (leb 1 line) (leb line r.lines) (eqb state_at 2) (eqb amount_at amount) refl refl refl refl e
    where
      go : (a b c d : Bool) → leb 1 line ≡ a → leb line r.lines ≡ b → eqb state_at 2 ≡ c → eqb amount_at amount ≡ d
          → ◌≡◌ {A = ℕ} (cond (a && b) (cond c (cond d 0 26) 25) 24) 0 → Stands
      go true true true true p q s u e = record { first = leb-true 1 line p; last = leb-true line r.lines q; state = eqb-true _ _ s; same = eqb-true _ _ u }
      go true true true false p q s u e = absurd (omega arith)
      go true true false d p q s u e = absurd (omega arith)
      go true false c d p q s u e = absurd (omega arith)
      go false b c d p q s u e = absurd (omega arith)

-- a named line that stands, of the record at an index
pub record Takes (rs : List Record) (m : Naming) : Type 0 where
  pub at : ℕ
  pub found : find_in rs 0 m.key ≡ Some at
  pub stands : Stands (nth rs at) m.line m.amount

pub takes : (rs : List Record) (m : Naming) → named_code rs m ≡ 0 → Takes rs m
unfolding named_code named_at
takes rs m e = go (find_in rs 0 m.key) refl e
  where
    go : (f : Option ℕ) → find_in rs 0 m.key ≡ f → named_at rs m f ≡ 0 → Takes rs m
    go None q e = absurd (omega arith)
    go (Some i) q e = record { at = i; found = q; stands = in_zero (nth rs i) m.line m.amount e }

-- an element that isn't 0 is one of the list
pub inside_list : (l : List ℕ) (k : ℕ) → get_or l k 0 ≡ 2 → k < length l
inside_list l k e = go (ltb k (length l)) refl
  where
    go : (b : Bool) → ltb k (length l) ≡ b → k < length l
    go true h = ltb-true k (length l) h
    go false h = let z = get_or-eq_default l 0 (ltb-false k (length l) h) in absurd (omega arith)

-- ONE MARK

again_absent : (b : Bool) → code_again b 24 ≡ 24
unfolding code_again
again_absent true = refl
again_absent false = refl

again_twice : (a b : Bool) (c : ℕ) → code_again a (code_again b c) ≡ code_again (a || b) c
unfolding code_again
again_twice false b c = refl
again_twice true false c = refl
again_twice true true c = go (eqb c 24)
  where
    go : (x : Bool) → ◌≡◌ {A = ℕ} (cond (eqb (cond x 24 25) 24) 24 25) (cond x 24 25)
    go true = refl
    go false = refl

-- the record of the marked line
module _ (r : Record) (l line amount : ℕ) (first : 1 ≤ l) (executed : get_or r.states (l - 1) 0 ≡ 2) where
  abbrev new : Record
  new = with_state r (l - 1) 3

  executed_again : code_again true (cond (eqb (get_or r.amounts (line - 1) 0) amount) 0 26) ≡ 25
  unfolding code_again
  executed_again = go (eqb (get_or r.amounts (line - 1) 0) amount)
    where
      go : (x : Bool) → ◌≡◌ {A = ℕ} (cond (eqb (cond x 0 26) 24) 24 25) 25
      go true = refl
      go false = refl

  in_marked : (x b : Bool) → (leb 1 line && leb line r.lines) ≡ x → eqb l line ≡ b → line_named_in new line amount ≡ code_again b (line_named_in r line amount)
  unfolding code_again
  in_marked false b p q = in_out new line amount p ∙ sym (ap (code_again b) (in_out r line amount p) ∙ again_absent b)
  in_marked true true p q =
      let e : l ≡ line = eqb-true l line q in
      let s : get_or r.states (line - 1) 0 ≡ 2 = ap (λ (k : ℕ). get_or r.states (k - 1) 0) (sym e) ∙ executed in
      let n : get_or (set r.states (l - 1) 3) (line - 1) 0 ≡ 3 =
      ap (λ (k : ℕ). get_or (set r.states (l - 1) 3) (k - 1) 0) (sym e) ∙ get_or-set_same r.states (l - 1) 3 0 (inside_list r.states (l - 1) executed) in
      in_there new line amount p
      ∙ ap (λ (k : ℕ). cond (eqb k 2) (cond (eqb (get_or r.amounts (line - 1) 0) amount) 0 26) 25) n
      ∙ sym (ap (code_again true) (in_there r line amount p ∙ ap (λ (k : ℕ). cond (eqb k 2) (cond (eqb (get_or r.amounts (line - 1) 0) amount) 0 26) 25) s) ∙ executed_again)
  in_marked true false p q =
      let low : 1 ≤ line = leb-true 1 line (both (leb 1 line) (leb line r.lines) p).0 in
      let ne : l ≡ line → ⊥ = eqb-false l line q in
      let n : get_or (set r.states (l - 1) 3) (line - 1) 0 ≡ get_or r.states (line - 1) 0 =
      get_or-set_other r.states (l - 1) (line - 1) 3 0 (λ (z : line - 1 ≡ l - 1). ne (omega arith)) in
      in_there new line amount p
      ∙ ap (λ (k : ℕ). cond (eqb k 2) (cond (eqb (get_or r.amounts (line - 1) 0) amount) 0 26) 25) n
      ∙ sym (in_there r line amount p)

-- two lines of the same key are the same line where their numbers agree
same_key : (x m : Naming) → x.key ≡ m.key → same_named x m ≡ eqb x.line m.line
unfolding same_named
same_key x m e =
    let a = eq-eqb _ _ (ap (λ (k : Key). k.number) e) in
    let b = eq-eqb _ _ (ap (λ (k : Key). k.esercizio) e) in
    (λ i. eqb x.line m.line && (a i && b i)) ∙ and-true (eqb x.line m.line)

key_of_same : (x m : Naming) → x.key.kind ≡ m.key.kind → same_named x m ≡ true → x.key ≡ m.key
unfolding same_named
key_of_same x m k e =
    let a = both (eqb x.line m.line) _ e in
    let b = both (eqb x.key.number m.key.number) (eqb x.key.esercizio m.key.esercizio) a.1 in
    let p = eqb-true _ _ b.0 in
    let q = eqb-true _ _ b.1 in
    λ i. record { kind = k i; esercizio = q i; number = p i }

module _ (rs : List Record) (x m : Naming) (e : named_code rs x ≡ 0) (k : x.key.kind ≡ m.key.kind) where
  abbrev j : ℕ
  j = (takes rs x e).at

  abbrev r : Record
  r = with_state (nth rs j) (x.line - 1) 3

  below : j < length rs
  below = found_below rs x.key j no_record (takes rs x e).found

  pub marked_is : with_replaced rs x ≡ set rs j r
  unfolding with_replaced with_replaced_at
  marked_is = ap (with_replaced_at rs x) (takes rs x e).found

  other_line : (i : ℕ) → find_in rs 0 m.key ≡ Some i → (i ≡ j → ⊥) → (b : Bool) → same_named x m ≡ b → b ≡ false
  other_line i f ne true q =
      let p = key_of_same x m k q in
      let g : ◌≡◌ {A = Option ℕ} (Some i) (Some j) = sym f ∙ ap (find_in rs 0) (sym p) ∙ (takes rs x e).found in
      let z : i ≡ j = cc in
      absurd (ne z)
  other_line i f ne false q = refl

  at_index : (i : ℕ) → find_in rs 0 m.key ≡ Some i → (b : Bool) → eqb i j ≡ b
      → line_named_in (nth (set rs j r) i) m.line m.amount ≡ code_again (same_named x m) (line_named_in (nth rs i) m.line m.amount)
  unfolding code_again
  at_index i f true q =
      let z : i ≡ j = eqb-true i j q in
      let key : x.key ≡ m.key =
      sym (found_key rs x.key j no_record (takes rs x e).found) ∙ ap (λ (n : ℕ). key_of (nth rs n)) (sym z) ∙ found_key rs m.key i no_record f in
      let s = (takes rs x e).stands in
      ap (λ (n : ℕ). line_named_in (nth (set rs j r) n) m.line m.amount) z
      ∙ ap (λ (y : Record). line_named_in y m.line m.amount) (get_or-set_same rs j r no_record below)
      ∙ in_marked (nth rs j) x.line m.line m.amount s.first s.state (leb 1 m.line && leb m.line (nth rs j).lines) (eqb x.line m.line) refl refl
      ∙ sym (λ h. code_again (same_key x m key h) (line_named_in (nth rs (z h)) m.line m.amount))
  at_index i f false q =
      let ne = eqb-false i j q in
      ap (λ (y : Record). line_named_in y m.line m.amount) (get_or-set_other rs j i r no_record ne)
      ∙ sym (ap (λ (b : Bool). code_again b (line_named_in (nth rs i) m.line m.amount)) (other_line i f ne (same_named x m) refl))

  -- "already replaced, also earlier in this order": the marked line itself, and no other
  pub mark_step : named_code (with_replaced rs x) m ≡ code_again (same_named x m) (named_code rs m)
  unfolding named_code named_at
  mark_step = ap (named_at (with_replaced rs x) m) (marked_find rs x 0 m.key) ∙ go (find_in rs 0 m.key) refl
    where
      go : (f : Option ℕ) → find_in rs 0 m.key ≡ f → named_at (with_replaced rs x) m f ≡ code_again (same_named x m) (named_at rs m f)
      go None f = sym (again_absent (same_named x m))
      go (Some i) f = ap (λ (l : List Record). line_named_in (nth l i) m.line m.amount) marked_is ∙ at_index i f (eqb i j) refl

-- NO LINE TWICE: once it was taken it is 25, whatever else is marked

pub again_taken : (b : Bool) → code_again b 25 ≡ 25
unfolding code_again
again_taken true = refl
again_taken false = refl

pub taken_twice : (rs : List Record) (m : Naming) → named_code rs m ≡ 0 → named_code (with_replaced rs m) m ≡ 25
unfolding code_again same_named
taken_twice rs m e =
    mark_step rs m m e refl ∙ rw (e, eq-eqb m.line m.line refl, eq-eqb m.key.number m.key.number refl, eq-eqb m.key.esercizio m.key.esercizio refl)

-- the order's own key is absent, and stays so whatever is marked
pub own_absent : (rs : List Record) (ms : List Naming) (m : Naming) → find_in rs 0 m.key ≡ None → named_code (replaced_by rs ms) m ≡ 24
unfolding named_code named_at
own_absent rs ms m e = ap (named_at (replaced_by rs ms) m) (replaced_find rs ms 0 m.key ∙ e)

pub or_zero : (a b : ℕ) → first_code a b ≡ 0 → (a ≡ 0) × (b ≡ 0)
or_zero zero b e = (refl, e)
or_zero (suc a) b e = absurd (omega arith)

-- JUDGED BY READING ONLY

kind_of : (kind : ℕ) (ls : List Line) (j : ℕ) → (naming_at kind ls j).key.kind ≡ kind
unfolding naming_at
kind_of kind ls j = refl

module _ (rs : List Record) (kind : ℕ) (ls : List Line) where
  seen : (j : ℕ) → ((i : ℕ) → i < j → named_code (replaced_to kind ls rs i) (naming_at kind ls i) ≡ 0) → (m : Naming) → m.key.kind ≡ kind
      → named_code (replaced_to kind ls rs j) m ≡ code_again (named_earlier kind ls j m) (named_code rs m)
  unfolding replaced_to named_earlier code_again
  seen zero h m k = refl
  seen (suc j) h m k =
      mark_step (replaced_to kind ls rs j) (naming_at kind ls j) m (h j (omega arith)) (kind_of kind ls j ∙ sym k)
      ∙ ap (code_again (same_named (naming_at kind ls j) m)) (seen j (λ i l. h i (omega arith)) m k)
      ∙ again_twice (same_named (naming_at kind ls j) m) (named_earlier kind ls j m) (named_code rs m)

  abbrev whole : ℕ
  whole = replace_code rs (namings_of kind ls)

  -- what is still to be judged after the first j lines
  abbrev rest : ℕ → ℕ
  rest j = replace_code (replaced_to kind ls rs j) (namings_of kind (drop j ls))

  -- the order's first j lines stand, and the answer from there is the whole answer
  pub record Sofar (j : ℕ) : Type 0 where
    pub low : j ≤ length ls
    pub same : rest j ≡ whole
    pub past : (i : ℕ) → i < j → named_code (replaced_to kind ls rs i) (naming_at kind ls i) ≡ 0

  pub sofar_start : Sofar 0
  unfolding replaced_to
  sofar_start = record { low = omega arith; same = refl; past = λ i l. absurd (omega arith) }

  pub sofar_end : (j : ℕ) → Sofar j → length ls ≤ j → whole ≡ 0
  unfolding replace_code namings_of
  sofar_end j s h =
      let q : j ≡ length ls = omega (arith, s.low) in
      sym s.same ∙ ap (λ (l : List Line). replace_code (replaced_to kind ls rs j) (namings_of kind l)) (ap (λ (n : ℕ). drop n ls) q ∙ drop-length ls)

  -- a line that stood, by reading only
  pub sofar_read : (j : ℕ) → Sofar j → (i : ℕ) → i < j → read_code kind ls rs i ≡ 0
  sofar_read j s i l = sym (seen i (λ x b. s.past x (omega arith)) (naming_at kind ls i) (kind_of kind ls i)) ∙ s.past i l

  module _ (j c : ℕ) (s : Sofar j) (h : j < length ls) (e : c ≡ read_code kind ls rs j) where
    code_is : named_code (replaced_to kind ls rs j) (naming_at kind ls j) ≡ c
    code_is = seen j s.past (naming_at kind ls j) (kind_of kind ls j) ∙ sym e

    more : whole ≡ first_code c (rest (suc j))
    unfolding replace_code namings_of naming_at replaced_to
    more =
        sym s.same ∙ ap (λ (l : List Line). replace_code (replaced_to kind ls rs j) (namings_of kind l)) (drop-cons ls j no_line h)
        ∙ ap (λ (x : ℕ). first_code x (rest (suc j))) code_is

    pub sofar_stops : (c ≡ 0 → ⊥) → whole ≡ c
    sofar_stops ne = more ∙ go c ne
      where
        go : (x : ℕ) → (x ≡ 0 → ⊥) → first_code x (rest (suc j)) ≡ x
        go zero n = absurd (n refl)
        go (suc x) n = refl

    pub sofar_next : c ≡ 0 → Sofar (j + 1)
    sofar_next z = record {
      low = omega arith;
      same = rw (add-one j) (sym (more ∙ ap (λ (x : ℕ). first_code x (rest (suc j))) z));
      past = λ i l. split i (eqb i j) refl l;
    }
      where
        split : (i : ℕ) (b : Bool) → eqb i j ≡ b → i < j + 1 → named_code (replaced_to kind ls rs i) (naming_at kind ls i) ≡ 0
        split i true q l = rw (eqb-true i j q) (code_is ∙ z)
        split i false q l = s.past i (omega (arith, eqb-false i j q))

  -- WHAT THE LINES COME TO: the first that doesn't stand decides, or all stand
  pub data Comes : ℕ → Type 0 where
    stops : (j c : ℕ) → j < length ls → read_code kind ls rs j ≡ suc c → ((i : ℕ) → i < j → read_code kind ls rs i ≡ 0) → Comes (suc c)
    stands : ((i : ℕ) → i < length ls → read_code kind ls rs i ≡ 0) → Comes 0

  pub comes : Comes whole
  comes = go (length ls) 0 sofar_start (omega arith)
    where
      go : (n j : ℕ) → Sofar j → length ls ≤ j + n → Comes whole
      go zero j s h = let l = s.low in subst Comes (sym (sofar_end j s (omega arith))) (stands (λ i b. sofar_read j s i (omega arith)))
      go (suc n) j s h = step (ltb j (length ls)) refl (go n (j + 1))
        where
          at : (c : ℕ) → read_code kind ls rs j ≡ c → j < length ls → (Sofar (j + 1) → length ls ≤ j + 1 + n → Comes whole) → Comes whole
          at zero e l next = next (sofar_next j 0 s l (sym e) refl) (omega arith)
          at (suc c) e l next = subst Comes (sym (sofar_stops j (suc c) s l (sym e) (λ (z : suc c ≡ 0). omega arith))) (stops j c l e (sofar_read j s))

          step : (b : Bool) → ltb j (length ls) ≡ b → (Sofar (j + 1) → length ls ≤ j + 1 + n → Comes whole) → Comes whole
          step true q next = at (read_code kind ls rs j) refl (ltb-true j (length ls) q) next
          step false q next = subst Comes (sym (sofar_end j s (ltb-false j (length ls) q))) (stands (λ i b. sofar_read j s i (omega (arith, ltb-false j (length ls) q))))
