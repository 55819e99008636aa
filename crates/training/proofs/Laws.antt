-- Laws of the training engine: an array and how many of it count, then the ways out of the code over plain lists.
use Rattle.std.specs.Prelude.{Option, Result, Some, None, Ok, Err}
use Prim.Native.Nat.{ℕ, zero, suc, ◌+◌, ◌-◌, ◌≤◌, ◌<◌}
use mathlib.Core.Bool.{Bool, true, false}
use mathlib.Core.List.{List, [], ◌∷◌, ◌++◌}
use mathlib.Core.Path.{◌≡◌, refl, sym, ap, ◌∙◌}
use native.Mathlib.Omega.{arith}
use native.Mathlib.Numerals.{add-one}
use lib.ListN.{length, get_or, take, drop, set, drop_of_length-le}
use lib.Seq.{take-set-lt, take_all, drop-cons, set_split}
use Rattle.order.specs.declared.Line.{Line}
use Rattle.order.specs.Ordinativo.{Ordinativo, no_line}
use Rattle.record.specs.declared.Record.{Record}
use Rattle.record.specs.declared.Key.{Key}
use Rattle.record.specs.Slot.{key_is, with_state, acquired_state}
use Rattle.slots.specs.Slots.{nth, find_in, no_record}
use Rattle.slots.proofs.Laws.{find_first, find_later, find_nil}
use Rattle.slots.proofs.Search.{found_below}
use Rattle.lines.specs.Lines.{line_code}
use Rattle.replacing.specs.declared.Naming.{Naming}
use Rattle.replacing.specs.Replacing.{namings_of, namings, line_named_in, named_at, named_code, with_replaced_at, with_replaced, first_code, replace_code, replaced_by}
use Rattle.replacing.specs.Inner.{naming_at}
use Rattle.replacing.proofs.Marks.{in_zero, replaced_length}
use Rattle.rules.specs.declared.Change.{Change}
use Rattle.rules.specs.declared.Change.TheVariants.{Insert, Vary, Annul, Replace}
use Rattle.rules.specs.Rules.{change_of, key_for, unless, stepped, judge_change, judge_order, record_of, written, moved_to, notice_in, notice_at, judge_notice}
use Rattle.rules.specs.Inner.{record_code, names_code, absent_code, new_state}
use Rattle.rules.specs.Effects.{stored_at, besides, records_by, records_moved}
use Rattle.rules.specs.Searches.{looked_at, steps_of}
use Rattle.rules.proofs.Judging.{not_replaced, moved}
use Rattle.rules.proofs.Codes.{first_stops, unless_stops, stepped_at, stepped_none, New, absent_zero}
use Rattle.training.specs.Training.{Eight, OrderTaken}
use Rattle.training.specs.Inner.{on_record, on_none, Ruled, ChangeTaken, Marks}

-- THE ARRAY

pub taken_low : (n : ℕ) (l : List Record) (i : ℕ) → i < length (take n l) → (i < n) × (i < length l)
taken_low zero l i h = absurd (omega arith)
taken_low (suc n) [] i h = absurd (omega arith)
taken_low (suc n) (x ∷ l) zero h = (omega arith, omega arith)
taken_low (suc n) (x ∷ l) (suc i) h = let r = taken_low n l i (omega arith) in (omega arith, omega arith)

-- fewer than there are places: they are as many as it says
pub taken_short : (n : ℕ) (l : List Record) → length (take n l) < length l → n < length l
taken_short n [] h = absurd (omega arith)
taken_short zero (x ∷ l) h = omega arith
taken_short (suc n) (x ∷ l) h = let r = taken_short n l (omega arith) in omega arith

pub taken_get : (n : ℕ) (l : List Record) (i : ℕ) (d : Record) → i < length (take n l) → get_or l i d ≡ nth (take n l) i
taken_get zero l i d h = absurd (omega arith)
taken_get (suc n) [] i d h = absurd (omega arith)
taken_get (suc n) (x ∷ l) zero d h = refl
taken_get (suc n) (x ∷ l) (suc i) d h = taken_get n l i d (omega arith)

pub taken_set : (l : List Record) (n i : ℕ) (r : Record) → i < length (take n l) → take n (set l i r) ≡ set (take n l) i r
taken_set l n i r h = take-set-lt n l i r (taken_low n l i h).0

-- THE SEARCH: the answer from here is the whole answer
module _ (rs : List Record) (i : ℕ) (k : Key) {r : Record} {b : Bool} (h : i < length rs) (q : r ≡ nth rs i) (e : b ≡ key_is r k) where
  front : drop i rs ≡ r ∷ drop (i + 1) rs
  front = drop-cons rs i no_record h ∙ (λ j. sym q j ∷ drop (sym (add-one i) j) rs)

  pub found_here : b ≡ true → find_in (drop i rs) i k ≡ Some i
  found_here z = find_first front i k (sym e ∙ z)

  pub found_later : b ≡ false → find_in (drop i rs) i k ≡ find_in (drop (i + 1) rs) (i + 1) k
  found_later z = find_later front i k (sym e ∙ z)

pub found_none : (rs : List Record) (i : ℕ) (k : Key) → length rs ≤ i → find_in (drop i rs) i k ≡ None
found_none rs i k h = find_nil (drop_of_length-le rs {i = i} h) i k

pub found_low : (rs : List Record) (k : Key) {f : Option ℕ} {i : ℕ} → f ≡ find_in rs 0 k → f ≡ Some i → i < length rs
found_low rs k {f} {i} e g = found_below rs k i no_record (sym e ∙ g)

-- A NAMED LINE
module _ (rs : List Record) (m : Naming) {f : Option ℕ} (e : f ≡ find_in rs 0 m.key) where
  pub marks_absent : (rs' : List Record) → f ≡ None → Marks rs (named_code rs m) (with_replaced rs m) 24 rs'
  unfolding named_code named_at
  marks_absent rs' g = (sym (ap (named_at rs m) (sym e ∙ g)), λ z. absurd (omega arith))

  module _ {i : ℕ} (g : f ≡ Some i) {r : Record} (q : r ≡ nth rs i) {code : ℕ} (p : code ≡ line_named_in r m.line m.amount) where
    code_is : code ≡ named_code rs m
    unfolding named_code named_at
    code_is = p ∙ ap (λ (x : Record). line_named_in x m.line m.amount) q ∙ sym (ap (named_at rs m) (sym e ∙ g))

    pub marks_refused : (rs' : List Record) → (code ≡ 0 → ⊥) → Marks rs (named_code rs m) (with_replaced rs m) code rs'
    marks_refused rs' h = (code_is, λ z. absurd (h z))

    pub marks_first : code ≡ 0 → 1 ≤ m.line
    marks_first z = (in_zero r m.line m.amount (sym p ∙ z)).first

    pub marks_replaced : {w : Record} {rs' : List Record} → code ≡ 0 → w ≡ with_state r (m.line - 1) 3 → rs' ≡ set rs i w
        → Marks rs (named_code rs m) (with_replaced rs m) 0 rs'
    unfolding with_replaced with_replaced_at
    marks_replaced z x y =
        (sym z ∙ code_is, λ u. y ∙ ap (set rs i) (x ∙ ap (λ (v : Record). with_state v (m.line - 1) 3) q) ∙ sym (ap (with_replaced_at rs m) (sym e ∙ g)))

-- ALL NAMED LINES: the order's first j lines are marked on rs, which was rs₀
pub record Marking (rs₀ rs : List Record) (kind : ℕ) (ls : List Line) (j : ℕ) : Type 0 where
  pub low : j ≤ length ls
  pub codes : replace_code rs (namings_of kind (drop j ls)) ≡ replace_code rs₀ (namings_of kind ls)
  pub lists : replaced_by rs (namings_of kind (drop j ls)) ≡ replaced_by rs₀ (namings_of kind ls)

module _ (rs₀ : List Record) (kind : ℕ) (ls : List Line) where
  pub marking_start : Marking rs₀ rs₀ kind ls 0
  marking_start = record { low = omega arith; codes = refl; lists = refl }

  module _ (rs : List Record) (j : ℕ) (g : Marking rs₀ rs kind ls j) where
    pub marking_end : length ls ≤ j → Marks rs₀ (replace_code rs₀ (namings_of kind ls)) (replaced_by rs₀ (namings_of kind ls)) 0 rs
    unfolding namings_of replace_code replaced_by
    marking_end h =
        let e : namings_of kind (drop j ls) ≡ [] = ap (namings_of kind) (drop_of_length-le ls {i = j} h) in
        (sym (ap (replace_code rs) e) ∙ g.codes, λ z. sym (ap (replaced_by rs) e) ∙ g.lists)

    module _ (h : j < length ls) {m : Naming} (q : m ≡ naming_at kind ls j) {code : ℕ} (p : code ≡ named_code rs m) where
      here : namings_of kind (drop j ls) ≡ m ∷ namings_of kind (drop (suc j) ls)
      unfolding namings_of naming_at
      here = ap (namings_of kind) (drop-cons ls j no_line h) ∙ ap (λ (x : Naming). x ∷ namings_of kind (drop (suc j) ls)) (sym q)

      pub marking_stops : (code ≡ 0 → ⊥) → Marks rs₀ (replace_code rs₀ (namings_of kind ls)) (replaced_by rs₀ (namings_of kind ls)) code rs₀
      unfolding replace_code
      marking_stops n = (
        sym (sym g.codes ∙ ap (replace_code rs) here
            ∙ ap (λ (x : ℕ). first_code x (replace_code (with_replaced rs m) (namings_of kind (drop (suc j) ls)))) (sym p)
            ∙ first_stops code _ n),
        λ z. absurd (n z),
      )

      pub marking_next : {rs' : List Record} → code ≡ 0 → rs' ≡ with_replaced rs m → Marking rs₀ rs' kind ls (j + 1)
      unfolding replace_code replaced_by
      marking_next {rs'} z s =
          rw (add-one j) (record {
            low = omega arith;
            codes =
                ap (λ (x : List Record). replace_code x (namings_of kind (drop (suc j) ls))) s
                ∙ sym (ap (replace_code rs) here
                ∙ ap (λ (x : ℕ). first_code x (replace_code (with_replaced rs m) (namings_of kind (drop (suc j) ls)))) (sym p ∙ z))
                ∙ g.codes;
            lists =
                ap (λ (x : List Record). replaced_by x (namings_of kind (drop (suc j) ls))) s
                ∙ sym (ap (replaced_by rs) here)
                ∙ g.lists;
          })

-- A CHANGE

module _ (year : ℕ) (o : Ordinativo) (rs : List Record) (next : Result (Change × ℕ) ℕ) {code' code : ℕ} (e : code ≡ code') where
  ruled_refused : (code ≡ 0 → ⊥) → Ruled year o rs (unless Err code' next) (Err code) rs
  ruled_refused h = (sym (ap (λ (x : ℕ). unless Err x next) (sym e) ∙ unless_stops Err code next h), refl)

  ruled_next : {j : Result (Change × ℕ) ℕ} {rs' : List Record} → code ≡ 0 → j ≡ next → rs' ≡ records_by year o rs j → Ruled year o rs (unless Err code' next) j rs'
  ruled_next h q s = (q ∙ sym (ap (λ (x : ℕ). unless Err x next) (sym e ∙ h)), s)

-- its record stands at index i
module _ (year : ℕ) (o : Ordinativo) (rs : List Record) (i : ℕ) (c : Change) (low : i < length rs) {r : Record} (q : r ≡ nth rs i) {code : ℕ} (e : code ≡ record_code c o r) where
  record_code_lem : code ≡ record_code c o (nth rs i)
  record_code_lem = e ∙ ap (record_code c o) q

  pub record_refused : (code ≡ 0 → ⊥) → Ruled year o rs (on_record rs i o c) (Err code) rs
  record_refused h = ruled_refused year o rs (Ok (c, i)) record_code_lem h

  -- where it is accepted nothing is replaced beside it: a replacement whose key is there is 14
  beside : code ≡ 0 → rs ≡ besides c o rs
  beside h = go c (sym record_code_lem ∙ h)
    where
      go : (c : Change) → record_code c o (nth rs i) ≡ 0 → rs ≡ besides c o rs
      go Insert e = refl
      go Vary e = refl
      go Annul e = refl
      go Replace e = absurd (not_replaced o (nth rs i) e)

  pub record_taken : {w : Record} {rs' : List Record} → code ≡ 0 → w ≡ written year o r c → rs' ≡ set rs i w → Ruled year o rs (on_record rs i o c) (Ok (c, i)) rs'
  record_taken h x s =
      ruled_next year o rs (Ok (c, i)) record_code_lem h refl
      (s ∙ ap (set rs i) (x ∙ ap (λ (v : Record). written year o v c) q) ∙ set_split rs i _ low ∙ ap (λ (l : List Record). stored_at l i (written year o (nth rs i) c)) (beside h))

stored_end : (rs : List Record) (i : ℕ) (r : Record) → i ≡ length rs → stored_at rs i r ≡ rs ++ r ∷ []
stored_end rs i r e =
    let a = take_all i rs (omega arith) in
    let b = drop_of_length-le rs {i = suc i} (omega arith) in
    λ k. a k ++ r ∷ b k

-- no order has its key: n orders, of which the named lines were marked
module _ (slots year : ℕ) (o : Ordinativo) (rs : List Record) (c : Change) {n named code : ℕ} {marks : List Record} (l : n ≡ length rs)
    (k : Marks rs (names_code c o rs) (besides c o rs) named marks) (e : code ≡ absent_code c named n slots) where
  none_code : code ≡ absent_code c (names_code c o rs) (length rs) slots
  none_code = e ∙ (λ i. absent_code c (k.0 i) (l i) slots)

  pub none_refused : (code ≡ 0 → ⊥) → Ruled year o rs (on_none slots rs o c) (Err code) rs
  none_refused h = ruled_refused year o rs (Ok (c, (length rs))) none_code h

  module _ (h : code ≡ 0) where
    new : New c named n slots
    new = absent_zero c named n slots (sym e ∙ h)

    marks_are : marks ≡ besides c o rs
    marks_are = k.1 new.names

    besides_long : (c : Change) → length (besides c o rs) ≡ length rs
    besides_long Insert = refl
    besides_long Vary = refl
    besides_long Annul = refl
    besides_long Replace = replaced_length rs (namings o)

    marks_long : length marks ≡ n
    marks_long = ap length marks_are ∙ besides_long c ∙ sym l

    pub none_room : slots ≤ 32 → length marks < 32
    none_room s = omega (arith, new.low, marks_long)

    pub none_taken : {w : Record} {rs' : List Record} → w ≡ record_of (key_for year o) acquired_state (new_state c) o → rs' ≡ marks ++ w ∷ []
        → Ruled year o rs (on_none slots rs o c) (Ok (c, n)) rs'
    none_taken x s =
        ruled_next year o rs (Ok (c, (length rs))) none_code h (ap (λ (i : ℕ). Ok (c, i)) l)
        (s ∙ sym (stored_end marks n _ (sym marks_long)) ∙ (λ i. stored_at (marks_are i) n ((x ∙ sym (new.state o year (nth rs n))) i)))

-- by its lines, and by the search for its key
module _ (slots year : ℕ) (o : Ordinativo) (rs : List Record) (c : Change) {code : ℕ} (e : code ≡ line_code o.lines o.total) where
  pub change_lines : (code ≡ 0 → ⊥) → ChangeTaken slots year o rs c (Err code) 0 rs
  unfolding steps_of
  change_lines h =
      (ruled_refused year o rs (stepped slots o rs c (find_in rs 0 (key_for year o))) e h, rw (← e) (sym (unless_stops (λ c. 0) code _ h)))

  module _ {f : Option ℕ} (h : code ≡ 0) (g : f ≡ find_in rs 0 (key_for year o)) where
    by_search : {x : Option ℕ} → f ≡ x → judge_change slots year o rs c ≡ stepped slots o rs c x
    by_search z =
        ap (λ (x : ℕ). unless Err x (stepped slots o rs c (find_in rs 0 (key_for year o)))) (sym e ∙ h) ∙ ap (stepped slots o rs c) (sym g ∙ z)

    looked : {x : Option ℕ} → f ≡ x → steps_of year o rs ≡ looked_at rs x
    unfolding steps_of
    looked z =
        ap (λ (x : ℕ). unless (λ c. 0) x (looked_at rs (find_in rs 0 (key_for year o)))) (sym e ∙ h) ∙ ap (looked_at rs) (sym g ∙ z)

    pub change_at : {i steps : ℕ} {j : Result (Change × ℕ) ℕ} {rs' : List Record} → f ≡ Some i → Ruled year o rs (on_record rs i o c) j rs' × (steps ≡ i + 1)
        → ChangeTaken slots year o rs c j steps rs'
    change_at {i} z r =
        let s = looked z in
        ((r.0.0 ∙ sym (by_search z ∙ stepped_at slots o rs i c), r.0.1), omega (arith, r.1, s))

    pub change_none : {steps : ℕ} {j : Result (Change × ℕ) ℕ} {rs' : List Record} → f ≡ None → Ruled year o rs (on_none slots rs o c) j rs' × (steps ≡ length rs)
        → ChangeTaken slots year o rs c j steps rs'
    change_none z r = ((r.0.0 ∙ sym (by_search z ∙ stepped_none slots o rs c), r.0.1), r.1 ∙ sym (looked z))

-- its operation decides
pub order_taken : (slots year : ℕ) (o : Ordinativo) (rs : List Record) {c : Change} → c ≡ change_of o.operation → {j : Result (Change × ℕ) ℕ} {steps : ℕ} {rs' : List Record}
    → ChangeTaken slots year o rs c j steps rs' → OrderTaken slots year o rs j steps rs'
unfolding judge_order
order_taken slots year o rs q s = (s.0.0 ∙ ap (judge_change slots year o rs) q, s.1, s.0.1)

-- A NOTICE
module _ (rs : List Record) (executing : Bool) (k : Key) (line : ℕ) where
  module _ {f : Option ℕ} (e : f ≡ find_in rs 0 k) where
    pub notice_none : f ≡ None → Err 16 ≡ judge_notice executing k line rs
    unfolding judge_notice notice_at
    notice_none g = sym (ap (notice_at executing line rs) (sym e ∙ g))

    pub notice_at_lem : {i : ℕ} {r : Record} {m : Result (ℕ × ℕ) ℕ} → f ≡ Some i → r ≡ nth rs i → m ≡ notice_in executing line i r → m ≡ judge_notice executing k line rs
    unfolding judge_notice notice_at
    notice_at_lem {i} g q h = h ∙ ap (notice_in executing line i) q ∙ sym (ap (notice_at executing line rs) (sym e ∙ g))

  pub eight_here : Eight rs → {i : ℕ} {r : Record} → i < length rs → r ≡ nth rs i → r.lines ≤ 8
  eight_here h {i} {r} l q = omega (arith, ap (λ (x : Record). x.lines) q, h i l)

  module _ {m : Result (ℕ × ℕ) ℕ} (e : m ≡ judge_notice executing k line rs) where
    module _ {i cents : ℕ} (g : m ≡ Ok (i, cents)) where
      pub moved_low : i < length rs
      moved_low = found_below rs k i no_record (moved executing k line rs i cents (sym e ∙ g)).0

      pub moved_first : 1 ≤ line
      moved_first = (moved executing k line rs i cents (sym e ∙ g)).1.first

      pub notice_moved : {r w : Record} {s : ℕ} {rs' : List Record} → r ≡ nth rs i → s ≡ moved_to executing → w ≡ with_state r (line - 1) s → rs' ≡ set rs i w
          → (Ok (i, cents) ≡ judge_notice executing k line rs) × (rs' ≡ records_moved executing line rs (Ok (i, cents)))
      notice_moved q p x s = (sym g ∙ e, s ∙ ap (set rs i) (x ∙ (λ j. with_state (q j) (line - 1) (p j))))

    pub notice_unmoved : {c : ℕ} → m ≡ Err c → (Err c ≡ judge_notice executing k line rs) × (rs ≡ records_moved executing line rs (Err c))
    notice_unmoved g = (sym g ∙ e, refl)
