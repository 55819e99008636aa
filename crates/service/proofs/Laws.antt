-- Laws of orders and notices on a body's bytes, one way out of the code at a time.
use Rattle.std.specs.Prelude.{Option, Result, Some, None, Ok, Err}
use Prim.Native.Nat.{ℕ, zero, suc, ◌+◌, ◌-◌, ◌*◌, ◌≤◌, ◌<◌}
use mathlib.Core.Bool.{Bool, true}
use mathlib.Core.List.{List, [], ◌∷◌, ◌++◌}
use mathlib.Core.Path.{◌≡◌, refl, sym, ap, ◌∙◌}
use native.Mathlib.Omega.{arith}
use lib.ListN.{length}
use Rattle.words.specs.Numbers.{put, bytes4, bytes8}
use Rattle.words.proofs.Laws.{put_put}
use Rattle.codes.specs.Codes.{operation_number}
use Rattle.order.specs.Ordinativo.{Ordinativo}
use Rattle.record.specs.declared.Record.{Record}
use Rattle.record.specs.declared.Key.{Key}
use Rattle.record.specs.Slot.{slot_size, states_offset, acquired_state, record_at, record_bytes}
use Rattle.slots.specs.Slots.{records_at, find_in, nth, no_record}
use Rattle.slots.specs.Inner.{seek_in}
use Rattle.body.specs.Body.{body_ok}
use Rattle.slots.proofs.Laws.{used_le}
use Rattle.slots.proofs.Search.{found_below, seek_at, seek_absent}
use Rattle.slots.proofs.Index.{length_records}
use Rattle.slots.proofs.Held.{Held, held, search_held}
use Rattle.body.proofs.Slots.{valid_at}
use Rattle.valid.proofs.Valid.{ok_bounds}
use Rattle.replacing.specs.Replacing.{namings}
use Rattle.replacing.proofs.Kept.{lines_long}
use Rattle.rules.specs.declared.Change.{Change}
use Rattle.rules.specs.declared.Change.TheVariants.{Insert, Vary, Annul, Replace}
use Rattle.lines.specs.Lines.{line_code}
use Rattle.rules.specs.Rules.{change_of, key_for, unless, stepped, judge_change, judge_order, record_of, written, notice_in, notice_at, judge_notice}
use Rattle.rules.specs.Inner.{record_code, names_code, absent_code, new_state}
use Rattle.rules.specs.Searches.{steps_of}
use Rattle.rules.proofs.Judging.{not_replaced, accepted_slot, moved}
use Rattle.rules.proofs.Codes.{unless_stops, stepped_at, stepped_none, New, absent_zero}
use Rattle.service.specs.declared.Counted.{Counted}
use Rattle.service.specs.Inner.{on_record, on_none, record_stored, Ruled}
use Rattle.service.specs.Service.{order_comes, besides_put, order_stored, OrderServed, outcome_bytes, notice_comes, notice_stored, notice_leaves}

-- AN ORDER

-- refused by a code
module _ (leaves : Result (Change × ℕ) ℕ → List ℕ) (next : Result (Change × ℕ) ℕ) {code' code : ℕ} (e : code ≡ code') where
  pub ruled_refused : (code ≡ 0 → ⊥) → {t : List ℕ} → t ≡ leaves (Err code) → Ruled leaves (unless Err code' next) (Err code) t
  ruled_refused h q = rw (← e) (sym (unless_stops Err code next h), q)

  pub ruled_stored : {j : Result (Change × ℕ) ℕ} {t' : List ℕ} → next ≡ j → code ≡ 0 → t' ≡ leaves j → Ruled leaves (unless Err code' next) j t'
  ruled_stored n h s = rw (← e, h) (sym n, s)

-- where its record is
pub record_put : (t : List ℕ) (base year : ℕ) (o : Ordinativo) (c : Change) (i : ℕ) {w : Record} {t' : List ℕ} → w ≡ written year o (record_at t (base + slot_size * i)) c
    → t' ≡ put t (base + slot_size * i) (record_bytes w) → t' ≡ record_stored t base year o (Ok (c, i))
record_put t base year o c i q s = rw (← q) s

-- and where it has none: a new one, in a slot that there is, once the lines that it names are marked
module _ (t : List ℕ) (base year : ℕ) (o : Ordinativo) (c : Change) (named n slots : ℕ) {code : ℕ} (e : code ≡ absent_code c named n slots) (h : code ≡ 0) where
  abbrev new : New c named n slots
  new = absent_zero c named n slots (sym e ∙ h)

  pub absent_put : {t₁ t' : List ℕ} {w : Record} → t₁ ≡ besides_put t base slots o c → w ≡ record_of (key_for year o) acquired_state (new_state c) o
      → t' ≡ put t₁ (base + slot_size * n) (record_bytes w) → t' ≡ order_stored t base slots year o (Ok (c, n))
  unfolding order_stored
  absent_put p q s = s ∙ (λ i. put (p i) (base + slot_size * n) (record_bytes ((q ∙ sym (new.state o year (record_at t (base + slot_size * n)))) i)))

-- a refused order leaves the table as it was
pub refused_is : (t : List ℕ) (base n year : ℕ) (o : Ordinativo) (code : ℕ) → t ≡ order_stored t base n year o (Err code)
unfolding order_stored
refused_is t base n year o code = refl

-- where a change of a record that is there is accepted nothing is replaced beside it
at_stored : (t : List ℕ) (base n year : ℕ) (o : Ordinativo) (i : ℕ) (c : Change) → record_stored t base year o (on_record t base i o c) ≡ order_stored t base n year o (on_record t base i o c)
unfolding order_stored
at_stored t base n year o i c = go (record_code c o (record_at t (base + slot_size * i))) refl
  where
    beside : (c : Change) → record_code c o (record_at t (base + slot_size * i)) ≡ 0 → t ≡ besides_put t base n o c
    beside Insert e = refl
    beside Vary e = refl
    beside Annul e = refl
    beside Replace e = absurd (not_replaced o (record_at t (base + slot_size * i)) e)

    go : (k : ℕ) → record_code c o (record_at t (base + slot_size * i)) ≡ k
        → record_stored t base year o (unless Err k (Ok (c, i))) ≡ order_stored t base n year o (unless Err k (Ok (c, i)))
    go zero e = ap (λ (x : List ℕ). put x (base + slot_size * i) (record_bytes (written year o (record_at t (base + slot_size * i)) c))) (beside c e)
    go (suc k) e = refl

-- the lines that an order names
module _ (t : List ℕ) (base n : ℕ) (o : Ordinativo) (c : Change) where
  -- nothing gets longer
  pub besides_long : base + slot_size * n ≤ length t → names_code c o (records_at t base n) ≡ 0 → length (besides_put t base n o c) ≡ length t
  besides_long fits e = go c e
    where
      go : (c : Change) → names_code c o (records_at t base n) ≡ 0 → length (besides_put t base n o c) ≡ length t
      go Insert e = refl
      go Vary e = refl
      go Annul e = refl
      go Replace e = lines_long t base n (namings o) e fits

-- the code of an order whose record none is, and the slot that its record takes where it is accepted
module _ (t : List ℕ) (base n : ℕ) (o : Ordinativo) (c : Change) (used : ℕ) {named code : ℕ} (q : named ≡ names_code c o (records_at t base n))
    (e : code ≡ absent_code c named used n) where
  pub absent_is : code ≡ absent_code c (names_code c o (records_at t base n)) used n
  absent_is = e ∙ ap (λ (x : ℕ). absent_code c x used n) q

  pub names_stand : code ≡ 0 → names_code c o (records_at t base n) ≡ 0
  names_stand h = (absent_zero c _ used n (sym absent_is ∙ h)).names

  pub slot_fits : code ≡ 0 → base + slot_size * n ≤ length t → {t₁ : List ℕ} → t₁ ≡ besides_put t base n o c → base + slot_size * used + slot_size ≤ length t₁
  slot_fits h fits p = omega (arith, (absent_zero c _ used n (sym absent_is ∙ h)).low, ap length p, besides_long t base n o c fits (names_stand h), fits)

-- what a change comes to: by its lines, and by the search for its key
module _ (t : List ℕ) (base n year : ℕ) (o : Ordinativo) (c : Change) {code : ℕ} (e : code ≡ line_code o.lines o.total) where
  abbrev leaves : Result (Change × ℕ) ℕ → List ℕ
  leaves = order_stored t base n year o

  pub change_lines : (code ≡ 0 → ⊥) → Ruled leaves (judge_change n year o (records_at t base n) c) (Err code) t
  change_lines h = ruled_refused leaves (stepped n o (records_at t base n) c (find_in (records_at t base n) 0 (key_for year o))) e h (refused_is t base n year o code)

  pub steps_lines : (code ≡ 0 → ⊥) → 0 ≡ steps_of year o (records_at t base n)
  unfolding steps_of
  steps_lines h = rw (← e) (sym (unless_stops (λ c. 0) code _ h))

  module _ {f : Result ℕ ℕ} {k : Key} (h : code ≡ 0) (q : k ≡ key_for year o) (g : f ≡ seek_in (records_at t base n) 0 k) where
    seek_here : {x : Result ℕ ℕ} → f ≡ x → seek_in (records_at t base n) 0 (key_for year o) ≡ x
    seek_here z = ap (seek_in (records_at t base n) 0) (sym q) ∙ sym g ∙ z

    pub change_held : {i : ℕ} → f ≡ Ok i → Held t base n i
    change_held {i} z = held t base n i (found_below (records_at t base n) (key_for year o) i no_record (seek_at (records_at t base n) 0 (key_for year o) i (seek_here z)))

    pub change_at : {i : ℕ} {j : Result (Change × ℕ) ℕ} {t' : List ℕ} → f ≡ Ok i → Ruled (record_stored t base year o) (on_record t base i o c) j t'
        → Ruled leaves (judge_change n year o (records_at t base n) c) j t'
    change_at {i} {j} z r =
        let a = seek_at (records_at t base n) 0 (key_for year o) i (seek_here z) in
        let b = stepped_at n o (records_at t base n) i c in
        let d = (change_held z).same in
        (r.0 ∙ rw (← e, h, a, b, d), r.1 ∙ ap (record_stored t base year o) r.0 ∙ at_stored t base n year o i c ∙ ap leaves (sym r.0))

    pub change_none : {m : ℕ} {j : Result (Change × ℕ) ℕ} {t' : List ℕ} → f ≡ Err m → Ruled leaves (on_none c (names_code c o (records_at t base n)) m n) j t'
        → Ruled leaves (judge_change n year o (records_at t base n) c) j t'
    change_none {m} z r =
        let a = seek_absent (records_at t base n) 0 (key_for year o) m (seek_here z) in
        let b = stepped_none n o (records_at t base n) c in
        let d : length (records_at t base n) ≡ m = omega (arith, a.1) in
        (r.0 ∙ rw (← e, h, a.0, b, d), r.1)

    -- the one walk tells the steps: up to and including the slot found, or all that are used
    pub steps_at : {i : ℕ} → f ≡ Ok i → i + 1 ≡ steps_of year o (records_at t base n)
    unfolding steps_of
    steps_at {i} z =
        let a = seek_at (records_at t base n) 0 (key_for year o) i (seek_here z) in
        rw (← e, h, a) (omega arith)

    pub steps_none : {m : ℕ} → f ≡ Err m → m ≡ steps_of year o (records_at t base n)
    unfolding steps_of
    steps_none {m} z =
        let a = seek_absent (records_at t base n) 0 (key_for year o) m (seek_here z) in
        rw (← e, h, a.0) (omega (arith, a.1))

-- its operation decides
pub served_change : (t : List ℕ) (base n year : ℕ) (o : Ordinativo) {c : Change} → c ≡ change_of o.operation → (r : Counted) {t' : List ℕ}
    → Ruled (order_stored t base n year o) (judge_change n year o (records_at t base n) c) r.ruling t' × (r.steps ≡ steps_of year o (records_at t base n))
    → OrderServed t base n year o r t'
unfolding order_comes judge_order
served_change t base n year o q r s =
    let x = s.0.0 ∙ ap (judge_change n year o (records_at t base n)) q in
    (x, s.1, s.0.1 ∙ ap (order_stored t base n year o) x)

-- its slot is one of the body's
pub order_low : (t : List ℕ) (base n year : ℕ) (o : Ordinativo) (c : Change) (i : ℕ) → order_comes t base n year o ≡ Ok (c, i) → i < n
unfolding order_comes
order_low t base n year o c i e = accepted_slot n year o (records_at t base n) c i e (omega (arith, length_records t base n, used_le t base n))

-- an order's outcome, put in three
pub outcome_put : (s s₁ s₂ s₃ : List ℕ) (at : ℕ) (o : Ordinativo) (code : ℕ) {p m : ℕ} → at + 16 ≤ length s → p ≡ operation_number o.operation → m ≡ length o.lines
    → s₁ ≡ put s at (o.kind ∷ p ∷ code ∷ m ∷ []) → s₂ ≡ put s₁ (at + 4) (bytes4 o.number) → s₃ ≡ put s₂ (at + 8) (bytes8 o.total)
    → s₃ ≡ put s at (outcome_bytes o code)
unfolding outcome_bytes
outcome_put s s₁ s₂ s₃ at o code {p} {m} fits q l e₁ e₂ e₃ =
    let head : List ℕ = o.kind ∷ p ∷ code ∷ m ∷ [] in
    let two : s₂ ≡ put s at (head ++ bytes4 o.number) =
    e₂ ∙ ap (λ (x : List ℕ). put x (at + 4) (bytes4 o.number)) e₁ ∙ put_put s at head (bytes4 o.number) (at + 4) (omega arith) refl in
    e₃ ∙ ap (λ (x : List ℕ). put x (at + 8) (bytes8 o.total)) two
    ∙ put_put s at (head ++ bytes4 o.number) (bytes8 o.total) (at + 8) (omega arith) refl
    ∙ (λ i. put s at (o.kind ∷ q i ∷ code ∷ l i ∷ (bytes4 o.number ++ bytes8 o.total)))

-- A NOTICE

module _ (t : List ℕ) (base n : ℕ) (executing : Bool) (k : Key) (line : ℕ) where
  module _ {f : Option ℕ} (e : f ≡ find_in (records_at t base n) 0 k) where
    pub notice_none : f ≡ None → notice_comes t base n executing k line ≡ Err 16
    unfolding notice_comes judge_notice notice_at
    notice_none g = rw (← e, g)

    module _ {i : ℕ} {r : Record} (g : f ≡ Some i) (q : r ≡ record_at t (base + slot_size * i)) where
      pub notice_found : notice_comes t base n executing k line ≡ notice_in executing line i r
      unfolding notice_comes judge_notice notice_at
      notice_found = rw (← e, g) (ap (notice_in executing line i) ((search_held t base n k e g).same ∙ sym q))

      pub notice_lines : body_ok t base n ≡ true → r.lines ≤ 8
      notice_lines b =
          let v = valid_at t base n i b (search_held t base n k e g).used in
          let l : r.lines ≡ (record_at t (base + slot_size * i)).lines = ap (λ (x : Record). x.lines) q in
          omega (arith, (ok_bounds (record_at t (base + slot_size * i)) v.ok).lines)

  -- a moved line is one of a record of the body
  pub record Line (i : ℕ) : Type 0 where
    pub low : i < n
    pub first : 1 ≤ line
    pub last : line ≤ 8

  pub notice_line : (i cents : ℕ) → body_ok t base n ≡ true → notice_comes t base n executing k line ≡ Ok (i, cents) → Line i
  unfolding notice_comes
  notice_line i cents b e =
      let m = moved executing k line (records_at t base n) i cents e in
      let h = search_held t base n k refl m.0 in
      let l = notice_lines refl m.0 refl b in
      let q : (nth (records_at t base n) i).lines ≡ (record_at t (base + slot_size * i)).lines = ap (λ (x : Record). x.lines) h.same in
      record { low = h.low; first = m.1.first; last = omega (arith, m.1.last) }

  -- whose state is a byte of the body's slots
  pub notice_place : {i cents : ℕ} {m : Result (ℕ × ℕ) ℕ} → base + slot_size * n ≤ length t → body_ok t base n ≡ true → m ≡ notice_comes t base n executing k line → m ≡ Ok (i, cents)
      → (1 ≤ line) × (base + slot_size * i + states_offset + (line - 1) < length t)
  notice_place {i} {cents} h b e q =
      let l = notice_line i cents b (sym e ∙ q) in
      (l.first, omega arith)

  pub notice_refused : (e : ℕ) {c : ℕ} → notice_comes t base n executing k line ≡ Err c → t ≡ notice_leaves t e base n executing k line
  unfolding notice_stored
  notice_refused e q = rw q
