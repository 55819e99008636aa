-- WHAT A BODY'S RECORDS ARE WORTH: a replacement order moves it by what it brings in and gives up, another order leaves it as it is, and an accepted notice
-- moves it by what it weighs. Cash of a kind is one such number, and whether one line of one order is held is another.
use Rattle.std.specs.Prelude.{Result, Some, Ok, Err}
use Prim.Native.Nat.{ℕ, zero, suc, ◌+◌, ◌-◌, ◌≤◌, ◌<◌}
use mathlib.Core.Path.{◌≡◌, refl, sym, ap, ◌∙◌}
use mathlib.Core.Bool.{Bool, true, false, cond, ◌||◌}
use mathlib.Core.List.{List, [], ◌∷◌, ◌++◌}
use native.Mathlib.Omega.{arith}
use lib.ListN.{length, get_or, set, take, replicate, length-set, drop_of_length-le}
use lib.Seq.{set_split, take_all}
use lib.Dec.{eqb}
use borrow.Author.Tests.{eqb-true, ne_eqb}
use Rattle.record.specs.declared.Key.{Key}
use Rattle.record.specs.declared.Record.{Record}
use Rattle.record.specs.Slot.{record_at, key_of, with_state}
use Rattle.slots.specs.Slots.{slots_at, records_at, used_at, find_in, nth, no_record}
use Rattle.slots.proofs.Search.{found_below, found_key}
use Rattle.valid.specs.Valid.{executed_in}
use Rattle.body.specs.Body.{cents_of}
use Rattle.valid.proofs.Valid.{Valid, ok_bounds}
use Rattle.order.specs.Ordinativo.{Ordinativo}
use Rattle.order.specs.declared.Line.{Line}
use Rattle.codes.specs.declared.Operation.{Operation}
use Rattle.codes.specs.declared.Operation.TheVariants.{Inserimento, Variazione, Annullo, Sostituzione}
use Rattle.replacing.specs.declared.Naming.{Naming}
use Rattle.replacing.specs.Replacing.{namings, named_code, with_replaced, replace_code, replaced_by}
use Rattle.replacing.proofs.Marks.{takes, marked_is, replaced_length, or_zero, inside_list}
use Rattle.rules.specs.declared.Change.{Change}
use Rattle.rules.specs.declared.Change.TheVariants.{Insert, Vary, Annul, Replace}
use Rattle.rules.specs.Rules.{change_of, was_executed, any_executed, key_for, eight_places, amounts_of, judge_order, written, line_moves, moved_to, judge_notice}
use Rattle.rules.specs.Effects.{stored_at, records_by, records_moved}
use Rattle.rules.proofs.Judging.{Stands, inserting, replacing, varying, annulling, accepted, accepted_change, Moves, moved}
use Rattle.rules.proofs.Kept.{waiting_all}
use Rattle.rules.specs.Worth.{Which, States, Value, worth_in, worth_of, are_executed, worth, are_held, of_kind, its_cents, on_line, is_replacement, lines_worth, brought_by, named_worth, given_by}
use Rattle.service.proofs.Brought.{kind_even}

-- WHERE AN ORDER'S RECORD STANDS: in place of the one at i, or after the last
pub stored_set : (rs : List Record) (i : ℕ) (r : Record) → i < length rs → stored_at rs i r ≡ set rs i r
stored_set rs i r h = sym (set_split rs i r h)

pub stored_end : (rs : List Record) (i : ℕ) (r : Record) → i ≡ length rs → stored_at rs i r ≡ rs ++ r ∷ []
stored_end rs i r e =
    let a = take_all i rs (omega arith) in
    let b = drop_of_length-le rs {i = suc i} (omega arith) in
    λ k. a k ++ r ∷ b k

-- RECORDS with an amount for each state, as those of a table have
pub data Full : List Record → Type 0 where
  none : Full []
  more : {r : Record} {rs : List Record} → length r.states ≤ length r.amounts → Full rs → Full (r ∷ rs)

slots_full : (t : List ℕ) (at n : ℕ) → Full (slots_at t at n)
unfolding slots_at record_at
slots_full t at zero = none
slots_full t at (suc n) = more {r = record_at t at} (omega arith) (slots_full t (at + 96) n)

pub full_at : (t : List ℕ) (at n : ℕ) → Full (records_at t at n)
full_at t at n = slots_full t at (used_at t at n)

full_nth : (rs : List Record) (i : ℕ) → Full rs → i < length rs → length (nth rs i).states ≤ length (nth rs i).amounts
full_nth [] i none h = absurd (omega arith)
full_nth (r ∷ rs) zero (more f fs) h = f
full_nth (r ∷ rs) (suc i) (more f fs) h = full_nth rs i fs (omega arith)

full_set : (rs : List Record) (i : ℕ) (r : Record) → Full rs → length r.states ≤ length r.amounts → Full (set rs i r)
full_set [] i r none h = none
full_set (x ∷ rs) zero r (more f fs) h = more h fs
full_set (x ∷ rs) (suc i) r (more f fs) h = more f (full_set rs i r fs h)

-- WHICH LINES COUNT: the executed ones do, and none that never was
pub record Counts (c : States) : Type 0 where
  pub executed : c 2 ≡ true
  pub never : (s : ℕ) → was_executed s ≡ false → c s ≡ false

pub executed_count : Counts are_executed
executed_count = record { executed = refl; never = λ s e. go (eqb s 2) (eqb s 3) e }
  where
    go : (a b : Bool) → (a || b) ≡ false → a ≡ false
    go true b e = e
    go false b e = refl

pub held_count : Counts are_held
held_count = record { executed = refl; never = λ s e. e }

cond_none : (u : Bool) {n : ℕ} → n ≡ 0 → cond u n 0 ≡ 0
cond_none true e = e
cond_none false e = refl

-- an accepted order's weight; a refused one weighs nothing
abbrev pub weighs : Result (Change × ℕ) ℕ → ℕ → ℕ
weighs (Ok (c, i)) n = n
weighs (Err code) n = 0

-- the change of an accepted order tells whether it replaces
abbrev replacing_change : Change → Bool
replacing_change Replace = true
replacing_change Insert = false
replacing_change Vary = false
replacing_change Annul = false

replaces_is : (op : Operation) → is_replacement op ≡ replacing_change (change_of op)
replaces_is Inserimento = refl
replaces_is Variazione = refl
replaces_is Annullo = refl
replaces_is Sostituzione = refl

module _ (c : States) (C : Counts c) where
  -- what a line in state s with the amount a counts for
  abbrev paid_by : ℕ → ℕ → ℕ
  paid_by s a = cond (c s) a 0

  -- what a replaced line of that worth takes with it
  abbrev pub lost : ℕ → ℕ
  lost n = cond (c 3) 0 n

  lost_none : lost 0 ≡ 0
  lost_none = go (c 3)
    where
      go : (u : Bool) → ◌≡◌ {A = ℕ} (cond u 0 0) 0
      go true = refl
      go false = refl

  -- LINES THAT WAIT
  none_paid : (v : Value) (n : ℕ) (states amounts : List ℕ) → any_executed states ≡ false → worth_in c v n states amounts ≡ 0
  unfolding any_executed worth_in
  none_paid v n [] amounts e = refl
  none_paid v n (s ∷ states) [] e = refl
  none_paid v n (s ∷ states) (a ∷ amounts) e = go (was_executed s) refl e (none_paid v (suc n) states amounts)
    where
      go : (b : Bool) → was_executed s ≡ b → (b || any_executed states) ≡ false → (any_executed states ≡ false → worth_in c v (suc n) states amounts ≡ 0)
          → cond (c s) (v n a) 0 + worth_in c v (suc n) states amounts ≡ 0
      go true q f next = absurd (let z : ◌≡◌ {A = ℕ} 0 1 = cc in omega arith)
      go false q f next =
          let z : cond (c s) (v n a) 0 ≡ 0 = ap (λ (u : Bool). cond u (v n a) 0) (C.never s q) in
          omega (arith, next f)

  -- the tests that an accepted notice passed
  not_executed : (s n : ℕ) → line_moves true s ≡ 0 → paid_by s n ≡ 0
  unfolding line_moves
  not_executed s n e = go (was_executed s) refl e
    where
      go : (u : Bool) → was_executed s ≡ u → ◌≡◌ {A = ℕ} (cond u 21 0) 0 → paid_by s n ≡ 0
      go true q e = absurd (omega arith)
      go false q e = ap (λ (u : Bool). cond u n 0) (C.never s q)

  executed_paid : (s n : ℕ) → s ≡ 2 → paid_by s n ≡ n
  executed_paid s n e = ap (λ (u : Bool). cond u n 0) (ap c e ∙ C.executed)

  was_executed_lem : (s n : ℕ) → line_moves false s ≡ 0 → paid_by s n ≡ n
  unfolding line_moves
  was_executed_lem s n e = go (eqb s 2) refl e
    where
      go : (u : Bool) → eqb s 2 ≡ u → ◌≡◌ {A = ℕ} (cond u 0 22) 0 → paid_by s n ≡ n
      go true q e = executed_paid s n (eqb-true s 2 q)
      go false q e = absurd (omega arith)

  -- ONE LINE, ONE RECORD SET
  set_line : (v : Value) (n : ℕ) (states amounts : List ℕ) (j s : ℕ) → j < length states → j < length amounts
      → worth_in c v n (set states j s) amounts + paid_by (get_or states j 0) (v (n + j) (get_or amounts j 0)) ≡ worth_in c v n states amounts + paid_by s (v (n + j) (get_or amounts j 0))
  unfolding worth_in
  set_line v n [] amounts j s h k = absurd (omega arith)
  set_line v n (x ∷ states) [] j s h k = absurd (omega arith)
  set_line v n (x ∷ states) (a ∷ amounts) zero s h k = let z : n + 0 ≡ n = omega arith in rw z (omega arith)
  set_line v n (x ∷ states) (a ∷ amounts) (suc j) s h k =
      let z : n + suc j ≡ suc n + j = omega arith in
      rw z (omega (arith, set_line v (suc n) states amounts j s (omega arith) (omega arith)))

  module _ (p : Which) (v : Value) where
    abbrev lines : Record → ℕ
    lines r = worth_in c v 1 r.states r.amounts

    -- what a record counts for
    abbrev share : Record → ℕ
    share r = cond (p (key_of r)) (lines r) 0

    set_worth : (rs : List Record) (i : ℕ) (r : Record) → i < length rs → worth_of c p v (set rs i r) + share (nth rs i) ≡ worth_of c p v rs + share r
    unfolding worth_of
    set_worth [] i r h = absurd (omega arith)
    set_worth (x ∷ rs) zero r h = omega arith
    set_worth (x ∷ rs) (suc i) r h = omega (arith, set_worth rs i r (omega arith))

    add_worth : (rs : List Record) (r : Record) → worth_of c p v (rs ++ r ∷ []) ≡ worth_of c p v rs + share r
    unfolding worth_of
    add_worth [] r = omega arith
    add_worth (x ∷ rs) r = omega (arith, add_worth rs r)

    none_in : (r : Record) → lines r ≡ 0 → share r ≡ 0
    none_in r e = cond_none (p (key_of r)) e

    -- A LINE of the record with a key whose state becomes s
    module _ (key : Key) (line : ℕ) (rs : List Record) (i s cents : ℕ) (found : find_in rs 0 key ≡ Some i) (first : 1 ≤ line)
        (in-states : line - 1 < length (nth rs i).states) (in-amounts : line - 1 < length (nth rs i).amounts) (amount : cents ≡ get_or (nth rs i).amounts (line - 1) 0) where
      abbrev old : Record
      old = nth rs i

      abbrev new : Record
      new = with_state old (line - 1) s

      -- what the line counted for, and what it counts for now
      abbrev before : ℕ
      before = paid_by (get_or old.states (line - 1) 0) (v line cents)

      abbrev after : ℕ
      after = paid_by s (v line cents)

      line_worth : lines new + before ≡ lines old + after
      line_worth =
          let z : 1 + (line - 1) ≡ line = omega arith in
          rw amount (rw z at (set_line v 1 old.states old.amounts (line - 1) s in-states in-amounts))

      record_worth : (u : Bool) → cond u (lines new) 0 + cond u before 0 ≡ cond u (lines old) 0 + cond u after 0
      record_worth true = line_worth
      record_worth false = refl

      pub state_worth : worth_of c p v (set rs i new) + cond (p key) before 0 ≡ worth_of c p v rs + cond (p key) after 0
      state_worth =
          let x = set_worth rs i new (found_below rs key i no_record found) in
          let y : share new + cond (p key) before 0 ≡ share old + cond (p key) after 0 = rw (ap p (found_key rs key i no_record found)) (record_worth (p key)) in
          omega arith

    -- A NOTICE
    module _ (executing : Bool) (key : Key) (line : ℕ) (rs : List Record) (i cents : ℕ) (e : judge_notice executing key line rs ≡ Ok (i, cents)) (ok : Valid (nth rs i)) where
      moves : Moves executing line (nth rs i) cents
      moves = (moved executing key line rs i cents e).1

      notice_worth : worth_of c p v (set rs i (with_state (nth rs i) (line - 1) (moved_to executing))) + cond (p key) (paid_by (get_or (nth rs i).states (line - 1) 0) (v line cents)) 0
          ≡ worth_of c p v rs + cond (p key) (paid_by (moved_to executing) (v line cents)) 0
      notice_worth =
          let m = moves in
          let f = m.first in
          let l : line - 1 < 8 = omega (arith, m.last, (ok_bounds (nth rs i) ok.ok).lines) in
          state_worth key line rs i (moved_to executing) cents (moved executing key line rs i cents e).0 f (omega (arith, ok.states)) (omega (arith, ok.amounts)) m.amount

    module _ (key : Key) (line : ℕ) (rs : List Record) (i cents : ℕ) where
      pub execute_worth : judge_notice true key line rs ≡ Ok (i, cents) → Valid (nth rs i)
          → worth_of c p v (set rs i (with_state (nth rs i) (line - 1) (moved_to true))) ≡ worth_of c p v rs + cond (p key) (v line cents) 0
      execute_worth e ok =
          let x = notice_worth true key line rs i cents e ok in
          let z = cond_none (p key) (not_executed (get_or (nth rs i).states (line - 1) 0) (v line cents) (moves true key line rs i cents e ok).moves) in
          let y = ap (λ (n : ℕ). cond (p key) n 0) (executed_paid 2 (v line cents) refl) in
          omega arith

      pub reverse_worth : judge_notice false key line rs ≡ Ok (i, cents) → Valid (nth rs i)
          → worth_of c p v (set rs i (with_state (nth rs i) (line - 1) (moved_to false))) + cond (p key) (v line cents) 0 ≡ worth_of c p v rs
      unfolding line_moves
      reverse_worth e ok =
          let x = notice_worth false key line rs i cents e ok in
          let y = ap (λ (n : ℕ). cond (p key) n 0) (was_executed_lem (get_or (nth rs i).states (line - 1) 0) (v line cents) (moves false key line rs i cents e ok).moves) in
          let z = cond_none (p key) (not_executed 1 (v line cents) refl) in
          omega arith

    -- A NAMED LINE becomes replaced
    mark_full : (rs : List Record) (m : Naming) → named_code rs m ≡ 0 → Full rs → Full (with_replaced rs m)
    mark_full rs m e full =
        let tk = takes rs m e in
        let k = full_nth rs tk.at full (found_below rs m.key tk.at no_record tk.found) in
        let z = length-set (nth rs tk.at).states (m.line - 1) 3 in
        rw (marked_is rs m m e refl) (full_set rs tk.at (with_state (nth rs tk.at) (m.line - 1) 3) full (omega arith))

    mark_worth : (rs : List Record) (m : Naming) → named_code rs m ≡ 0 → Full rs
        → worth_of c p v (with_replaced rs m) + lost (cond (p m.key) (v m.line m.amount) 0) ≡ worth_of c p v rs
    mark_worth rs m e full =
        let tk = takes rs m e in
        let i = tk.at in
        let k = full_nth rs i full (found_below rs m.key i no_record tk.found) in
        let l = inside_list (nth rs i).states (m.line - 1) tk.stands.state in
        let x = state_worth m.key m.line rs i 3 m.amount tk.found tk.stands.first l (omega arith) (sym tk.stands.same) in
        let y = ap (λ (n : ℕ). cond (p m.key) n 0) (executed_paid (get_or (nth rs i).states (m.line - 1) 0) (v m.line m.amount) tk.stands.state) in
        rw (marked_is rs m m e refl) (go (c 3) (p m.key) _ _ _ y x)
      where
        go : (u w : Bool) (new old before : ℕ) → cond w before 0 ≡ cond w (v m.line m.amount) 0
            → new + cond w before 0 ≡ old + cond w (cond u (v m.line m.amount) 0) 0 → new + cond u 0 (cond w (v m.line m.amount) 0) ≡ old
        go true true new old before y x = omega arith
        go true false new old before y x = omega arith
        go false true new old before y x = omega arith
        go false false new old before y x = omega arith

    marks_worth : (rs : List Record) (ms : List Naming) → replace_code rs ms ≡ 0 → Full rs → worth_of c p v (replaced_by rs ms) + lost (named_worth p v ms) ≡ worth_of c p v rs
    unfolding replace_code replaced_by
    marks_worth rs [] e full = omega (arith, lost_none)
    marks_worth rs (m ∷ ms) e full =
        let z = or_zero (named_code rs m) _ e in
        go (c 3) _ _ _ _ _ (mark_worth rs m z.0 full) (marks_worth (with_replaced rs m) ms z.1 (mark_full rs m z.0 full))
      where
        go : (u : Bool) (a b x y w : ℕ) → x + cond u 0 a ≡ w → y + cond u 0 b ≡ x → y + cond u 0 (a + b) ≡ w
        go true a b x y w p q = omega arith
        go false a b x y w p q = omega arith

    -- the new record counts for all its lines
    all_paid : (m k n : ℕ) (ls : List Line) → length ls ≤ m
        → worth_in c v n (take m (replicate (length ls) 2 ++ replicate k 0)) (take m (amounts_of ls ++ replicate k 0)) ≡ lines_worth v n ls
    unfolding worth_in amounts_of
    all_paid m k n [] h = nothing m k n
      where
        nothing : (m k n : ℕ) → worth_in c v n (take m (replicate k 0)) (take m (replicate k 0)) ≡ 0
        nothing zero k n = refl
        nothing (suc m) zero n = refl
        nothing (suc m) (suc k) n = omega (arith, nothing m k (suc n), ap (λ (u : Bool). cond u (v n 0) 0) (C.never 0 refl))
    all_paid zero k n (l ∷ ls) h = absurd (omega arith)
    all_paid (suc m) k n (l ∷ ls) h = omega (arith, all_paid m k (suc n) ls (omega arith), executed_paid 2 (v n l.amount) refl)

    -- AN ORDER
    module _ (slots year : ℕ) (o : Ordinativo) (rs : List Record) (full : Full rs) (few : length o.lines ≤ 8) where
      replace_worth : (i : ℕ) → i ≡ length rs → replace_code rs (namings o) ≡ 0
          → worth_of c p v (records_by year o rs (Ok (Replace, i))) + lost (named_worth p v (namings o)) ≡ worth_of c p v rs + cond (p (key_for year o)) (lines_worth v 1 o.lines) 0
      unfolding written
      replace_worth i q e =
          let left : List Record = replaced_by rs (namings o) in
          let new : Record = written year o (nth rs i) Replace in
          let z = ap (worth_of c p v) (stored_end left i new (q ∙ sym (replaced_length rs (namings o)))) in
          let a : worth_of c p v (left ++ new ∷ []) ≡ worth_of c p v left + cond (p (key_for year o)) (lines_worth v 1 o.lines) 0 =
          add_worth left new ∙ ap (λ (x : ℕ). worth_of c p v left + cond (p (key_for year o)) x 0) (all_paid 8 8 1 o.lines few) in
          omega (arith, marks_worth rs (namings o) e full)

      -- one that replaces nothing
      set_none : (i : ℕ) (new : Record) → i < length rs → lines new ≡ 0 → any_executed (nth rs i).states ≡ false → worth_of c p v (stored_at rs i new) ≡ worth_of c p v rs
      set_none i new h z w =
          ap (worth_of c p v) (stored_set rs i new h) ∙ omega (arith, set_worth rs i new h, none_in new z, none_in (nth rs i) (none_paid v 1 (nth rs i).states _ w))

      waits : lines (written year o no_record Insert) ≡ 0
      unfolding written
      waits = none_paid v 1 (eight_places (replicate (length o.lines) 1)) _ (waiting_all (length o.lines))

      insert_worth : (i : ℕ) → i ≡ length rs → worth_of c p v (records_by year o rs (Ok (Insert, i))) ≡ worth_of c p v rs
      unfolding written
      insert_worth i q =
          let new : Record = written year o (nth rs i) Insert in
          ap (worth_of c p v) (stored_end rs i new q) ∙ omega (arith, add_worth rs new, none_in new waits)

      vary_worth : (i : ℕ) → i < length rs → any_executed (nth rs i).states ≡ false → worth_of c p v (records_by year o rs (Ok (Vary, i))) ≡ worth_of c p v rs
      unfolding written
      vary_worth i h w = set_none i (written year o (nth rs i) Vary) h waits w

      annul_worth : (i : ℕ) → i < length rs → any_executed (nth rs i).states ≡ false → worth_of c p v (records_by year o rs (Ok (Annul, i))) ≡ worth_of c p v rs
      unfolding written
      annul_worth i h w = set_none i (written year o (nth rs i) Annul) h (none_paid v 1 (nth rs i).states _ w) w

      -- what it gives up and brings in, by its change
      abbrev Balanced : Change → ℕ → Bool → Type 0
      Balanced d i u = worth_of c p v (records_by year o rs (Ok (d, i))) + lost (cond u (named_worth p v (namings o)) 0)
          ≡ worth_of c p v rs + cond u (cond (p (key_for year o)) (lines_worth v 1 o.lines) 0) 0

      by_stand : (d : Change) (i : ℕ) → Stands slots year o rs d i → Balanced d i (replacing_change d)
      by_stand d i (replacing y f q l e) = rw y (replace_worth i q e)
      by_stand d i (inserting y f q l) = rw y (omega (arith, insert_worth i q, lost_none))
      by_stand d i (varying y f w) = rw y (omega (arith, vary_worth i (found_below rs (key_for year o) i no_record f) w.waits, lost_none))
      by_stand d i (annulling y f w s) = rw y (omega (arith, annul_worth i (found_below rs (key_for year o) i no_record f) w.waits, lost_none))

      pub order_worth : (j : Result (Change × ℕ) ℕ) → judge_order slots year o rs ≡ j
          → worth_of c p v (records_by year o rs j) + lost (weighs j (given_by p v year o)) ≡ worth_of c p v rs + weighs j (brought_by p v year o)
      order_worth (Ok (d, i)) e =
          let x : is_replacement o.operation ≡ replacing_change d = replaces_is o.operation ∙ ap replacing_change (sym (accepted_change slots year o rs d i e)) in
          rw x (by_stand d i (accepted slots year o rs d i e))
      order_worth (Err code) e = omega (arith, lost_none)

-- CASH
cents_in : (n : ℕ) (states amounts : List ℕ) → executed_in states amounts ≡ worth_in are_executed its_cents n states amounts
unfolding executed_in worth_in
cents_in n [] amounts = refl
cents_in n (s ∷ states) [] = refl
cents_in n (s ∷ states) (a ∷ amounts) = ap (λ (x : ℕ). cond (eqb s 2) a 0 + x) (cents_in (suc n) states amounts)

pub cents_worth : (kind : ℕ) (rs : List Record) → cents_of kind rs ≡ worth (of_kind kind) its_cents rs
unfolding cents_of worth_of
cents_worth kind [] = refl
cents_worth kind (r ∷ rs) =
    let x = cents_in 1 r.states r.amounts in
    let y = cents_worth kind rs in
    λ i. cond (eqb r.kind kind) (x i) 0 + y i

-- NO ORDER MOVES CASH; an accepted notice moves that of its order's kind by exactly its cents
module _ (slots year : ℕ) (o : Ordinativo) (rs : List Record) (full : Full rs) (few : length o.lines ≤ 8) (kind : ℕ) where
  pub order_cash : (j : Result (Change × ℕ) ℕ) → judge_order slots year o rs ≡ j → cents_of kind (records_by year o rs j) ≡ cents_of kind rs
  order_cash j e =
      let x = order_worth are_executed executed_count (of_kind kind) its_cents slots year o rs full few j e in
      let y = ap (weighs j) (kind_even kind year o) in
      cents_worth kind (records_by year o rs j) ∙ omega arith ∙ sym (cents_worth kind rs)

module _ (key : Key) (line : ℕ) (rs : List Record) (i cents kind : ℕ) where
  pub execute_cash : judge_notice true key line rs ≡ Ok (i, cents) → Valid (nth rs i)
      → cents_of kind (records_moved true line rs (Ok (i, cents))) ≡ cents_of kind rs + cond (eqb key.kind kind) cents 0
  execute_cash e ok =
      let x = cents_worth kind (records_moved true line rs (Ok (i, cents))) in
      let y = cents_worth kind rs in
      omega (arith, execute_worth are_executed executed_count (of_kind kind) its_cents key line rs i cents e ok)

  pub reverse_cash : judge_notice false key line rs ≡ Ok (i, cents) → Valid (nth rs i)
      → cents_of kind (records_moved false line rs (Ok (i, cents))) + cond (eqb key.kind kind) cents 0 ≡ cents_of kind rs
  reverse_cash e ok =
      let x = cents_worth kind (records_moved false line rs (Ok (i, cents))) in
      let y = cents_worth kind rs in
      omega (arith, reverse_worth are_executed executed_count (of_kind kind) its_cents key line rs i cents e ok)

-- ONE LINE of one record is worth at most one
module _ (c : States) (line : ℕ) where
  past_it : (n : ℕ) (states amounts : List ℕ) → line < n → worth_in c (on_line line) n states amounts ≡ 0
  unfolding worth_in
  past_it n [] amounts h = refl
  past_it n (s ∷ states) [] h = refl
  past_it n (s ∷ states) (a ∷ amounts) h =
      let z : (n ≡ line → ⊥) = λ q. omega arith in
      let x = cond_none (c s) (ap (λ (u : Bool). cond u 1 0) (ne_eqb n line z)) in
      omega (arith, past_it (suc n) states amounts (omega arith))

  pub one_in : (n : ℕ) (states amounts : List ℕ) → worth_in c (on_line line) n states amounts ≤ 1
  unfolding worth_in
  one_in n [] amounts = omega arith
  one_in n (s ∷ states) [] = omega arith
  one_in n (s ∷ states) (a ∷ amounts) = go (c s) (eqb n line) refl (one_in (suc n) states amounts) (past_it (suc n) states amounts)
    where
      go : (u w : Bool) → eqb n line ≡ w → worth_in c (on_line line) (suc n) states amounts ≤ 1 → (line < suc n → worth_in c (on_line line) (suc n) states amounts ≡ 0)
          → cond u (cond w 1 0) 0 + worth_in c (on_line line) (suc n) states amounts ≤ 1
      go true true e h f = omega (arith, f (omega (arith, eqb-true n line e)))
      go true false e h f = omega arith
      go false w e h f = omega arith
