-- A record's lines judged where their bytes stand: first those past its number of lines, then those that are there.
use Rattle.std.specs.Prelude.{None}
use Rattle.std.specs.Bool.{then_some}
use Prim.Native.Nat.{ℕ, zero, suc, ◌+◌, ◌-◌, ◌*◌, ◌≤◌, ◌<◌}
use mathlib.Core.Bool.{Bool, true, false, ◌&&◌, cond, and-false, and-true, and_assoc}
use mathlib.Core.List.{List}
use mathlib.Core.Path.{◌≡◌, refl, sym, ap, ◌∙◌}
use native.Mathlib.Omega.{arith}
use lib.ListN.{length, get_or, drop, drop_of_length-le}
use lib.Dec.{eqb, leb}
use borrow.Author.Tests.{lt-ltb, le-ltb, le-leb, eqb-true, eqb-false, eq-eqb, ne_eqb}
use Rattle.scan.specs.Bytes.{between}
use Rattle.scan.proofs.Laws.{both}
use Rattle.bounds.specs.Bounds.{max_cents}
use Rattle.words.specs.Numbers.{be8}
use Rattle.record.specs.Slot.{record_at}
use Rattle.record.proofs.Back.{eight_at_lem, be8s_at}
use Rattle.record.specs.declared.Record.{Record}
use Rattle.valid.specs.Valid.{line_there, line_absent, line_ok, all_from, sum, ranges_ok, record_ok, executed_in, executed}
use Rattle.valid.specs.Inner.{judged_by, judged_record}
use Rattle.valid.proofs.Valid.{ranges_bounds}
use Rattle.valid.proofs.Laws.{and_stop, and_go, all_more, all_done, sum_more, sum_over, sum_go, executed_more}

-- ONE LINE, FROM ITS BYTES

module _ (t : List ℕ) (at k a : ℕ) (h : k < 8) (e : a ≡ be8 t (at + 32 + 8 * k)) where
  amount_is : get_or (record_at t at).amounts k 0 ≡ a
  unfolding record_at
  amount_is = be8s_at t (at + 32) k h ∙ sym e

  state_is : get_or (record_at t at).states k 0 ≡ get_or t (at + 24 + k) 0
  unfolding record_at
  state_is = eight_at_lem t (at + 24) k h

  order_is : (record_at t at).state ≡ get_or t (at + 1) 0
  unfolding record_at
  order_is = refl

  past_is : (record_at t at).lines ≤ k → line_ok (record_at t at) k ≡ line_absent (get_or t (at + 24 + k) 0) a
  unfolding line_ok
  past_is l = rw (le-ltb _ _ l, state_is, amount_is)

  there_is : k < (record_at t at).lines → line_ok (record_at t at) k ≡ line_there (eqb (get_or t (at + 1) 0) 2) (get_or t (at + 24 + k) 0) a
  unfolding line_ok
  there_is l = rw (lt-ltb _ _ l, order_is, state_is, amount_is)

-- a line that is there, by its state: what is left of a total bounds its amount
pub there_not : (n : Bool) (s a : ℕ) → between 1 (cond n 1 3) s ≡ false → line_there n s a ≡ false
unfolding line_there
there_not n s a f = ap (λ (x : Bool). x && leb a max_cents) f

pub there_by : (n : Bool) (s a : ℕ) → a ≤ max_cents → between 1 (cond n 1 3) s ≡ true → line_there n s a ≡ true
unfolding line_there
there_by n s a h f = let g = le-leb a max_cents h in λ i. f i && g i

-- THE LINES PAST THE NUMBER OF LINES, from k up to 8

module _ (t : List ℕ) (at k : ℕ) (h : k < 8) (l : (record_at t at).lines ≤ k) where
  first_past : all_from (line_ok (record_at t at)) k (8 - k)
      ≡ (line_absent (get_or t (at + 24 + k) 0) (be8 t (at + 32 + 8 * k)) && all_from (line_ok (record_at t at)) (k + 1) (8 - (k + 1)))
  first_past =
      all_more (line_ok (record_at t at)) k (8 - k) (8 - (k + 1)) (omega arith)
      ∙ ap (λ (x : Bool). x && all_from (line_ok (record_at t at)) (k + 1) (8 - (k + 1))) (past_is t at k (be8 t (at + 32 + 8 * k)) h refl l)

  -- one more of them tested
  pub past_more : (right : Bool) {all next this : Bool} → all ≡ (right && all_from (line_ok (record_at t at)) k (8 - k)) → next ≡ (right && this)
      → this ≡ line_absent (get_or t (at + 24 + k) 0) (be8 t (at + 32 + 8 * k)) → all ≡ (next && all_from (line_ok (record_at t at)) (k + 1) (8 - (k + 1)))
  past_more right e n w =
      let f = all_from (line_ok (record_at t at)) (k + 1) (8 - (k + 1)) in
      let x = n ∙ ap (λ (b : Bool). right && b) w in
      e ∙ ap (λ (b : Bool). right && b) first_past ∙ sym (and_assoc right (line_absent (get_or t (at + 24 + k) 0) (be8 t (at + 32 + 8 * k))) f)
      ∙ sym (ap (λ (b : Bool). b && f) x)

pub past_done : (t : List ℕ) (at k : ℕ) (right : Bool) {all : Bool} → 8 ≤ k → all ≡ (right && all_from (line_ok (record_at t at)) k (8 - k)) → all ≡ right
past_done t at k right h e =
    e ∙ ap (λ (b : Bool). right && b) (all_done (line_ok (record_at t at)) k (8 - k) (omega arith)) ∙ and-true right

-- from a number that is written out
pub past_same : (t : List ℕ) (at n m : ℕ) {b : Bool} → n ≡ m → b ≡ all_from (line_ok (record_at t at)) m (8 - m) → b ≡ all_from (line_ok (record_at t at)) n (8 - n)
past_same t at n m q e = e ∙ ap (λ (j : ℕ). all_from (line_ok (record_at t at)) j (8 - j)) (sym q)

-- THE LINES THAT ARE THERE, from k up to n, and what is left of the total

abbrev pub left_ok : Record → ℕ → ℕ → ℕ → Bool
left_ok r n k rest = all_from (line_ok r) k (n - k) && eqb (sum (drop k r.amounts)) rest

pub left_all : (r : Record) (n : ℕ) → left_ok r n 0 r.total ≡ (all_from (line_ok r) 0 n && eqb (sum r.amounts) r.total)
left_all r n =
    let q : n - 0 ≡ n = omega arith in
    ap (λ (m : ℕ). all_from (line_ok r) 0 m && eqb (sum r.amounts) r.total) q

module _ (t : List ℕ) (at n k rest a : ℕ) (h : k < n) (b : n ≤ 8) (q : n ≡ (record_at t at).lines) (e : a ≡ be8 t (at + 32 + 8 * k)) where
  its_amount : get_or (record_at t at).amounts k 0 ≡ a
  its_amount = amount_is t at k a (omega arith) e

  its_test : line_ok (record_at t at) k ≡ line_there (eqb (get_or t (at + 1) 0) 2) (get_or t (at + 24 + k) 0) a
  its_test = there_is t at k a (omega arith) e (omega arith)

  its_tests : all_from (line_ok (record_at t at)) k (n - k) ≡ (line_ok (record_at t at) k && all_from (line_ok (record_at t at)) (k + 1) (n - (k + 1)))
  its_tests = all_more (line_ok (record_at t at)) k (n - k) (n - (k + 1)) (omega arith)

  eight : length (record_at t at).amounts ≡ 8
  unfolding record_at
  eight = refl

  eight_states : length (record_at t at).states ≡ 8
  unfolding record_at
  eight_states = refl

  pub there_stop : line_there (eqb (get_or t (at + 1) 0) 2) (get_or t (at + 24 + k) 0) a ≡ false → left_ok (record_at t at) n k rest ≡ false
  there_stop f =
      let z = and_stop (line_ok (record_at t at) k) _ its_tests (its_test ∙ f) in
      ap (λ (x : Bool). x && eqb (sum (drop k (record_at t at).amounts)) rest) z

  pub over_stop : rest < a → left_ok (record_at t at) n k rest ≡ false
  over_stop l =
      let z = sum_over (record_at t at).amounts k rest (omega (arith, eight)) (omega (arith, its_amount)) in
      ap (λ (x : Bool). all_from (line_ok (record_at t at)) k (n - k) && x) z ∙ and-false (all_from (line_ok (record_at t at)) k (n - k))

  pub there_go : line_there (eqb (get_or t (at + 1) 0) 2) (get_or t (at + 24 + k) 0) a ≡ true → a ≤ rest → left_ok (record_at t at) n k rest ≡ left_ok (record_at t at) n (k + 1) (rest - a)
  there_go f l =
      let x = and_go (line_ok (record_at t at) k) _ its_tests (its_test ∙ f) in
      let y =
      sum_go (record_at t at).amounts k rest (omega (arith, eight)) (omega (arith, its_amount))
      ∙ ap (λ (v : ℕ). eqb (sum (drop (k + 1) (record_at t at).amounts)) (rest - v)) its_amount in
      λ i. x i && y i

  -- what is executed from here on
  pub there_cents : executed_in (drop k (record_at t at).states) (drop k (record_at t at).amounts)
      ≡ cond (eqb (get_or t (at + 24 + k) 0) 2) a 0 + executed_in (drop (k + 1) (record_at t at).states) (drop (k + 1) (record_at t at).amounts)
  there_cents =
      let x = state_is t at k a (omega arith) e in
      let y = its_amount in
      executed_more (record_at t at).states (record_at t at).amounts k (omega (arith, eight_states)) (omega (arith, eight))
      ∙ (λ i. cond (eqb (x i) 2) (y i) 0 + executed_in (drop (k + 1) (record_at t at).states) (drop (k + 1) (record_at t at).amounts))

-- what is told where a line breaks
pub lines_told : (r : Record) (n : ℕ) → left_ok r n 0 r.total ≡ false
    → None ≡ judged_by (all_from (line_ok r) 0 n && eqb (sum r.amounts) r.total) (executed r)
lines_told r n f = sym (ap (λ (b : Bool). judged_by b (executed r)) (sym (left_all r n) ∙ f))

pub there_done : (r : Record) (n k rest : ℕ) → k ≤ n → n ≤ k → sum (drop n r.amounts) ≡ 0 → left_ok r n k rest ≡ eqb 0 rest
there_done r n k rest h l z =
    let q : k ≡ n = omega arith in
    let x = all_done (line_ok r) k (n - k) (omega arith) in
    let y = ap (λ (j : ℕ). eqb (sum (drop j r.amounts)) rest) q ∙ ap (λ (s : ℕ). eqb s rest) z in
    λ i. x i && y i

-- what the code's last line says: that nothing is left, and the cents
pub told_by : (rest cents : ℕ) {b : Bool} {x : ℕ} → eqb 0 rest ≡ b → cents ≡ x → then_some (eqb rest 0) cents ≡ judged_by b x
told_by rest cents e f = by (eqb rest 0) ∙ (λ i. judged_by ((turned (eqb 0 rest) refl ∙ e) i) (f i))
  where
    by : (k : Bool) → then_some k cents ≡ judged_by k cents
    by true = refl
    by false = refl

    turned : (k : Bool) → eqb 0 rest ≡ k → eqb rest 0 ≡ eqb 0 rest
    turned true g = eq-eqb rest 0 (sym (eqb-true 0 rest g)) ∙ sym g
    turned false g = ne_eqb rest 0 (λ z. eqb-false 0 rest g (sym z)) ∙ sym g

-- THE WHOLE RECORD

pub broken : (r : Record) → record_ok r ≡ false → None ≡ judged_record r
broken r f = sym (ap (λ (b : Bool). judged_by b (executed r)) f)

all_split : (f : ℕ → Bool) (k m n : ℕ) → all_from f k (m + n) ≡ (all_from f k m && all_from f (k + m) n)
unfolding all_from
all_split f k zero n =
    let p : k ≡ k + 0 = omega arith in
    let q : 0 + n ≡ n = omega arith in
    λ i. all_from f (p i) (q i)
all_split f k (suc m) n =
    let p : k + 1 + m ≡ k + suc m = omega arith in
    all_more f k (suc m + n) (m + n) (omega arith)
    ∙ ap (λ (x : Bool). f k && x) (all_split f (k + 1) m n ∙ ap (λ (j : ℕ). all_from f (k + 1) m && all_from f j n) p)
    ∙ sym (and_assoc (f k) (all_from f (k + 1) m) (all_from f (k + suc m) n))

-- a line that isn't there has no amount
no_amount : (r : Record) (k : ℕ) → r.lines ≤ k → line_ok r k ≡ true → get_or r.amounts k 0 ≡ 0
unfolding line_ok line_absent
no_amount r k l e =
    let s = get_or r.states k 0 in
    let a = get_or r.amounts k 0 in
    let q = ap (λ (x : Bool). cond x (line_there (eqb r.state 2) s a) (line_absent s a)) (le-ltb k r.lines l) in
    eqb-true a 0 (both (eqb s 0) (eqb a 0) (sym q ∙ e)).1

no_sum : (r : Record) (k m : ℕ) → r.lines ≤ k → k + m ≡ length r.amounts → all_from (line_ok r) k m ≡ true → sum (drop k r.amounts) ≡ 0
unfolding all_from sum
no_sum r k zero l q e = ap sum (drop_of_length-le r.amounts {i = k} (omega arith))
no_sum r k (suc m) l q e =
    let w = both (line_ok r k) _ e in
    omega (arith, sum_more r.amounts k 0 (omega arith), no_amount r k l w.0, no_sum r (k + 1) m (omega arith) (omega arith) w.1)

pub ranges_not : (r : Record) → ranges_ok r ≡ false → record_ok r ≡ false
unfolding record_ok
ranges_not r f = ap (λ (x : Bool). x && (all_from (line_ok r) 0 8 && eqb (sum r.amounts) r.total)) f

its_parts : (r : Record) (n : ℕ) → n ≤ 8 → ranges_ok r ≡ true → record_ok r ≡ ((all_from (line_ok r) 0 n && all_from (line_ok r) n (8 - n)) && eqb (sum r.amounts) r.total)
unfolding record_ok
its_parts r n b g =
    let p : 8 ≡ n + (8 - n) = omega arith in
    let q : 0 + n ≡ n = omega arith in
    let x =
    ap (all_from (line_ok r) 0) p ∙ all_split (line_ok r) 0 n (8 - n)
    ∙ ap (λ (j : ℕ). all_from (line_ok r) 0 n && all_from (line_ok r) j (8 - n)) q in
    λ i. g i && (x i && eqb (sum r.amounts) r.total)

-- in a slot whose fields lie in their ranges, with n lines
module _ (t : List ℕ) (at : ℕ) {n : ℕ} (e : n ≡ get_or t (at + 2) 0) (g : ranges_ok (record_at t at) ≡ true) where
  pub lines_is : n ≡ (record_at t at).lines
  unfolding record_at
  lines_is = e

  pub lines_most : n ≤ 8
  lines_most = omega (arith, lines_is, (ranges_bounds (record_at t at) g).lines)

  pub past_not : all_from (line_ok (record_at t at)) n (8 - n) ≡ false → record_ok (record_at t at) ≡ false
  past_not f =
      let r = record_at t at in
      its_parts r n lines_most g ∙ ap (λ (x : Bool). (all_from (line_ok r) 0 n && x) && eqb (sum r.amounts) r.total) f
      ∙ ap (λ (x : Bool). x && eqb (sum r.amounts) r.total) (and-false (all_from (line_ok r) 0 n))

  pub past_ok : all_from (line_ok (record_at t at)) n (8 - n) ≡ true
      → record_ok (record_at t at) ≡ (all_from (line_ok (record_at t at)) 0 n && eqb (sum (record_at t at).amounts) (record_at t at).total)
  past_ok f =
      let r = record_at t at in
      its_parts r n lines_most g ∙ ap (λ (x : Bool). (all_from (line_ok r) 0 n && x) && eqb (sum r.amounts) r.total) f
      ∙ ap (λ (x : Bool). x && eqb (sum r.amounts) r.total) (and-true (all_from (line_ok r) 0 n))

  pub past_sum : all_from (line_ok (record_at t at)) n (8 - n) ≡ true → sum (drop n (record_at t at).amounts) ≡ 0
  unfolding record_at
  past_sum = no_sum (record_at t at) n (8 - n) (omega (arith, lines_is)) (omega (arith, lines_most))
