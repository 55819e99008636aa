-- Totals kept in the contents, proved: kept after any calls, read from the contents alone, and moved by notices only.
use Rattle.std.specs.Prelude.{Result, Some, Ok}
use Prim.Native.Nat.{ℕ, zero, suc, ◌+◌, ◌-◌, ◌*◌, ◌≤◌, ◌<◌}
use lib.IntN.{pos, ◌-ℤ◌}
use mathlib.Core.Path.{◌≡◌, refl, sym, ap, ◌∙◌}
use mathlib.Core.Bool.{Bool, true, false}
use mathlib.Core.List.{List}
use native.Mathlib.Omega.{arith}
use lib.ListN.{length, get_or, drop, length-drop}
use lib.Seq.{length-take-le, get_or-take, get_or-drop}
use Rattle.calendar.specs.declared.Date.{Date}
use Rattle.target_days.specs.Target.{target_code}
use Rattle.words.proofs.Laws.{Agree, same2, same8}
use Rattle.record.specs.declared.Key.{Key}
use Rattle.record.specs.declared.Record.{Record}
use Rattle.slots.specs.Slots.{records_at}
use Rattle.body.specs.Body.{body_ok, cents_of}
use Rattle.entries.specs.Entry.{entry_size, request_size, kept_place, kept, slots_of, place_of, codes_from, find_code}
use Rattle.entries.proofs.Same.{Rows, codes_rows}
use Rattle.entries.proofs.Same.Rows.{none, row}
use Rattle.table.specs.Table.{table2, head_size, bodies, table_ok, body_of, entry_of}
use Rattle.table.proofs.Laws.{head, table}
use Rattle.table.proofs.Bodies.{body_at_lem, found_body}
use Rattle.rules.specs.Rules.{judge_notice}
use Rattle.rules.specs.Effects.{records_moved}
use Rattle.rules.specs.Worth.{worth, of_kind, its_cents}
use Rattle.service.specs.Service.{order_comes}
use Rattle.service.proofs.Totals.{agrees_is}
use Rattle.service.proofs.Worth.{full_at, order_cash, cents_worth}
use Rattle.notices.specs.declared.NoticeRefusal.{NoticeRefusal}
use Rattle.notices.specs.Notices.{noticed, NoticePromise}
use Rattle.theorems.specs.Engine.{body_records, table_after}
use Rattle.theorems.specs.History.{weight}
use Rattle.theorems.specs.Totals.{KeptTrue, contents_of, OnScreen, CashMoved}
use Rattle.theorems.proofs.Condition2.{condition2}
use Rattle.theorems.proofs.Good.{count_is}
use Rattle.theorems.proofs.History.{good, worth_weighs}

pub kept_true : KeptTrue
kept_true E t₀ r cs b l =
    let t = table_after E t₀ cs in
    let g = good E t₀ r cs in
    let w = body_at_lem t g.ok b (omega (arith, count_is t₀ r t g)) in
    agrees_is t (entry_of b) (body_records b t) (w.holds.kept refl)

-- THE CONTENTS ALONE
module _ (t : List ℕ) (ok : table_ok t ≡ true) where
  abbrev size : ℕ
  size = head_size + entry_size * bodies t

  room : size ≤ length t
  room = (head table2 t (table table2 t ok).head_ok).room

  long : length (contents_of t) ≡ size
  long = length-take-le (size - 0) (drop 0 t) (omega (arith, room, length-drop 0 t)) ∙ omega arith

  -- they are the table's
  piece : (at n : ℕ) → at + n ≤ size → Agree (contents_of t) at t at n
  piece at n h = record {
    same = λ i b.
        let z : 0 + (at + i) ≡ at + i = omega arith in
        get_or-take (size - 0) (drop 0 t) (at + i) 0 (omega arith) ∙ get_or-drop 0 t (at + i) 0 ∙ ap (λ (x : ℕ). get_or t x 0) z;
  }

  rows : (at n : ℕ) → at + entry_size * n ≤ size → Rows (contents_of t) t entry_size entry_size at at n
  rows at zero h = none
  rows at (suc n) h =
      let r = room in
      let l = long in
      row (piece at request_size (omega arith)) (omega arith) (omega arith) (rows (at + entry_size) n (omega arith))

  same_bodies : bodies (contents_of t) ≡ bodies t
  same_bodies = same2 (piece 0 2 (omega arith)) (omega arith)

  same_find : (code : List ℕ) → body_of (contents_of t) code ≡ body_of t code
  same_find code =
      let c = ap (codes_from entry_size (contents_of t) head_size) same_bodies ∙ codes_rows (rows head_size (bodies t) (omega arith)) (table table2 t ok).forms in
      λ i. find_code (c i) 0 code

  module _ (b : ℕ) (h : b < bodies t) where
    same_kept : (kind : ℕ) → kept_place kind + 8 ≤ entry_size → kept kind (contents_of t) (entry_of b) ≡ kept kind t (entry_of b)
    same_kept kind f = same8 (piece (entry_of b + kept_place kind) 8 (omega arith)) (omega arith)

    -- what is kept there is what the records come to
    screen : (kept 1 (contents_of t) (entry_of b) ≡ cents_of 1 (body_records b t)) × (kept 2 (contents_of t) (entry_of b) ≡ cents_of 2 (body_records b t))
    screen =
        let w = agrees_is t (entry_of b) (body_records b t) ((body_at_lem t ok b h).holds.kept refl) in
        (same_kept 1 (omega arith) ∙ w.0, same_kept 2 (omega arith) ∙ w.1)

pub on_screen : OnScreen
on_screen t ok code a p = (
  λ b e.
      let f = sym (same_find t ok code) ∙ e in
      let w = condition2.totals t ok code b f a p in
      let s = screen t ok b (found_body t ok code b f) in
      let x = w.2 ∙ sym s.0 in
      let y = w.3 ∙ sym s.1 in
      (w.0, x, y, w.4 ∙ (λ i. pos (y i) -ℤ pos (x i))),
  λ e. (condition2.totals_refused t code a p).1 ok (sym (same_find t ok code) ∙ e),
)

-- WHAT MOVES CASH: an accepted notice, as its records weigh it
module _ (t : List ℕ) (ok : table_ok t ≡ true) (code : List ℕ) (b : ℕ) (e : body_of t code ≡ Some b) (x : Bool) (k : Key) (line : ℕ) (d : Date) (z : target_code d ≡ 0)
    (a : Result ℕ NoticeRefusal) (t' : List ℕ) (p : NoticePromise t x code k line d a t') where
  abbrev rs : List Record
  rs = body_records b t

  body_ok_lem : body_ok t (place_of t (entry_of b)) (slots_of t (entry_of b)) ≡ true
  body_ok_lem = (body_at_lem t ok b (found_body t ok code b e)).holds.body

  left : (y : Bool) → x ≡ y → (kind : ℕ) → cents_of kind (records_at t' (place_of t (entry_of b)) (slots_of t (entry_of b)))
      ≡ worth (of_kind kind) its_cents (records_moved y line rs (judge_notice y k line rs))
  left y q kind =
      ap (cents_of kind) (condition2.moved t ok code b e x k line d z a t' p ∙ (λ i. records_moved (q i) line rs (judge_notice (q i) k line rs)))
      ∙ cents_worth kind (records_moved y line rs (judge_notice y k line rs))

  weighed : (y : Bool) → x ≡ y → (cents : ℕ) → a ≡ Ok cents → (kind : ℕ)
      → weight (of_kind kind) its_cents k line (noticed (judge_notice y k line rs)) ≡ weight (of_kind kind) its_cents k line (Ok cents)
  weighed y q cents f kind =
      ap (weight (of_kind kind) its_cents k line)
      ((λ i. noticed (judge_notice (sym q i) k line rs)) ∙ sym (condition2.notices t ok code b e x k line d z a t' p) ∙ f)

pub cash_moved : CashMoved
unfolding order_comes
cash_moved = record {
  order_cash = λ t ok b l year o few kind. order_cash (slots_of t (entry_of b)) year o (body_records b t) (full_at t (place_of t (entry_of b)) (slots_of t (entry_of b))) few kind _ refl;
  execute_cash = λ t ok code b e x k line d z a t' p q cents f kind.
      let m = judge_notice true k line (body_records b t) in
      let w = (worth_weighs (of_kind kind) its_cents).executes t (place_of t (entry_of b)) (slots_of t (entry_of b)) (body_ok_lem t ok code b e x k line d z a t' p) k line m refl in
      omega (arith, left t ok code b e x k line d z a t' p true q kind, weighed t ok code b e x k line d z a t' p true q cents f kind, cents_worth kind (body_records b t));
  reverse_cash = λ t ok code b e x k line d z a t' p q cents f kind.
      let m = judge_notice false k line (body_records b t) in
      let w = (worth_weighs (of_kind kind) its_cents).reverses t (place_of t (entry_of b)) (slots_of t (entry_of b)) (body_ok_lem t ok code b e x k line d z a t' p) k line m refl in
      omega (arith, left t ok code b e x k line d z a t' p false q kind, weighed t ok code b e x k line d z a t' p false q cents f kind, cents_worth kind (body_records b t));
}
