-- WHAT LATER CALLS ANSWER FOR A CLOSED YEAR: no record of it is there, so no search finds one.
use Rattle.std.specs.Prelude.{Option, Result, Some, None, Ok, Err}
use Prim.Native.Nat.{ℕ, ◌+◌, ◌≤◌, ◌<◌}
use mathlib.Core.Path.{◌≡◌, refl, sym, ap, ◌∙◌, subst}
use mathlib.Core.Bool.{Bool, true, false, ◌||◌, cond}
use mathlib.Core.List.Memᴰ
use mathlib.Core.List.{List, [], ◌∷◌, ◌++◌, Memᴰ}
use mathlib.Core.Logic.{◌⊎◌, inl, inr}
use native.Mathlib.Omega.{arith}
use lib.ListN.{length}
use lib.Dec.{eqb}
use borrow.Author.Tests.{le-leb, eqb-true}
use Rattle.scan.specs.Bytes.{text_is}
use Rattle.bounds.specs.Bounds.{is_year, max_flow}
use Rattle.calendar.specs.declared.Date.{Date}
use Rattle.target_days.specs.Target.{target_code}
use Rattle.record.specs.declared.Record.{Record}
use Rattle.record.specs.declared.Key.{Key}
use Rattle.record.specs.Slot.{executed_line}
use Rattle.slots.specs.Slots.{find_in, nth}
use Rattle.body.proofs.Slots.{parts}
use Rattle.entries.specs.Entry.{closed_of, closed_ok, slots_of, place_of, find_code}
use Rattle.table.specs.Table.{table2, bodies, abi_of, records_of, contents_ok, table_ok, body_of, entry_of}
use Rattle.table.proofs.Bodies.{body_at_lem, found_body}
use Rattle.rules.specs.Rules.{notice_at, judge_notice}
use Rattle.rules.proofs.Listed.{found_has}
use Rattle.service.specs.Service.{notice_comes, notice_stored}
use Rattle.replacing.specs.declared.Naming.{Naming}
use Rattle.replacing.specs.Replacing.{named_at, named_code}
use Rattle.notices.specs.declared.NoticeRefusal.{NoticeRefusal}
use Rattle.notices.specs.Notices.{noticed, notice_by, notice_table_by, notice_code_of, NoticePromise}
use Rattle.notices.proofs.Laws.{only_target}
use Rattle.journal.specs.declared.Movement.{Movement}
use Rattle.journal.specs.Journal.{movements_in, whole_movements, movement_of, executed_from, executed_of, executed_lines, journal_code, checked, JournalPromise}
use Rattle.journal.specs.Told.{NoneOf, Right}
use Rattle.journal.proofs.Laws.{call_at}
use Rattle.journal.proofs.Told.{journal_told}
use Rattle.editions.specs.declared.Edition.{Edition}
use Rattle.editions.specs.Editions.{edition_of}
use Rattle.flow.specs.Flow.{verdict_of, header_of}
use Rattle.desk.specs.declared.FlowRefusal.TheVariants.{ClosedYear}
use Rattle.desk.specs.Desk.{refused, flow_reads, flow_code}
use Rattle.desk.proofs.Refusals.{refused_keeps}
use Rattle.salvage.specs.Salvage.{kept_of, repaired}
use Rattle.salvage.proofs.All.{repairs}
use Rattle.year_end.specs.declared.CloseRefusal.{CloseRefusal}
use Rattle.year_end.specs.YearEnd.{ClosePromise, close_code}
use Rattle.closed_years.specs.Told.{CloseApplies, no_year, not_later, earlier, waiting, close_turn}
use Rattle.closed_years.specs.Afterwards.{IsClosed, Afterwards}
use Rattle.closed_years.proofs.Records.{later_each}
use Rattle.closed_years.proofs.Answers.{addressed_at}
use Rattle.closed_years.proofs.Told.{year_is, close_told}
use Rattle.closed_years.proofs.Leaves.{close_leaves}
use Rattle.closed_years.proofs.Blanked.{blanked_place}

-- THE EXECUTED LINES are of their records' years
from_year : (r : Record) (x : Movement) (line : ℕ) (states amounts : List ℕ) → Memᴰ x (executed_from r line states amounts) → x.esercizio ≡ r.esercizio
unfolding executed_from
from_year r x line [] amounts m = absurd (Memᴰ.not-nil m)
from_year r x line (s ∷ states) [] m = absurd (Memᴰ.not-nil m)
from_year r x line (s ∷ states) (a ∷ amounts) m = go (eqb s executed_line) m (from_year r x (line + 1) states amounts)
  where
    go : (b : Bool) → Memᴰ x (cond b (movement_of r line a ∷ executed_from r (line + 1) states amounts) (executed_from r (line + 1) states amounts))
        → (Memᴰ x (executed_from r (line + 1) states amounts) → x.esercizio ≡ r.esercizio) → x.esercizio ≡ r.esercizio
    go true n later = either (Memᴰ.cases_cons n)
      where
        either : (x ≡ movement_of r line a) ⊎ Memᴰ x (executed_from r (line + 1) states amounts) → x.esercizio ≡ r.esercizio
        either (inl q) = ap (λ (y : Movement). y.esercizio) q
        either (inr k) = later k
    go false n later = later n

lines_year : (x : Movement) (rs : List Record) → Memᴰ x (executed_lines rs) → (r : Record) × Memᴰ r rs × (x.esercizio ≡ r.esercizio)
unfolding executed_lines
lines_year x [] m = absurd (Memᴰ.not-nil m)
lines_year x (r ∷ rs) m = go (Memᴰ.append_cases (executed_of r) m) (lines_year x rs)
  where
    go : Memᴰ x (executed_of r) ⊎ Memᴰ x (executed_lines rs) → (Memᴰ x (executed_lines rs) → (y : Record) × Memᴰ y rs × (x.esercizio ≡ y.esercizio))
        → (y : Record) × Memᴰ y (r ∷ rs) × (x.esercizio ≡ y.esercizio)
    go (inl n) later = (r, Memᴰ.head refl, from_year r x 1 r.states r.amounts n)
    go (inr n) later = let w = later n in (w.0, Memᴰ.tail w.1, w.2)

-- A VALID TABLE holds no record of a closed year
module _ (t : List ℕ) (ok : table_ok t ≡ true) (b : ℕ) (l : b < bodies t) where
  none_closed : (r : Record) → Memᴰ r (records_of t (entry_of b)) → closed_of t (entry_of b) < r.esercizio
  none_closed = later_each (closed_of t (entry_of b)) (records_of t (entry_of b)) (body_at_lem t ok b l).holds.later

  -- so no search finds one
  none_found : (k : Key) → IsClosed t b k.esercizio → find_in (records_of t (entry_of b)) 0 k ≡ None
  none_found k c = go (find_in (records_of t (entry_of b)) 0 k) refl
    where
      go : (f : Option ℕ) → find_in (records_of t (entry_of b)) 0 k ≡ f → find_in (records_of t (entry_of b)) 0 k ≡ None
      go None e = e
      go (Some i) e =
          let h = found_has (records_of t (entry_of b)) k i e in
          absurd (omega (arith, none_closed (nth (records_of t (entry_of b)) i) h.among, ap (λ (x : Key). x.esercizio) h.key))

  named_closed : (m : Naming) → IsClosed t b m.key.esercizio → named_code (records_of t (entry_of b)) m ≡ 24
  unfolding named_code named_at
  named_closed m c = ap (named_at (records_of t (entry_of b)) m) (none_found m.key c)

  no_line_closed : (m : Movement) → IsClosed t b m.esercizio → NoneOf m (executed_lines (records_of t (entry_of b)))
  no_line_closed m c x i o = let w = lines_year x (records_of t (entry_of b)) i in omega (arith, o.esercizio, w.2, none_closed w.0 w.1)

-- A NOTICE for such an order
module _ (t : List ℕ) (ok : table_ok t ≡ true) (code : List ℕ) (b : ℕ) (f : body_of t code ≡ Some b) where
  low : b < bodies t
  low = found_body t ok code b f

  notice_closed : (executing : Bool) (k : Key) (line : ℕ) (d : Date) → target_code d ≡ 0 → IsClosed t b k.esercizio
      → (a : Result ℕ NoticeRefusal) (t' : List ℕ) → NoticePromise t executing code k line d a t' → (notice_code_of a ≡ 16) × (t' ≡ t)
  unfolding notice_by notice_table_by notice_comes judge_notice notice_at notice_stored
  notice_closed executing k line d o c a t' p =
      let w = only_target t code executing k line d o p in
      let q = addressed_at t code ok b f in
      let j : notice_comes t (place_of t (entry_of b)) (slots_of t (entry_of b)) executing k line ≡ Err 16 = ap (notice_at executing line (records_of t (entry_of b))) (none_found t ok b low k c) in (
        ap notice_code_of (w.0 ∙ ap (notice_by t executing k line) q ∙ ap noticed j),
        w.1 ∙ ap (notice_table_by t executing k line) q ∙ ap (notice_stored t (entry_of b) (place_of t (entry_of b)) (slots_of t (entry_of b)) executing line) j,
      )

  listed_closed : (s : List ℕ) → whole_movements s ≡ true → (before : List Movement) (m : Movement) (after : List Movement) → movements_in s ≡ before ++ m ∷ after
      → Right (executed_lines (records_of t (entry_of b))) before → IsClosed t b m.esercizio → (c : ℕ) → JournalPromise t code s c → c ≡ 30
  unfolding checked
  listed_closed s whole before m after q R y c p =
      let d = (parts t (place_of t (entry_of b)) (slots_of t (entry_of b)) (body_at_lem t ok b low).holds.body).keys in
      let w = (journal_told (records_of t (entry_of b)) d (movements_in s)).no_such_line.1
      (record { before = before; m = m; after = after; here = q; right = R; wrong = no_line_closed t ok b low m y }) in
      p ∙ sym (call_at t code s (addressed_at t code ok b f)) ∙ ap (λ (x : Bool). cond x (journal_code (executed_lines (records_of t (entry_of b))) [] (movements_in s)) 29) whole ∙ w

-- A FLOW for such a year
flow_reads_lem : (t : List ℕ) → table_ok t ≡ true → (ed : ℕ) (e : Edition) → edition_of ed ≡ Some e → (f : List ℕ) → length f ≤ max_flow → (at : ℕ) → verdict_of e f ≡ Ok at
    → text_is (abi_of t) (header_of e f at).abi ≡ true → (b : ℕ) → body_of t (header_of e f at).ente ≡ Some b → IsClosed t b (header_of e f at).esercizio
    → (room : ℕ) → flow_reads t ed f room ≡ refused (Err ClosedYear)
unfolding flow_reads
flow_reads_lem t ok ed e n f l at v a b w c room =
    rw (ok, n, le-leb (length f) max_flow l, v, a, w, le-leb (header_of e f at).esercizio (closed_of t (entry_of b)) c)

-- A CLOSE of such a year: it is a year, so 37 doesn't stand before 36
last_year : (y : ℕ) → closed_ok y ≡ true → y ≤ 2099
last_year y e = go (eqb y 0) refl e
  where
    go : (x : Bool) → eqb y 0 ≡ x → (x || is_year y) ≡ true → y ≤ 2099
    go true q w = omega (arith, eqb-true y 0 q)
    go false q w = (year_is y w).1

module _ (t : List ℕ) (ok : table_ok t ≡ true) (code : List ℕ) (b : ℕ) (f : body_of t code ≡ Some b) where
  close_closed : (year : ℕ) → 2000 ≤ year → IsClosed t b year → (a : Result ℕ CloseRefusal) (t' : List ℕ) → ClosePromise t code year a t' → (close_code a ≡ 36) × (t' ≡ t)
  close_closed year lo c a t' p =
      let h : close_code a ≡ 36 = ((close_told t code year a t' p).refused ok b f 36 (λ n. omega arith)).1 (not_later c, λ n s. turn s) in
      (h, ((close_leaves t code year a t' p).refused (λ n. omega arith)).0)
    where
      top : closed_of t (entry_of b) ≤ 2099
      top = last_year (closed_of t (entry_of b)) (body_at_lem t ok b (found_body t ok code b f)).own_entry.closed

      turn : {n : ℕ} → CloseApplies (closed_of t (entry_of b)) year (records_of t (entry_of b)) n → 2 ≤ close_turn n
      turn (no_year n) = absurd (n (lo, omega (arith, top)))
      turn (not_later n) = omega arith
      turn (earlier r m n) = omega arith
      turn (waiting r m i j k n) = omega arith

again : (t code : List ℕ) (year : ℕ) (a : Result ℕ CloseRefusal) (t' : List ℕ) → ClosePromise t code year a t' → close_code a ≡ 0
    → (y : ℕ) → 2000 ≤ y → y ≤ year → (x : Result ℕ CloseRefusal) (t'' : List ℕ) → ClosePromise t' code y x t'' → (close_code x ≡ 36) × (t'' ≡ t')
again t code year a t' p z y lo hi x t'' q =
    let w = (close_leaves t code year a t' p).taken z in
    let k = w.2 in
    let f : body_of t' code ≡ Some w.0 = ap (λ (xs : List (List ℕ)). find_code xs 0 code) k.codes ∙ w.1 in
    close_closed t' k.valid code w.0 f y lo (omega (arith, k.closed)) x t'' q

-- SALVAGE: the repaired table is valid, with the kept records and the same closed year
none_kept : (t : List ℕ) → contents_ok table2 t ≡ true → (b : ℕ) → b < bodies t → (r : Record) → Memᴰ r (kept_of t (entry_of b)) → closed_of t (entry_of b) < r.esercizio
none_kept t ok b l r m =
    let w = repairs t ok in
    let h = none_closed (repaired t) w.valid b (omega (arith, w.number)) r (subst (λ (rs : List Record). Memᴰ r rs) (sym (w.records b l)) m) in
    omega (arith, w.closed b l)

pub afterwards : Afterwards
afterwards = record {
  none_closed = none_closed;
  notice_closed = notice_closed;
  named_closed = named_closed;
  no_line_closed = no_line_closed;
  listed_closed = listed_closed;
  flow_closed = λ t ok ed e n f l at v g b w c out a t' out' p.
      let k = refused_keeps t ed f out (flow_reads_lem t ok ed e n f l at v g b w c (length out)) p in
      (ap flow_code k.0, k.1, k.2);
  close_closed = close_closed;
  again = again;
  none_kept = none_kept;
  blanked_closed = λ t ok b l i h v c. blanked_place t b l i h v c;
}
