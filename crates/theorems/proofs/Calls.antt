-- Each call either names no body, and then changes nothing and has one answer, with a code of `stray_codes`, on every good table, or is one body's, and
-- then keeps all but what that body owns, goes by that alone, and is answered with a code of `body_codes`.
use Rattle.std.specs.Prelude.{Ok, Err}
use Prim.Native.Nat.{ℕ, zero, suc, ◌+◌, ◌*◌, ◌≤◌, ◌<◌}
use native.Mathlib.Omega.{arith}
use mathlib.Core.Logic.{inl, inr}
use mathlib.Core.Path.{◌≡◌, refl, sym, ap, ◌∙◌}
use mathlib.Core.Bool.{Bool, true, false}
use mathlib.Core.Option.{Option, none, some}
use mathlib.Core.List.{List, [], ◌∷◌}
use lib.IntN.{pos, ◌-ℤ◌}
use lib.ListN.{length}
use lib.Dec.{leb}
use borrow.Author.Tests.{leb-false}
use Rattle.words.specs.Numbers.{put}
use Rattle.words.proofs.Laws.{Agree}
use Rattle.record.specs.Slot.{slot_size}
use Rattle.target_days.specs.Target.{target_code}
use Rattle.record.specs.declared.Key.{Key}
use Rattle.body.specs.Body.{cents_of, all_later}
use Rattle.entries.specs.Entry.{closed_place, closed_of}
use Rattle.entries.proofs.Same.{closed_agree}
use Rattle.record.specs.declared.Record.{Record}
use Rattle.slots.specs.Slots.{records_at}
use Rattle.body.proofs.Same.{used_agree, records_agree}
use Rattle.table.specs.Table.{bodies, table_ok, entry_of}
use Rattle.address.specs.Address.{addressed}
use Rattle.order.specs.Ordinativo.{Ordinativo}
use Rattle.rules.specs.Rules.{judge_notice}
use Rattle.rules.proofs.Kept.{Writables}
use Rattle.rules.proofs.Later.{orders_later, notice_later}
use Rattle.service.proofs.Kept.{Kept, unchanged, all_kept, all_records_lem}
use Rattle.service.proofs.Moved.{notice_settled, notice_records}
use Rattle.service.specs.Service.{notice_leaves}
use Rattle.service.proofs.Own.{all_own, notice_same, notice_own}
use Rattle.notices.specs.Notices.{noticed, notice_by, notice_table_by, on_day, table_on_day, body_totals, totals_of}
use Rattle.desk.specs.declared.FlowRefusal.TheVariants.{ClosedYear, NoRoom}
use Rattle.desk.specs.Desk.{Reading, refused, served, flow_reads, flow_answer, flow_table, flow_outcomes, flow_code}
use Rattle.journal.specs.Journal.{checked, journal_of}
use Rattle.journal.proofs.Laws.{checked_one}
use Rattle.year_end.specs.YearEnd.{close_by, close_table_by, close_code}
use Rattle.year_end.proofs.Laws.{close_one}
use Rattle.year_end.proofs.Own.{close_same, close_own}
use Rattle.theorems.specs.Engine.{Call, flow, execute, reverse, totals, journal, close, Answer, of_flow, of_notice, of_totals, of_journal, of_close, answer_code, names_on, position, who}
use Rattle.theorems.specs.Codes.{one_of, stray_codes, notice_codes, body_codes, journal_codes, close_codes}
use Rattle.theorems.proofs.Codes.{Or, date_codes, body_notice_codes}
use Rattle.theorems.proofs.Steps.{answer, after}
use Rattle.theorems.proofs.Good.{Good, base, size, Alike, Wrote, settled_wrote, kept_wrote, alike_left, closed_alike, open_is, ready, served as served-by}
use Rattle.theorems.proofs.Closed.{fits, close_wrote, close_rises}
use Rattle.theorems.proofs.Named.{Names, stray, body, names, Reads, refuses, serves, for_year, reads}

-- a call that names no body, and the codes it may have
pub record Stray (t₀ codes : List ℕ) (ans : List ℕ → Answer) (aft : List ℕ → List ℕ) : Type 0 where
  pub still : (t : List ℕ) → Good t₀ t → aft t ≡ t
  pub same : (s t : List ℕ) → Good t₀ s → Good t₀ t → ans s ≡ ans t
  pub code : (t : List ℕ) → Good t₀ t → one_of codes (answer_code (ans t)) ≡ true

-- body b's call
pub record Owned (t₀ codes : List ℕ) (b : ℕ) (ans : List ℕ → Answer) (aft : List ℕ → List ℕ) : Type 0 where
  pub low : b < bodies t₀
  pub wrote : (t : List ℕ) → Good t₀ t → Wrote t₀ t (aft t) b
  pub own : (s t : List ℕ) → Good t₀ s → Good t₀ t → Alike t₀ b s t → (ans s ≡ ans t) × Alike t₀ b (aft s) (aft t)
  -- a year that is closed stays closed
  pub rises : (t : List ℕ) → Good t₀ t → closed_of t (entry_of b) ≤ closed_of (aft t) (entry_of b)
  pub code : (t : List ℕ) → Good t₀ t → one_of codes (answer_code (ans t)) ≡ true

-- with the codes of a call that names no body, and of one that does
abbrev pub Serves : List ℕ → List ℕ → List ℕ → (List ℕ → Answer) → (List ℕ → List ℕ) → Option ℕ → Type 0
Serves t₀ strays bodys ans aft none = Stray t₀ strays ans aft
Serves t₀ strays bodys ans aft (some b) = Owned t₀ bodys b ans aft

module _ (t₀ : List ℕ) (r : table_ok t₀ ≡ true) where
  -- A CALL THAT WRITES INTO ITS BODY'S SLOTS ALONE
  module _ (codes : List ℕ) (b : ℕ) (l : b < bodies t₀) (ans : List ℕ → Answer) (aft : List ℕ → List ℕ) where
    in_slots : ((t : List ℕ) → Good t₀ t → Kept t (aft t) (base t₀ b) (size t₀ b))
        → ((t : List ℕ) → Good t₀ t → all_later (closed_of t (entry_of b)) (records_at (aft t) (base t₀ b) (size t₀ b)) ≡ true)
        → ((s t : List ℕ) → Good t₀ s → Good t₀ t → Alike t₀ b s t → (ans s ≡ ans t) × Agree (aft s) (base t₀ b) (aft t) (base t₀ b) (slot_size * size t₀ b))
        → ((t : List ℕ) → Good t₀ t → one_of codes (answer_code (ans t)) ≡ true)
        → Owned t₀ codes b ans aft
    in_slots kept later own code = record {
      low = l;
      wrote = λ t g. kept_wrote t₀ r t (aft t) g b l (kept t g) (later t g);
      own = λ s t g h a. let x = own s t g h a in (x.0, alike_left t₀ r b l a (kept s g) (kept t h) x.1);
      rises = λ t g. let e = (served-by t₀ r t g b l).entry in let q = closed_agree (entry_of b) (entry_of b) ((kept t g).before (entry_of b + closed_place) 2 (omega arith)) in omega arith;
      code = code;
    }

  -- A NOTICE
  module _ (executing : Bool) (code : List ℕ) (k : Key) (line : ℕ) where
    abbrev notice_ans : ℕ → List ℕ → Answer
    notice_ans c t = of_notice (on_day c t (notice_by t executing k line (addressed t code)))

    abbrev notice_aft : ℕ → List ℕ → List ℕ
    notice_aft c t = table_on_day c t (notice_table_by t executing k line (addressed t code))

    moved_open : (t : List ℕ) (g : Good t₀ t) (b : ℕ) (l : b < bodies t₀)
        → all_later (closed_of t (entry_of b)) (records_at (notice_leaves t (entry_of b) (base t₀ b) (size t₀ b) executing k line) (base t₀ b) (size t₀ b)) ≡ true
    moved_open t g b l =
        let rs = records_at t (base t₀ b) (size t₀ b) in
        ap (all_later (closed_of t (entry_of b))) (notice_records t (entry_of b) (base t₀ b) (size t₀ b) executing k line (served-by t₀ r t g b l))
        ∙ notice_later (closed_of t (entry_of b)) executing line rs (judge_notice executing k line rs) (open_is t₀ r t g b l)

    notice_serves : {w : Option ℕ} → Names t₀ code w → Serves t₀ (7 ∷ 27 ∷ 28 ∷ []) (notice_codes executing) (notice_ans 0) (notice_aft 0) w
    unfolding notice_by notice_table_by
    notice_serves (stray n) =
        record { still = λ t g. rw (n t g); same = λ s t g h. rw (n s g, n t h); code = λ t g. rw (n t g) }
    notice_serves (body b l n) =
        record {
          low = l;
          wrote = λ t g.
              settled_wrote t₀ r t (notice_aft 0 t) g b l
              (rw (n t g) (notice_settled t (entry_of b) (base t₀ b) (size t₀ b) executing k line (served-by t₀ r t g b l)))
              (rw (n t g) (moved_open t g b l));
          own = λ s t g h a.
              let x = ready t₀ r s g b l in
              let y = ready t₀ r t h b l in
              let w = notice_own a.slots a.tail (served-by t₀ r s g b l) (served-by t₀ r t h b l) executing k line in
              rw (n s g, n t h)
              (ap (λ m. of_notice (noticed m)) (notice_same (size t₀ b) a.slots x.0 y.0 executing k line), record { tail = w.1; slots = w.0 });
          rises = λ t g.
              let e = served-by t₀ r t g b l in
              let s = notice_settled t (entry_of b) (base t₀ b) (size t₀ b) executing k line e in
              let q = closed_agree (entry_of b) (entry_of b) (s.between (entry_of b + closed_place) 2 (omega arith) (omega (arith, e.entry))) in
              rw (n t g) (omega arith);
          code = λ t g. rw (n t g) (body_notice_codes t (base t₀ b) (size t₀ b) executing k line);
        }

    -- of a date whose code is c
    dated_serves : (c : ℕ) → Or (7 ∷ 27 ∷ 28 ∷ []) c
        → Serves t₀ (7 ∷ 27 ∷ 28 ∷ []) (notice_codes executing) (notice_ans c) (notice_aft c) (position t₀ (names_on c code))
    dated_serves zero h = notice_serves (names t₀ r code)
    dated_serves (suc c) (inl e) = absurd (omega arith)
    dated_serves (suc c) (inr e) = record {
      still = λ t g. refl;
      same = λ s t g h. rw (g.ok, h.ok) refl;
      code = λ t g. rw g.ok e;
    }

  -- TOTALS
  totals_same : (s t : List ℕ) (b : ℕ) → Alike t₀ b s t → body_totals s (base t₀ b) (size t₀ b) ≡ body_totals t (base t₀ b) (size t₀ b)
  unfolding body_totals
  totals_same s t b a =
      let u = used_agree (size t₀ b) a.slots in
      let v = records_agree (size t₀ b) a.slots in
      λ i. record { code = 0; used = u i; paid = cents_of 1 (v i); collected = cents_of 2 (v i); balance = pos (cents_of 2 (v i)) -ℤ pos (cents_of 1 (v i)) }

  totals_serves : (code : List ℕ) {w : Option ℕ} → Names t₀ code w → Serves t₀ (stray_codes (totals code)) (body_codes (totals code)) (answer (totals code)) (after (totals code)) w
  unfolding totals_of body_totals
  totals_serves code (stray n) =
      record { still = λ t g. refl; same = λ s t g h. rw (n s g, n t h); code = λ t g. rw (n t g) }
  totals_serves code (body b l n) =
      in_slots (body_codes (totals code)) b l (answer (totals code)) (after (totals code))
      (λ t g. unchanged t (base t₀ b) (size t₀ b) (ready t₀ r t g b l).1)
      (λ t g. open_is t₀ r t g b l)
      (λ s t g h a. (rw (n s g, n t h) (ap of_totals (totals_same s t b a)), a.slots))
      (λ t g. rw (n t g))

  -- A JOURNAL
  journal_serves : (code m : List ℕ) {w : Option ℕ} → Names t₀ code w
      → Serves t₀ (stray_codes (journal code m)) (body_codes (journal code m)) (answer (journal code m)) (after (journal code m)) w
  unfolding journal_of
  journal_serves code m (stray n) =
      record { still = λ t g. refl; same = λ s t g h. rw (n s g, n t h); code = λ t g. rw (n t g) }
  journal_serves code m (body b l n) =
      in_slots (body_codes (journal code m)) b l (answer (journal code m)) (after (journal code m))
      (λ t g. unchanged t (base t₀ b) (size t₀ b) (ready t₀ r t g b l).1)
      (λ t g. open_is t₀ r t g b l)
      (λ s t g h a. (rw (n s g, n t h) (ap (λ (rs : List Record). of_journal (checked rs m)) (records_agree (size t₀ b) a.slots)), a.slots))
      (λ t g. rw (n t g) (checked_one (λ c. one_of journal_codes c ≡ true) refl refl refl refl refl refl (records_at t (base t₀ b) (size t₀ b)) m))

  -- A CLOSE
  close_serves : (code : List ℕ) (year : ℕ) {w : Option ℕ} → Names t₀ code w
      → Serves t₀ (stray_codes (close code year)) (body_codes (close code year)) (answer (close code year)) (after (close code year)) w
  unfolding close_by close_table_by
  close_serves code year (stray n) =
      record { still = λ t g. rw (n t g); same = λ s t g h. rw (n s g, n t h); code = λ t g. rw (n t g) }
  close_serves code year (body b l n) =
      record {
        low = l;
        wrote = λ t g. rw (n t g) (close_wrote t₀ r t g b l year);
        own = λ s t g h a.
            let S = fits t₀ r s g b l in
            let T = fits t₀ r t h b l in
            let w = close_own year a.slots a.tail S T in
            rw (n s g, n t h) (ap of_close (close_same year a.slots a.tail S T), record { tail = w.1; slots = w.0 });
        rises = λ t g. rw (n t g) (close_rises t₀ r t g b l year);
        code = λ t g. rw (n t g)
            (close_one (λ x. one_of close_codes (close_code x) ≡ true) (closed_of t (entry_of b)) year (records_at t (base t₀ b) (size t₀ b)) refl refl refl refl refl);
      }

  -- A FLOW
  module _ (ed : ℕ) (f out : List ℕ) where
    answered : (t : List ℕ) (x : Reading) → flow_reads t ed f (length out) ≡ x → answer (flow ed f out) t ≡ of_flow (flow_answer t x) (flow_outcomes t out x)
    answered t x e = ap (λ (y : Reading). of_flow (flow_answer t y) (flow_outcomes t out y)) e

    -- a body's flow, refused by its year or its room, or served
    module _ (b : ℕ) (l : b < bodies t₀) (year : ℕ) (os : List Ordinativo) (w : Writables os) (y : (2000 ≤ year) × (year ≤ 2099)) where
      abbrev For : Bool → Bool → Reading
      For u c = for_year (base t₀ b) (size t₀ b) year os u c

      for_kept : (t : List ℕ) → Good t₀ t → (u c : Bool) → Kept t (flow_table t (For u c)) (base t₀ b) (size t₀ b)
      for_kept t g u true = unchanged t (base t₀ b) (size t₀ b) (ready t₀ r t g b l).1
      for_kept t g false false = unchanged t (base t₀ b) (size t₀ b) (ready t₀ r t g b l).1
      for_kept t g true false = let z = ready t₀ r t g b l in all_kept t (base t₀ b) (size t₀ b) year os z.0 z.1 w y

      for_open : (t : List ℕ) → Good t₀ t → (u c : Bool) → leb year (closed_of t (entry_of b)) ≡ c
          → all_later (closed_of t (entry_of b)) (records_at (flow_table t (For u c)) (base t₀ b) (size t₀ b)) ≡ true
      for_open t g u true q = open_is t₀ r t g b l
      for_open t g false false q = open_is t₀ r t g b l
      for_open t g true false q =
          let z = ready t₀ r t g b l in
          ap (all_later (closed_of t (entry_of b))) (all_records_lem t (base t₀ b) (size t₀ b) year os z.0 z.1 w y)
          ∙ orders_later (closed_of t (entry_of b)) (size t₀ b) year (leb-false year (closed_of t (entry_of b)) q) os (records_at t (base t₀ b) (size t₀ b)) (open_is t₀ r t g b l)

      for_own : (s t : List ℕ) → Good t₀ s → Good t₀ t → Alike t₀ b s t → (u c : Bool) → flow_reads s ed f (length out) ≡ For u c → flow_reads t ed f (length out) ≡ For u c
          → (answer (flow ed f out) s ≡ answer (flow ed f out) t)
          × Agree (after (flow ed f out) s) (base t₀ b) (after (flow ed f out) t) (base t₀ b) (slot_size * size t₀ b)
      for_own s t g h a u true p q = (answered s (refused (Err ClosedYear)) p ∙ sym (answered t (refused (Err ClosedYear)) q), rw (p, q) a.slots)
      for_own s t g h a false false p q = (answered s (refused (Err NoRoom)) p ∙ sym (answered t (refused (Err NoRoom)) q), rw (p, q) a.slots)
      for_own s t g h a true false p q =
          let x : Reading = served (base t₀ b) (size t₀ b) year os in
          let m = all_own (size t₀ b) year os a.slots (ready t₀ r s g b l) (ready t₀ r t h b l) w y in
          let c : of_flow (flow_answer s x) (flow_outcomes s out x) ≡ of_flow (flow_answer t x) (flow_outcomes t out x) =
          λ i. of_flow (Ok ((length os), (m.accepted i), (m.steps i))) (put out 0 (m.outcomes i)) in
          (answered s x p ∙ c ∙ sym (answered t x q), rw (p, q) m.left)

    for_coded : (t : List ℕ) (at n year : ℕ) (os : List Ordinativo) (u c : Bool) → one_of (body_codes (flow ed f out)) (flow_code (flow_answer t (for_year at n year os u c))) ≡ true
    for_coded t at n year os u true = refl
    for_coded t at n year os false false = refl
    for_coded t at n year os true false = refl

    flow_serves : {w : Option ℕ} → Reads t₀ ed f out w → Serves t₀ (stray_codes (flow ed f out)) (body_codes (flow ed f out)) (answer (flow ed f out)) (after (flow ed f out)) w
    flow_serves (refuses a n e) = record {
      still = λ t g. ap (flow_table t) (e t g);
      same = λ s t g h. answered s (refused a) (e s g) ∙ sym (answered t (refused a) (e t h));
      code = λ t g. rw (e t g) n;
    }
    flow_serves (serves b l year os w y u e) =
        in_slots (body_codes (flow ed f out)) b l (answer (flow ed f out)) (after (flow ed f out))
        (λ t g. rw (e t g) (for_kept b l year os w y t g u (leb year (closed_of t (entry_of b)))))
        (λ t g. rw (e t g) (for_open b l year os w y t g u (leb year (closed_of t (entry_of b))) refl))
        (λ s t g h a.
        let q = e s g ∙ ap (λ (c : ℕ). for_year (base t₀ b) (size t₀ b) year os u (leb year c)) (closed_alike b a) in
        for_own b l year os w y s t g h a u (leb year (closed_of t (entry_of b))) q (e t h))
        (λ t g. rw (e t g) (for_coded t (base t₀ b) (size t₀ b) year os u (leb year (closed_of t (entry_of b)))))

  -- EVERY CALL
  pub every : (c : Call) → Serves t₀ (stray_codes c) (body_codes c) (answer c) (after c) (who t₀ c)
  every (flow ed f out) = flow_serves ed f out (reads t₀ r ed f out)
  every (execute code k line d) = dated_serves true code k line (target_code d) (date_codes d)
  every (reverse code k line d) = dated_serves false code k line (target_code d) (date_codes d)
  every (totals code) = totals_serves code (names t₀ r code)
  every (journal code m) = journal_serves code m (names t₀ r code)
  every (close code year) = close_serves code year (names t₀ r code)
