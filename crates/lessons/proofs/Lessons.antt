-- THE THEOREM: the room and every table engine that keeps the promises agree at each lesson, and so over every sequence of them.
use Rattle.std.specs.Prelude.{Ok}
use mathlib.Core.Path.{◌≡◌, refl, sym, ap, ◌∙◌, subst}
use mathlib.Core.Bool.{true, false}
use mathlib.Core.List.{List, [], ◌∷◌}
use Prim.Native.Nat.{ℕ, ◌≤◌}
use lib.ListN.{length}
use Rattle.target_days.specs.Target.{target_code}
use Rattle.isolation.specs.Machine.{state_after, log}
use Rattle.theorems.specs.Engine.{Answer, of_flow, of_notice, of_totals, Engine, answer_code}
use Rattle.theorems.proofs.Steps.{one_step}
use Rattle.theorems.proofs.Steps as desk
use Rattle.theorems.proofs.Condition3.{condition3}
use Rattle.table.specs.Table.{head_size, bodies}
use Rattle.plain.specs.Plain.{Plain, body_in, numbered}
use Rattle.plain.specs.Flows.{flow_teaches, taught_answer, taught_room, taught_outcomes}
use Rattle.plain.specs.Notices.{notice_for, room_for, day_answer, day_room, totals_for}
use Rattle.plain.specs.Says.{plain_of, small}
use Rattle.enrolment.specs.Enrolment.{room_by, EnrolPromise}
use Rattle.lessons.specs.Lessons.{Lesson, flow, execute, reverse, totals, at_desk, Teach, Learns, nothing, lesson, on_table, taken, Lessons}
use Rattle.lessons.proofs.Fit.{Fit, ready_fit, fit_ready}
use Rattle.lessons.proofs.Listed.{within_slots}
use Rattle.lessons.proofs.Image.{Leads, still}
use Rattle.lessons.proofs.Agree.{flow_matches, flow_answers, flow_leads, notice_answers, notice_leads, totals_answers}

-- THE ROOM'S ENGINE: the promises allow one answer and one room for each lesson
abbrev answer : Lesson → Plain → Answer
answer (flow ed f out) s = of_flow (taught_answer s (flow_teaches s ed f (length out))) (taught_outcomes s out (flow_teaches s ed f (length out)))
answer (execute code k line d) s = of_notice (day_answer (target_code d) (notice_for s true k line (numbered s code)))
answer (reverse code k line d) s = of_notice (day_answer (target_code d) (notice_for s false k line (numbered s code)))
answer (totals code) s = of_totals (totals_for s (numbered s code))

abbrev after : Lesson → Plain → Plain
after (flow ed f out) s = taught_room s (flow_teaches s ed f (length out))
after (execute code k line d) s = day_room (target_code d) s (room_for s true k line (numbered s code))
after (reverse code k line d) s = day_room (target_code d) s (room_for s false k line (numbered s code))
after (totals code) s = s

steps : (c : Lesson) (s : Plain) → Teach c s (answer c s) (after c s)
steps (flow ed f out) s = (taught_answer s (flow_teaches s ed f (length out)), taught_outcomes s out (flow_teaches s ed f (length out)), (refl, refl, refl), refl)
steps (execute code k line d) s = (day_answer (target_code d) (notice_for s true k line (numbered s code)), (refl, refl), refl)
steps (reverse code k line d) s = (day_answer (target_code d) (notice_for s false k line (numbered s code)), (refl, refl), refl)
steps (totals code) s = (totals_for s (numbered s code), refl, refl, refl)

one_lesson : (c : Lesson) (s : Plain) (a : Answer) (s' : Plain) → Teach c s a s' → (a ≡ answer c s) × (s' ≡ after c s)
one_lesson (flow ed f out) s a s' p = (p.3 ∙ (λ i. of_flow (p.2.0 i) (p.2.2 i)), p.2.1)
one_lesson (execute code k line d) s a s' p = (p.2 ∙ ap of_notice p.1.0, p.1.1)
one_lesson (reverse code k line d) s a s' p = (p.2 ∙ ap of_notice p.1.0, p.1.1)
one_lesson (totals code) s a s' p = (p.2 ∙ ap of_totals p.1, p.3)

-- EVERY CALL, on a fit table and the room that it says
one_answer : (c : Lesson) (t : List ℕ) → Fit t → answer c (plain_of t) ≡ desk.answer (at_desk c) t
one_answer (flow ed f out) t F = let x = flow_answers t F out (flow_matches t F ed f (length out)) in λ i. of_flow (x.0 i) (x.1 i)
one_answer (execute code k line d) t F = ap of_notice (notice_answers t F true code k line (target_code d))
one_answer (reverse code k line d) t F = ap of_notice (notice_answers t F false code k line (target_code d))
one_answer (totals code) t F = ap of_totals (totals_answers t F code)

one_room : (c : Lesson) (t : List ℕ) → Fit t → Leads t (after c (plain_of t)) (desk.after (at_desk c) t)
one_room (flow ed f out) t F = flow_leads t F (flow_matches t F ed f (length out))
one_room (execute code k line d) t F = notice_leads t F true code k line (target_code d)
one_room (reverse code k line d) t F = notice_leads t F false code k line (target_code d)
one_room (totals code) t F = still t F

-- of a table engine E
module _ (E : Engine) where
  its_table : (c : Lesson) (t : List ℕ) → E.next (at_desk c) t ≡ desk.after (at_desk c) t
  its_table c t = (one_step (at_desk c) t (E.answer (at_desk c) t) (E.next (at_desk c) t) (E.keeps (at_desk c) t)).1

  next_fit : (c : Lesson) (t : List ℕ) → Fit t → Fit (E.next (at_desk c) t)
  next_fit c t F = subst Fit (sym (its_table c t)) (one_room c t F).fit

  fit_after : (cs : List Lesson) (t : List ℕ) → Fit t → Fit (state_after (on_table E) cs t)
  fit_after [] t F = F
  fit_after (c ∷ cs) t F = fit_after cs (E.next (at_desk c) t) (next_fit c t F)

  large_after : (cs : List Lesson) (t : List ℕ) → Fit t → small (state_after (on_table E) cs t) ≡ small t
  large_after [] t F = refl
  large_after (c ∷ cs) t F = large_after cs (E.next (at_desk c) t) (next_fit c t F) ∙ ap (λ (u : List ℕ). small u) (its_table c t) ∙ (one_room c t F).large

  -- EVERY SEQUENCE, from the room that the table says
  same : {s u : Plain} {ls : List (Lesson × Answer)} (t : List ℕ) → Fit t → s ≡ plain_of t → Learns s ls u
      → (log (on_table E) (taken ls) t ≡ ls) × (u ≡ plain_of (state_after (on_table E) (taken ls) t))
  same t F e (nothing s) = (refl, e)
  same t F e (lesson {s} {s'} {u} {c} {a} {ls} p q) =
      let w = one_lesson c s a s' p in
      let x : E.answer (at_desk c) t ≡ a =
      (one_step (at_desk c) t (E.answer (at_desk c) t) (E.next (at_desk c) t) (E.keeps (at_desk c) t)).0 ∙ sym (one_answer c t F) ∙ ap (answer c) (sym e) ∙ sym w.0 in
      let y : s' ≡ plain_of (E.next (at_desk c) t) = w.1 ∙ ap (after c) e ∙ (one_room c t F).says ∙ sym (ap (λ (v : List ℕ). plain_of v) (its_table c t)) in
      let z = same (E.next (at_desk c) t) (next_fit c t F) y q in
      (λ i. (c, x i) ∷ z.0 i, z.1)

-- A ROOM MADE OF A TABLE
made : (t : List ℕ) (s : Plain) → EnrolPromise t (Ok tt) s → Fit t × (s ≡ plain_of t)
made t s p = ((ready_fit t (sym p.0)).0, p.1 ∙ ap (room_by t) (sym p.0))

-- no lesson is answered 1, since the table engine that there is answers none so
not_invalid : (t : List ℕ) (s u s' : Plain) (ls : List (Lesson × Answer)) (c : Lesson) (a : Answer) → EnrolPromise t (Ok tt) s → Learns s ls u → Teach c u a s' → answer_code a ≡ 1 → ⊥
not_invalid t s u s' ls c a p q r e =
    let E = desk.ours in
    let w = made t s p in
    let v = state_after (on_table E) (taken ls) t in
    let G = fit_after E (taken ls) t w.0 in
    let x : a ≡ E.answer (at_desk c) v =
    (one_lesson c u a s' r).0 ∙ ap (answer c) (same E t w.0 w.1 q).1 ∙ one_answer c v G
    ∙ sym (one_step (at_desk c) v (E.answer (at_desk c) v) (E.next (at_desk c) v) (E.keeps (at_desk c) v)).0 in
    (condition3 E v G.valid).never_invalid [] (at_desk c) (sym (ap answer_code x) ∙ e)

pub lessons : Lessons
lessons = record {
  answers = λ E t s u ls p q. let w = made t s p in (same E t w.0 w.1 q).0;
  lists = λ E t s u ls p q. let w = made t s p in (same E t w.0 w.1 q).1;
  within = λ t s u ls b p q.
      let w = made t s p in
      let v = state_after (on_table desk.ours) (taken ls) t in
      subst (λ (x : Plain). length (body_in x b).orders ≤ (body_in x b).slots) (sym (same desk.ours t w.0 w.1 q).1) (within_slots v head_size (bodies v) b);
  stays = λ E cs t e. let w = ready_fit t e in fit_ready (state_after (on_table E) cs t) (fit_after E cs t w.0) (large_after E cs t w.0 ∙ w.1);
  never_invalid = not_invalid;
  answered = λ c s. (answer c s, after c s, steps c s);
  one_answer = λ c s a b s' s'' p q.
      let x = one_lesson c s a s' p in
      let y = one_lesson c s b s'' q in
      (x.0 ∙ sym y.0, x.1 ∙ sym y.1);
  one_room = λ t x y s s' p q. (p.0 ∙ sym q.0, p.1 ∙ sym q.1);
}
