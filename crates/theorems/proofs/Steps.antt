-- THE STEPS that the promises allow: exactly one for each call and table. So there is an engine that keeps the promises, and every other does as it does.
use mathlib.Core.Path.{◌≡◌, refl, sym, ap, ◌∙◌}
use mathlib.Core.Bool.{true, false}
use mathlib.Core.List.{List, ◌∷◌, map}
use Prim.Native.Nat.{ℕ}
use lib.ListN.{length}
use Rattle.notices.specs.Notices.{notice_answer, notice_table, totals_of}
use Rattle.journal.specs.Journal.{journal_of}
use Rattle.year_end.specs.YearEnd.{close_answer, close_table}
use Rattle.desk.specs.Desk.{flow_reads, flow_answer, flow_table, flow_outcomes}
use Rattle.theorems.specs.Engine.{Call, flow, execute, reverse, totals, journal, close, Answer, of_flow, of_notice, of_totals, of_journal, of_close, Step, Engine, Happens, nothing, step, machine}
use Rattle.theorems.specs.Condition3.{AnyRun}
use Rattle.isolation.specs.Machine.{state_after, log}

abbrev pub answer : Call → List ℕ → Answer
answer (flow ed f out) t = of_flow (flow_answer t (flow_reads t ed f (length out))) (flow_outcomes t out (flow_reads t ed f (length out)))
answer (execute code k line d) t = of_notice (notice_answer t true code k line d)
answer (reverse code k line d) t = of_notice (notice_answer t false code k line d)
answer (totals code) t = of_totals (totals_of t code)
answer (journal code s) t = of_journal (journal_of t code s)
answer (close code year) t = of_close (close_answer t code year)

abbrev pub after : Call → List ℕ → List ℕ
after (flow ed f out) t = flow_table t (flow_reads t ed f (length out))
after (execute code k line d) t = notice_table t true code k line d
after (reverse code k line d) t = notice_table t false code k line d
after (totals code) t = t
after (journal code s) t = t
after (close code year) t = close_table t code year

pub steps : (c : Call) (t : List ℕ) → Step c t (answer c t) (after c t)
steps (flow ed f out) t = (flow_answer t (flow_reads t ed f (length out)), flow_outcomes t out (flow_reads t ed f (length out)), (refl, refl, refl), refl)
steps (execute code k line d) t = (notice_answer t true code k line d, (refl, refl), refl)
steps (reverse code k line d) t = (notice_answer t false code k line d, (refl, refl), refl)
steps (totals code) t = (totals_of t code, refl, refl, refl)
steps (journal code s) t = (journal_of t code s, refl, refl, refl)
steps (close code year) t = (close_answer t code year, (refl, refl), refl)

pub one_step : (c : Call) (t : List ℕ) (a : Answer) (t' : List ℕ) → Step c t a t' → (a ≡ answer c t) × (t' ≡ after c t)
one_step (flow ed f out) t a t' s = (s.3 ∙ (λ i. of_flow (s.2.0 i) (s.2.2 i)), s.2.1)
one_step (execute code k line d) t a t' s = (s.2 ∙ ap of_notice s.1.0, s.1.1)
one_step (reverse code k line d) t a t' s = (s.2 ∙ ap of_notice s.1.0, s.1.1)
one_step (totals code) t a t' s = (s.2 ∙ ap of_totals s.1, s.3)
one_step (journal code m) t a t' s = (s.2 ∙ ap of_journal s.1, s.3)
one_step (close code year) t a t' s = (s.2 ∙ ap of_close s.1.0, s.1.1)

-- there is one
pub ours : Engine
ours = record { answer = answer; next = after; keeps = steps }

-- and every other does as it does, at each step and so in every run
same_step : (E : Engine) (c : Call) (t : List ℕ) (a : Answer) (t' : List ℕ) → Step c t a t' → (E.answer c t ≡ a) × (E.next c t ≡ t')
same_step E c t a t' s =
    let x = one_step c t (E.answer c t) (E.next c t) (E.keeps c t) in
    let y = one_step c t a t' s in
    (x.0 ∙ sym y.0, x.1 ∙ sym y.1)

module _ (E : Engine) (t₀ : List ℕ) where
  happened : {t u : List ℕ} {ls : List (Call × Answer)} → Happens t ls u
      → (log (machine E t₀) (map (λ l. l.0) ls) t ≡ ls) × (state_after (machine E t₀) (map (λ l. l.0) ls) t ≡ u)
  happened (nothing t) = (refl, refl)
  happened (step {t} {t'} {u} {c} {a} {ls} s h) =
      let e = same_step E c t a t' s in
      let cs : List Call = map (λ l. l.0) ls in
      let x = happened h in (
        (λ i. (c, e.0 i) ∷ log (machine E t₀) cs (e.1 i)) ∙ ap (λ (l : List (Call × Answer)). (c, a) ∷ l) x.0,
        ap (state_after (machine E t₀) cs) e.1 ∙ x.1,
      )

pub any_run : AnyRun
any_run E t₀ u ls h = happened E t₀ h
