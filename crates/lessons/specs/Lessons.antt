-- THE TRAINING ROOM AND THE TABLE ENGINE (document 02, Req 12): "On valid tables whose bodies have at most 32 slots it is proved, over all flows and notices, to give every
-- answer and outcome the table engine gives, and its lists are what the records say." Proved: `lessons : Lessons`.
use Rattle.std.specs.Prelude.{ℕ, ◌≤◌, ◌≡◌, true, false, List, [], ◌∷◌, map, length, Result, Ok}
use Rattle.std.proofs.Math.Option.{none}
use Rattle.calendar.specs.declared.Date.{Date}
use Rattle.record.specs.declared.Key.{Key}
use Rattle.notices.specs.declared.NoticeRefusal.{NoticeRefusal}
use Rattle.notices.specs.declared.TotalsAnswer.{TotalsAnswer}
use Rattle.desk.specs.declared.FlowRefusal.{FlowRefusal}
use Rattle.isolation.specs.Machine.{Machine, state_after, log}
use Rattle.theorems.specs.Engine.{Answer, of_flow, of_notice, of_totals, Engine, answer_code}
use Rattle.theorems.specs.Engine as desk
use Rattle.plain.specs.Plain.{Plain, body_in}
use Rattle.plain.specs.Flows.{FlowLesson}
use Rattle.plain.specs.Notices.{NoticeLesson, TotalsLesson}
use Rattle.plain.specs.Says.{plain_of}
use Rattle.enrolment.specs.declared.EnrolRefusal.{EnrolRefusal}
use Rattle.enrolment.specs.Enrolment.{enrols, EnrolPromise}

-- THE CALLS OF A LESSON: flows, notices and totals, as the desk has them; "the training engine gets no close" (Req 14)
pub data Lesson : Type 0 where
  flow : ℕ → List ℕ → List ℕ → Lesson
  execute : List ℕ → Key → ℕ → Date → Lesson
  reverse : List ℕ → Key → ℕ → Date → Lesson
  totals : List ℕ → Lesson

abbrev pub at_desk : Lesson → desk.Call
at_desk (flow ed f out) = desk.flow ed f out
at_desk (execute code k line d) = desk.execute code k line d
at_desk (reverse code k line d) = desk.reverse code k line d
at_desk (totals code) = desk.totals code

-- what each call promises in the room s: the answer a, and the room s' afterwards
abbrev pub Teach : Lesson → Plain → Answer → Plain → Type 0
Teach (flow ed f out) s a s' = (r : Result (ℕ × ℕ × ℕ) FlowRefusal) × (out' : List ℕ) × FlowLesson s ed f out r s' out' × (a ≡ of_flow r out')
Teach (execute code k line d) s a s' = (r : Result ℕ NoticeRefusal) × NoticeLesson s true code k line d r s' × (a ≡ of_notice r)
Teach (reverse code k line d) s a s' = (r : Result ℕ NoticeRefusal) × NoticeLesson s false code k line d r s' × (a ≡ of_notice r)
Teach (totals code) s a s' = (r : TotalsAnswer) × TotalsLesson s code r × (a ≡ of_totals r) × (s' ≡ s)

-- WHAT MAY HAPPEN IN THE ROOM from a room on: a log of lessons with their answers, and the room in the end, each step as its call promises. Every run of the calls in
-- crates/room_flow and crates/room_notices is one
pub data Learns : Plain → List (Lesson × Answer) → Plain → Type 0 where
  nothing : (s : Plain) → Learns s [] s
  lesson : {s s' u : Plain} {c : Lesson} {a : Answer} {ls : List (Lesson × Answer)} → Teach c s a s' → Learns s' ls u → Learns s ((c, a) ∷ ls) u

-- ON A TABLE: the same lessons by any engine that keeps the desk's promises. (Nothing is said of parts here: condition 3 does that)
abbrev pub on_table : Engine → Machine
on_table E = record {
  State = List ℕ;
  Call = Lesson;
  Answer = Answer;
  Part = Unit {0};
  Rest = Unit {0};
  count = 0;
  who = λ c. none;
  answer = λ c t. E.answer (at_desk c) t;
  next = λ c t. E.next (at_desk c) t;
  part = λ b t. tt;
  rest = λ t. tt;
}

-- the lessons of a log
abbrev pub taken : List (Lesson × Answer) → List Lesson
taken ls = map (λ l. l.0) ls

-- THE THEOREM, of every table t that the training room takes, the room s that is made of it, every table engine E, and whatever lessons with their answers lead to a room u
pub record Lessons : Type 0 where
  -- "every answer and outcome the table engine gives"
  pub answers : (E : Engine) (t : List ℕ) (s u : Plain) (ls : List (Lesson × Answer)) → EnrolPromise t (Ok tt) s → Learns s ls u → log (on_table E) (taken ls) t ≡ ls
  -- "its lists are what the records say"
  pub lists : (E : Engine) (t : List ℕ) (s u : Plain) (ls : List (Lesson × Answer)) → EnrolPromise t (Ok tt) s → Learns s ls u
      → u ≡ plain_of (state_after (on_table E) (taken ls) t)
  -- "as many as the body has slots"
  pub within : (t : List ℕ) (s u : Plain) (ls : List (Lesson × Answer)) (b : ℕ) → EnrolPromise t (Ok tt) s → Learns s ls u → length (body_in u b).orders ≤ (body_in u b).slots
  -- "meets no closed table" (Req 14): the table on which the same lessons were taken is one that the room takes, at any moment
  pub stays : (E : Engine) (cs : List Lesson) (t : List ℕ) → enrols t ≡ Ok tt → enrols (state_after (on_table E) cs t) ≡ Ok tt
  -- no lesson is answered 1
  pub never_invalid : (t : List ℕ) (s u s' : Plain) (ls : List (Lesson × Answer)) (c : Lesson) (a : Answer) → EnrolPromise t (Ok tt) s → Learns s ls u → Teach c u a s'
      → answer_code a ≡ 1 → ⊥
  -- every lesson is answered, in one way, and every table is told of in one way
  pub answered : (c : Lesson) (s : Plain) → (a : Answer) × (s' : Plain) × Teach c s a s'
  pub one_answer : (c : Lesson) (s : Plain) (a b : Answer) (s' s'' : Plain) → Teach c s a s' → Teach c s b s'' → (a ≡ b) × (s' ≡ s'')
  pub one_room : (t : List ℕ) (x y : Result Unit EnrolRefusal) (s s' : Plain) → EnrolPromise t x s → EnrolPromise t y s' → (x ≡ y) × (s ≡ s')
