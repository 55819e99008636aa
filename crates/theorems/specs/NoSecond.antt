-- NO SECOND ANSWER (document 01, "How tight the promises are": "For every input the promise of each public call determines the answer and each byte of
-- table, outcomes and opened buffer, refused calls included. Prove that no second answer could satisfy it"). The promises are those that the calls' own
-- contracts cite; nothing is asked of an input. Proved: `no_second : NoSecond`.
use Rattle.std.specs.Prelude.{ℕ, ◌≡◌, Bool, List, Result}
use Rattle.children.specs.declared.FieldSpans.{FieldSpans}
use Rattle.children.specs.Child.{FieldPromise, NamePromise, TextPromise}
use Rattle.calendar.specs.declared.Date.{Date}
use Rattle.days.specs.declared.Between.{Between}
use Rattle.days.specs.Days.{DaysPromise}
use Rattle.target_days.specs.declared.FirstDay.{FirstDay}
use Rattle.target_days.specs.Target.{FirstPromise}
use Rattle.record.specs.declared.Key.{Key}
use Rattle.opening.specs.declared.OpenRefusal.{OpenRefusal}
use Rattle.opening.specs.Opening.{OpenPromise, OpenReplies}
use Rattle.convert.specs.declared.ConvertRefusal.{ConvertRefusal}
use Rattle.convert.specs.Convert.{ConvertPromise, ConvertReplies}
use Rattle.salvage.specs.declared.SalvageRefusal.{SalvageRefusal}
use Rattle.salvage.specs.Salvage.{SalvagePromise, SalvageReplies}
use Rattle.notices.specs.declared.NoticeRefusal.{NoticeRefusal}
use Rattle.notices.specs.declared.TotalsAnswer.{TotalsAnswer}
use Rattle.notices.specs.Notices.{NoticePromise, NoticeReplies, TotalsPromise}
use Rattle.journal.specs.Journal.{JournalPromise}
use Rattle.year_end.specs.declared.CloseRefusal.{CloseRefusal}
use Rattle.year_end.specs.YearEnd.{ClosePromise, CloseReplies}
use Rattle.desk.specs.declared.FlowRefusal.{FlowRefusal}
use Rattle.desk.specs.declared.FlowReply.{FlowReply}
use Rattle.desk.specs.Desk.{FlowPromise, FlowReplies}

pub record NoSecond : Type 0 where
  pub opening : (q t : List ℕ) (a b : Result Unit OpenRefusal) (u v : List ℕ) → OpenPromise q t a u → OpenPromise q t b v → (a ≡ b) × (u ≡ v)
  pub conversion : (o t : List ℕ) (a b : Result Unit ConvertRefusal) (u v : List ℕ) → ConvertPromise o t a u → ConvertPromise o t b v → (a ≡ b) × (u ≡ v)
  pub flow : (t : List ℕ) (ed : ℕ) (f out : List ℕ) (a b : Result (ℕ × ℕ × ℕ) FlowRefusal) (u v x y : List ℕ) → FlowPromise t ed f out a u x → FlowPromise t ed f out b v y → (a ≡ b) × (u ≡ v) × (x ≡ y)
  -- execution (true) and reversal (false)
  pub notice : (t : List ℕ) (executing : Bool) (code : List ℕ) (k : Key) (line : ℕ) (d : Date) (a b : Result ℕ NoticeRefusal) (u v : List ℕ)
      → NoticePromise t executing code k line d a u → NoticePromise t executing code k line d b v → (a ≡ b) × (u ≡ v)
  -- the exported function's promise too, of the record of the five numbers that it writes
  pub totals : (t code : List ℕ) (a b : TotalsAnswer) → TotalsPromise t code a → TotalsPromise t code b → a ≡ b
  -- a journal (Req 10), the exported function's promise too
  pub journal : (t code s : List ℕ) (a b : ℕ) → JournalPromise t code s a → JournalPromise t code s b → a ≡ b
  -- a close (Req 14)
  pub close : (t code : List ℕ) (year : ℕ) (a b : Result ℕ CloseRefusal) (u v : List ℕ) → ClosePromise t code year a u → ClosePromise t code year b v → (a ≡ b) × (u ≡ v)
  -- salvage (Req 13)
  pub salvage : (t r : List ℕ) (a b : Result ℕ SalvageRefusal) (u v x y : List ℕ) → SalvagePromise t r a u x → SalvagePromise t r b v y → (a ≡ b) × (u ≡ v) × (x ≡ y)
  -- a field's own words: where they stand in the flow, and so which they are
  pub field : (s : List ℕ) (place : ℕ) (a b : FieldSpans) → FieldPromise s place a → FieldPromise s place b → a ≡ b
  pub name : (s : List ℕ) (place : ℕ) (a b : List ℕ) → NamePromise s place a → NamePromise s place b → a ≡ b
  pub text : (s : List ℕ) (place : ℕ) (a b : List ℕ) → TextPromise s place a → TextPromise s place b → a ≡ b
  -- dates (Req 08), the exported functions' promises too
  pub days : (a b : Date) (x y : Between) → DaysPromise a b x → DaysPromise a b y → x ≡ y
  pub first_day : (d : Date) (x y : FirstDay) → FirstPromise d x → FirstPromise d y → x ≡ y
  -- the other exported functions, in document 01's numbers
  pub open_replies : (q t : List ℕ) (m n : ℕ) (u v : List ℕ) → OpenReplies q t m u → OpenReplies q t n v → (m ≡ n) × (u ≡ v)
  pub convert_replies : (o t : List ℕ) (m n : ℕ) (u v : List ℕ) → ConvertReplies o t m u → ConvertReplies o t n v → (m ≡ n) × (u ≡ v)
  pub flow_replies : (t : List ℕ) (ed : ℕ) (f out : List ℕ) (m n : FlowReply) (u v x y : List ℕ) → FlowReplies t ed f out m u x → FlowReplies t ed f out n v y
      → (m ≡ n) × (u ≡ v) × (x ≡ y)
  pub notice_replies : (t : List ℕ) (executing : Bool) (code : List ℕ) (k : Key) (line : ℕ) (d : Date) (m n cents dents : ℕ) (u v : List ℕ)
      → NoticeReplies t executing code k line d m cents u → NoticeReplies t executing code k line d n dents v → (m ≡ n) × (cents ≡ dents) × (u ≡ v)
  pub salvage_replies : (t r : List ℕ) (m n k l : ℕ) (u v x y : List ℕ) → SalvageReplies t r m k u x → SalvageReplies t r n l v y → (m ≡ n) × (k ≡ l) × (u ≡ v) × (x ≡ y)
  pub close_replies : (t code : List ℕ) (year m n k l : ℕ) (u v : List ℕ) → CloseReplies t code year m k u → CloseReplies t code year n l v → (m ≡ n) × (k ≡ l) × (u ≡ v)
