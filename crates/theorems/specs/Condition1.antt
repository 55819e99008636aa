-- CONDITION 1 of the tender letter, about the calls' own promises: whatever keeps them does this. Proved: `condition1 : Condition1`.
use Rattle.std.specs.Prelude.{ℕ, ◌≡◌, Bool, true, List, Result}
use Rattle.digits.specs.Digits.{is_refusal}
use Rattle.calendar.specs.declared.Date.{Date}
use Rattle.record.specs.declared.Key.{Key}
use Rattle.order.specs.Ordinativo.{Ordinativo}
use Rattle.rules.specs.Rules.{order_code}
use Rattle.service.specs.Service.{order_comes, order_leaves}
use Rattle.opening.specs.declared.OpenRefusal.{OpenRefusal}
use Rattle.opening.specs.Opening.{open_code, OpenPromise}
use Rattle.convert.specs.declared.ConvertRefusal.{ConvertRefusal}
use Rattle.convert.specs.Convert.{convert_code, ConvertPromise}
use Rattle.salvage.specs.declared.SalvageRefusal.{SalvageRefusal}
use Rattle.salvage.specs.Salvage.{salvage_reply, SalvagePromise}
use Rattle.notices.specs.declared.NoticeRefusal.{NoticeRefusal}
use Rattle.notices.specs.Notices.{notice_code_of, NoticePromise}
use Rattle.year_end.specs.declared.CloseRefusal.{CloseRefusal}
use Rattle.year_end.specs.YearEnd.{ClosePromise, close_reply, close_code}
use Rattle.desk.specs.declared.FlowRefusal.{FlowRefusal}
use Rattle.desk.specs.Desk.{FlowPromise, flow_code, flow_reply}
use Rattle.theorems.specs.Engine.{Call, Answer, Step, answer_code}
use Rattle.theorems.specs.Codes.{one_of, each_code, open_codes, convert_codes, salvage_codes, call_codes, causes_with, order_refusals, order_codes, outcome_codes}

pub record Condition1 : Type 0 where
  -- "Every call, on arbitrary flow, table or notice, ends with one of the numbered answers in document 01."
  pub opening_numbered : (q t : List ℕ) (a : Result Unit OpenRefusal) (t' : List ℕ) → OpenPromise q t a t' → one_of open_codes (open_code a) ≡ true
  pub conversion_numbered : (o t : List ℕ) (a : Result Unit ConvertRefusal) (t' : List ℕ) → ConvertPromise o t a t' → one_of convert_codes (convert_code a) ≡ true
  pub salvage_numbered : (t r : List ℕ) (a : Result ℕ SalvageRefusal) (t' r' : List ℕ) → SalvagePromise t r a t' r' → one_of salvage_codes (salvage_reply a).code ≡ true
  pub call_numbered : (c : Call) (t : List ℕ) (a : Answer) (t' : List ℕ) → Step c t a t' → one_of (call_codes c) (answer_code a) ≡ true
  -- and so does every order of a flow taken
  pub orders_numbered : (t : List ℕ) (ed : ℕ) (f out : List ℕ) (a : Result (ℕ × ℕ × ℕ) FlowRefusal) (t' out' : List ℕ) → FlowPromise t ed f out a t' out' → flow_code a ≡ 0
      → each_code (one_of order_codes) (outcome_codes (flow_reply a).orders out') ≡ true
  -- and the codes that an outcome message may say of a refused order are these (document 02, Req 01: "a code no order can get" is another)
  pub message_codes : (code : ℕ) → is_refusal code ≡ one_of order_refusals code
  -- a flow's cause is a numbered one too: 1 to 4 with code 5, and 0 with every other
  pub cause_numbered : (t : List ℕ) (ed : ℕ) (f out : List ℕ) (a : Result (ℕ × ℕ × ℕ) FlowRefusal) (t' out' : List ℕ) → FlowPromise t ed f out a t' out' → one_of (causes_with (flow_code a)) (flow_reply a).cause ≡ true
  -- "It checks its own inputs." There is an answer for every input
  pub answered : (c : Call) (t : List ℕ) → (a : Answer) × (t' : List ℕ) × Step c t a t'
  -- "A refused flow changes neither table nor outcome buffer;"
  pub refused_flow : (t : List ℕ) (ed : ℕ) (f out : List ℕ) (a : Result (ℕ × ℕ × ℕ) FlowRefusal) (t' out' : List ℕ) → FlowPromise t ed f out a t' out' → (flow_code a ≡ 0 → ⊥) → (t' ≡ t) × (out' ≡ out)
  -- "a refused order or notice changes no record." No byte of the table
  pub refused_order : (t : List ℕ) (base n year : ℕ) (o : Ordinativo) → (order_code (order_comes t base n year o) ≡ 0 → ⊥) → order_leaves t base n year o ≡ t
  pub refused_notice : (t : List ℕ) (executing : Bool) (code : List ℕ) (k : Key) (line : ℕ) (d : Date) (a : Result ℕ NoticeRefusal) (t' : List ℕ)
      → NoticePromise t executing code k line d a t' → (notice_code_of a ≡ 0 → ⊥) → t' ≡ t
  -- and of opening, in document 01's words: "Codes 1 to 10 change no buffer"
  pub refused_opening : (q t : List ℕ) (a : Result Unit OpenRefusal) (t' : List ℕ) → OpenPromise q t a t' → (open_code a ≡ 0 → ⊥) → t' ≡ t
  -- and of conversion: it "leaves both buffers untouched"; the old one is lent to read only
  pub refused_conversion : (o t : List ℕ) (a : Result Unit ConvertRefusal) (t' : List ℕ) → ConvertPromise o t a t' → (convert_code a ≡ 0 → ⊥) → t' ≡ t
  -- and of salvage: its refusals "both leave table and report unchanged"
  pub refused_salvage : (t r : List ℕ) (a : Result ℕ SalvageRefusal) (t' r' : List ℕ) → SalvagePromise t r a t' r' → ((salvage_reply a).code ≡ 0 → ⊥) → (t' ≡ t) × (r' ≡ r)
  -- and of a close: "a refusal removes 0 and changes nothing"
  pub refused_close : (t code : List ℕ) (year : ℕ) (a : Result ℕ CloseRefusal) (t' : List ℕ) → ClosePromise t code year a t' → (close_code a ≡ 0 → ⊥)
      → (t' ≡ t) × ((close_reply a).removed ≡ 0)
