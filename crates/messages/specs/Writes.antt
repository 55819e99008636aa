-- THE CALL THAT WRITES, said of its promise alone (document 02, Req 01). Proved in proofs/Writes.antt: `written`, `refused-kept`, `no_second`.
use Rattle.std.specs.Prelude.{◌≡◌, List, true, ℕ, ◌≤◌, length, take, drop, Result, Some, Ok}
use Rattle.bounds.specs.Bounds.{max_flow}
use Rattle.grammar.specs.XML.{WellFormedXML}
use Rattle.editions.specs.declared.Edition.{Edition}
use Rattle.editions.specs.Editions.{edition_of}
use Rattle.flow.specs.Flow.{verdict_of, flow_orders}
use Rattle.message.specs.Written.{message_bytes}
use Rattle.message.specs.Read.{MessageReading, MessageOf, max_message}
use Rattle.message.specs.From.{Caller, CallerOk, outcomes_fit, flow_message}
use Rattle.message_write.specs.declared.WriteRefusal.{WriteRefusal}
use Rattle.message_write.specs.declared.WriteReply.{WriteReply}
use Rattle.message_write.specs.Write.{WritePromise, WriteReplies}

-- WRITTEN, n bytes into the buffer b, which is u afterwards
pub record WrittenOut (ed : ℕ) (f o : List ℕ) (c : Caller) (b u : List ℕ) (n : ℕ) : Type 0 where
  -- nothing was to be refused: the number names an edition, the flow of that edition stands, its outcome bytes fit, and the caller's values have their forms
  pub edition : Edition
  pub numbered : edition_of ed ≡ Some edition
  pub short : length f ≤ max_flow
  pub begins : ℕ
  pub stands : verdict_of edition f ≡ Ok begins
  pub fits : outcomes_fit (flow_orders edition f begins) o ≡ true
  pub caller : CallerOk c
  -- "Write the messaggio di esito applicativo .. from a flow and its outcome bytes, the caller giving the time of outcome and the header values"
  pub message : take n u ≡ message_bytes (flow_message edition f begins o c)
  pub size : n ≡ length (message_bytes (flow_message edition f begins o c))
  pub room : n ≤ length b
  pub past : drop n u ≡ drop n b
  -- "Reading what was written gives the same values", in either edition
  pub reads : (e : Edition) → MessageOf e (take n u) (MessageReading.read (flow_message edition f begins o c))
  pub readable : n ≤ max_message
  pub xml : WellFormedXML (take n u)

abbrev pub WrittenSaid : Type 0
WrittenSaid = (ed : ℕ) (f o : List ℕ) (c : Caller) (b u : List ℕ) (n : ℕ) → WritePromise ed f o c b (Ok n) u → WrittenOut ed f o c b u n

-- "a refusal gives length 0 and leaves the buffer"
abbrev pub RefusedKept : Type 0
RefusedKept = (ed : ℕ) (f o : List ℕ) (c : Caller) (b u : List ℕ) (a : Result ℕ WriteRefusal) → WritePromise ed f o c b a u → ((n : ℕ) → a ≡ Ok n → ⊥) → u ≡ b

-- NO SECOND ANSWER, in the function's terms and in document 02's numbers
pub record NoSecondWriting : Type 0 where
  pub write : (ed : ℕ) (f o : List ℕ) (c : Caller) (b : List ℕ) (x y : Result ℕ WriteRefusal) (u v : List ℕ) → WritePromise ed f o c b x u → WritePromise ed f o c b y v → (x ≡ y) × (u ≡ v)
  pub replies : (ed : ℕ) (f o : List ℕ) (c : Caller) (b : List ℕ) (m n : WriteReply) (u v : List ℕ) → WriteReplies ed f o c b m u → WriteReplies ed f o c b n v → (m ≡ n) × (u ≡ v)
