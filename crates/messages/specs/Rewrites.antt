-- THE CALL THAT READS AND WRITES AGAIN, said of its promise alone (document 02, Req 01). Proved in proofs/Rewrites.antt: `written-again`, `rewritten-same`,
-- `again-same`, `Again-kept`, `no-second-again`.
use Rattle.std.specs.Prelude.{◌≡◌, List, ℕ, ◌≤◌, length, take, drop, Some, Ok}
use Rattle.grammar.specs.XML.{WellFormedXML}
use Rattle.editions.specs.declared.Edition.{Edition}
use Rattle.editions.specs.Editions.{edition_of}
use Rattle.message.specs.Message.{Message}
use Rattle.message.specs.Written.{message_bytes}
use Rattle.message.specs.Read.{MessageReading, MessageOf}
use Rattle.message.specs.From.{Caller}
use Rattle.message_write.specs.Write.{WritePromise}
use Rattle.message_rewrite.specs.declared.RewriteReply.{RewriteReply}
use Rattle.message_rewrite.specs.Promise.{RewritePromise}

-- WRITTEN AGAIN, n bytes into the buffer b, which is u afterwards
pub record WrittenAgain (ed : ℕ) (s b u : List ℕ) (n : ℕ) : Type 0 where
  pub edition : Edition
  pub numbered : edition_of ed ≡ Some edition
  -- the message s was read as, an Id on its root left out
  pub message : Message
  pub said : MessageOf edition s (MessageReading.read message)
  pub bytes : take n u ≡ message_bytes message
  pub size : n ≡ length (message_bytes message)
  pub room : n ≤ length b
  pub past : drop n u ≡ drop n b
  -- "whatever is read and written again has the same meaning", in either edition
  pub means : (e : Edition) → MessageOf e (take n u) (MessageReading.read message)
  pub xml : WellFormedXML (take n u)

abbrev pub AgainSaid : Type 0
AgainSaid = (ed : ℕ) (s b u : List ℕ) (r : RewriteReply) → RewritePromise ed s b r u → r.code ≡ 0 → WrittenAgain ed s b u r.length

-- IT IS REWRITTEN BYTE FOR BYTE, in any edition and into any buffer that has room: the same answer, and the same bytes at its front
abbrev pub SameAgain : List ℕ → ℕ → Type 0
SameAgain t n = (ed : ℕ) (e : Edition) (d w : List ℕ) (r : RewriteReply) → edition_of ed ≡ Some e → n ≤ length d → RewritePromise ed t d r w → (r.code ≡ 0) × (r.length ≡ n) × (take n w ≡ t)

-- what the call that writes wrote
abbrev pub RewrittenSame : Type 0
RewrittenSame = (ed : ℕ) (f o : List ℕ) (c : Caller) (b u : List ℕ) (n : ℕ) → WritePromise ed f o c b (Ok n) u → SameAgain (take n u) n

-- and what this call wrote
abbrev pub AgainSame : Type 0
AgainSame = (ed : ℕ) (s b u : List ℕ) (r : RewriteReply) → RewritePromise ed s b r u → r.code ≡ 0 → SameAgain (take r.length u) r.length

-- "a refusal gives length 0 and leaves the buffer"
abbrev pub AgainKept : Type 0
AgainKept = (ed : ℕ) (s b u : List ℕ) (r : RewriteReply) → RewritePromise ed s b r u → (r.code ≡ 0 → ⊥) → (r.length ≡ 0) × (u ≡ b)

-- NO SECOND ANSWER
abbrev pub NoSecondAgain : Type 0
NoSecondAgain = (ed : ℕ) (s b : List ℕ) (x y : RewriteReply) (u v : List ℕ) → RewritePromise ed s b x u → RewritePromise ed s b y v → (x ≡ y) × (u ≡ v)
