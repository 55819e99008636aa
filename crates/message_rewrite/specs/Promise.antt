-- A MESSAGE READ AND WRITTEN AGAIN (document 02, Req 01: "whatever is read and written again has the same meaning"): its answer, and every byte of the
-- buffer that it leaves. Refusals: 2 to 5 of the message, then 40.
use Rattle.std.specs.Prelude.{◌≡◌, List, ℕ, ◌≤◌, ◌<◌, length, Some, None}
use Rattle.words.specs.Numbers.{put}
use Rattle.editions.specs.declared.Edition.{Edition}
use Rattle.editions.specs.Editions.{edition_of}
use Rattle.message.specs.Message.{Message}
use Rattle.message.specs.Written.{message_bytes}
use Rattle.message.specs.Read.{read, refused, MessageOf}
use Rattle.message_rewrite.specs.declared.RewriteReply.{RewriteReply}

-- in an edition
pub data RewriteIn (e : Edition) (s b : List ℕ) : RewriteReply → List ℕ → Type 0 where
  -- "a message that can't be read, or is above 65,536 bytes, answers as 2 to 5 do"; "a refusal gives length 0 and leaves the buffer"
  not_read : {code place cause : ℕ} → MessageOf e s (refused code place cause) → RewriteIn e s b (record { code = code; length = 0 }) b
  -- "40 (the buffer is shorter than the message)"
  too_small : {m : Message} → MessageOf e s (read m) → length b < length (message_bytes m) → RewriteIn e s b (record { code = 40; length = 0 }) b
  -- the values read are written; bytes past the message stay
  rewritten : {m : Message} → MessageOf e s (read m) → length (message_bytes m) ≤ length b
      → RewriteIn e s b (record { code = 0; length = length (message_bytes m) }) (put b 0 (message_bytes m))

-- THE PROMISE, of the edition's number ed (Req 05: "Refusals: 23, no such edition, after 1 and before 2")
pub data RewritePromise (ed : ℕ) (s b : List ℕ) : RewriteReply → List ℕ → Type 0 where
  no_edition : edition_of ed ≡ None → RewritePromise ed s b (record { code = 23; length = 0 }) b
  by_edition_lem : {e : Edition} {r : RewriteReply} {left : List ℕ} → edition_of ed ≡ Some e → RewriteIn e s b r left → RewritePromise ed s b r left
