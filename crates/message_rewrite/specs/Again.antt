-- A message written again from the values that its reading gave (docs/FORMAT.md): names for the contracts of the code. The promise (Promise.antt)
-- speaks of none of it.
use Rattle.std.specs.Prelude.{ℕ, zero, suc, ◌+◌, ◌≤◌, List, cond, length, eqb, leb}
use Rattle.scan.specs.Bytes.{byte_at}
use Rattle.words.specs.Numbers.{be2, be4, be8, put}
use Rattle.codes.specs.declared.Operation.{Operation}
use Rattle.codes.specs.declared.Operation.TheVariants.{Inserimento, Variazione, Annullo, Sostituzione}
use Rattle.tree.specs.Tree.{Tree, Trees, none}
use Rattle.tree.specs.Written.{node}
use Rattle.message.specs.Written.{◌and◌, entry_out}
use Rattle.header.specs.declared.Span.{Span}
use Rattle.message_pen.specs.declared.Saying.{Saying}
use Rattle.message_pen.specs.declared.Given.{Given}
use Rattle.message_rewrite.specs.declared.RewriteReply.{RewriteReply}
use Rattle.message_pen.specs.Parts.{join, words_for, entry_name, entry_with, text_at, beginning_in}

-- the text that a pair of place and length shows, at a place of the values: a part of the message
abbrev pub span_at : List ℕ → ℕ → Span
span_at v at = record { from = be4 v at; to = be4 v at + be4 v (at + 4) }

abbrev pub text_shown : List ℕ → List ℕ → ℕ → List ℕ
text_shown s v at = text_at s (span_at v at)

-- the pair is there, and what it shows is
pub record PairAt (s v : List ℕ) (at : ℕ) : Type 0 where
  pub there : at + 8 ≤ length v
  pub within : be4 v at + be4 v (at + 4) ≤ length s

-- the other way round than operation_number
abbrev pub operation_by : ℕ → Operation
operation_by n = cond (eqb n 1) Inserimento (cond (eqb n 2) Variazione (cond (eqb n 3) Annullo Sostituzione))

-- AN ENTRY, its 48 bytes from a place on
abbrev pub said_at : List ℕ → ℕ → Saying
said_at v at = record {
  kind = byte_at v at;
  operation = operation_by (byte_at v (at + 1));
  code = byte_at v (at + 2);
  esercizio = be2 v (at + 4);
  number = be4 v (at + 8);
  date = record { year = be2 v (at + 12); month = byte_at v (at + 14); day = byte_at v (at + 15) };
  total = be8 v (at + 16);
}

abbrev pub entry_again : List ℕ → List ℕ → ℕ → Tree
entry_again s v at = node (entry_name (byte_at v at)) (entry_out (words_for (byte_at v at)) (entry_with (said_at v at) (text_shown s v (at + 24)) (text_shown s v (at + 32))))

pub record EntryAt (s v : List ℕ) (at : ℕ) : Type 0 where
  pub flow : PairAt s v (at + 24)
  pub time : PairAt s v (at + 32)

-- n entries
unfoldable pub entries_again : List ℕ → List ℕ → ℕ → ℕ → Trees
entries_again s v at zero = none
entries_again s v at (suc n) = entry_again s v at and entries_again s v (at + 48) n

pub data EntriesAt (s v : List ℕ) : ℕ → ℕ → Type 0 where
  no_entries : {at : ℕ} → EntriesAt s v at 0
  an_entry : {at n : ℕ} → EntryAt s v at → EntriesAt s v (at + 48) n → EntriesAt s v at (suc n)

-- THE WHOLE: what stands before the entries, and n entries
abbrev pub given_at : List ℕ → Given
given_at v = record {
  created = span_at v 8;
  ente = span_at v 16;
  described = span_at v 24;
  istat = span_at v 32;
  fiscal = span_at v 40;
  tramite = span_at v 48;
  bank = span_at v 56;
  flow = span_at v 72;
}

abbrev pub head_again : List ℕ → List ℕ → Trees
head_again s v = beginning_in (text_shown s v 0) s (given_at v) (text_shown s v 64)

abbrev pub message_again : List ℕ → List ℕ → ℕ → Tree
message_again s v n = node "messaggi_esito_applicativo" (join (head_again s v) (entries_again s v 80 n))

pub record HeadAt (s v : List ℕ) : Type 0 where
  pub abi : PairAt s v 0
  pub created : PairAt s v 8
  pub ente : PairAt s v 16
  pub described : PairAt s v 24
  pub istat : PairAt s v 32
  pub fiscal : PairAt s v 40
  pub tramite_ente : PairAt s v 48
  pub tramite_bt : PairAt s v 56
  pub body : PairAt s v 64
  pub flow_bt : PairAt s v 72

pub record AllAt (s v : List ℕ) (n : ℕ) : Type 0 where
  pub head : HeadAt s v
  pub entries : EntriesAt s v 80 n

-- THE ANSWER, and the buffer left, where the bytes x are to be written
abbrev pub again_reply : ℕ → List ℕ → RewriteReply
again_reply room x = cond (leb (length x) room) (record { code = 0; length = length x }) (record { code = 40; length = 0 })

abbrev pub again_buffer : List ℕ → List ℕ → List ℕ
again_buffer b x = cond (leb (length x) (length b)) (put b 0 x) b
