-- The parts of a message as its writer takes them up: names for the contracts of its functions. What is written is crates/message's.
use Rattle.std.specs.Prelude.{List, [], cond, ℕ, ◌≤◌, length, eqb}
use Prim.Native.String.{String}
use Rattle.scan.specs.Bytes.{bytes, part}
use Rattle.tree.specs.Tree.{Tree, Trees, none, more}
use Rattle.tree.specs.Orders.{Words, mandato_words, reversale_words}
use Rattle.tree.specs.Written.{leaf, node, bytes_of, bytes_all}
use Rattle.pen.specs.Pen.{Wrote, Room}
use Rattle.pen.specs.Decimal.{fixed, decimal, amount, dated}
use Rattle.message.specs.Message.{Entry, is_accepted, word_of, number_name, date_name}
use Rattle.message.specs.Written.{◌and◌, errors_out, head_out}
use Rattle.header.specs.declared.Span.{Span}
use Rattle.message_pen.specs.declared.Saying.{Saying}
use Rattle.message_pen.specs.declared.Given.{Given}

-- room for elements, and elements written from `at` on, up to r: as the pen's Room and Wrote, of their bytes
pub record RoomFor (at : ℕ) (ts : Trees) : Type 0 where
  pub room : Room at (bytes_all ts)

pub record WroteAll (before after : List ℕ) (at : ℕ) (ts : Trees) (r : ℕ) : Type 0 where
  pub wrote : Wrote before after at (bytes_all ts) r

-- of one element
pub record RoomOf (at : ℕ) (t : Tree) : Type 0 where
  pub room : Room at (bytes_of t)

pub record WroteTree (before after : List ℕ) (at : ℕ) (t : Tree) (r : ℕ) : Type 0 where
  pub wrote : Wrote before after at (bytes_of t) r

-- elements, then others
abbrev pub join : Trees → Trees → Trees
join none us = us
join (more t ts) us = more t (join ts us)

-- by the order's kind: 1 mandato, 2 reversale
abbrev pub by_kind : {A : Type 0} → ℕ → A → A → A
by_kind kind m r = cond (eqb kind 2) r m

abbrev pub words_for : ℕ → Words
words_for kind = by_kind kind mandato_words reversale_words

abbrev pub entry_name : ℕ → String
entry_name kind = by_kind kind "esito_mandati" "esito_reversali"

-- the entry that the struct and two texts are
abbrev pub entry_with : Saying → List ℕ → List ℕ → Entry
entry_with v flow time = record {
  operation = v.operation;
  code = v.code;
  flow = flow;
  esercizio = v.esercizio;
  number = v.number;
  date = v.date;
  total = v.total;
  time = time;
}

-- an entry's elements in three parts
abbrev pub named_out : List ℕ → ℕ → Trees
named_out flow year = leaf "identificativo_flusso" flow and leaf "esercizio" (fixed 4 year) and none

abbrev pub order_out : Saying → Trees
order_out v =
    leaf (number_name (words_for v.kind)) (decimal v.number)
    and leaf (date_name (words_for v.kind)) (dated v.date)
    and leaf "importo" (amount v.total)
    and none

abbrev pub outcome_out : Saying → List ℕ → Trees
outcome_out v time =
    leaf "esito_operazione" (bytes (word_of (is_accepted v.code) v.operation))
    and leaf "data_ora_esito_operazione" time
    and errors_out (words_for v.kind) v.code (is_accepted v.code)

-- the text at a place of its writer's bytes, and that the place lies within them
abbrev pub text_at : List ℕ → Span → List ℕ
text_at s w = part s w.from w.to

abbrev pub Lies : List ℕ → Span → Type 0
Lies s w = (w.from ≤ w.to) × (w.to ≤ length s)

pub record GivenIn (s : List ℕ) (g : Given) : Type 0 where
  pub created : Lies s g.created
  pub ente : Lies s g.ente
  pub described : Lies s g.described
  pub istat : Lies s g.istat
  pub fiscal : Lies s g.fiscal
  pub tramite : Lies s g.tramite
  pub bank : Lies s g.bank
  pub flow : Lies s g.flow

-- a header's elements in three parts
abbrev pub head_first : List ℕ → List ℕ → Given → Trees
head_first abi s g =
    leaf "codice_ABI_BT" abi
    and leaf "data_ora_creazione_flusso" (text_at s g.created)
    and leaf "codice_ente" (text_at s g.ente)
    and leaf "descrizione_ente" (text_at s g.described)
    and none

abbrev pub head_last : List ℕ → Given → List ℕ → Trees
head_last s g body =
    leaf "codice_fiscale_ente" (text_at s g.fiscal)
    and leaf "codice_tramite_ente" (text_at s g.tramite)
    and leaf "codice_tramite_BT" (text_at s g.bank)
    and leaf "codice_ente_BT" body
    and none

-- the whole header, and what stands before the entries: the header, and identificativo_flusso_BT
abbrev pub head_in : List ℕ → List ℕ → Given → List ℕ → Tree
head_in abi s g body = node "testata_messaggio" (head_out (record {
  abi = abi;
  created = text_at s g.created;
  ente = text_at s g.ente;
  described = text_at s g.described;
  istat = text_at s g.istat;
  fiscal = text_at s g.fiscal;
  tramite_ente = text_at s g.tramite;
  tramite_bt = text_at s g.bank;
  body = body;
  flow_bt = [];
  reversali = [];
  mandati = [];
}))

abbrev pub beginning_in : List ℕ → List ℕ → Given → List ℕ → Trees
beginning_in abi s g body = head_in abi s g body and leaf "identificativo_flusso_BT" (text_at s g.flow) and none
