-- Document 02, Req 01: "Also read such a message back": what any bytes are read as, in terms of grammar, tree, schema and fields.
use Rattle.std.specs.Prelude.{◌≡◌, List, [], ◌∷◌, Bool, true, false, cond, ◌&&◌, ℕ, ◌+◌, ◌≤◌, ◌<◌, length, leb, Option, Some, None}
use Prim.Native.String.{String}
use Rattle.scan.specs.Bytes.{bytes, text_is}
use Rattle.codes.specs.declared.Operation.{Operation}
use Rattle.codes.specs.declared.Operation.TheVariants.{Sostituzione}
use Rattle.codes.specs.declared.Esito.{Esito}
use Rattle.codes.specs.declared.Esito.TheVariants.{Accepted, Refused}
use Rattle.codes.specs.Codes.{esito_operazione}
use Rattle.digits.specs.Digits.{esercizio, numero, importo, codice_errore}
use Rattle.dates.specs.Dates.{data_of}
use Rattle.fields.specs.declared.Cause.{Cause}
use Rattle.fields.specs.declared.Cause.TheVariants.{Misformed}
use Rattle.fields.specs.Causes.{cause_number}
use Rattle.orders.specs.Orders.{value_of, date_of}
use Rattle.schema.specs.declared.Parent.TheVariants.{MessaggiEsito}
use Rattle.schema.specs.declared.Holds.TheVariants.{Rows}
use Rattle.standing.specs.Readings.{Bad, Place, Nowhere, first_bad}
use Rattle.editions.specs.declared.Edition.{Edition}
use Rattle.flow.specs.Flow.{id_allowed}
use Rattle.tree.specs.Tree.{Tree, Trees, none, lt_of, name_of, held_of, kids_in, ReadsAs}
use Rattle.tree.specs.Structure.{named, held_fits}
use Rattle.tree.specs.Orders.{children_named, text_named, Words, mandato_words, reversale_words}
use Rattle.tree.specs.Flow.{fields_of}
use Rattle.message.specs.Message.{Entry, Message, number_name, date_name, element_name, count_ok}

-- A CHILD BY NAME: its children, its place. (Where the structure stands, each that is read stands once, but codice_istat_ente and lista_errori: an empty
-- text, no children where they are not there)
abbrev pub first_kids : List Tree → Trees
first_kids [] = none
first_kids (t ∷ ts) = kids_in (held_of t)

abbrev pub first_place : List Tree → ℕ
first_place [] = 0
first_place (t ∷ ts) = lt_of t

abbrev pub kids_named : String → Trees → Trees
kids_named x kids = first_kids (children_named (x ∷ []) kids)

abbrev pub place_named : String → Trees → ℕ
place_named x kids = first_place (children_named (x ∷ []) kids)

-- THE VALUES that a message's tree says

-- of one of the eight words
abbrev pub operation_in : Option Esito → Operation
operation_in (Some (Accepted o)) = o
operation_in (Some (Refused o)) = o
operation_in None = Sostituzione

-- 0 without a list of errors
abbrev pub code_in : List Tree → ℕ
code_in [] = 0
code_in (t ∷ ts) = value_of (codice_errore (text_named "codice_errore" (kids_in (held_of t))))

abbrev pub entry_in : Words → Trees → Entry
entry_in w kids = record {
  operation = operation_in (esito_operazione (text_named "esito_operazione" kids));
  code = code_in (children_named ("lista_errori" ∷ []) kids);
  flow = text_named "identificativo_flusso" kids;
  esercizio = value_of (esercizio (text_named "esercizio" kids));
  number = value_of (numero (text_named (number_name w) kids));
  date = date_of (data_of (text_named (date_name w) kids));
  total = value_of (importo (text_named "importo" kids));
  time = text_named "data_ora_esito_operazione" kids;
}

-- what each of them says, of its children
unfoldable pub each_of : {A : Type 0} → (Trees → A) → List Tree → List A
each_of f [] = []
each_of f (t ∷ ts) = f (kids_in (held_of t)) ∷ each_of f ts

abbrev pub entries_named : String → Trees → List Tree
entries_named x kids = children_named (x ∷ []) kids

abbrev pub message_in : Trees → Message
message_in kids = record {
  abi = text_named "codice_ABI_BT" (kids_named "testata_messaggio" kids);
  created = text_named "data_ora_creazione_flusso" (kids_named "testata_messaggio" kids);
  ente = text_named "codice_ente" (kids_named "testata_messaggio" kids);
  described = text_named "descrizione_ente" (kids_named "testata_messaggio" kids);
  istat = text_named "codice_istat_ente" (kids_named "testata_messaggio" kids);
  fiscal = text_named "codice_fiscale_ente" (kids_named "testata_messaggio" kids);
  tramite_ente = text_named "codice_tramite_ente" (kids_named "testata_messaggio" kids);
  tramite_bt = text_named "codice_tramite_BT" (kids_named "testata_messaggio" kids);
  body = text_named "codice_ente_BT" (kids_named "testata_messaggio" kids);
  flow_bt = text_named "identificativo_flusso_BT" kids;
  reversali = each_of (entry_in reversale_words) (entries_named "esito_reversali" kids);
  mandati = each_of (entry_in mandato_words) (entries_named "esito_mandati" kids);
}

-- WHAT AN ENTRY'S FIELDS SAY OF EACH OTHER, in document order: the place of an element, and whether it agrees with the others
pub record Agreeing : Type 0 where
  pub lt : ℕ
  pub ok : Bool

-- a refused word has a list of errors, an accepted one none
abbrev pub word_agrees : Option Esito → List Tree → Bool
word_agrees (Some (Accepted o)) [] = true
word_agrees (Some (Accepted o)) (t ∷ ts) = false
word_agrees (Some (Refused o)) [] = false
word_agrees (Some (Refused o)) (t ∷ ts) = true
word_agrees None ts = false

-- "code, the code again as description, and element name"
abbrev pub error_agrees : Words → Trees → List Agreeing
error_agrees w kids =
    record { lt = place_named "descrizione" kids; ok = text_is (text_named "codice_errore" kids) (text_named "descrizione" kids) }
    ∷ record { lt = place_named "elemento" kids; ok = text_is (bytes (element_name w (value_of (codice_errore (text_named "codice_errore" kids))))) (text_named "elemento" kids) }
    ∷ []

abbrev pub errors_agree : Words → List Tree → List Agreeing
errors_agree w [] = []
errors_agree w (t ∷ ts) = error_agrees w (kids_in (held_of t))

abbrev pub entry_agrees : Words → Trees → List Agreeing
entry_agrees w kids =
    record { lt = place_named "esito_operazione" kids; ok = word_agrees (esito_operazione (text_named "esito_operazione" kids)) (children_named ("lista_errori" ∷ []) kids) }
    ∷ errors_agree w (children_named ("lista_errori" ∷ []) kids)

-- the first that doesn't, which is of the wrong form (Req 03's cause 3), or what is said after them
abbrev pub first_off : List Agreeing → Bad → Bad
first_off [] rest = rest
first_off (a ∷ l) rest = cond a.ok (first_off l rest) (Place a.lt Misformed)

unfoldable pub entries_off : Words → List Tree → Bad → Bad
entries_off w [] rest = rest
entries_off w (t ∷ ts) rest = first_off (entry_agrees w (kids_in (held_of t))) (entries_off w ts rest)

abbrev pub disagreeing : Trees → Bad
disagreeing kids = entries_off reversale_words (entries_named "esito_reversali" kids) (entries_off mandato_words (entries_named "esito_mandati" kids) Nowhere)

-- the earlier of two places, the first of two that are one
abbrev pub earlier : Bad → Bad → Bad
earlier Nowhere b = b
earlier (Place p c) Nowhere = Place p c
earlier (Place p c) (Place q d) = cond (leb p q) (Place p c) (Place q d)

-- THE ANSWER: the values, or a refusal's code, place and cause
pub data MessageReading : Type 0 where
  read : Message → MessageReading
  refused : (code place cause : ℕ) → MessageReading

-- a message's root: its name, the structure of its table, and 1 to 64 entries in all
abbrev pub entries_in : Trees → ℕ
entries_in kids = length (entries_named "esito_reversali" kids) + length (entries_named "esito_mandati" kids)

abbrev pub is_message : Tree → Bool
is_message t =
    text_is (bytes "messaggi_esito_applicativo") (name_of t)
    && (held_fits (held_of t) (named (Rows MessaggiEsito)) && count_ok (entries_in (kids_in (held_of t))))

-- the first element in document order that hasn't its form or doesn't agree
abbrev pub first_broken : Tree → Bad
first_broken t = earlier (first_bad (fields_of MessaggiEsito t)) (disagreeing (kids_in (held_of t)))

-- "Every field reading tells one, and the flow's answer carries it .. All other answers carry cause 0." (Req 03)
abbrev pub by_place : Message → Bad → MessageReading
by_place m Nowhere = read m
by_place m (Place p c) = refused 5 p (cause_number c)

unfoldable pub reading_on : Tree → MessageReading
reading_on t = cond (is_message t) (by_place (message_in (kids_in (held_of t))) (first_broken t)) (refused 4 0 0)

-- "a message that can't be read, or is above 65,536 bytes, answers as 2 to 5 do"
abbrev pub max_message : ℕ
max_message = 65536

-- Req 05: "The caller names the edition, for outcome messages too": edition 2 allows an Id on the root, and no value of the message is in it
pub data MessageOf (e : Edition) (s : List ℕ) : MessageReading → Type 0 where
  too_long : max_message < length s → MessageOf e s (refused 2 0 0)
  no_tree : length s ≤ max_message → ((t : Tree) → ReadsAs (id_allowed e) s t → ⊥) → MessageOf e s (refused 3 0 0)
  on_tree : {t : Tree} {r : MessageReading} → length s ≤ max_message → ReadsAs (id_allowed e) s t → reading_on t ≡ r → MessageOf e s r
