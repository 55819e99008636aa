-- Document 02, Req 01: a message as it is written, in the order of document 000's Tab. 13 and 17: a tree, and its bytes.
use Rattle.std.specs.Prelude.{List, [], ◌∷◌, Bool, true, false, ℕ}
use Prim.Native.String.{String}
use Rattle.scan.specs.Bytes.{bytes}
use Rattle.tree.specs.Tree.{Tree, Trees, none, more}
use Rattle.tree.specs.Orders.{Words, mandato_words, reversale_words}
use Rattle.tree.specs.Written.{leaf, node, bytes_of}
use Rattle.pen.specs.Decimal.{fixed, decimal, amount, dated}
use Rattle.message.specs.Message.{Entry, Message, is_accepted, word_of, number_name, date_name, element_name}

-- one element after the other
infixr 20 ◌and◌
abbrev pub ◌and◌ : Tree → Trees → Trees
◌and◌ t ts = more t ts

-- AN ENTRY

-- "if refused one error: code, the code again as description, and element name"
abbrev pub error_out : Words → ℕ → Trees
error_out w code =
    leaf "codice_errore" (fixed 2 code)
    and leaf "descrizione" (fixed 2 code)
    and leaf "elemento" (bytes (element_name w code))
    and none

abbrev pub errors_out : Words → ℕ → Bool → Trees
errors_out w code true = none
errors_out w code false = node "lista_errori" (error_out w code) and none

-- "number, date, amount, 10.2.5's outcome word for the operation, time", after the flow and esercizio that Tab. 17 asks of each entry
abbrev pub entry_out : Words → Entry → Trees
entry_out w e =
    leaf "identificativo_flusso" e.flow
    and leaf "esercizio" (fixed 4 e.esercizio)
    and leaf (number_name w) (decimal e.number)
    and leaf (date_name w) (dated e.date)
    and leaf "importo" (amount e.total)
    and leaf "esito_operazione" (bytes (word_of (is_accepted e.code) e.operation))
    and leaf "data_ora_esito_operazione" e.time
    and errors_out w e.code (is_accepted e.code)

-- entries of the name x, and what follows them
abbrev pub entries_out : String → Words → List Entry → Trees → Trees
entries_out x w [] rest = rest
entries_out x w (e ∷ es) rest = node x (entry_out w e) and entries_out x w es rest

-- THE MESSAGE

-- "an empty ISTAT code left out"
abbrev pub istat_out : List ℕ → Trees → Trees
istat_out [] rest = rest
istat_out (b ∷ t) rest = leaf "codice_istat_ente" (b ∷ t) and rest

abbrev pub head_out : Message → Trees
head_out m =
    leaf "codice_ABI_BT" m.abi
    and leaf "data_ora_creazione_flusso" m.created
    and leaf "codice_ente" m.ente
    and leaf "descrizione_ente" m.described
    and istat_out m.istat
    (leaf "codice_fiscale_ente" m.fiscal
    and leaf "codice_tramite_ente" m.tramite_ente
    and leaf "codice_tramite_BT" m.tramite_bt
    and leaf "codice_ente_BT" m.body
    and none)

-- Tab. 17 has all esito_reversali before all esito_mandati
abbrev pub root_out : Message → Trees
root_out m =
    node "testata_messaggio" (head_out m)
    and leaf "identificativo_flusso_BT" m.flow_bt
    and entries_out "esito_reversali" reversale_words m.reversali (entries_out "esito_mandati" mandato_words m.mandati none)

abbrev pub message_tree : Message → Tree
message_tree m = node "messaggi_esito_applicativo" (root_out m)

-- "No white space stands between elements"
abbrev pub message_bytes : Message → List ℕ
message_bytes m = bytes_of (message_tree m)
