-- WHAT IS WRITTEN of a message that is read (docs/FORMAT.md), by name: "80 bytes, ten pairs", then 48 bytes per entry. A text is shown as a part of the
-- message: where it begins, counted from 0, and its length.
use Rattle.std.specs.Prelude.{ℕ, ◌+◌, ◌*◌, List, [], ◌∷◌, ◌++◌, length}
use Prim.Native.String.{String}
use Rattle.codes.specs.Codes.{operation_number}
use Rattle.words.specs.Numbers.{bytes4, bytes8}
use Rattle.grammar.specs.Grammar.{start_tag}
use Rattle.tree.specs.Tree.{Tree, Trees, lt_of, name_of, held_of, kids_in}
use Rattle.tree.specs.Orders.{children_named, Words, mandato_words, reversale_words, held_text}
use Rattle.message.specs.Message.{Entry, Message, entry_count}
use Rattle.message.specs.Read.{kids_named, entry_in, entries_named}
use Rattle.message_values.specs.declared.Facts.{Facts}
use Rattle.message_values.specs.Values.{header_room, entry_room, facts_bytes}

-- where an element's text begins
abbrev pub text_place : Tree → ℕ
text_place t = lt_of t + length (start_tag (name_of t))

-- zeros where it is not there
abbrev pub shown : List Tree → List ℕ
shown [] = bytes4 0 ++ bytes4 0
shown (t ∷ ts) = bytes4 (text_place t) ++ bytes4 (length (held_text (held_of t)))

abbrev pub shown_named : String → Trees → List ℕ
shown_named x kids = shown (children_named (x ∷ []) kids)

-- THE HEADER: the nine texts of testata_messaggio, then identificativo_flusso_BT
abbrev pub testata_bytes : Trees → List ℕ
testata_bytes kids =
    shown_named "codice_ABI_BT" kids
    ++ (shown_named "data_ora_creazione_flusso" kids
    ++ (shown_named "codice_ente" kids
    ++ (shown_named "descrizione_ente" kids
    ++ (shown_named "codice_istat_ente" kids
    ++ (shown_named "codice_fiscale_ente" kids
    ++ (shown_named "codice_tramite_ente" kids
    ++ (shown_named "codice_tramite_BT" kids
    ++ shown_named "codice_ente_BT" kids)))))))

-- AN ENTRY: kind, operation, code, esercizio, number, date and total as a record's first 24 bytes; then identificativo_flusso, the time, and zeros
abbrev pub facts_of : Words → Entry → Facts
facts_of w e = record {
  kind = w.kind;
  operation = operation_number e.operation;
  code = e.code;
  esercizio = e.esercizio;
  number = e.number;
  date = e.date;
  total = e.total;
}

abbrev pub entry_shown : Words → Trees → List ℕ
entry_shown w kids = facts_bytes (facts_of w (entry_in w kids)) ++ (shown_named "identificativo_flusso" kids ++ (shown_named "data_ora_esito_operazione" kids ++ bytes8 0))

unfoldable pub entries_shown : Words → List Tree → List ℕ
entries_shown w [] = []
entries_shown w (t ∷ ts) = entry_shown w (kids_in (held_of t)) ++ entries_shown w ts

-- ALL OF IT, of the root's children
abbrev pub values_in : Trees → List ℕ
values_in kids =
    (testata_bytes (kids_named "testata_messaggio" kids) ++ shown_named "identificativo_flusso_BT" kids)
    ++ (entries_shown reversale_words (entries_named "esito_reversali" kids) ++ entries_shown mandato_words (entries_named "esito_mandati" kids))

abbrev pub values_size : Message → ℕ
values_size m = header_room + entry_room * entry_count m
