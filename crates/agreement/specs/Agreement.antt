-- What a message's fields say of each other, by the rows of its tables: names for the contracts of the code. By name it is `disagreeing` (crates/message).
use Rattle.std.specs.Prelude.{ℕ, List, [], ◌∷◌, Bool, true, false, cond, not, Option, Some, None}
use Rattle.scan.specs.Bytes.{bytes, text_is}
use Rattle.codes.specs.declared.Esito.{Esito}
use Rattle.codes.specs.declared.Esito.TheVariants.{Accepted, Refused}
use Rattle.codes.specs.Codes.{esito_operazione}
use Rattle.digits.specs.Digits.{codice_errore}
use Rattle.schema.specs.declared.Parent.{Parent}
use Rattle.schema.specs.declared.Parent.TheVariants.{MessaggiEsito, EsitoReversali, EsitoMandati, ErroriReversali, ErroriMandati}
use Rattle.rows.specs.declared.Kept.{Kept}
use Rattle.rows.specs.Kept.{kept_from, next_of}
use Rattle.orders.specs.Orders.{in_row, text_in, value_of, inside_of}
use Rattle.parts.specs.Parts.{span_in}
use Rattle.tree.specs.Orders.{Words, mandato_words, reversale_words}
use Rattle.message.specs.Message.{element_name}
use Rattle.schema.specs.declared.Holds.TheVariants.{Rows}
use Rattle.agreement.specs.declared.EntryKind.{EntryKind}
use Rattle.agreement.specs.declared.EntryKind.TheVariants.{Reversale, Mandato}

-- OF A KIND: its words, the tables of its entries and of their lists of errors, the row of the root's table that they stand in
abbrev pub words_of : EntryKind → Words
words_of Reversale = reversale_words
words_of Mandato = mandato_words

abbrev pub entry_parent : EntryKind → Parent
entry_parent Reversale = EsitoReversali
entry_parent Mandato = EsitoMandati

abbrev pub errors_parent : EntryKind → Parent
errors_parent Reversale = ErroriReversali
errors_parent Mandato = ErroriMandati

abbrev pub entry_row : EntryKind → ℕ
entry_row Reversale = 2
entry_row Mandato = 3

-- A LIST OF ERRORS, of its children: codice_errore, descrizione and elemento are rows 1 to 3
unfoldable pub errors_off_at : EntryKind → List ℕ → List Kept → Option ℕ
errors_off_at k s es =
    cond (text_is (text_in 1 s es) (text_in 2 s es))
    (cond (text_is (bytes (element_name (words_of k) (value_of (codice_errore (text_in 1 s es))))) (text_in 3 s es)) None (Some (span_in 3 es).lt))
    (Some (span_in 2 es).lt)

abbrev pub list_off : EntryKind → List ℕ → Option Kept → Option ℕ
list_off k s (Some x) = errors_off_at k s (inside_of s x (Rows (errors_parent k)))
list_off k s None = None

abbrev pub is_there : Option Kept → Bool
is_there (Some k) = true
is_there None = false

abbrev pub word_stands : Option Esito → Bool → Bool
word_stands (Some (Accepted o)) listed = not listed
word_stands (Some (Refused o)) listed = listed
word_stands None listed = false

-- AN ENTRY, of its children: esito_operazione and lista_errori are rows 6 and 8
unfoldable pub entry_off_at : EntryKind → List ℕ → List Kept → Option ℕ
entry_off_at k s es = cond (word_stands (esito_operazione (text_in 6 s es)) (is_there (next_of (in_row 8 es)))) (list_off k s (next_of (in_row 8 es))) (Some (span_in 6 es).lt)

abbrev pub or_off : Option ℕ → Option ℕ → Option ℕ
or_off (Some p) rest = Some p
or_off None rest = rest

-- ENTRIES of a kind
unfoldable pub entries_off_at : EntryKind → List ℕ → List Kept → Option ℕ
entries_off_at k s [] = None
entries_off_at k s (e ∷ es) = or_off (entry_off_at k s (inside_of s e (Rows (entry_parent k)))) (entries_off_at k s es)

-- ALL OF THEM, among the root's children from i on
abbrev pub entries_of : EntryKind → List ℕ → ℕ → List Kept
entries_of k s i = in_row (entry_row k) (kept_from MessaggiEsito s i)

abbrev pub off_from : List ℕ → ℕ → Option ℕ
off_from s i = or_off (entries_off_at Reversale s (entries_of Reversale s i)) (entries_off_at Mandato s (entries_of Mandato s i))
