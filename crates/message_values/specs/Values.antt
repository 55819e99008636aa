-- The values of a message by the rows of its tables: names for the contracts of the code. By name they are `values_in` (crates/message_read).
use Rattle.std.specs.Prelude.{ℕ, ◌+◌, ◌-◌, ◌%◌, List, [], ◌∷◌, ◌++◌, cond, get_or, eqb}
use Rattle.tokens.specs.Tokens.{white_at}
use Rattle.codes.specs.Codes.{operation_number, esito_operazione}
use Rattle.digits.specs.Digits.{esercizio, numero, importo, codice_errore}
use Rattle.dates.specs.Dates.{data_of}
use Rattle.words.specs.Numbers.{bytes2, bytes4, bytes8}
use Rattle.record.specs.Slot.{mandato_kind, reversale_kind}
use Rattle.schema.specs.declared.Parent.TheVariants.{MessaggiEsito, TestataMessaggio}
use Rattle.rows.specs.declared.Kept.{Kept}
use Rattle.rows.specs.Kept.{kept_from}
use Rattle.orders.specs.Orders.{text_in, value_of, date_of, inside_of}
use Rattle.parts.specs.declared.Span.{Span}
use Rattle.parts.specs.Parts.{no_span, span_in, parts_in, text_by}
use Rattle.message.specs.Read.{operation_in}
use Rattle.agreement.specs.declared.EntryKind.{EntryKind}
use Rattle.agreement.specs.declared.EntryKind.TheVariants.{Reversale, Mandato}
use Rattle.agreement.specs.Agreement.{entry_parent, errors_parent, entries_of}
use Rattle.schema.specs.declared.Holds.TheVariants.{Rows}
use Rattle.message_values.specs.declared.Facts.{Facts}

abbrev pub entry_room : ℕ
entry_room = 48

abbrev pub header_room : ℕ
header_room = 80

-- a kind's number, document 01's
abbrev pub kind_number : EntryKind → ℕ
kind_number Reversale = reversale_kind
kind_number Mandato = mandato_kind

-- a text's bytes: where it begins and its length, four bytes each
abbrev pub span_bytes : Span → List ℕ
span_bytes w = bytes4 w.from ++ bytes4 (w.to - w.from)

unfoldable pub spans_bytes : List Span → List ℕ
spans_bytes [] = []
spans_bytes (w ∷ ws) = span_bytes w ++ spans_bytes ws

-- AN ENTRY
abbrev pub facts_bytes : Facts → List ℕ
facts_bytes f =
    f.kind ∷ f.operation ∷ f.code ∷ 0
    ∷ (bytes2 f.esercizio ++ 0 ∷ 0 ∷ (bytes4 f.number ++ bytes2 f.date.year ++ f.date.month % 256 ∷ f.date.day % 256 ∷ bytes8 f.total))

-- codice_errore is row 1 of a list of errors
abbrev pub error_code_at : EntryKind → List ℕ → Span → ℕ
error_code_at k s list = cond (eqb list.to 0) 0 (value_of (codice_errore (text_in 1 s (kept_from (errors_parent k) s (white_at s list.from)))))

-- of an entry's parts: esercizio, numero, data, importo, esito_operazione and lista_errori are rows 1, 2, 4, 5, 6 and 8 of its table
abbrev pub facts_at : EntryKind → List ℕ → List Span → Facts
facts_at k s each = record {
  kind = kind_number k;
  operation = operation_number (operation_in (esito_operazione (text_by s each 6)));
  code = error_code_at k s (get_or each 8 no_span);
  esercizio = value_of (esercizio (text_by s each 1));
  number = value_of (numero (text_by s each 2));
  date = date_of (data_of (text_by s each 4));
  total = value_of (importo (text_by s each 5));
}

abbrev pub parts_bytes : Facts → Span → Span → List ℕ
parts_bytes f flow time = facts_bytes f ++ (span_bytes flow ++ (span_bytes time ++ bytes8 0))

-- identificativo_flusso and data_ora_esito_operazione are rows 0 and 7
abbrev pub entry_by : EntryKind → List ℕ → List Span → List ℕ
entry_by k s each = parts_bytes (facts_at k s each) (get_or each 0 no_span) (get_or each 7 no_span)

unfoldable pub entry_at : EntryKind → List ℕ → List Kept → List ℕ
entry_at k s es = entry_by k s (parts_in es)

unfoldable pub entries_at : EntryKind → List ℕ → List Kept → List ℕ
entries_at k s [] = []
entries_at k s (e ∷ es) = entry_at k s (inside_of s e (Rows (entry_parent k))) ++ entries_at k s es

-- THE HEADER, of the root's children: testata_messaggio and identificativo_flusso_BT are rows 0 and 1
abbrev pub head_at : List ℕ → List Kept → List ℕ
head_at s ks = spans_bytes (parts_in (kept_from TestataMessaggio s (white_at s (span_in 0 ks).from))) ++ span_bytes (span_in 1 ks)

-- ALL OF IT, of the root's children from i on
abbrev pub values_from : List ℕ → ℕ → List ℕ
values_from s i = head_at s (kept_from MessaggiEsito s i) ++ (entries_at Reversale s (entries_of Reversale s i) ++ entries_at Mandato s (entries_of Mandato s i))
