-- The fields (document 01, "The fields", and document 02, Req 01): which form asks what of a field's text. The forms stand in Codes, Digits, Dates and
-- Names.
use Rattle.std.specs.Prelude.{ℕ, List, Bool, true, false, Option, Result, Some, None, Ok, Err}
use Rattle.codes.specs.declared.Esito.{Esito}
use Rattle.codes.specs.declared.Esito.TheVariants.{Accepted, Refused}
use Rattle.codes.specs.Codes.{codice_abi, identificativo, codice_ente, tipo_operazione, testo, descrizione, elemento, esito_operazione}
use Rattle.digits.specs.Digits.{esercizio, numero, importo, progressivo, codice_errore}
use Rattle.dates.specs.Dates.{data_ora, data_of, data_ora_zona}
use Rattle.names.specs.Names.{anagrafica}
use Rattle.fields.specs.declared.Judged.{Judged}
use Rattle.fields.specs.declared.Judged.TheVariants.{Stands, Breaks}
use Rattle.fields.specs.declared.Value.TheVariants as value
use Rattle.fields.specs.declared.Cause.{Cause}
use Rattle.fields.specs.declared.Form.{Form}
use Rattle.fields.specs.declared.Form.TheVariants.{CodiceAbi, Identificativo, DataOra, CodiceEnte, Esercizio, TipoOperazione, Numero, Data, Importo, Progressivo, Anagrafica, DataOraZona, Testo, EsitoOperazione, CodiceErrore, Descrizione, Elemento}
use Rattle.fields.specs.Causes.{cause_of}
use Rattle.codes.specs.declared.Operation.{Operation}
use Rattle.calendar.specs.declared.Date.{Date}
use Rattle.fields.specs.declared.Value.{Value}

-- WHAT A TEXT SAYS: a value of the form, or none. Of a text that stays bytes only that it has the form is said.
abbrev pub of_text : Bool → Option Value
of_text true = Some value.Text
of_text false = None

abbrev pub of_number : Option ℕ → Option Value
of_number (Some v) = Some (value.Number v)
of_number None = None

abbrev pub of_day : Option Date → Option Value
of_day (Some d) = Some (value.Day d)
of_day None = None

abbrev pub of_operation : Option Operation → Option Value
of_operation (Some o) = Some (value.Operation o)
of_operation None = None

abbrev pub of_esito : Option Esito → Option Value
of_esito (Some (Accepted o)) = Some (value.Accepted o)
of_esito (Some (Refused o)) = Some (value.Refused o)
of_esito None = None

-- which form asks what, in the table's order
abbrev pub field_value : Form → List ℕ → Option Value
field_value CodiceAbi t = of_text (codice_abi t)
field_value Identificativo t = of_text (identificativo t)
field_value DataOra t = of_text (data_ora t)
field_value CodiceEnte t = of_text (codice_ente t)
field_value Esercizio t = of_number (esercizio t)
field_value TipoOperazione t = of_operation (tipo_operazione t)
field_value Numero t = of_number (numero t)
field_value Data t = of_day (data_of t)
field_value Importo t = of_number (importo t)
field_value Progressivo t = of_number (progressivo t)
field_value Anagrafica t = of_text (anagrafica t)
-- .. and of outcome messages
field_value DataOraZona t = of_text (data_ora_zona t)
field_value Testo t = of_text (testo t)
field_value EsitoOperazione t = of_esito (esito_operazione t)
field_value CodiceErrore t = of_number (codice_errore t)
field_value Descrizione t = of_text (descrizione t)
field_value Elemento t = of_text (elemento t)

-- A READING: the value that a text says, or what is wrong with it (Causes)
abbrev pub told : Cause → Option Value → Result Value Cause
told w (Some v) = Ok v
told w None = Err w

abbrev pub reading_of : Form → List ℕ → Result Value Cause
reading_of f t = told (cause_of f t) (field_value f t)

-- IT STANDS: it says a value
abbrev pub stands_by : Option Value → Judged
stands_by (Some v) = Stands
stands_by None = Breaks

unfoldable pub field_stands : Form → List ℕ → Judged
field_stands f t = stands_by (field_value f t)

-- the same of each kind of form
abbrev pub judged : Bool → Judged
judged b = stands_by (of_text b)

abbrev pub is_number : Option ℕ → Judged
is_number n = stands_by (of_number n)

abbrev pub is_day : Option Date → Judged
is_day d = stands_by (of_day d)

abbrev pub is_operation : Option Operation → Judged
is_operation a = stands_by (of_operation a)

abbrev pub is_esito : Option Esito → Judged
is_esito e = stands_by (of_esito e)
