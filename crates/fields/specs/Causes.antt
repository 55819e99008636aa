-- What is wrong with a field (document 02, Req 03): "1 empty, 2 longer than the longest allowed text, 3 wrong form, 4 right form but a value outside its range. The first in that order is given."
use Rattle.std.specs.Prelude.{ℕ, List, Bool, true, cond, not, ◌&&◌, length, ltb, eqb}
use Rattle.bounds.specs.Bounds.{abi_length, max_code, is_year, is_numero}
use Rattle.calendar.specs.Calendar.{is_date}
use Rattle.codes.specs.Codes.{codice_abi, identificativo, codice_ente, tipo_operazione, is_asked, testo, descrizione, elemento, esito_operazione, is_word}
use Rattle.digits.specs.Digits.{is_value, value_is, esercizio_written, numero_written, importo, progressivo, is_refusal, codice_errore_written}
use Rattle.dates.specs.Dates.{data_written, is_on, day_is, data_ora_written, data_ora_within, data_ora_zona_written, data_ora_zona_within}
use Rattle.names.specs.Names.{references_replaced, characters, anagrafica}
use Rattle.fields.specs.declared.Form.{Form}
use Rattle.fields.specs.declared.Form.TheVariants.{CodiceAbi, Identificativo, DataOra, CodiceEnte, Esercizio, TipoOperazione, Numero, Data, Importo, Progressivo, Anagrafica, DataOraZona, Testo, EsitoOperazione, CodiceErrore, Descrizione, Elemento}
use Rattle.fields.specs.declared.Longest.{Longest}
use Rattle.fields.specs.declared.Longest.TheVariants.{Bytes, Characters}
use Rattle.fields.specs.declared.Cause.{Cause}
use Rattle.fields.specs.declared.Cause.TheVariants.{Empty, Long, Misformed, OutOfRange}

abbrev pub cause_number : Cause → ℕ
cause_number Empty = 1
cause_number Long = 2
cause_number Misformed = 3
cause_number OutOfRange = 4

-- THE LONGEST ALLOWED TEXT of each form (document 01, "The fields"): in bytes as they stand in the flow, and of a name in characters as its form counts them
abbrev pub longest : Form → Longest
longest CodiceAbi = Bytes abi_length
longest Identificativo = Bytes 35
longest DataOra = Bytes 19
longest CodiceEnte = Bytes max_code
longest Esercizio = Bytes 4
longest TipoOperazione = Bytes 12
longest Numero = Bytes 7
longest Data = Bytes 10
longest Importo = Bytes 12
longest Progressivo = Bytes 3
longest Anagrafica = Characters 140
longest DataOraZona = Bytes 25
longest Testo = Bytes 140
longest EsitoOperazione = Bytes 14
longest CodiceErrore = Bytes 2
longest Descrizione = Bytes 2
longest Elemento = Bytes 24

abbrev pub longer : Longest → List ℕ → Bool
longer (Bytes n) t = ltb n (length t)
longer (Characters n) t = ltb n (characters (references_replaced t))

-- THE RIGHT FORM, whatever value it writes: four digits, 1 to 7 digits, YYYY-MM-DD, YYYY-MM-DDThh:mm:ss; where document 01 gives no range, the form whole
unfoldable pub formed : Form → List ℕ → Bool
formed CodiceAbi t = codice_abi t
formed Identificativo t = identificativo t
formed DataOra t = data_ora_written t
formed CodiceEnte t = codice_ente t
formed Esercizio t = is_value (esercizio_written t)
formed TipoOperazione t = is_asked (tipo_operazione t)
formed Numero t = is_value (numero_written t)
formed Data t = is_on (data_written t)
formed Importo t = is_value (importo t)
formed Progressivo t = is_value (progressivo t)
formed Anagrafica t = anagrafica t
formed DataOraZona t = data_ora_zona_written t
formed Testo t = testo t
formed EsitoOperazione t = is_word (esito_operazione t)
formed CodiceErrore t = is_value (codice_errore_written t)
formed Descrizione t = descrizione t
formed Elemento t = elemento t

-- A VALUE IN ITS RANGE: "2000 to 2099"; "value 1 to 9,999,999"; "a real Gregorian date, years 2000 to 2099"; "hh 00 to 23, mm and ss 00 to 59"
unfoldable pub in_range : Form → List ℕ → Bool
in_range CodiceAbi t = true
in_range Identificativo t = true
in_range DataOra t = data_ora_within t
in_range CodiceEnte t = true
in_range Esercizio t = value_is is_year (esercizio_written t)
in_range TipoOperazione t = true
in_range Numero t = value_is is_numero (numero_written t)
in_range Data t = day_is is_date (data_written t)
in_range Importo t = true
in_range Progressivo t = true
in_range Anagrafica t = true
-- "with Z or a sign and hh:mm to 23:59"; an order's code
in_range DataOraZona t = data_ora_zona_within t
in_range Testo t = true
in_range EsitoOperazione t = true
in_range CodiceErrore t = value_is is_refusal (codice_errore_written t)
in_range Descrizione t = true
in_range Elemento t = true

-- WHEN EACH CAUSE APPLIES, in document 02's words
abbrev pub applies : Cause → Form → List ℕ → Bool
applies Empty f t = eqb (length t) 0
applies Long f t = longer (longest f) t
applies Misformed f t = not (formed f t)
applies OutOfRange f t = formed f t && not (in_range f t)

-- THE CAUSE OF A TEXT THAT BREAKS: "The first in that order is given"
unfoldable pub cause_of : Form → List ℕ → Cause
cause_of f t = cond (applies Empty f t) Empty (cond (applies Long f t) Long (cond (applies Misformed f t) Misformed OutOfRange))
