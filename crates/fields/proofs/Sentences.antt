-- Document 02's sentences on causes, proved.
use Rattle.std.specs.Prelude.{Some, None, Err}
use Prim.Native.Nat.{ℕ, ◌≤◌, ◌<◌}
use mathlib.Core.Path.{◌≡◌, refl, ap, ◌∙◌}
use mathlib.Core.List.{List}
use mathlib.Core.Bool.{true, false, not}
use native.Mathlib.Omega.{arith}
use lib.ListN.{length, replicate}
use borrow.Author.Tests.{ne_eqb, le-ltb}
use Rattle.scan.specs.Bytes.{bytes, is_digit, is_letter, is_alnum, all, run, starts_with, has_at, text_is}
use Rattle.scan.specs.Characters.{is_char, sized, is_tail, char_size}
use Rattle.scan.specs.References.{which_at}
use Rattle.bounds.specs.Bounds.{is_numero}
use Rattle.ranges.specs.Ranges.{is_identifying}
use Rattle.calendar.specs.declared.Date.{Date}
use Rattle.calendar.specs.Calendar.{leap, month_length, is_date}
use Rattle.codes.specs.Codes.{codice_abi, identificativo, codice_ente, tipo_operazione, is_asked, length_in, accepted_word, refused_word, esito_operazione}
use Rattle.digits.specs.Digits.{digits_after, digits, zero_in_front, is_value, value_is, esercizio, numero_written, numero, importo, progressivo, codice_errore}
use Rattle.dates.specs.Dates.{is_on, day_is, data_written, data_of, clock, signs, data_ora_written, data_ora_within, data_ora, zone_signs, zona_by, data_ora_zona}
use Rattle.names.specs.Names.{replaced_after, characters_after, anagrafica}
use Rattle.fields.specs.declared.Form.{Form}
use Rattle.fields.specs.declared.Form.TheVariants.{CodiceAbi, Identificativo, DataOra, CodiceEnte, Esercizio, TipoOperazione, Numero, Data, Importo, Progressivo, Anagrafica, DataOraZona, Testo, EsitoOperazione, CodiceErrore, Descrizione, Elemento}
use Rattle.fields.specs.declared.Cause.{Cause}
use Rattle.fields.specs.declared.Cause.TheVariants.{Empty, Long, Misformed, OutOfRange}
use Rattle.fields.specs.Causes.{cause_number, formed, in_range, applies}
use Rattle.fields.specs.Fields.{reading_of, field_stands}
use Rattle.fields.specs.Sentences.{Reached, Sentences}
use Rattle.fields.proofs.Told.{formed_sized, tells}

-- a text of the right form whose value is out of range is told so
out_of_range : (f : Form) (t : List ℕ) → formed f t ≡ true → in_range f t ≡ false → reading_of f t ≡ Err OutOfRange
out_of_range f t e r = (tells f t).first_told OutOfRange (record { it_applies = rw (e, r) refl; none_before = before })
  where
    before : (v : Cause) → cause_number v < 4 → applies v f t ≡ false
    before Empty h = (formed_sized f t e).0
    before Long h = (formed_sized f t e).1
    before Misformed h = ap not e
    before OutOfRange h = absurd (omega arith)

unreal : (t : List ℕ) (d : Date) → data_written t ≡ Some d → is_date d ≡ false → reading_of Data t ≡ Err OutOfRange
unfolding formed in_range
unreal t d e r = out_of_range Data t (ap is_on e) (ap (day_is is_date) e ∙ r)

nothing : (t : List ℕ) → numero_written t ≡ Some 0 → reading_of Numero t ≡ Err OutOfRange
unfolding formed in_range
nothing t e = out_of_range Numero t (ap is_value e) (ap (value_is is_numero) e)

unknown : (t : List ℕ) → tipo_operazione t ≡ None → 1 ≤ length t → length t ≤ 12 → reading_of TipoOperazione t ≡ Err Misformed
unfolding formed
unknown t e l m = (tells TipoOperazione t).first_told Misformed (record { it_applies = ap (λ a. not (is_asked a)) e; none_before = before })
  where
    before : (v : Cause) → cause_number v < 3 → applies v TipoOperazione t ≡ false
    before Empty h = ne_eqb (length t) 0 (λ z. omega arith)
    before Long h = le-ltb 12 (length t) m
    before Misformed h = absurd (omega arith)
    before OutOfRange h = absurd (omega arith)

reached : (f : Form) → Reached f
unfolding is_digit is_letter is_alnum all run starts_with has_at text_is is_char sized is_tail char_size which_at leap month_length is_date is_identifying codice_abi identificativo codice_ente tipo_operazione digits_after digits zero_in_front esercizio numero importo progressivo data_of clock signs data_ora_written data_ora_within data_ora replaced_after characters_after anagrafica length_in accepted_word refused_word esito_operazione codice_errore zone_signs zona_by data_ora_zona field_stands
reached CodiceAbi = record { text = bytes "01234"; whole = refl; stands = refl }
reached Identificativo = record { text = replicate 35 65; whole = refl; stands = refl }
reached DataOra = record { text = bytes "2021-03-01T09:30:00"; whole = refl; stands = refl }
reached CodiceEnte = record { text = replicate 16 65; whole = refl; stands = refl }
reached Esercizio = record { text = bytes "2021"; whole = refl; stands = refl }
reached TipoOperazione = record { text = bytes "SOSTITUZIONE"; whole = refl; stands = refl }
reached Numero = record { text = bytes "9999999"; whole = refl; stands = refl }
reached Data = record { text = bytes "2021-03-01"; whole = refl; stands = refl }
reached Importo = record { text = bytes "999999999.99"; whole = refl; stands = refl }
reached Progressivo = record { text = bytes "999"; whole = refl; stands = refl }
reached Anagrafica = record { text = replicate 140 65; whole = refl; stands = refl }
reached DataOraZona = record { text = bytes "2021-03-01T09:30:00+01:00"; whole = refl; stands = refl }
reached Testo = record { text = replicate 140 65; whole = refl; stands = refl }
reached EsitoOperazione = record { text = bytes "NON SOSTITUITO"; whole = refl; stands = refl }
reached CodiceErrore = record { text = bytes "19"; whole = refl; stands = refl }
reached Descrizione = record { text = bytes "19"; whole = refl; stands = refl }
reached Elemento = record { text = bytes "progressivo_beneficiario"; whole = refl; stands = refl }

pub sentences : Sentences
sentences = record { told = tells; reached = reached; unreal_date = unreal; unknown_operation = unknown; numero_zero = nothing }
