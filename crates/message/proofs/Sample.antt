-- THE RUN OF DOCUMENT 01 as an outcome message, times and texts invented: these are its bytes, and it may be written.
use mathlib.Core.Path.{◌≡◌, refl}
use mathlib.Core.Logic.{◌⊎◌, inl, inr}
use mathlib.Core.List.{List, [], ◌∷◌}
use native.Mathlib.Omega.{arith}
use Rattle.scan.specs.Bytes.{bytes, is_letter, is_digit, is_alnum, all, text_is, has_at, starts_with}
use Rattle.ranges.specs.Ranges.{is_identifying}
use Rattle.tokens.specs.Tokens.{is_plain}
use Rattle.calendar.specs.Calendar.{leap, month_length, is_date}
use Rattle.codes.specs.declared.Operation.TheVariants.{Inserimento}
use Rattle.editions.specs.declared.Edition.{Edition}
use Rattle.codes.specs.Codes.{codice_abi, identificativo, codice_ente, length_in}
use Rattle.digits.specs.Digits.{digits_after, digits}
use Rattle.dates.specs.Dates.{data_of, clock, signs, data_ora_written, data_ora_within, data_ora, zone_signs, zona_by, data_ora_zona}
use Rattle.fields.specs.declared.Form.{Form}
use Rattle.fields.specs.declared.Form.TheVariants.{CodiceAbi, Identificativo, CodiceEnte, DataOraZona, Testo}
use Rattle.fields.specs.declared.Judged.TheVariants as judged
use Rattle.fields.specs.Fields.{field_stands}
use Rattle.tree.specs.Written.{bytes_of, bytes_held, bytes_all}
use Rattle.tree.proofs.Laid.{plain, plain_text}
use Rattle.pen.specs.Decimal.{decimal_by, decimal, amount, dated}
use Rattle.message.specs.Message.{Entry, Message, element_name, TextOk, EntryOk, Every, every_none, every_next, MessageOk}
use Rattle.message.specs.Written.{message_bytes}
use Rattle.message.specs.Read.{read, MessageOf}
use Rattle.message.proofs.Theorem.{read_written}

abbrev refused_entry : Entry
refused_entry = record { operation = Inserimento; code = 13; flow = bytes "A1"; esercizio = 2021; number = 12; date = record { year = 2021; month = 3; day = 1 }; total = 2000; time = bytes "2021-03-01T09:30:30+01:00" }

abbrev accepted_entry : Entry
accepted_entry = record { operation = Inserimento; code = 0; flow = bytes "A1"; esercizio = 2021; number = 12; date = record { year = 2021; month = 3; day = 1 }; total = 15000; time = bytes "2021-03-01T09:30:30+01:00" }

abbrev pub run : Message
run = record {
  abi = bytes "01234";
  created = bytes "2021-03-01T09:31:00+01:00";
  ente = bytes "UFABCD";
  described = bytes "I.C. Giovanni Pascoli";
  istat = [];
  fiscal = bytes "80012345678";
  tramite_ente = bytes "A2A-12345678";
  tramite_bt = bytes "A2A-87654321";
  body = bytes "000471";
  flow_bt = bytes "BT-238444";
  reversali = refused_entry ∷ [];
  mandati = accepted_entry ∷ [];
}

pub run_bytes : message_bytes run ≡ bytes "<messaggi_esito_applicativo><testata_messaggio><codice_ABI_BT>01234</codice_ABI_BT><data_ora_creazione_flusso>2021-03-01T09:31:00+01:00</data_ora_creazione_flusso><codice_ente>UFABCD</codice_ente><descrizione_ente>I.C. Giovanni Pascoli</descrizione_ente><codice_fiscale_ente>80012345678</codice_fiscale_ente><codice_tramite_ente>A2A-12345678</codice_tramite_ente><codice_tramite_BT>A2A-87654321</codice_tramite_BT><codice_ente_BT>000471</codice_ente_BT></testata_messaggio><identificativo_flusso_BT>BT-238444</identificativo_flusso_BT><esito_reversali><identificativo_flusso>A1</identificativo_flusso><esercizio>2021</esercizio><numero_reversale>12</numero_reversale><data_reversale>2021-03-01</data_reversale><importo>20.00</importo><esito_operazione>NON ACQUISITO</esito_operazione><data_ora_esito_operazione>2021-03-01T09:30:30+01:00</data_ora_esito_operazione><lista_errori><codice_errore>13</codice_errore><descrizione>13</descrizione><elemento>importo_reversale</elemento></lista_errori></esito_reversali><esito_mandati><identificativo_flusso>A1</identificativo_flusso><esercizio>2021</esercizio><numero_mandato>12</numero_mandato><data_mandato>2021-03-01</data_mandato><importo>150.00</importo><esito_operazione>ACQUISITO</esito_operazione><data_ora_esito_operazione>2021-03-01T09:30:30+01:00</data_ora_esito_operazione></esito_mandati></messaggi_esito_applicativo>"
unfolding bytes_of bytes_held bytes_all decimal_by decimal amount dated element_name
run_bytes = refl

time_ok : TextOk DataOraZona (bytes "2021-03-01T09:30:30+01:00")
unfolding field_stands data_ora_zona zone_signs zona_by data_ora data_ora_written data_ora_within signs clock data_of digits digits_after is_date month_length leap text_is has_at starts_with is_digit is_plain all
time_ok = record { form = refl; text = plain_text (bytes "2021-03-01T09:30:30+01:00") refl }

flow_ok : TextOk Identificativo (bytes "A1")
unfolding field_stands identificativo is_identifying is_alnum is_letter is_digit is_plain all
flow_ok = record { form = refl; text = plain_text (bytes "A1") refl }

refused_ok : EntryOk refused_entry
unfolding is_date month_length leap
refused_ok = record { code = refl; flow = flow_ok; esercizio = refl; number = refl; date = refl; total = omega arith; time = time_ok }

accepted_ok : EntryOk accepted_entry
unfolding is_date month_length leap
accepted_ok = record { code = refl; flow = flow_ok; esercizio = refl; number = refl; date = refl; total = omega arith; time = time_ok }

pub run_ok : MessageOk run
unfolding field_stands codice_abi codice_ente length_in data_ora_zona zone_signs zona_by data_ora data_ora_written data_ora_within signs clock data_of digits digits_after is_date month_length leap text_is has_at starts_with is_alnum is_letter is_digit is_plain all
run_ok = record {
  abi = record { form = refl; text = plain_text run.abi refl };
  created = record { form = refl; text = plain_text run.created refl };
  ente = record { form = refl; text = plain_text run.ente refl };
  described = record { form = refl; text = plain_text run.described refl };
  istat = inl refl;
  fiscal = record { form = refl; text = plain_text run.fiscal refl };
  tramite_ente = record { form = refl; text = plain_text run.tramite_ente refl };
  tramite_bt = record { form = refl; text = plain_text run.tramite_bt refl };
  body = record { form = refl; text = plain_text run.body refl };
  flow_bt = record { form = refl; text = plain_text run.flow_bt refl };
  reversali = every_next refused_ok every_none;
  mandati = every_next accepted_ok every_none;
  count = refl;
}

pub run_read : (e : Edition) → MessageOf e (message_bytes run) (read run)
run_read e = read_written e run run_ok
