-- What is read may be written: the values of a message that stands are in order.
use Rattle.std.specs.Prelude.{Option, Some, None}
use mathlib.Core.Path.{◌≡◌, refl, sym, ap, ◌∙◌}
use mathlib.Core.List.{List, [], ◌∷◌}
use mathlib.Core.Bool.{Bool, true, false, cond, ◌||◌}
use Prim.Native.Nat.{ℕ, suc, ◌≤◌}
use native.Mathlib.Omega.{arith}
use lib.ListN.{length}
use lib.Dec.{eqb}
use borrow.Author.Tests.{le-leb, ne_eqb}
use Rattle.scan.specs.Bytes.{bytes, between, starts_with, has_at, text_is}
use Rattle.bounds.specs.Bounds.{is_year, is_numero, max_cents}
use Rattle.calendar.specs.Calendar.{is_date}
use Rattle.digits.specs.Digits.{within, digits, esercizio, numero, importo, codice_errore, is_refusal}
use Rattle.digits.proofs.Laws.{importo_range, refusal_in}
use Rattle.dates.specs.Dates.{data_of}
use Rattle.dates.proofs.Laws.{data_real}
use Rattle.fields.specs.declared.Form.TheVariants.{Identificativo, Esercizio, Numero, Data, Importo, DataOraZona, EsitoOperazione, CodiceErrore, Descrizione, Elemento}
use Rattle.fields.specs.Fields.{field_stands}
use Rattle.orders.specs.Orders.{value_of, date_of}
use Rattle.schema.specs.declared.Parent.{Parent}
use Rattle.tree.proofs.ByName.{Fixed}
use Rattle.schema.specs.declared.Parent.TheVariants.{MessaggiEsito, TestataMessaggio, EsitoReversali, EsitoMandati, ErroriReversali, ErroriMandati}
use Rattle.schema.specs.declared.Holds.TheVariants.{Text as TextOf, Rows}
use Rattle.schema.specs.Table.{table, entry_rows, error_rows}
use Rattle.tree.specs.Tree.{Tree, Trees, held_of, kids_in}
use Rattle.tree.specs.Orders.{children_named, Words, mandato_words, reversale_words, text_named}
use Rattle.tree.proofs.Values.{number_there, day_there}
use Rattle.message.specs.Message.{TextOk, is_outcome, EntryOk, Every, every_none, every_next, count_ok, MessageOk, number_name, date_name, progressivo_name}
use Rattle.message.specs.Read.{code_in, entry_in, each_of, message_in, entries_in}
use Rattle.message.proofs.Kept.{RowAt, Sound, text_there, text_maybe, rows_sound, row_sound}
use Rattle.message.proofs.Blind.{each_length}

-- THE NAMES OF AN ENTRY'S TABLE p and of its list of errors' table q are the words w
pub record Spelt (p q : Parent) (w : Words) : Type 0 where
  pub flow : RowAt p 0 1 1 "identificativo_flusso" (TextOf Identificativo)
  pub esercizio : RowAt p 1 1 1 "esercizio" (TextOf Esercizio)
  pub number : RowAt p 2 1 1 (number_name w) (TextOf Numero)
  pub date : RowAt p 4 1 1 (date_name w) (TextOf Data)
  pub total : RowAt p 5 1 1 "importo" (TextOf Importo)
  pub word : RowAt p 6 1 1 "esito_operazione" (TextOf EsitoOperazione)
  pub time : RowAt p 7 1 1 "data_ora_esito_operazione" (TextOf DataOraZona)
  pub errors : RowAt p 8 0 1 "lista_errori" (Rows q)
  pub code : RowAt q 1 1 1 "codice_errore" (TextOf CodiceErrore)
  pub described : RowAt q 2 1 1 "descrizione" (TextOf Descrizione)
  pub element : RowAt q 3 1 1 "elemento" (TextOf Elemento)
  pub rows : table p ≡ entry_rows (number_name w) (progressivo_name w) (date_name w) q
  pub error_rows : table q ≡ error_rows (progressivo_name w)
  pub entry_fixed : Fixed p
  pub errors_fixed : Fixed q

pub spelt_reversale : Spelt EsitoReversali ErroriReversali reversale_words
unfolding text_is has_at starts_with
spelt_reversale = record {
  flow = record { row = (_, refl); spot = refl };
  esercizio = record { row = (_, refl); spot = refl };
  number = record { row = (_, refl); spot = refl };
  date = record { row = (_, refl); spot = refl };
  total = record { row = (_, refl); spot = refl };
  word = record { row = (_, refl); spot = refl };
  time = record { row = (_, refl); spot = refl };
  errors = record { row = (_, refl); spot = refl };
  code = record { row = (_, refl); spot = refl };
  described = record { row = (_, refl); spot = refl };
  element = record { row = (_, refl); spot = refl };
  rows = refl;
  error_rows = refl;
  entry_fixed = λ b. refl;
  errors_fixed = λ b. refl;
}

pub spelt_mandato : Spelt EsitoMandati ErroriMandati mandato_words
unfolding text_is has_at starts_with
spelt_mandato = record {
  flow = record { row = (_, refl); spot = refl };
  esercizio = record { row = (_, refl); spot = refl };
  number = record { row = (_, refl); spot = refl };
  date = record { row = (_, refl); spot = refl };
  total = record { row = (_, refl); spot = refl };
  word = record { row = (_, refl); spot = refl };
  time = record { row = (_, refl); spot = refl };
  errors = record { row = (_, refl); spot = refl };
  code = record { row = (_, refl); spot = refl };
  described = record { row = (_, refl); spot = refl };
  element = record { row = (_, refl); spot = refl };
  rows = refl;
  error_rows = refl;
  entry_fixed = λ b. refl;
  errors_fixed = λ b. refl;
}

-- VALUES of fields that stand
-- a number of which f holds
within_there : (f : ℕ → Bool) (x : Option ℕ) (n : ℕ) → within f x ≡ Some n → f n ≡ true
within_there f (Some v) n e = go (f v) refl e
  where
    go : (b : Bool) → f v ≡ b → cond b (Some v) None ≡ Some n → f n ≡ true
    go true z h = let y : v ≡ n = cc in rw y at z
    go false z h = let y : ◌≡◌ {A = ℕ} 0 1 = cc in absurd (omega arith)
within_there f None n e = let y : ◌≡◌ {A = ℕ} 0 1 = cc in absurd (omega arith)

year_ok : (t : List ℕ) → TextOk Esercizio t → is_year (value_of (esercizio t)) ≡ true
unfolding field_stands esercizio
year_ok t k = within_there is_year (digits 4 4 t) (value_of (esercizio t)) (number_there (esercizio t) k.form)

number_ok : (t : List ℕ) → TextOk Numero t → is_numero (value_of (numero t)) ≡ true
unfolding field_stands numero
number_ok t k = within_there is_numero (digits 1 7 t) (value_of (numero t)) (number_there (numero t) k.form)

total_ok : (t : List ℕ) → TextOk Importo t → value_of (importo t) ≤ max_cents
unfolding field_stands
total_ok t k = let l = importo_range t (number_there (importo t) k.form) in omega arith

date_ok : (t : List ℕ) → TextOk Data t → is_date (date_of (data_of t)) ≡ true
unfolding field_stands
date_ok t k = data_real t (day_there (data_of t) k.form)

pub code_ok : (t : List ℕ) → TextOk CodiceErrore t → is_refusal (value_of (codice_errore t)) ≡ true
unfolding field_stands codice_errore
code_ok t k = within_there is_refusal (digits 2 2 t) (value_of (codice_errore t)) (number_there (codice_errore t) k.form)

-- the code of a refusal isn't 0
pub not_zero : (n : ℕ) → is_refusal n ≡ true → eqb n 0 ≡ false
not_zero n e = let r = refusal_in n e in let a = r.0 in ne_eqb n 0 (λ z. omega arith)

in_codes : (n : ℕ) → is_refusal n ≡ true → is_outcome n ≡ true
in_codes n e = rw (not_zero n e) e

-- AN ENTRY
module _ {p q : Parent} {w : Words} (sp : Spelt p q w) where
  codes_ok : {e : ℕ} (l : List Tree) → Every (λ (t : Tree). Sound (suc e) 1 q (kids_in (held_of t))) l → is_outcome (code_in l) ≡ true
  codes_ok [] k = refl
  codes_ok (t ∷ l) (every_next a k) = let x = text_named "codice_errore" (kids_in (held_of t)) in in_codes (value_of (codice_errore x)) (code_ok x (text_there a sp.code refl))

  entry_ok : {e : ℕ} (ts : Trees) → Sound (suc (suc e)) 2 p ts → EntryOk (entry_in w ts)
  entry_ok ts s = record {
    code = codes_ok (children_named ("lista_errori" ∷ []) ts) (rows_sound s sp.errors sp.errors_fixed);
    flow = text_there s sp.flow refl;
    esercizio = year_ok (text_named "esercizio" ts) (text_there s sp.esercizio refl);
    number = number_ok (text_named (number_name w) ts) (text_there s sp.number refl);
    date = date_ok (text_named (date_name w) ts) (text_there s sp.date refl);
    total = total_ok (text_named "importo" ts) (text_there s sp.total refl);
    time = text_there s sp.time refl;
  }

  entries_ok : {e : ℕ} (l : List Tree) → Every (λ (t : Tree). Sound (suc (suc e)) 2 p (kids_in (held_of t))) l → Every EntryOk (each_of (entry_in w) l)
  unfolding each_of
  entries_ok [] k = every_none
  entries_ok (t ∷ l) (every_next a k) = every_next (entry_ok (kids_in (held_of t)) a) (entries_ok l k)

-- A MESSAGE
pub values_ok : {e : ℕ} (ts : Trees) → Sound (suc (suc (suc e))) 3 MessaggiEsito ts → count_ok (entries_in ts) ≡ true → MessageOk (message_in ts)
unfolding text_is has_at starts_with
values_ok ts s c =
    let h = row_sound s {n = 0} {lo = 1} {hi = 1} {x = "testata_messaggio"} {q = TestataMessaggio} (record { row = (_, refl); spot = refl }) (λ b. refl) refl in
    let r = rows_sound s {n = 2} {lo = 0} {hi = 64} {x = "esito_reversali"} {q = EsitoReversali} (record { row = (_, refl); spot = refl }) (λ b. refl) in
    let m = rows_sound s {n = 3} {lo = 0} {hi = 64} {x = "esito_mandati"} {q = EsitoMandati} (record { row = (_, refl); spot = refl }) (λ b. refl) in
    let a = each_length (entry_in reversale_words) (children_named ("esito_reversali" ∷ []) ts) in
    let b = each_length (entry_in mandato_words) (children_named ("esito_mandati" ∷ []) ts) in
    record {
      abi = text_there h {n = 0} {lo = 1} {hi = 1} (record { row = (_, refl); spot = refl }) refl;
      created = text_there h {n = 1} {lo = 1} {hi = 1} (record { row = (_, refl); spot = refl }) refl;
      ente = text_there h {n = 2} {lo = 1} {hi = 1} (record { row = (_, refl); spot = refl }) refl;
      described = text_there h {n = 3} {lo = 1} {hi = 1} (record { row = (_, refl); spot = refl }) refl;
      istat = text_maybe h {n = 4} {lo = 0} {hi = 1} {x = "codice_istat_ente"} (record { row = (_, refl); spot = refl });
      fiscal = text_there h {n = 5} {lo = 1} {hi = 1} (record { row = (_, refl); spot = refl }) refl;
      tramite_ente = text_there h {n = 6} {lo = 1} {hi = 1} (record { row = (_, refl); spot = refl }) refl;
      tramite_bt = text_there h {n = 7} {lo = 1} {hi = 1} (record { row = (_, refl); spot = refl }) refl;
      body = text_there h {n = 8} {lo = 1} {hi = 1} (record { row = (_, refl); spot = refl }) refl;
      flow_bt = text_there s {n = 1} {lo = 1} {hi = 1} (record { row = (_, refl); spot = refl }) refl;
      reversali = entries_ok spelt_reversale (children_named ("esito_reversali" ∷ []) ts) r;
      mandati = entries_ok spelt_mandato (children_named ("esito_mandati" ∷ []) ts) m;
      count = rw (a, b) c;
    }
