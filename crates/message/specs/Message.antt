-- Document 02, Req 01: the values of a "messaggio di esito applicativo" of source document 000, 10.2.5, its words, and which values may be written.
use Rattle.std.specs.Prelude.{◌≡◌, ◌⊎◌, List, [], ◌∷◌, Bool, true, false, cond, ◌||◌, ℕ, ◌+◌, ◌≤◌, length, eqb}
use Prim.Native.String.{String}
use Rattle.scan.specs.Bytes.{between}
use Rattle.bounds.specs.Bounds.{is_year, is_numero, max_cents}
use Rattle.calendar.specs.declared.Date.{Date}
use Rattle.calendar.specs.Calendar.{is_date}
use Rattle.digits.specs.Digits.{is_refusal}
use Rattle.codes.specs.declared.Operation.{Operation}
use Rattle.codes.specs.declared.Operation.TheVariants.{Inserimento, Variazione, Annullo, Sostituzione}
use Rattle.fields.specs.declared.Form.{Form}
use Rattle.fields.specs.declared.Form.TheVariants.{CodiceAbi, Identificativo, CodiceEnte, DataOraZona, Testo}
use Rattle.fields.specs.declared.Judged.TheVariants.{Stands}
use Rattle.fields.specs.Fields.{field_stands}
use Rattle.grammar.specs.Grammar.{Text}
use Rattle.tree.specs.Orders.{Words, joined}

-- VALUES

-- "One entry per order": its operation and outcome code, 0 where it was accepted; the flow, esercizio, number, date and amount; "the time of outcome"
pub record Entry : Type 0 where
  pub operation : Operation
  pub code : ℕ
  pub flow : List ℕ
  pub esercizio : ℕ
  pub number : ℕ
  pub date : Date
  pub total : ℕ
  pub time : List ℕ

-- the texts of testata_messaggio, an empty ISTAT code where there is none, and identificativo_flusso_BT; then the entries of each kind
pub record Message : Type 0 where
  pub abi : List ℕ
  pub created : List ℕ
  pub ente : List ℕ
  pub described : List ℕ
  pub istat : List ℕ
  pub fiscal : List ℕ
  pub tramite_ente : List ℕ
  pub tramite_bt : List ℕ
  pub body : List ℕ
  pub flow_bt : List ℕ
  pub reversali : List Entry
  pub mandati : List Entry

-- WORDS

-- "10.2.5's outcome word for the operation"
abbrev pub accepted_as : Operation → String
accepted_as Inserimento = "ACQUISITO"
accepted_as Variazione = "VARIATO"
accepted_as Annullo = "ANNULLATO"
accepted_as Sostituzione = "SOSTITUITO"

abbrev pub refused_as : Operation → String
refused_as Inserimento = "NON ACQUISITO"
refused_as Variazione = "NON VARIATO"
refused_as Annullo = "NON ANNULLATO"
refused_as Sostituzione = "NON SOSTITUITO"

abbrev pub is_accepted : ℕ → Bool
is_accepted code = eqb code 0

abbrev pub word_of : Bool → Operation → String
word_of true o = accepted_as o
word_of false o = refused_as o

-- the flow's names of an order's number, date and amount, and of its lines' numbers, by its kind
abbrev pub number_name : Words → String
number_name w = joined "numero_" w.name

abbrev pub date_name : Words → String
date_name w = joined "data_" w.name

abbrev pub total_name : Words → String
total_name w = joined "importo_" w.name

abbrev pub progressivo_name : Words → String
progressivo_name w = joined "progressivo_" w.party

-- "element name: the operation for 11, progressivo for 12, the order's amount for 13 and 19, else the number": the flow's names, by the order's kind
unfoldable pub element_name : Words → ℕ → String
element_name w code =
    cond (eqb code 11) "tipo_operazione" (cond (eqb code 12) (progressivo_name w) (cond (eqb code 13 || eqb code 19) (total_name w) (number_name w)))

-- WHAT MAY BE WRITTEN

-- a text of its form that is "document 01's text"
pub record TextOk (f : Form) (t : List ℕ) : Type 0 where
  pub form : field_stands f t ≡ Stands
  pub text : Text t

-- "a code no order can get" is any other
abbrev pub is_outcome : ℕ → Bool
is_outcome code = is_accepted code || is_refusal code

-- document 01's forms and ranges
pub record EntryOk (e : Entry) : Type 0 where
  pub code : is_outcome e.code ≡ true
  pub flow : TextOk Identificativo e.flow
  pub esercizio : is_year e.esercizio ≡ true
  pub number : is_numero e.number ≡ true
  pub date : is_date e.date ≡ true
  pub total : e.total ≤ max_cents
  pub time : TextOk DataOraZona e.time

pub data Every {A : Type 0} (Is : A → Type 0) : List A → Type 0 where
  every_none : Every Is []
  every_next : {a : A} {l : List A} → Is a → Every Is l → Every Is (a ∷ l)

abbrev pub entry_count : Message → ℕ
entry_count m = length m.reversali + length m.mandati

-- "1 to 64 of mandato and reversale" in a flow: as many entries
abbrev pub count_ok : ℕ → Bool
count_ok n = between 1 64 n

pub record MessageOk (m : Message) : Type 0 where
  pub abi : TextOk CodiceAbi m.abi
  pub created : TextOk DataOraZona m.created
  pub ente : TextOk Testo m.ente
  pub described : TextOk Testo m.described
  pub istat : (m.istat ≡ []) ⊎ TextOk Testo m.istat
  pub fiscal : TextOk Testo m.fiscal
  pub tramite_ente : TextOk Testo m.tramite_ente
  pub tramite_bt : TextOk Testo m.tramite_bt
  pub body : TextOk CodiceEnte m.body
  pub flow_bt : TextOk Testo m.flow_bt
  pub reversali : Every EntryOk m.reversali
  pub mandati : Every EntryOk m.mandati
  pub count : count_ok (entry_count m) ≡ true
