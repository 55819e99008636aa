-- Parents, forms and values as numbers, so that what is kept of a child takes two words. Inner names: that what a number stands for is what was written is
-- proved, and where a thing has no number it is not kept.
use Rattle.std.specs.Prelude.{ℕ, ◌+◌, ◌/◌, ◌%◌, ◌≤◌, ◌≡◌, Bool, true, false, cond, eqb}
use Rattle.codes.specs.declared.Operation.{Operation as Operazione}
use Rattle.codes.specs.declared.Operation.TheVariants.{Inserimento, Variazione, Annullo, Sostituzione}
use Rattle.fields.specs.declared.Form.{Form}
use Rattle.fields.specs.declared.Form.TheVariants.{CodiceAbi, Identificativo, DataOra, CodiceEnte, Esercizio, TipoOperazione, Numero, Data, Importo, Progressivo, Anagrafica, DataOraZona, Testo, EsitoOperazione, CodiceErrore, Descrizione, Elemento}
use Rattle.fields.specs.declared.Value.{Value}
use Rattle.fields.specs.declared.Value.TheVariants.{Number, Day, Operation}
use Rattle.schema.specs.declared.Parent.{Parent}
use Rattle.schema.specs.declared.Parent.TheVariants.{FlussoOrdinativi, Mandato, Reversale, InformazioniBeneficiario, InformazioniVersante, SostituzioneMandato, SostituzioneReversale, Beneficiario, Versante, MessaggiEsito, TestataMessaggio, EsitoReversali, EsitoMandati, ErroriReversali, ErroriMandati, FlussoOpi, TestataFlusso}
use Rattle.trail.specs.declared.Worth.{Worth}

abbrev pub flag : Bool → ℕ
flag true = 1
flag false = 0

abbrev pub parent_code : Parent → ℕ
parent_code (Mandato r) = 2 + flag r
parent_code (Reversale r) = 4 + flag r
parent_code (InformazioniBeneficiario r) = 6 + flag r
parent_code (InformazioniVersante r) = 8 + flag r
parent_code SostituzioneMandato = 10
parent_code SostituzioneReversale = 12
parent_code FlussoOrdinativi = 14
parent_code FlussoOpi = 16
parent_code Beneficiario = 0
parent_code Versante = 0
parent_code MessaggiEsito = 0
parent_code TestataMessaggio = 0
parent_code EsitoReversali = 0
parent_code EsitoMandati = 0
parent_code ErroriReversali = 0
parent_code ErroriMandati = 0
parent_code TestataFlusso = 0

abbrev pub parent_by : ℕ → Bool → Parent
parent_by b r =
    cond (eqb b 1) (Mandato r)
    (cond (eqb b 2) (Reversale r)
    (cond (eqb b 3) (InformazioniBeneficiario r)
    (cond (eqb b 4) (InformazioniVersante r)
    (cond (eqb b 5) SostituzioneMandato
    (cond (eqb b 6) SostituzioneReversale
    (cond (eqb b 7) FlussoOrdinativi
    FlussoOpi))))))

unfoldable pub parent_at : ℕ → Parent
parent_at c = parent_by (c / 2) (eqb (c % 2) 1)

abbrev pub form_code : Form → ℕ
form_code Esercizio = 1
form_code TipoOperazione = 2
form_code Numero = 3
form_code Data = 4
form_code Importo = 5
form_code Progressivo = 6
form_code CodiceAbi = 0
form_code Identificativo = 0
form_code DataOra = 0
form_code CodiceEnte = 0
form_code Anagrafica = 0
form_code DataOraZona = 0
form_code Testo = 0
form_code EsitoOperazione = 0
form_code CodiceErrore = 0
form_code Descrizione = 0
form_code Elemento = 0

unfoldable pub form_at : ℕ → Form
form_at c = cond (eqb c 1) Esercizio (cond (eqb c 2) TipoOperazione (cond (eqb c 3) Numero (cond (eqb c 4) Data (cond (eqb c 5) Importo Progressivo))))

-- the kinds of value that are kept have the numbers 1 to 6, each operation one of its own; 7 is a child that has children
abbrev pub operation_shape : Operazione → ℕ
operation_shape Inserimento = 3
operation_shape Variazione = 4
operation_shape Annullo = 5
operation_shape Sostituzione = 6

unfoldable pub value_at : ℕ → ℕ → Value
value_at shape w =
    cond (eqb shape 1) (Number w)
    (cond (eqb shape 2) (Day (record { year = w / 65536; month = w / 256 % 256; day = w % 256 }))
    (cond (eqb shape 3) (Operation Inserimento)
    (cond (eqb shape 4) (Operation Variazione)
    (cond (eqb shape 5) (Operation Annullo)
    (Operation Sostituzione)))))

-- a value in numbers, unless its shape is 0
pub record Tells (v : Value) (w : Worth) : Type 0 where
  pub shape : w.shape ≤ 6
  pub value : (w.shape ≡ 0 → ⊥) → value_at w.shape w.value ≡ v
