-- The structure (document 01, "The structure", and of outcome messages document 000, 10.2.5): for each parent its named children, in this order.
use Rattle.std.specs.Prelude.{ℕ, suc, ◌-◌, List, [], ◌∷◌, Bool, true, false, cond, ◌&&◌, length, eqb, Option, Some, None}
use Prim.Native.String.{String}
use Rattle.scan.specs.Bytes.{bytes, has_at}
use Rattle.fields.specs.declared.Form.TheVariants.{CodiceAbi, Identificativo, DataOra, CodiceEnte, Esercizio, TipoOperazione, Numero, Data, Importo, Progressivo, Anagrafica, DataOraZona, Testo, EsitoOperazione, CodiceErrore, Descrizione, Elemento}
use Rattle.schema.specs.declared.Parent.{Parent}
use Rattle.schema.specs.declared.Parent.TheVariants.{FlussoOrdinativi, Mandato, Reversale, InformazioniBeneficiario, InformazioniVersante, SostituzioneMandato, SostituzioneReversale, Beneficiario, Versante, MessaggiEsito, TestataMessaggio, EsitoReversali, EsitoMandati, ErroriReversali, ErroriMandati, FlussoOpi, TestataFlusso}
use Rattle.schema.specs.declared.Holds.{Holds}
use Rattle.schema.specs.declared.Holds.TheVariants.{Text, Rows}

-- a name, and what the element of that name holds: the text of a field, or the named children of a parent
infix 20 ◌is◌
pub data Named : Type 0 where
  ◌is◌ : String → Holds → Named

-- a row: the names that may stand here, and how many such elements at least and at most
pub record Row : Type 0 where
  pub names : List Named
  pub least : ℕ
  pub most : ℕ

-- "Each named child stands exactly once except those given a number"
abbrev pub once : Named → Row
once n = record { names = n ∷ []; least = 1; most = 1 }

abbrev pub many : ℕ → ℕ → List Named → Row
many least most ns = record { names = ns; least = least; most = most }

-- document 02, Req 01: "an empty ISTAT code left out", "if refused one error"
abbrev pub optional : Named → Row
optional n = record { names = n ∷ []; least = 0; most = 1 }

-- a name of document 000's tables that isn't written: where it stands the structure breaks
abbrev pub never : Named → Row
never n = record { names = n ∷ []; least = 0; most = 0 }

-- document 02, Req 07: "A SOSTITUZIONE line holds its structure once, after beneficiario or versante, else answer 4; other operations pass it over"
abbrev pub if_replacing : Bool → Named → List Row
if_replacing true n = once n ∷ []
if_replacing false n = []

-- a root's orders: "mandato and reversale in any mix", 1 to 64
abbrev pub orders_row : Row
orders_row = many 1 64 (("mandato" is Rows (Mandato false)) ∷ ("reversale" is Rows (Reversale false)) ∷ [])

-- an entry of an outcome message (document 000, Tab. 17) ..
abbrev pub entry_end : Parent → List Row
entry_end errors =
    once ("importo" is Text Importo)
    ∷ once ("esito_operazione" is Text EsitoOperazione)
    ∷ once ("data_ora_esito_operazione" is Text DataOraZona)
    ∷ optional ("lista_errori" is Rows errors)
    ∷ []

abbrev pub entry_rows : String → String → String → Parent → List Row
entry_rows number progressivo date errors =
    once ("identificativo_flusso" is Text Identificativo)
    ∷ once ("esercizio" is Text Esercizio)
    ∷ once (number is Text Numero)
    ∷ never (progressivo is Text Progressivo)
    ∷ once (date is Text Data)
    ∷ entry_end errors

-- .. and its list of errors
abbrev pub error_end : List Row
error_end = once ("codice_errore" is Text CodiceErrore) ∷ once ("descrizione" is Text Descrizione) ∷ once ("elemento" is Text Elemento) ∷ []

abbrev pub error_rows : String → List Row
error_rows progressivo = never (progressivo is Text Progressivo) ∷ error_end

-- THE TABLE. An order and a line of it are told whether the order replaces others: then each line names the one that it replaces, by "the sostituzione
-- structures of 000" (document 02, Req 07)
abbrev pub table : Parent → List Row
table FlussoOrdinativi =
    once ("codice_ABI_BT" is Text CodiceAbi)
    ∷ once ("identificativo_flusso" is Text Identificativo)
    ∷ once ("data_ora_creazione_flusso" is Text DataOra)
    ∷ once ("codice_ente_BT" is Text CodiceEnte)
    ∷ once ("esercizio" is Text Esercizio)
    ∷ orders_row
    ∷ []
table (Mandato r) =
    once ("tipo_operazione" is Text TipoOperazione)
    ∷ once ("numero_mandato" is Text Numero)
    ∷ once ("data_mandato" is Text Data)
    ∷ once ("importo_mandato" is Text Importo)
    ∷ many 1 8 (("informazioni_beneficiario" is Rows (InformazioniBeneficiario r)) ∷ [])
    ∷ []
table (InformazioniBeneficiario r) =
    once ("progressivo_beneficiario" is Text Progressivo)
    ∷ once ("importo_beneficiario" is Text Importo)
    ∷ once ("beneficiario" is Rows Beneficiario)
    ∷ if_replacing r ("sostituzione_mandato" is Rows SostituzioneMandato)
table SostituzioneMandato =
    once ("numero_mandato_da_sostituire" is Text Numero)
    ∷ once ("progressivo_beneficiario_da_sostituire" is Text Progressivo)
    ∷ once ("esercizio_mandato_da_sostituire" is Text Esercizio)
    ∷ []
table Beneficiario = once ("anagrafica_beneficiario" is Text Anagrafica) ∷ []
-- "Reversale is the same with reversale, informazioni_versante, versante in place of mandato, informazioni_beneficiario, beneficiario"
table (Reversale r) =
    once ("tipo_operazione" is Text TipoOperazione)
    ∷ once ("numero_reversale" is Text Numero)
    ∷ once ("data_reversale" is Text Data)
    ∷ once ("importo_reversale" is Text Importo)
    ∷ many 1 8 (("informazioni_versante" is Rows (InformazioniVersante r)) ∷ [])
    ∷ []
table (InformazioniVersante r) =
    once ("progressivo_versante" is Text Progressivo)
    ∷ once ("importo_versante" is Text Importo)
    ∷ once ("versante" is Rows Versante)
    ∷ if_replacing r ("sostituzione_reversale" is Rows SostituzioneReversale)
table SostituzioneReversale =
    once ("numero_reversale_da_sostituire" is Text Numero)
    ∷ once ("progressivo_versante_da_sostituire" is Text Progressivo)
    ∷ once ("esercizio_reversale_da_sostituire" is Text Esercizio)
    ∷ []
table Versante = once ("anagrafica_versante" is Text Anagrafica) ∷ []
-- OUTCOME MESSAGES: "the messaggio di esito applicativo of source document 000, 10.2.5" (Tab. 17, its testata Tab. 13), as Req 01 has it written. (That
-- there are 1 to 64 entries in all is asked where a message is read)
table MessaggiEsito =
    once ("testata_messaggio" is Rows TestataMessaggio)
    ∷ once ("identificativo_flusso_BT" is Text Testo)
    ∷ many 0 64 (("esito_reversali" is Rows EsitoReversali) ∷ [])
    ∷ many 0 64 (("esito_mandati" is Rows EsitoMandati) ∷ [])
    ∷ []
table TestataMessaggio =
    once ("codice_ABI_BT" is Text CodiceAbi)
    ∷ once ("data_ora_creazione_flusso" is Text DataOraZona)
    ∷ once ("codice_ente" is Text Testo)
    ∷ once ("descrizione_ente" is Text Testo)
    ∷ optional ("codice_istat_ente" is Text Testo)
    ∷ once ("codice_fiscale_ente" is Text Testo)
    ∷ once ("codice_tramite_ente" is Text Testo)
    ∷ once ("codice_tramite_BT" is Text Testo)
    ∷ once ("codice_ente_BT" is Text CodiceEnte)
    ∷ []
table EsitoReversali = entry_rows "numero_reversale" "progressivo_versante" "data_reversale" ErroriReversali
table EsitoMandati = entry_rows "numero_mandato" "progressivo_beneficiario" "data_mandato" ErroriMandati
table ErroriReversali = error_rows "progressivo_versante"
table ErroriMandati = error_rows "progressivo_beneficiario"
-- Document 02, Req 05: "Edition 2 has the header of document 000, 9.2.1, with its own nesting .. and takes the creation time with a zone"; "Only document
-- 01's five header fields are read"
table FlussoOpi =
    once ("testata_flusso" is Rows TestataFlusso)
    ∷ once ("esercizio" is Text Esercizio)
    ∷ orders_row
    ∷ []
table TestataFlusso =
    once ("codice_ABI_BT" is Text CodiceAbi)
    ∷ once ("identificativo_flusso" is Text Identificativo)
    ∷ once ("data_ora_creazione_flusso" is Text DataOraZona)
    ∷ once ("codice_ente_BT" is Text CodiceEnte)
    ∷ []

-- the name that stands from a up to e is x
unfoldable pub name_is : List ℕ → List ℕ → ℕ → ℕ → Bool
name_is x s a e = eqb (e - a) (length x) && has_at x s a

abbrev pub among : List Named → ℕ → List ℕ → ℕ → ℕ → Option (ℕ × Holds) → Option (ℕ × Holds)
among [] n s a e others = others
among ((x is h) ∷ ns) n s a e others = cond (name_is (bytes x) s a e) (Some (n, h)) (among ns n s a e others)

-- the row, counted from n, that the name from a up to e stands in, and what its element holds; "Elements whose name isn't among their parent's
-- named children .. are passed over"
abbrev pub spot_in : List Row → ℕ → List ℕ → ℕ → ℕ → Option (ℕ × Holds)
spot_in [] n s a e = None
spot_in (r ∷ rs) n s a e = among r.names n s a e (spot_in rs (suc n) s a e)
