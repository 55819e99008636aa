-- Document 01's table, and flows for it as bytes.
use Rattle.std.specs.Prelude.{ℕ, ◌*◌, List, [], ◌∷◌, ◌++◌, replicate}
use Prim.Native.String.{String}
use Rattle.scan.specs.Bytes.{bytes}
use Rattle.opening.specs.Opening.{opened}

-- THE TABLE: opened for ABI 01234 with 000471 and 471, n slots each
abbrev pub request_of : ℕ → List ℕ
request_of n = bytes "01234" ++ 6 ∷ bytes "000471" ++ replicate 12 0 ++ n ∷ 3 ∷ bytes "471" ++ replicate 15 0 ++ n ∷ []

abbrev pub sample_table : List ℕ
sample_table = opened (request_of 4)

-- A FLOW: mandato `number` of 2021-03-01, of 1.00 in one line for `name`
abbrev pub mandato_for : String → String → String → List ℕ
mandato_for name operation number =
    bytes "<mandato><tipo_operazione>" ++ bytes operation ++ bytes "</tipo_operazione><numero_mandato>" ++ bytes number
    ++ bytes "</numero_mandato><data_mandato>2021-03-01</data_mandato><importo_mandato>1.00</importo_mandato>"
    ++ bytes "<informazioni_beneficiario><progressivo_beneficiario>1</progressivo_beneficiario><importo_beneficiario>1.00</importo_beneficiario>"
    ++ bytes "<beneficiario><anagrafica_beneficiario>"
    ++ bytes name ++ bytes "</anagrafica_beneficiario></beneficiario></informazioni_beneficiario></mandato>"

abbrev pub mandato : String → String → List ℕ
mandato = mandato_for "R"

-- a flow of 2021 with orders for the body with this code
abbrev pub flow_of : String → List ℕ → List ℕ
flow_of code orders =
    bytes "<flusso_ordinativi><codice_ABI_BT>01234</codice_ABI_BT><identificativo_flusso>A</identificativo_flusso>"
    ++ bytes "<data_ora_creazione_flusso>2021-03-01T09:30:00</data_ora_creazione_flusso><codice_ente_BT>"
    ++ bytes code ++ bytes "</codice_ente_BT><esercizio>2021</esercizio>" ++ orders ++ bytes "</flusso_ordinativi>"

-- mandato 1 inserted
abbrev pub single : String → List ℕ
single code = flow_of code (mandato "INSERIMENTO" "1")

-- AN OUTCOME BUFFER with room for n orders
abbrev pub room : ℕ → List ℕ
room n = replicate (16 * n) 0
