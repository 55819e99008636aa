-- The forms whose text stays bytes (document 01, "The fields"). A text is taken as it stands in the flow: nothing is trimmed.
use Rattle.std.specs.Prelude.{ℕ, List, Bool, true, false, cond, ◌&&◌, length, eqb, Option, Some, None}
use Rattle.scan.specs.Bytes.{bytes, between, is_digit, all, text_is}
use Rattle.bounds.specs.Bounds.{abi_length, is_code}
use Rattle.ranges.specs.Ranges.{is_identifying}
use Rattle.codes.specs.declared.Operation.{Operation}
use Rattle.codes.specs.declared.Operation.TheVariants.{Inserimento, Variazione, Annullo, Sostituzione}
use Rattle.codes.specs.declared.Esito.{Esito}
use Rattle.codes.specs.declared.Esito.TheVariants.{Accepted, Refused}

-- codice_ABI_BT: five digits. (They are compared as they stand, where a flow is for a bank: the desk)
unfoldable pub codice_abi : List ℕ → Bool
codice_abi t = eqb (length t) abi_length && all is_digit t

-- identificativo_flusso: 1 to 35 of letters, digits, - _ .
unfoldable pub identificativo : List ℕ → Bool
identificativo t = between 1 35 (length t) && all is_identifying t

-- codice_ente_BT: 1 to 16 letters and digits
unfoldable pub codice_ente : List ℕ → Bool
codice_ente t = is_code (length t) t

-- tipo_operazione: INSERIMENTO, VARIAZIONE, ANNULLO, SOSTITUZIONE
unfoldable pub tipo_operazione : List ℕ → Option Operation
tipo_operazione t =
    cond (text_is (bytes "INSERIMENTO") t) (Some Inserimento)
    (cond (text_is (bytes "VARIAZIONE") t) (Some Variazione)
    (cond (text_is (bytes "ANNULLO") t) (Some Annullo)
    (cond (text_is (bytes "SOSTITUZIONE") t) (Some Sostituzione) None)))

abbrev pub is_asked : Option Operation → Bool
is_asked (Some o) = true
is_asked None = false

-- an operation's number, 1 to 4 in the field table's order (document 01, "Answers", outcome byte 1)
abbrev pub operation_number : Operation → ℕ
operation_number Inserimento = 1
operation_number Variazione = 2
operation_number Annullo = 3
operation_number Sostituzione = 4

-- OUTCOME MESSAGES (document 000, 10.2.5)

-- a text of lo to hi bytes
unfoldable pub length_in : ℕ → ℕ → List ℕ → Bool
length_in lo hi t = between lo hi (length t)

-- document 02, Req 01: "Caller's texts have 1 to 140 bytes"
abbrev pub testo : List ℕ → Bool
testo t = length_in 1 140 t

-- descrizione: "the code again as description", two digits
abbrev pub descrizione : List ℕ → Bool
descrizione t = length_in 1 2 t

-- elemento: an element's name, the longest of which (progressivo_beneficiario) has 24 bytes
abbrev pub elemento : List ℕ → Bool
elemento t = length_in 1 24 t

-- esito_operazione: the word of an operation that was accepted ..
unfoldable pub accepted_word : List ℕ → Option Operation
accepted_word t =
    cond (text_is (bytes "ACQUISITO") t) (Some Inserimento)
    (cond (text_is (bytes "VARIATO") t) (Some Variazione)
    (cond (text_is (bytes "ANNULLATO") t) (Some Annullo)
    (cond (text_is (bytes "SOSTITUITO") t) (Some Sostituzione) None)))

-- .. and of one that was refused
unfoldable pub refused_word : List ℕ → Option Operation
refused_word t =
    cond (text_is (bytes "NON ACQUISITO") t) (Some Inserimento)
    (cond (text_is (bytes "NON VARIATO") t) (Some Variazione)
    (cond (text_is (bytes "NON ANNULLATO") t) (Some Annullo)
    (cond (text_is (bytes "NON SOSTITUITO") t) (Some Sostituzione) None)))

abbrev pub refused_by : Option Operation → Option Esito
refused_by (Some o) = Some (Refused o)
refused_by None = None

abbrev pub esito_by : Option Operation → Option Esito → Option Esito
esito_by (Some o) others = Some (Accepted o)
esito_by None others = others

-- one of the eight words
unfoldable pub esito_operazione : List ℕ → Option Esito
esito_operazione t = esito_by (accepted_word t) (refused_by (refused_word t))

abbrev pub is_word : Option Esito → Bool
is_word (Some (Accepted o)) = true
is_word (Some (Refused o)) = true
is_word None = false
