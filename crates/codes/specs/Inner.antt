-- What the functions of this crate tell each other. The promises speak of none of it.
use Rattle.std.specs.Prelude.{ℕ, List, [], get_or, cond, Option, Some, None}
use Rattle.scan.specs.Bytes.{text_is}
use Rattle.codes.specs.declared.Operation.{Operation}
use Rattle.codes.specs.declared.Operation.TheVariants.{Inserimento, Variazione, Annullo, Sostituzione}

-- the operation whose word a text is, of four in the order of their numbers
unfoldable pub operation_by : List (List ℕ) → List ℕ → Option Operation
operation_by words t =
    cond (text_is (get_or words 0 []) t) (Some Inserimento)
    (cond (text_is (get_or words 1 []) t) (Some Variazione)
    (cond (text_is (get_or words 2 []) t) (Some Annullo)
    (cond (text_is (get_or words 3 []) t) (Some Sostituzione) None)))
