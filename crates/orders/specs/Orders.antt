-- The orders of a flow as values: everything after this speaks of them, and no longer of the flow's bytes.
use Rattle.std.specs.Prelude.{ℕ, ◌+◌, List, [], ◌∷◌, ◌++◌, Bool, cond, length, take, replicate, eqb, leb, Option, Some, None}
use Rattle.scan.specs.Bytes.{part}
use Rattle.tokens.specs.Tokens.{white_at}
use Rattle.calendar.specs.declared.Date.{Date}
use Rattle.codes.specs.declared.Operation.{Operation}
use Rattle.codes.specs.declared.Operation.TheVariants.{Sostituzione}
use Rattle.codes.specs.Codes.{tipo_operazione}
use Rattle.digits.specs.Digits.{numero, importo, progressivo, esercizio}
use Rattle.dates.specs.Dates.{data_of}
use Rattle.schema.specs.declared.Parent.TheVariants.{FlussoOrdinativi, Mandato, Reversale, InformazioniBeneficiario, InformazioniVersante, SostituzioneMandato, SostituzioneReversale, Beneficiario, Versante, MessaggiEsito, TestataMessaggio, EsitoReversali, EsitoMandati, ErroriReversali, ErroriMandati, FlussoOpi, TestataFlusso}
use Rattle.schema.specs.declared.Holds.{Holds}
use Rattle.schema.specs.declared.Holds.TheVariants.{Text, Rows}
use Rattle.rows.specs.declared.Kept.{Kept}
use Rattle.rows.specs.Kept.{kept_from, next_of}
use Rattle.rows.specs.Replaces.{rows_for}
use Rattle.order.specs.declared.NamedLine.{NamedLine}
use Rattle.order.specs.declared.Line.{Line}
use Rattle.order.specs.declared.Lines.{Lines}
use Rattle.order.specs.declared.Order.{Order}
use Rattle.order.specs.Ordinativo.{no_name, no_line}

-- the named children of which f holds
unfoldable pub those : (Kept → Bool) → List Kept → List Kept
those f [] = []
those f (k ∷ ks) = cond (f k) (k ∷ those f ks) (those f ks)

-- BY ROWS of the parent's table, counted from 0
abbrev pub of_row : ℕ → Kept → Bool
of_row n k = eqb k.row n

abbrev pub in_row : ℕ → List Kept → List Kept
in_row n = those (of_row n)

abbrev pub text_of_next : List ℕ → Option Kept → List ℕ
text_of_next s (Some k) = part s (k.child.gt + 1) k.child.to
text_of_next s None = []

-- the text of the child in a row that holds one (once the structure stands there is one: proved in proofs/)
unfoldable pub text_in : ℕ → List ℕ → List Kept → List ℕ
text_in n s ks = text_of_next s (next_of (in_row n ks))

-- VALUES of fields that stand. (The defaults are never used once structure and fields stand)
abbrev pub value_of : Option ℕ → ℕ
value_of (Some v) = v
value_of None = 0

abbrev pub date_of : Option Date → Date
date_of (Some d) = d
date_of None = record { year = 0; month = 0; day = 0 }

abbrev pub operation_of : Option Operation → Operation
operation_of (Some o) = o
operation_of None = Sostituzione

-- a named child's own named children
abbrev pub inside_of : List ℕ → Kept → Holds → List Kept
inside_of s k (Text f) = []
inside_of s k (Rows p) = kept_from p s (white_at s (k.child.gt + 1))

-- what it holds, where an order is told whether it replaces others
abbrev pub held_for : List ℕ → Kept → Holds → Holds
held_for s k (Text f) = Text f
held_for s k (Rows p) = Rows (rows_for p s (k.child.gt + 1))

unfoldable pub inside : List ℕ → Kept → List Kept
inside s k = inside_of s k (held_for s k k.holds)

-- THE LINE THAT A LINE NAMES, "by number, line and esercizio (the sostituzione structures of 000)" (document 02, Req 07): rows 0 to 2 of the structure's
-- table; none where the line has no such structure
abbrev pub named_by : List ℕ → List Kept → NamedLine
named_by s ks = record { number = value_of (numero (text_in 0 s ks)); line = value_of (progressivo (text_in 1 s ks)); esercizio = value_of (esercizio (text_in 2 s ks)) }

unfoldable pub named_of : List ℕ → Kept → NamedLine
named_of s k = named_by s (inside s k)

abbrev pub named_next : List ℕ → Option Kept → NamedLine
named_next s (Some k) = named_of s k
named_next s None = no_name

-- A LINE: progressivo is row 0 of its table, importo row 1, and the structure row 3, which only lines of an order that replaces others have
unfoldable pub named_in : List ℕ → List Kept → NamedLine
named_in s ks = named_next s (next_of (in_row 3 ks))

abbrev pub line_by : List ℕ → List Kept → Line
line_by s ks = record { progressivo = value_of (progressivo (text_in 0 s ks)); amount = value_of (importo (text_in 1 s ks)); named = named_in s ks }

unfoldable pub line_of : List ℕ → Kept → Line
line_of s k = line_by s (inside s k)

unfoldable pub lines_of : List ℕ → List Kept → List Line
lines_of s [] = []
lines_of s (k ∷ ks) = line_of s k ∷ lines_of s ks

-- eight places, `no_line` after the lines
unfoldable pub eight : List Line → List Line
eight ls = take 8 (ls ++ replicate 8 no_line)

-- the lines of an order: row 4 of its table
unfoldable pub lines_in : List ℕ → List Kept → Lines
lines_in s ks = record { count = length (in_row 4 ks); each = eight (lines_of s (in_row 4 ks)) }

-- AN ORDER: tipo_operazione, numero, data, importo are rows 0 to 3 of its table
abbrev pub kind_of : Holds → ℕ
kind_of (Text f) = 0
kind_of (Rows (Mandato r)) = 1
kind_of (Rows (Reversale r)) = 2
kind_of (Rows FlussoOrdinativi) = 0
kind_of (Rows (InformazioniBeneficiario r)) = 0
kind_of (Rows (InformazioniVersante r)) = 0
kind_of (Rows SostituzioneMandato) = 0
kind_of (Rows SostituzioneReversale) = 0
kind_of (Rows Beneficiario) = 0
kind_of (Rows Versante) = 0
kind_of (Rows MessaggiEsito) = 0
kind_of (Rows TestataMessaggio) = 0
kind_of (Rows EsitoReversali) = 0
kind_of (Rows EsitoMandati) = 0
kind_of (Rows ErroriReversali) = 0
kind_of (Rows ErroriMandati) = 0
kind_of (Rows FlussoOpi) = 0
kind_of (Rows TestataFlusso) = 0

abbrev pub order_by : ℕ → List ℕ → List Kept → Order
order_by kind s ks = record {
  kind = kind;
  operation = operation_of (tipo_operazione (text_in 0 s ks));
  number = value_of (numero (text_in 1 s ks));
  date = date_of (data_of (text_in 2 s ks));
  total = value_of (importo (text_in 3 s ks));
  lines = lines_in s ks;
}

unfoldable pub order_of : List ℕ → Kept → Order
order_of s k = order_by (kind_of k.holds) s (inside s k)

unfoldable pub orders_of : List ℕ → List Kept → List Order
orders_of s [] = []
orders_of s (k ∷ ks) = order_of s k ∷ orders_of s ks

-- THE ORDERS among named children, by what they hold: "mandato and reversale in any mix"
abbrev pub holds_order : Holds → Bool
holds_order h = leb 1 (kind_of h)

abbrev pub is_order : Kept → Bool
is_order k = holds_order k.holds

abbrev pub orders_in : List ℕ → List Kept → List Order
orders_in s ks = orders_of s (those is_order ks)
