-- The parts of an element by the rows of its table: names for the contracts of the code.
use Rattle.std.specs.Prelude.{ℕ, zero, suc, ◌+◌, ◌≤◌, ◌<◌, List, [], ◌∷◌, length, get_or, Option, Some, None}
use Rattle.scan.specs.Bytes.{part}
use Rattle.rows.specs.declared.Kept.{Kept}
use Rattle.rows.specs.Kept.{next_of}
use Rattle.orders.specs.Orders.{in_row}
use Rattle.parts.specs.declared.Span.{Span}

abbrev pub no_span : Span
no_span = record { lt = 0; from = 0; to = 0 }

-- where a child stands: the place of its <, and its text
abbrev pub span_of_next : Option Kept → Span
span_of_next (Some k) = record { lt = k.child.lt; from = k.child.gt + 1; to = k.child.to }
span_of_next None = no_span

-- the first of row n
abbrev pub span_in : ℕ → List Kept → Span
span_in n ks = span_of_next (next_of (in_row n ks))

-- of d rows, the first of number n
unfoldable pub spans_from : ℕ → ℕ → List Kept → List Span
spans_from zero n ks = []
spans_from (suc d) n ks = span_in n ks ∷ spans_from d (suc n) ks

abbrev pub parts_in : List Kept → List Span
parts_in ks = spans_from 9 0 ks

-- the text of row n, of the nine
abbrev pub text_by : List ℕ → List Span → ℕ → List ℕ
text_by s each n = part s (get_or each n no_span).from (get_or each n no_span).to

abbrev pub AllWithin : List ℕ → List Span → Type 0
AllWithin s each = (n : ℕ) → n < 9 → ((get_or each n no_span).from ≤ (get_or each n no_span).to) × ((get_or each n no_span).to ≤ length s)
