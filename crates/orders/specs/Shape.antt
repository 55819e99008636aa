-- What the structure says of an order and of a line of it: which row each named child stands in, so that they are read one after the other.
use Rattle.std.specs.Prelude.{ℕ, ◌≤◌, ◌<◌, ◌≡◌, List, [], Bool, true, false, length}
use Rattle.schema.specs.declared.Parent.{Parent}
use Rattle.schema.specs.declared.Parent.TheVariants.{FlussoOrdinativi, Mandato, Reversale, InformazioniBeneficiario, InformazioniVersante, SostituzioneMandato, SostituzioneReversale, Beneficiario, Versante, MessaggiEsito, TestataMessaggio, EsitoReversali, EsitoMandati, ErroriReversali, ErroriMandati, FlussoOpi, TestataFlusso}
use Rattle.schema.specs.declared.Holds.{Holds}
use Rattle.schema.specs.declared.Holds.TheVariants.{Text, Rows}
use Rattle.rows.specs.declared.Kept.{Kept}
use Rattle.schema.specs.Table.{table}
use Rattle.rows.specs.Kept.{kept_from}
use Rattle.structure.specs.Structure.{Range, ranges, rows_of, in_order, all_kept, kept_holds, fits_at}

-- how many elements each row of a named child's table takes
abbrev pub ranges_of : Holds → List Range
ranges_of (Text f) = []
ranges_of (Rows p) = ranges (table p)

-- a mandato's, which are a reversale's too, and those of its lines
abbrev pub order_rows : List Range
order_rows = ranges (table (Mandato false))

abbrev pub line_rows : Bool → List Range
line_rows r = ranges (table (InformazioniBeneficiario r))

-- those of the line that a line names
abbrev pub named_rows : List Range
named_rows = ranges (table SostituzioneMandato)

-- a line is one of an order that replaces others
abbrev pub is_replacing : Parent → Bool
is_replacing (InformazioniBeneficiario r) = r
is_replacing (InformazioniVersante r) = r
is_replacing FlussoOrdinativi = false
is_replacing (Mandato r) = false
is_replacing (Reversale r) = false
is_replacing SostituzioneMandato = false
is_replacing SostituzioneReversale = false
is_replacing Beneficiario = false
is_replacing Versante = false
is_replacing MessaggiEsito = false
is_replacing TestataMessaggio = false
is_replacing EsitoReversali = false
is_replacing EsitoMandati = false
is_replacing ErroriReversali = false
is_replacing ErroriMandati = false
is_replacing FlussoOpi = false
is_replacing TestataFlusso = false

abbrev pub line_rows_of : Holds → List Range
line_rows_of (Text f) = line_rows false
line_rows_of (Rows p) = line_rows (is_replacing p)

-- a named child of these rows, that holds what its row says, of at most d levels
pub record Shaped (rs : List Range) (d : ℕ) (s : List ℕ) (k : Kept) : Type 0 where
  pub within : k.child.gt < length s
  pub rows : ranges_of k.holds ≡ rs
  pub holds : kept_holds (λ q a. fits_at d q s a) s k ≡ true

-- from i on the named children stand in these rows, the first of number n, and each holds what its row says
pub record Filled (rs : List Range) (d : ℕ) (p : Parent) (s : List ℕ) (n i : ℕ) : Type 0 where
  pub within : i ≤ length s
  pub rows : in_order rs n (rows_of (kept_from p s i)) ≡ true
  pub each : all_kept (kept_holds (λ q a. fits_at d q s a) s) (kept_from p s i) ≡ true
