-- What the functions that compare one tag answer.
use Rattle.std.specs.Prelude.{ℕ, ◌+◌, ◌-◌, List, false, cond, length, Option, Some, None}
use Rattle.scan.specs.Bytes.{bytes, has_at}
use Rattle.fields.specs.declared.Form.{Form}
use Rattle.fields.specs.declared.Form.TheVariants.{CodiceAbi, Identificativo, CodiceEnte}
use Rattle.schema.specs.declared.Parent.{Parent}
use Rattle.schema.specs.declared.Parent.TheVariants.{Mandato, Reversale}
use Rattle.schema.specs.declared.Holds.{Holds}
use Rattle.schema.specs.declared.Holds.TheVariants.{Text, Rows}
use Rattle.tags.specs.Tags.{Opens, Seen}

-- the tag x of a row where it stands at i, else what else there is
abbrev pub tag_at : List ℕ → ℕ → Holds → List ℕ → ℕ → Option (ℕ × ℕ × Holds) → Option (ℕ × ℕ × Holds)
tag_at x row h s i others = cond (has_at x s i) (Some ((i + (length x - 1)), row, h)) others

abbrev pub order_at : ℕ → List ℕ → ℕ → Option (ℕ × ℕ × Holds)
order_at row s i = tag_at (bytes "<mandato>") row (Rows (Mandato false)) s i (tag_at (bytes "<reversale>") row (Rows (Reversale false)) s i None)

-- p's rows begin with the four fields of a header, the third of them of the form `time`
abbrev pub Heads : Form → Parent → Type 0
Heads time p =
    Opens p (bytes "<codice_ABI_BT>") 0 14 0 (Text CodiceAbi)
    × Opens p (bytes "<identificativo_flusso>") 0 22 1 (Text Identificativo)
    × Opens p (bytes "<data_ora_creazione_flusso>") 0 26 2 (Text time)
    × Opens p (bytes "<codice_ente_BT>") 0 15 3 (Text CodiceEnte)

-- seen by each parent of which Q holds
abbrev pub SeenBy : (Parent → Type 0) → List ℕ → ℕ → Option (ℕ × ℕ × Holds) → Type 0
SeenBy Q s i r = (p : Parent) → Q p → Seen p s i r
