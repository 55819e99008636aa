-- Req 02 of document 02, said of the pieces that the grammar makes a text of: a character that XML allows, or one of the five references.
-- crates/names/specs/Names.antt counts from byte to byte, as the code does; here is what that counts, of every text that the grammar derives.
use Rattle.std.specs.Prelude.{◌≡◌, ◌↔◌, ℕ, suc, ◌≤◌, List, [], ◌∷◌}
use Rattle.grammar.specs.Grammar.{Pieces, none, more, Text, text}
use Rattle.names.specs.Names.{references_replaced, characters}
use Rattle.fields.specs.declared.Form.TheVariants.{Anagrafica}
use Rattle.fields.specs.declared.Judged.TheVariants.{Stands}
use Rattle.fields.specs.Fields.{field_stands}
use Rattle.standing.specs.Readings.{Field}

-- how many pieces a text has: a reference counts as one, as a character does
unfoldable pub pieces_in : {t : List ℕ} → Pieces t → ℕ
pieces_in none = 0
pieces_in (more p ps) = suc (pieces_in ps)

unfoldable pub pieces : {t : List ℕ} → Text t → ℕ
pieces (text ps w) = pieces_in ps

-- "Anagrafica holds 1 to 140 characters, each of the five references counting as one."
pub record Counted {t : List ℕ} (x : Text t) : Type 0 where
  pub counted : characters (references_replaced t) ≡ pieces x
  pub stands : (field_stands Anagrafica t ≡ Stands) ↔ ((1 ≤ pieces x) × (pieces x ≤ 140))

-- fields, each anagrafica among them: the grammar derives the text, so that every byte of it is of a character or a reference, and it is counted so
pub data AllCounted : List Field → Type 0 where
  counted_none : AllCounted []
  counted_next : {f : Field} {fs : List Field} (x : Text f.text) → Counted x → AllCounted fs → AllCounted (f ∷ fs)
