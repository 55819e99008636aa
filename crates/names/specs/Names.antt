-- The form of a beneficiary's or a payer's name (document 01, "The fields", as Req 02 of document 02 has it). A text is taken as it stands in
-- the flow: nothing is trimmed.
use Rattle.std.specs.Prelude.{ℕ, zero, suc, ◌-◌, List, [], ◌∷◌, Bool, length}
use Rattle.std.proofs.Math.Option.{Option, none, some}
use Rattle.scan.specs.Bytes.{between}
use Rattle.scan.specs.Characters.{char_size_at}
use Rattle.scan.specs.References.{Reference, references, which_at}

-- what a byte b stands for that begins this reference, or none, and how many bytes of the reference follow it
abbrev pub meant : Option Reference → ℕ → ℕ
meant none b = b
meant (some r) b = r.means

abbrev pub follow : Option Reference → ℕ
follow none = 0
follow (some r) = length r.written - 1

-- t with the five references replaced; its first k bytes end one that was replaced before
unfoldable pub replaced_after : ℕ → List ℕ → List ℕ
replaced_after k [] = []
replaced_after (suc k) (b ∷ t) = replaced_after k t
replaced_after zero (b ∷ t) =
    meant (which_at references (b ∷ t) 0) b ∷ replaced_after (follow (which_at references (b ∷ t) 0)) t

abbrev pub references_replaced : List ℕ → List ℕ
references_replaced t = replaced_after 0 t

-- how many characters t has, its first k bytes being the rest of one that was counted before. A byte that begins no character counts as one;
-- no text of a flow whose markup stands holds such a byte (`flow-counted`, crates/tree/specs/Names.antt).
unfoldable pub characters_after : ℕ → List ℕ → ℕ
characters_after k [] = 0
characters_after (suc k) (b ∷ t) = characters_after k t
characters_after zero (b ∷ t) = suc (characters_after (char_size_at (b ∷ t) 0 - 1) t)

abbrev pub characters : List ℕ → ℕ
characters t = characters_after 0 t

-- anagrafica: "1 to 140 characters, each of the five references counting as one"
unfoldable pub anagrafica : List ℕ → Bool
anagrafica t = between 1 140 (characters (references_replaced t))
