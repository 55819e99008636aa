-- THE THEOREM: the reader's definition `markup_of` (crates/markup/specs/Markup.antt) accepts exactly the documents of the grammar
-- (crates/grammar/specs/Grammar.antt), for every list of bytes, whether an Id may stand on the root or not.
use Rattle.std.specs.Prelude.{Ok}
use mathlib.Core.Path.{◌≡◌}
use Prim.Native.Nat.{ℕ}
use mathlib.Core.List.{List}
use mathlib.Core.Bool.{Bool}
use Rattle.markup.specs.Markup.{markup_of}
use Rattle.grammar.specs.Grammar.{Document, root_place, name_end, content_place}
use Rattle.grammar.specs.XML.{WellFormedXML}
use Rattle.grammar.proofs.Sound.{flow_sound}
use Rattle.grammar.proofs.Complete.{flow_complete}
use Rattle.grammar.proofs.XML.{flow_well_formed}

-- whatever is accepted is a document of the grammar
pub sound : (ids : Bool) (s : List ℕ) (lt e c : ℕ) → markup_of ids s ≡ Ok (lt, e, c) → Document ids s
sound = flow_sound

-- every document of the grammar is accepted, and the answer is the place of its root, of its root's name's end and of its content
pub complete : (ids : Bool) (s : List ℕ) (f : Document ids s) → markup_of ids s ≡ Ok ((root_place f), (name_end f), (content_place f))
complete ids = flow_complete

-- "Everything accepted is well-formed XML 1.0": the recommendation's productions (crates/grammar/specs/XML.antt) derive it
pub well_formed : (ids : Bool) (s : List ℕ) (lt e c : ℕ) → markup_of ids s ≡ Ok (lt, e, c) → WellFormedXML s
well_formed ids s lt e c h = flow_well_formed s (sound ids s lt e c h)
