-- What the crate's own functions promise each other.
use Rattle.std.specs.Prelude.{◌≡◌, ℕ, suc, ◌≤◌, ◌<◌, List, length, drop}
use Rattle.names.specs.Names.{references_replaced, characters}

-- from at up to q stands what counts as one
pub record OnePast (t : List ℕ) (at q : ℕ) : Type 0 where
  pub on : at < q
  pub within : q ≤ length t
  pub counted : characters (references_replaced (drop at t)) ≡ suc (characters (references_replaced (drop q t)))
