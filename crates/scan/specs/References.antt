-- The five references of a text, and the character that each stands for (XML 1.0, 4.6).
use Rattle.std.specs.Prelude.{ℕ, ◌+◌, List, [], ◌∷◌, cond, length, Result, Ok, Err}
use Rattle.std.proofs.Math.Option.{Option, none, some}
use Rattle.scan.specs.Bytes.{bytes, byte, has_at}

pub record Reference : Type 0 where
  pub written : List ℕ
  pub means : ℕ

-- "& only as &amp; &lt; &gt; &quot; &apos;" (document 01, "The markup")
abbrev pub references : List Reference
references =
    record { written = bytes "&amp;"; means = byte "&" }
    ∷ record { written = bytes "&lt;"; means = byte "<" }
    ∷ record { written = bytes "&gt;"; means = byte ">" }
    ∷ record { written = bytes "&quot;"; means = byte "\"" }
    ∷ record { written = bytes "&apos;"; means = byte "'" }
    ∷ []

-- which of rs stands at a position
unfoldable pub which_at : List Reference → List ℕ → ℕ → Option Reference
which_at [] s at = none
which_at (r ∷ rs) s at = cond (has_at r.written s at) (some r) (which_at rs s at)

-- past the one that stands there
abbrev pub past_ref : Option Reference → ℕ → Result ℕ ℕ
past_ref none at = Err at
past_ref (some r) at = Ok (at + length r.written)

-- past the reference at a position
unfoldable pub ref_at : List ℕ → ℕ → Result ℕ ℕ
ref_at s at = past_ref (which_at references s at) at
