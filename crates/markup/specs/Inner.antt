-- What the reader's inner functions promise each other.
use Rattle.std.specs.Prelude.{ℕ, ◌+◌, List, Bool, cond, eqb, Result, Ok, Err}
use Rattle.scan.specs.Bytes.{byte, byte_at}
use Rattle.tokens.specs.Tokens.{name_at, tag_end_at}
use Rattle.markup.specs.Markup.{content_at, root_at, then_root, closed_by}

-- where a part breaks the whole does. (It is asked of parts that break)
abbrev pub broken_at : Result ℕ ℕ → Result (ℕ × ℕ × ℕ) ℕ
broken_at (Ok p) = Err p
broken_at (Err p) = Err p

-- the root's start tag, its < at lt
unfoldable pub opened_from : Bool → List ℕ → ℕ → Result (ℕ × ℕ × ℕ) ℕ
opened_from ids s lt = then_root (name_at s (lt + 1)) (λ e. then_root (tag_end_at ids s e) (λ c. Ok (lt, e, c)))

-- all up to the root's content
unfoldable pub opened_of : Bool → List ℕ → Result (ℕ × ℕ × ℕ) ℕ
opened_of ids s = cond (eqb (byte_at s (root_at s)) (byte "<")) (opened_from ids s (root_at s)) (Err (root_at s))

-- the rest of what is open
abbrev pub then_closed : List ℕ → Result (ℕ × ℕ × ℕ) ℕ → Result (ℕ × ℕ × ℕ) ℕ
then_closed s (Ok (lt, e, c)) = closed_by s lt e c (content_at 11 s c)
then_closed s (Err p) = Err p
