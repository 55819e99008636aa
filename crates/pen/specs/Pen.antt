-- A pen: bytes written one after the other into a lent buffer. Past its end nothing is written and the place counts on, so a run on an empty buffer
-- gives the length, and the same run on a buffer of that length writes.
use Rattle.std.specs.Prelude.{◌≡◌, List, ◌++◌, ℕ, ◌+◌, ◌≤◌, length}
use Rattle.words.specs.Numbers.{put}
use Rattle.grammar.specs.Grammar.{start_tag, end_tag}

-- from `at` on the bytes b were written, up to r: where they fit, the buffer has them and is as it was elsewhere
pub record Wrote (before after : List ℕ) (at : ℕ) (b : List ℕ) (r : ℕ) : Type 0 where
  pub to : r ≡ at + length b
  pub size : length after ≡ length before
  pub wrote : r ≤ length before → after ≡ put before at b

-- the place after the bytes b is far below what a count can hold
pub record Room (at : ℕ) (b : List ℕ) : Type 0 where
  pub fits : at + length b ≤ 1000000

-- an element that holds the bytes t
unfoldable pub tagged : List ℕ → List ℕ → List ℕ
tagged n t = start_tag n ++ t ++ end_tag n
