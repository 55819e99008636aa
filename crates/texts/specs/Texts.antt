-- A caller's texts and times (document 02, Req 01): "Caller's texts have 1 to 140 bytes of document 01's text, written as given, an empty ISTAT code left out".
use Rattle.std.specs.Prelude.{◌≡◌, List, Bool, true, false, ◌&&◌, ◌||◌, ℕ, ◌≤◌, length, eqb, Result, Ok, Err}
use Rattle.scan.specs.Bytes.{between}
use Rattle.tokens.specs.Tokens.{text_at}
use Rattle.dates.specs.Dates.{data_ora_zona}
use Rattle.grammar.specs.Grammar.{Text}

-- the reader of texts goes over all of t: with no < behind it, it breaks at the end and nowhere before
abbrev pub breaks_only_at : ℕ → Result ℕ ℕ → Bool
breaks_only_at n (Ok q) = false
breaks_only_at n (Err p) = eqb p n

unfoldable pub whole_text : List ℕ → Bool
whole_text t = breaks_only_at (length t) (text_at t 0)

unfoldable pub caller_text : List ℕ → Bool
caller_text t = between 1 140 (length t) && whole_text t

unfoldable pub istat_text : List ℕ → Bool
istat_text t = eqb (length t) 0 || caller_text t

-- "times are as there with Z or a sign and hh:mm to 23:59", of document 01's text like every value of a caller
unfoldable pub caller_time : List ℕ → Bool
caller_time t = data_ora_zona t && whole_text t

-- WHAT THESE TESTS TELL: b is the answer to the question P
pub record Tells (b : Bool) (P : Type 0) : Type 0 where
  pub sound : b ≡ true → P
  pub complete : P → b ≡ true

-- "document 01's text" is the grammar's
abbrev pub TextTold : Type 0
TextTold = (t : List ℕ) → Tells (whole_text t) (Text t)

abbrev pub CallerTextTold : Type 0
CallerTextTold = (t : List ℕ) → Tells (caller_text t) ((1 ≤ length t) × (length t ≤ 140) × Text t)
