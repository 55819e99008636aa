-- Judged by reading only: what the walk over an order's lines asks. That it is judging on what earlier lines marked is proved; the promises speak of none of it.
use Rattle.std.specs.Prelude.{ℕ, zero, suc, Bool, false, ◌&&◌, ◌||◌, cond, List, get_or, eqb}
use Rattle.order.specs.declared.Line.{Line}
use Rattle.order.specs.Ordinativo.{no_line}
use Rattle.record.specs.declared.Record.{Record}
use Rattle.replacing.specs.declared.Naming.{Naming}
use Rattle.replacing.specs.Replacing.{naming_of, named_code, with_replaced}

-- what line j of an order of this kind names, counted from 0
unfoldable pub naming_at : ℕ → List Line → ℕ → Naming
naming_at kind ls j = naming_of kind (get_or ls j no_line)

-- two lines of an order name the same line
unfoldable pub same_named : Naming → Naming → Bool
same_named a b = eqb a.line b.line && (eqb a.key.number b.key.number && eqb a.key.esercizio b.key.esercizio)

-- one of an order's first j lines names this line
unfoldable pub named_earlier : ℕ → List Line → ℕ → Naming → Bool
named_earlier kind ls zero m = false
named_earlier kind ls (suc j) m = same_named (naming_at kind ls j) m || named_earlier kind ls j m

-- the code of a line that was named before: there is no such line, or it is replaced already
unfoldable pub code_again : Bool → ℕ → ℕ
code_again before c = cond before (cond (eqb c 24) 24 25) c

-- what line j comes to, by reading only
abbrev pub read_code : ℕ → List Line → List Record → ℕ → ℕ
read_code kind ls rs j = code_again (named_earlier kind ls j (naming_at kind ls j)) (named_code rs (naming_at kind ls j))

-- the records after an order's first j lines
unfoldable pub replaced_to : ℕ → List Line → List Record → ℕ → List Record
replaced_to kind ls rs zero = rs
replaced_to kind ls rs (suc j) = with_replaced (replaced_to kind ls rs j) (naming_at kind ls j)
