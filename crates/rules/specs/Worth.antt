-- What the lines of a body's records are worth: cash of a kind is one such number, whether one line is held is another. And what a replacement order brings in
-- and gives up of it.
use Rattle.std.specs.Prelude.{ℕ, suc, ◌+◌, Bool, true, false, ◌&&◌, not, cond, List, [], ◌∷◌, eqb}
use Rattle.codes.specs.declared.Operation.{Operation}
use Rattle.codes.specs.declared.Operation.TheVariants.{Inserimento, Variazione, Annullo, Sostituzione}
use Rattle.order.specs.declared.Line.{Line}
use Rattle.order.specs.Ordinativo.{Ordinativo}
use Rattle.record.specs.declared.Key.{Key}
use Rattle.record.specs.declared.Record.{Record}
use Rattle.record.specs.Slot.{executed_line, key_of}
use Rattle.replacing.specs.declared.Naming.{Naming}
use Rattle.replacing.specs.Replacing.{namings}
use Rattle.rules.specs.Rules.{was_executed, key_for}

-- WHICH ORDERS, by their key; WHICH LINES, by their state; WHAT A LINE IS WORTH, by its number, counted from 1, and its cents
abbrev pub Which : Type 0
Which = Key → Bool

abbrev pub States : Type 0
States = ℕ → Bool

abbrev pub Value : Type 0
Value = ℕ → ℕ → ℕ

-- what such lines of such orders among the records are worth
unfoldable pub worth_in : States → Value → ℕ → List ℕ → List ℕ → ℕ
worth_in c v n [] amounts = 0
worth_in c v n (s ∷ states) [] = 0
worth_in c v n (s ∷ states) (a ∷ amounts) = cond (c s) (v n a) 0 + worth_in c v (suc n) states amounts

unfoldable pub worth_of : States → Which → Value → List Record → ℕ
worth_of c p v [] = 0
worth_of c p v (r ∷ rs) = cond (p (key_of r)) (worth_in c v 1 r.states r.amounts) 0 + worth_of c p v rs

-- the executed lines
abbrev pub are_executed : States
are_executed s = eqb s executed_line

abbrev pub worth : Which → Value → List Record → ℕ
worth = worth_of are_executed

-- the lines held: executed, or replaced since
abbrev pub are_held : States
are_held s = was_executed s

-- CASH: the orders of a kind, a line worth its cents; those of a kind in some years
abbrev pub of_kind : ℕ → Which
of_kind kind k = eqb k.kind kind

abbrev pub Years : Type 0
Years = ℕ → Bool

abbrev pub of_kind_in : ℕ → Years → Which
of_kind_in kind years k = eqb k.kind kind && years k.esercizio

abbrev pub its_cents : Value
its_cents n cents = cents

-- ONE LINE: the order with a key, its line of that number worth one
abbrev pub with_key : Key → Which
with_key key k = eqb k.kind key.kind && (eqb k.esercizio key.esercizio && eqb k.number key.number)

abbrev pub on_line : ℕ → Value
on_line line n cents = cond (eqb n line) 1 0

-- A REPLACEMENT ORDER, of a flow for the esercizio `year` (document 02, Req 07). Other orders bring in and give up nothing
abbrev pub is_replacement : Operation → Bool
is_replacement Sostituzione = true
is_replacement Inserimento = false
is_replacement Variazione = false
is_replacement Annullo = false

-- it brings in its own lines: "the new line is executed at once"
abbrev pub lines_worth : Value → ℕ → List Line → ℕ
lines_worth v n [] = 0
lines_worth v n (l ∷ ls) = v n l.amount + lines_worth v (suc n) ls

abbrev pub brought_by : Which → Value → ℕ → Ordinativo → ℕ
brought_by p v year o = cond (is_replacement o.operation) (cond (p (key_for year o)) (lines_worth v 1 o.lines) 0) 0

-- it gives up the lines that they name, each "of equal amount": "it becomes replaced (line state 3)"
abbrev pub named_worth : Which → Value → List Naming → ℕ
named_worth p v [] = 0
named_worth p v (m ∷ ms) = cond (p m.key) (v m.line m.amount) 0 + named_worth p v ms

abbrev pub given_by : Which → Value → ℕ → Ordinativo → ℕ
given_by p v year o = cond (is_replacement o.operation) (named_worth p v (namings o)) 0

-- BETWEEN YEARS (document 02, Req 14): the cents of lines that name a line of such a year
abbrev pub naming_years : Years → List Line → ℕ
naming_years years [] = 0
naming_years years (l ∷ ls) = cond (years l.named.esercizio) l.amount 0 + naming_years years ls

-- "the cents of each accepted replacement line of an open year whose named line is of a closed one", the years being the open ones
abbrev pub come_by : ℕ → Years → ℕ → Ordinativo → ℕ
come_by kind years year o = cond (is_replacement o.operation) (cond (of_kind_in kind years (key_for year o)) (naming_years (λ y. not (years y)) o.lines) 0) 0

-- "those of a closed year whose named line is of an open one"
abbrev pub gone_by : ℕ → Years → ℕ → Ordinativo → ℕ
gone_by kind years year o = cond (is_replacement o.operation) (cond (of_kind_in kind (λ y. not (years y)) (key_for year o)) (naming_years years o.lines) 0) 0
