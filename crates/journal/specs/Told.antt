-- What a journal's code says (document 02, Req 10), without the walk. Proved: `journal-told : JournalTold`.
use Rattle.std.specs.Prelude.{◌≡◌, true}
use mathlib.Core.List.{List, [], ◌∷◌, ◌++◌, Memᴰ}
use Rattle.record.specs.declared.Record.{Record}
use Rattle.slots.specs.Slots.{distinct}
use Rattle.journal.specs.declared.Movement.{Movement}
use Rattle.journal.specs.Journal.{executed_lines, journal_code}

-- the same in any order: "Order is free"
pub data Permutation : List Movement → List Movement → Type 0 where
  none : Permutation [] []
  one : (m : Movement) (ms before after : List Movement) → Permutation ms (before ++ after) → Permutation (m ∷ ms) (before ++ m ∷ after)

-- two movements name one line
pub record OneLine (m x : Movement) : Type 0 where
  pub kind : m.kind ≡ x.kind
  pub line : m.line ≡ x.line
  pub esercizio : m.esercizio ≡ x.esercizio
  pub number : m.number ≡ x.number

-- none of these names m's line; one of them does
abbrev pub NoneOf : Movement → List Movement → Type 0
NoneOf m xs = (x : Movement) → Memᴰ x xs → OneLine m x → ⊥

abbrev pub SomeOf : Movement → List Movement → Type 0
SomeOf m xs = (x : Movement) × Memᴰ x xs × OneLine m x

-- movements in order, each of an executed line with its cents, and of none that was listed before
pub data Right (E : List Movement) : List Movement → Type 0 where
  start : Right E []
  next : (before : List Movement) (m : Movement) → Right E before → Memᴰ m E → NoneOf m before → Right E (before ++ m ∷ [])

-- a first movement that isn't right: those before it are, and of it and them this holds
pub record FirstWrong (E ms : List Movement) (bad : List Movement → Movement → Type 0) : Type 0 where
  pub before : List Movement
  pub m : Movement
  pub after : List Movement
  pub here : ms ≡ before ++ m ∷ after
  pub right : Right E before
  pub wrong : bad before m

abbrev pub Exactly : Type 0 → Type 0 → Type 0
Exactly a b = (a → b) × (b → a)

-- of the movements ms, and of the executed lines E of a body's records rs, in which no key stands twice
module _ (rs : List Record) (ms : List Movement) where
  abbrev E : List Movement
  E = executed_lines rs

  pub record Told : Type 0 where
    -- "accept exactly when every executed line of that body is listed once, with its cents, and nothing else is listed"
    pub accepted : Exactly (journal_code E [] ms ≡ 0) (Permutation ms E)
    -- "30 no such executed line"
    pub no_such_line : Exactly (journal_code E [] ms ≡ 30) (FirstWrong E ms (λ before m. NoneOf m E))
    -- "31 other cents"
    pub other_cents : Exactly (journal_code E [] ms ≡ 31) (FirstWrong E ms (λ before m. SomeOf m E × (Memᴰ m E → ⊥)))
    -- "32 listed before"
    pub listed_before : Exactly (journal_code E [] ms ≡ 32) (FirstWrong E ms (λ before m. Memᴰ m E × SomeOf m before))
    -- "33 an executed line is missing"
    pub missing : Exactly (journal_code E [] ms ≡ 33) (Right E ms × ((e : Movement) × Memᴰ e E × NoneOf e ms))

abbrev pub JournalTold : Type 0
JournalTold = (rs : List Record) → distinct rs ≡ true → (ms : List Movement) → Told rs ms
