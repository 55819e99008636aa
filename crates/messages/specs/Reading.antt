-- THE CALL THAT READS, said of its promise alone (document 02, Req 01). Proved in proofs/Reading.antt: `read_kept`, `no-second-read`.
use Rattle.std.specs.Prelude.{◌≡◌, List, ℕ}
use Rattle.message_read.specs.declared.Reply.{Reply}
use Rattle.message_read.specs.Promise.{ReadPromise}

-- a refusal tells no entry and leaves the values
abbrev pub ReadKept : Type 0
ReadKept = (ed : ℕ) (s values v : List ℕ) (r : Reply) → ReadPromise ed s values r v → (r.code ≡ 0 → ⊥) → (r.entries ≡ 0) × (v ≡ values)

-- NO SECOND ANSWER
abbrev pub NoSecondRead : Type 0
NoSecondRead = (ed : ℕ) (s values : List ℕ) (r q : Reply) (v w : List ℕ) → ReadPromise ed s values r v → ReadPromise ed s values q w → (r ≡ q) × (v ≡ w)
