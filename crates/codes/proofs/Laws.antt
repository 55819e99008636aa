-- How long a code is, which the crates above rely on, and a whole text as a part of itself.
use Rattle.std.specs.Prelude.{Option, Some, None}
use mathlib.Core.Path.{◌≡◌, refl}
use mathlib.Core.Bool.{Bool, true, false, cond}
use mathlib.Core.List.{List}
use Prim.Native.Nat.{ℕ, ◌≤◌}
use native.Mathlib.Nat.{sub-zero}
use native.Mathlib.Omega.{arith}
use lib.ListN.{length}
use lib.Seq.{take-length}
use lib.Dec.{eqb}
use borrow.Author.Tests.{eqb-true}
use Rattle.scan.specs.Bytes.{bytes, part, between, is_digit, is_alnum, all, has_at, text_is}
use Rattle.scan.proofs.Laws.{both, in_range}
use Rattle.ranges.specs.Ranges.{is_identifying}
use Rattle.codes.specs.declared.Operation.{Operation}
use Rattle.codes.specs.declared.Operation.TheVariants.{Inserimento, Variazione, Annullo, Sostituzione}
use Rattle.codes.specs.Codes.{codice_abi, identificativo, codice_ente, tipo_operazione, is_asked, length_in, accepted_word, refused_word, refused_by, esito_by, esito_operazione, is_word}

-- every byte from the first to the last
pub all_whole : (p : ℕ → Bool) (t : List ℕ) → all p (part t 0 (length t)) ≡ all p t
all_whole p t = rw (sub-zero (length t), take-length t)

pub abi_length : (t : List ℕ) → codice_abi t ≡ true → length t ≡ 5
unfolding codice_abi
abi_length t e = eqb-true (length t) 5 (both (eqb (length t) 5) (all is_digit t) e).0

pub ente_length : (t : List ℕ) → codice_ente t ≡ true → (1 ≤ length t) × (length t ≤ 16)
unfolding codice_ente
ente_length t e = in_range 1 16 (length t) (both (between 1 16 (length t)) (all is_alnum t) e).0

pub identificativo_length : (t : List ℕ) → identificativo t ≡ true → (1 ≤ length t) × (length t ≤ 35)
unfolding identificativo
identificativo_length t e = in_range 1 35 (length t) (both (between 1 35 (length t)) (all is_identifying t) e).0

-- one word of four, of at most n bytes, and those after it
word : (n : ℕ) (x t : List ℕ) (o : Operation) (rest : Option Operation) → (1 ≤ length x) × (length x ≤ n) → (is_asked rest ≡ true → (1 ≤ length t) × (length t ≤ n)) → is_asked (cond (text_is x t) (Some o) rest) ≡ true
    → (1 ≤ length t) × (length t ≤ n)
unfolding text_is
word n x t o rest w h e = go (text_is x t) refl e
  where
    go : (b : Bool) → text_is x t ≡ b → is_asked (cond b (Some o) rest) ≡ true → (1 ≤ length t) × (length t ≤ n)
    go true f e = let l = eqb-true (length t) (length x) (both (eqb (length t) (length x)) (has_at x t 0) f).0 in (omega arith, omega arith)
    go false f e = h e

none : (n : ℕ) (t : List ℕ) → is_asked None ≡ true → (1 ≤ length t) × (length t ≤ n)
none n t e = let z : ◌≡◌ {A = ℕ} 0 1 = cc in absurd (omega arith)

pub operation_length : (t : List ℕ) → is_asked (tipo_operazione t) ≡ true → (1 ≤ length t) × (length t ≤ 12)
unfolding tipo_operazione
operation_length t =
    word 12 (bytes "INSERIMENTO") t Inserimento _ (omega arith, omega arith)
    (word 12 (bytes "VARIAZIONE") t Variazione _ (omega arith, omega arith)
    (word 12 (bytes "ANNULLO") t Annullo _ (omega arith, omega arith) (word 12 (bytes "SOSTITUZIONE") t Sostituzione None (omega arith, omega arith) (none 12 t))))

accepted_length : (t : List ℕ) → is_asked (accepted_word t) ≡ true → (1 ≤ length t) × (length t ≤ 14)
unfolding accepted_word
accepted_length t =
    word 14 (bytes "ACQUISITO") t Inserimento _ (omega arith, omega arith)
    (word 14 (bytes "VARIATO") t Variazione _ (omega arith, omega arith)
    (word 14 (bytes "ANNULLATO") t Annullo _ (omega arith, omega arith) (word 14 (bytes "SOSTITUITO") t Sostituzione None (omega arith, omega arith) (none 14 t))))

refused_length : (t : List ℕ) → is_asked (refused_word t) ≡ true → (1 ≤ length t) × (length t ≤ 14)
unfolding refused_word
refused_length t =
    word 14 (bytes "NON ACQUISITO") t Inserimento _ (omega arith, omega arith)
    (word 14 (bytes "NON VARIATO") t Variazione _ (omega arith, omega arith)
    (word 14 (bytes "NON ANNULLATO") t Annullo _ (omega arith, omega arith) (word 14 (bytes "NON SOSTITUITO") t Sostituzione None (omega arith, omega arith) (none 14 t))))

pub word_length : (t : List ℕ) → is_word (esito_operazione t) ≡ true → (1 ≤ length t) × (length t ≤ 14)
unfolding esito_operazione
word_length t = go (accepted_word t) (refused_word t) (accepted_length t) (refused_length t)
  where
    go : (a b : Option Operation) → (is_asked a ≡ true → (1 ≤ length t) × (length t ≤ 14)) → (is_asked b ≡ true → (1 ≤ length t) × (length t ≤ 14)) → is_word (esito_by a (refused_by b)) ≡ true
        → (1 ≤ length t) × (length t ≤ 14)
    go (Some o) b f g e = f refl
    go None (Some o) f g e = g refl
    go None None f g e = none 14 t e

pub length_in_lem : (lo hi : ℕ) (t : List ℕ) → length_in lo hi t ≡ true → (lo ≤ length t) × (length t ≤ hi)
unfolding length_in
length_in_lem lo hi t e = in_range lo hi (length t) e
