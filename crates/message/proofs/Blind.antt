-- A message's values, and whether its fields agree, do not look at places.
use Rattle.std.specs.Prelude.{Option, Some, None}
use mathlib.Core.Path.{◌≡◌, refl, sym, ap, ◌∙◌}
use mathlib.Core.List.{List, [], ◌∷◌}
use mathlib.Core.Bool.{Bool, true, false, cond, ◌&&◌, ◌||◌}
use Prim.Native.Nat.{ℕ, suc, ◌+◌}
use Prim.Native.String.{String}
use native.Mathlib.Omega.{arith}
use lib.ListN.{length}
use Rattle.scan.specs.Bytes.{bytes, text_is}
use Rattle.scan.proofs.Laws.{both}
use Rattle.codes.specs.declared.Esito.{Esito}
use Rattle.codes.specs.declared.Esito.TheVariants.{Accepted, Refused}
use Rattle.codes.specs.Codes.{esito_operazione}
use Rattle.digits.specs.Digits.{codice_errore}
use Rattle.orders.specs.Orders.{value_of}
use Rattle.fields.specs.declared.Cause.{Cause}
use Rattle.fields.specs.declared.Cause.TheVariants.{Misformed}
use Rattle.standing.specs.Readings.{Bad, Place, Nowhere}
use Rattle.tree.specs.Tree.{Tree, tree, Held, says, holds, Trees, none, more, held_of, kids_in}
use Rattle.tree.specs.Orders.{children_named, Words, mandato_words, reversale_words, text_named}
use Rattle.tree.specs.Written.{placed, placed_held, placed_all, bytes_of}
use Rattle.tree.proofs.Places.{kids_placed, named_placed}
use Rattle.message.specs.Message.{element_name, number_name, date_name}
use Rattle.message.specs.Read.{first_kids, kids_named, place_named, code_in, entry_in, each_of, message_in, word_agrees, errors_agree, first_off, entries_off, entries_in}
use Rattle.message.proofs.Kept.{no}

-- WHAT CHILDREN SAY: the first of a name, and each
module _ {A : Type 0} (f : Trees → A) (e : (q : ℕ) (ts : Trees) → f (placed_all q ts) ≡ f ts) where
  pub kids_named_placed : (x : String) (q : ℕ) (ts : Trees) → f (kids_named x (placed_all q ts)) ≡ f (kids_named x ts)
  unfolding children_named placed_all placed
  kids_named_placed x q none = refl
  kids_named_placed x q (more (tree r n h) ts) = go (text_is (bytes x) n) _ _ (kids_placed f e _ h) (kids_named_placed x (q + length (bytes_of (tree r n h))) ts)
    where
      go : (b : Bool) (k l : ℕ) → f (kids_in (placed_held k h)) ≡ f (kids_in h) → f (first_kids (children_named (x ∷ []) (placed_all l ts))) ≡ f (first_kids (children_named (x ∷ []) ts))
          → f (first_kids (cond (b || false) (tree q n (placed_held k h) ∷ children_named (x ∷ []) (placed_all l ts)) (children_named (x ∷ []) (placed_all l ts)))) ≡ f (first_kids (cond (b || false) (tree r n h ∷ children_named (x ∷ []) ts) (children_named (x ∷ []) ts)))
      go true k l a i = a
      go false k l a i = i

  pub each_placed : (x : String) (q : ℕ) (ts : Trees) → each_of f (children_named (x ∷ []) (placed_all q ts)) ≡ each_of f (children_named (x ∷ []) ts)
  unfolding children_named placed_all placed each_of
  each_placed x q none = refl
  each_placed x q (more (tree r n h) ts) = go (text_is (bytes x) n) _ _ (kids_placed f e _ h) (each_placed x (q + length (bytes_of (tree r n h))) ts)
    where
      go : (b : Bool) (k l : ℕ) → f (kids_in (placed_held k h)) ≡ f (kids_in h) → each_of f (children_named (x ∷ []) (placed_all l ts)) ≡ each_of f (children_named (x ∷ []) ts)
          → each_of f (cond (b || false) (tree q n (placed_held k h) ∷ children_named (x ∷ []) (placed_all l ts)) (children_named (x ∷ []) (placed_all l ts))) ≡ each_of f (cond (b || false) (tree r n h ∷ children_named (x ∷ []) ts) (children_named (x ∷ []) ts))
      go true k l a i = rw (a, i)
      go false k l a i = i

pub each_length : {A : Type 0} (f : Trees → A) (l : List Tree) → length (each_of f l) ≡ length l
unfolding each_of
each_length f [] = refl
each_length f (t ∷ l) = ap suc (each_length f l)

each_count : (x : String) (q : ℕ) (ts : Trees) → length (children_named (x ∷ []) (placed_all q ts)) ≡ length (children_named (x ∷ []) ts)
each_count x q ts =
    let f : Trees → ℕ = λ us. 0 in
    sym (each_length f (children_named (x ∷ []) (placed_all q ts))) ∙ ap length (each_placed f (λ k us. refl) x q ts) ∙ each_length f (children_named (x ∷ []) ts)

pub count_placed : (q : ℕ) (ts : Trees) → entries_in (placed_all q ts) ≡ entries_in ts
count_placed q ts = rw (each_count "esito_reversali" q ts, each_count "esito_mandati" q ts)

-- VALUES
abbrev code_first : List ℕ → ℕ
code_first [] = 0
code_first (c ∷ cs) = c

abbrev code_said : Trees → ℕ
code_said ts = value_of (codice_errore (text_named "codice_errore" ts))

code_first_lem : (l : List Tree) → code_in l ≡ code_first (each_of code_said l)
unfolding each_of
code_first_lem [] = refl
code_first_lem (t ∷ l) = refl

code_placed : (q : ℕ) (ts : Trees) → code_in (children_named ("lista_errori" ∷ []) (placed_all q ts)) ≡ code_in (children_named ("lista_errori" ∷ []) ts)
code_placed q ts =
    let e = each_placed code_said (λ k us. ap (λ t. value_of (codice_errore t)) (named_placed "codice_errore" k us)) "lista_errori" q ts in
    code_first_lem (children_named ("lista_errori" ∷ []) (placed_all q ts)) ∙ ap code_first e ∙ sym (code_first_lem (children_named ("lista_errori" ∷ []) ts))

entry_placed : (w : Words) (q : ℕ) (ts : Trees) → entry_in w (placed_all q ts) ≡ entry_in w ts
entry_placed w q ts =
    rw (
      named_placed "esito_operazione" q ts,
      code_placed q ts,
      named_placed "identificativo_flusso" q ts,
      named_placed "esercizio" q ts,
      named_placed (number_name w) q ts,
      named_placed (date_name w) q ts,
      named_placed "importo" q ts,
      named_placed "data_ora_esito_operazione" q ts,
    )

head_placed : (x : String) (q : ℕ) (ts : Trees) → text_named x (kids_named "testata_messaggio" (placed_all q ts)) ≡ text_named x (kids_named "testata_messaggio" ts)
head_placed x q ts = kids_named_placed (text_named x) (named_placed x) "testata_messaggio" q ts

pub message_placed : (q : ℕ) (ts : Trees) → message_in (placed_all q ts) ≡ message_in ts
message_placed q ts =
    rw (
      head_placed "codice_ABI_BT" q ts,
      head_placed "data_ora_creazione_flusso" q ts,
      head_placed "codice_ente" q ts,
      head_placed "descrizione_ente" q ts,
      head_placed "codice_istat_ente" q ts,
      head_placed "codice_fiscale_ente" q ts,
      head_placed "codice_tramite_ente" q ts,
      head_placed "codice_tramite_BT" q ts,
      head_placed "codice_ente_BT" q ts,
      named_placed "identificativo_flusso_BT" q ts,
      each_placed (entry_in reversale_words) (entry_placed reversale_words) "esito_reversali" q ts,
      each_placed (entry_in mandato_words) (entry_placed mandato_words) "esito_mandati" q ts,
    )

-- AGREEMENT, as a test
abbrev pub error_ok : Words → Trees → Bool
error_ok w ts = text_is (text_named "codice_errore" ts) (text_named "descrizione" ts) && text_is (bytes (element_name w (value_of (codice_errore (text_named "codice_errore" ts))))) (text_named "elemento" ts)

abbrev pub agrees : Option Esito → List Bool → Bool
agrees (Some (Refused o)) [] = false
agrees (Some (Refused o)) (b ∷ l) = b
agrees (Some (Accepted o)) [] = true
agrees (Some (Accepted o)) (b ∷ l) = false
agrees None l = false

abbrev pub entry_ok : Words → Trees → Bool
entry_ok w ts = agrees (esito_operazione (text_named "esito_operazione" ts)) (each_of (error_ok w) (children_named ("lista_errori" ∷ []) ts))

unfoldable pub all_ok : List Bool → Bool
all_ok [] = true
all_ok (b ∷ l) = b && all_ok l

error_ok_placed : (w : Words) (q : ℕ) (ts : Trees) → error_ok w (placed_all q ts) ≡ error_ok w ts
error_ok_placed w q ts = rw (named_placed "codice_errore" q ts, named_placed "descrizione" q ts, named_placed "elemento" q ts)

pub entry_ok_placed : (w : Words) (q : ℕ) (ts : Trees) → entry_ok w (placed_all q ts) ≡ entry_ok w ts
entry_ok_placed w q ts = rw (named_placed "esito_operazione" q ts, each_placed (error_ok w) (error_ok_placed w) "lista_errori" q ts)

off_by : (w : Words) (k : ℕ) (s : Option Esito) (l : List Tree) (rest : Bad) → agrees s (each_of (error_ok w) l) ≡ true → first_off (record { lt = k; ok = word_agrees s l } ∷ errors_agree w l) rest ≡ rest
unfolding each_of
off_by w k (Some (Refused o)) [] rest e = no e
off_by w k (Some (Refused o)) (t ∷ l) rest e =
    let ts = kids_in (held_of t) in
    let b = both (text_is (text_named "codice_errore" ts) (text_named "descrizione" ts)) (text_is (bytes (element_name w (value_of (codice_errore (text_named "codice_errore" ts))))) (text_named "elemento" ts)) e in
    rw (b.0, b.1)
off_by w k (Some (Accepted o)) [] rest e = refl
off_by w k (Some (Accepted o)) (t ∷ l) rest e = no e
off_by w k None [] rest e = no e
off_by w k None (t ∷ l) rest e = no e

pub entries_off_lem : (w : Words) (l : List Tree) (rest : Bad) → all_ok (each_of (entry_ok w) l) ≡ true → entries_off w l rest ≡ rest
unfolding entries_off all_ok each_of
entries_off_lem w [] rest e = refl
entries_off_lem w (t ∷ l) rest e =
    let ts = kids_in (held_of t) in
    let b = both (entry_ok w ts) (all_ok (each_of (entry_ok w) l)) e in
    off_by w (place_named "esito_operazione" ts) (esito_operazione (text_named "esito_operazione" ts)) (children_named ("lista_errori" ∷ []) ts) (entries_off w l rest) b.0 ∙ entries_off_lem w l rest b.1

-- AND THE OTHER WAY ROUND: where none disagrees, each agrees
placed_no : {p : ℕ} {c : Cause} {A : Type 0} → Place p c ≡ Nowhere → A
placed_no e = let z : ◌≡◌ {A = ℕ} 0 1 = cc in absurd (omega arith)

off_agrees : (w : Words) (k : ℕ) (s : Option Esito) (l : List Tree) (rest : Bad) → first_off (record { lt = k; ok = word_agrees s l } ∷ errors_agree w l) rest ≡ Nowhere → (agrees s (each_of (error_ok w) l) ≡ true) × (rest ≡ Nowhere)
unfolding each_of
off_agrees w k (Some (Refused o)) [] rest e = placed_no e
off_agrees w k (Some (Refused o)) (t ∷ l) rest e =
    let ts = kids_in (held_of t) in
    go (text_is (text_named "codice_errore" ts) (text_named "descrizione" ts)) (text_is (bytes (element_name w (value_of (codice_errore (text_named "codice_errore" ts))))) (text_named "elemento" ts)) e
  where
    go : (a b : Bool) → cond a (cond b rest (Place (place_named "elemento" (kids_in (held_of t))) Misformed)) (Place (place_named "descrizione" (kids_in (held_of t))) Misformed) ≡ Nowhere → ((a && b) ≡ true) × (rest ≡ Nowhere)
    go true true h = (refl, h)
    go true false h = placed_no h
    go false b h = placed_no h
off_agrees w k (Some (Accepted o)) [] rest e = (refl, e)
off_agrees w k (Some (Accepted o)) (t ∷ l) rest e = placed_no e
off_agrees w k None [] rest e = placed_no e
off_agrees w k None (t ∷ l) rest e = placed_no e

pub entries_agree : (w : Words) (l : List Tree) (rest : Bad) → entries_off w l rest ≡ Nowhere → (all_ok (each_of (entry_ok w) l) ≡ true) × (rest ≡ Nowhere)
unfolding entries_off all_ok each_of
entries_agree w [] rest e = (refl, e)
entries_agree w (t ∷ l) rest e =
    let ts = kids_in (held_of t) in
    let a = off_agrees w (place_named "esito_operazione" ts) (esito_operazione (text_named "esito_operazione" ts)) (children_named ("lista_errori" ∷ []) ts) (entries_off w l rest) e in
    let b = entries_agree w l rest a.1 in
    (rw (a.0, b.0), b.1)
