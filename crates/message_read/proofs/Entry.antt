-- An entry by rows is the entry by name: whether it agrees, and its bytes.
use Rattle.std.specs.Prelude.{Option, Some, None}
use mathlib.Core.Path.{◌≡◌, refl, sym, ap, ◌∙◌, subst}
use mathlib.Core.List.{List, [], ◌∷◌, ◌++◌}
use mathlib.Core.Bool.{Bool, true, false, cond}
use Prim.Native.Nat.{ℕ, suc, ◌+◌, ◌<◌}
use native.Mathlib.Omega.{arith}
use borrow.Author.Tests.{ne_eqb}
use Rattle.scan.specs.Bytes.{bytes, text_is}
use Rattle.tokens.specs.Tokens.{white_at}
use Rattle.codes.specs.declared.Esito.{Esito}
use Rattle.codes.specs.declared.Esito.TheVariants.{Accepted, Refused}
use Rattle.codes.specs.Codes.{operation_number, esito_operazione}
use Rattle.digits.specs.Digits.{esercizio, numero, importo, codice_errore}
use Rattle.dates.specs.Dates.{data_of}
use Rattle.fields.specs.declared.Form.TheVariants.{Identificativo, Esercizio, Numero, Data, Importo, DataOraZona, EsitoOperazione, CodiceErrore, Descrizione, Elemento}
use Rattle.fields.specs.declared.Cause.TheVariants.{Misformed}
use Rattle.words.specs.Numbers.{bytes8}
use Rattle.schema.specs.declared.Parent.{Parent}
use Rattle.schema.specs.declared.Holds.TheVariants.{Rows}
use Rattle.rows.specs.declared.Kept.{Kept}
use Rattle.rows.specs.Kept.{kept_from, next_of}
use Rattle.standing.specs.Readings.{Bad, Place, Nowhere}
use Rattle.orders.specs.Orders.{in_row, text_in, value_of, date_of, inside_of}
use Rattle.tree.specs.Tree.{Tree, Trees, held_of, kids_in}
use Rattle.tree.specs.Orders.{children_named, Words, text_named}
use Rattle.tree.proofs.Positions.{tree_at, trees_from}
use Rattle.tree.proofs.Levels.{kept_trees, all_trees, fits_held, kept_fits, fits_tree}
use Rattle.tree.proofs.ByName.{Fixed}
use Rattle.tree.specs.Structure.{replaces_in}
use Rattle.tree.proofs.Orders.{fit_all, kids_of}
use Rattle.parts.specs.Parts.{span_of_next, span_in, parts_in, text_by}
use Rattle.parts.proofs.Laws.{at_span, at_text, There, absent, present, there}
use Rattle.message.specs.Message.{number_name, date_name, element_name}
use Rattle.message.specs.Read.{place_named, operation_in, code_in, entry_in, Agreeing, word_agrees, error_agrees, errors_agree, entry_agrees, first_off, entries_off}
use Rattle.message.proofs.Values.{Spelt, spelt_reversale, spelt_mandato}
use Rattle.agreement.specs.declared.EntryKind.{EntryKind}
use Rattle.agreement.specs.declared.EntryKind.TheVariants.{Reversale, Mandato}
use Rattle.agreement.specs.Agreement.{words_of, entry_parent, errors_parent, errors_off_at, list_off, is_there, word_stands, entry_off_at, or_off, entries_off_at}
use Rattle.message_values.specs.Values.{kind_number, span_bytes, facts_bytes, error_code_at, facts_at, entry_at, entries_at}
use Rattle.message_read.specs.Values.{facts_of, entry_shown, entries_shown}
use Rattle.message_read.proofs.Match.{Pairs, pairs_none, pairs_next, row_pairs, place_is, text_is_lem, shown_is}

-- A PLACE that is off, as the book has it
abbrev pub to_bad : Option ℕ → Bad
to_bad (Some p) = Place p Misformed
to_bad None = Nowhere

abbrev pub or_bad : Bad → Bad → Bad
or_bad (Place p c) rest = Place p c
or_bad Nowhere rest = rest

pub or_same : (a b : Option ℕ) → to_bad (or_off a b) ≡ or_bad (to_bad a) (to_bad b)
or_same (Some p) b = refl
or_same None b = refl

first_or : (l : List Agreeing) (rest : Bad) → first_off l rest ≡ or_bad (first_off l Nowhere) rest
first_or [] rest = refl
first_or (a ∷ l) rest = go a.ok (first_or l rest)
  where
    go : (b : Bool) → first_off l rest ≡ or_bad (first_off l Nowhere) rest → cond b (first_off l rest) (Place a.lt Misformed) ≡ or_bad (cond b (first_off l Nowhere) (Place a.lt Misformed)) rest
    go true i = i
    go false i = refl

or_assoc : (a b c : Bad) → or_bad (or_bad a b) c ≡ or_bad a (or_bad b c)
or_assoc (Place p x) b c = refl
or_assoc Nowhere b c = refl

pub entries_or : (w : Words) (l : List Tree) (rest : Bad) → entries_off w l rest ≡ or_bad (entries_off w l Nowhere) rest
unfolding entries_off
entries_or w [] rest = refl
entries_or w (t ∷ l) rest =
    let e = entry_agrees w (kids_in (held_of t)) in
    first_or e (entries_off w l rest) ∙ ap (or_bad (first_off e Nowhere)) (entries_or w l rest) ∙ sym (or_assoc (first_off e Nowhere) (entries_off w l Nowhere) rest)
    ∙ ap (λ (b : Bad). or_bad b rest) (sym (first_or e (entries_off w l Nowhere)))

-- THE WORDS OF A KIND are its tables' names
pub spelt_of : (k : EntryKind) → Spelt (entry_parent k) (errors_parent k) (words_of k)
spelt_of Reversale = spelt_reversale
spelt_of Mandato = spelt_mandato

-- what an element of rows that no operation changes holds
fit_fixed : (d : ℕ) (q : Parent) (t : Tree) → Fixed q → fits_held (fits_tree d) (Rows q) (held_of t) ≡ true → fits_tree d q (kids_in (held_of t)) ≡ true
fit_fixed d q t f e = subst (λ (r : Parent). fits_tree d r (kids_in (held_of t)) ≡ true) (f (replaces_in (kids_in (held_of t)))) e

-- A LIST OF ERRORS
module _ (k : EntryKind) (m : ℕ) (s : List ℕ) (i : ℕ) (f : fits_tree 1 (errors_parent k) (trees_from (suc m) s i) ≡ true) where
  abbrev kids : Trees
  kids = trees_from (suc m) s i

  fits : all_trees (kept_fits (fits_tree 0)) (kept_trees (errors_parent k) (trees_from (suc m) s i)) ≡ true
  fits = fit_all 0 (errors_parent k) (trees_from (suc m) s i) f

  pub error_code : text_in 1 s (kept_from (errors_parent k) s i) ≡ text_named "codice_errore" (trees_from (suc m) s i)
  error_code = text_is_lem m s (fits_tree 0) (errors_parent k) i fits 1 "codice_errore" CodiceErrore (spelt_of k).code.row

  pub errors_same : to_bad (errors_off_at k s (kept_from (errors_parent k) s i)) ≡ first_off (error_agrees (words_of k) (trees_from (suc m) s i)) Nowhere
  unfolding errors_off_at
  errors_same =
      let sp = spelt_of k in
      let b = text_is_lem m s (fits_tree 0) (errors_parent k) i fits 2 "descrizione" Descrizione sp.described.row in
      let c = text_is_lem m s (fits_tree 0) (errors_parent k) i fits 3 "elemento" Elemento sp.element.row in
      let x = place_is m s (fits_tree 0) (errors_parent k) i fits 2 "descrizione" _ sp.described.row in
      let y = place_is m s (fits_tree 0) (errors_parent k) i fits 3 "elemento" _ sp.element.row in
      rw (error_code, b, c, x, y)
      (go (text_is (text_named "codice_errore" kids) (text_named "descrizione" kids)) (text_is (bytes (element_name (words_of k) (value_of (codice_errore (text_named "codice_errore" kids))))) (text_named "elemento" kids)))
    where
      go : (a b : Bool) → to_bad (cond a (cond b None (Some (place_named "elemento" kids))) (Some (place_named "descrizione" kids))) ≡ cond a (cond b Nowhere (Place (place_named "elemento" kids) Misformed)) (Place (place_named "descrizione" kids) Misformed)
      go true true = refl
      go true false = refl
      go false b = refl

-- AN ENTRY
module _ (k : EntryKind) (m : ℕ) (s : List ℕ) (i : ℕ) (f : fits_tree 2 (entry_parent k) (trees_from (suc (suc m)) s i) ≡ true) where
  abbrev w : Words
  w = words_of k

  abbrev es : List Kept
  es = kept_from (entry_parent k) s i

  abbrev in_tree : Trees
  in_tree = trees_from (suc (suc m)) s i

  all_fit_lem : all_trees (kept_fits (fits_tree 1)) (kept_trees (entry_parent k) (trees_from (suc (suc m)) s i)) ≡ true
  all_fit_lem = fit_all 1 (entry_parent k) (trees_from (suc (suc m)) s i) f

  list_pairs : Pairs (tree_at (suc (suc m)) s) (fits_tree 1) (Rows (errors_parent k)) (in_row 8 (kept_from (entry_parent k) s i)) (children_named ("lista_errori" ∷ []) (trees_from (suc (suc m)) s i))
  list_pairs = row_pairs (suc m) s (fits_tree 1) (entry_parent k) i all_fit_lem 8 "lista_errori" (Rows (errors_parent k)) (spelt_of k).errors.row

  -- the trees inside a list of errors
  list_kids : (x : Kept) (t : Tree) → tree_at (suc (suc m)) s x.child ≡ t → kids_in (held_of t) ≡ trees_from (suc m) s (white_at s (x.child.gt + 1))
  list_kids x t e = ap (λ (y : Tree). kids_in (held_of y)) (sym e) ∙ kids_of (suc m) s x.child

  word_same : (e : Option Esito) (ks : List Kept) (l : List Tree) → Pairs (tree_at (suc (suc m)) s) (fits_tree 1) (Rows (errors_parent k)) ks l → word_stands e (is_there (next_of ks)) ≡ word_agrees e l
  word_same (Some (Accepted o)) ks l pairs_none = refl
  word_same (Some (Accepted o)) ks l (pairs_next e g ps) = refl
  word_same (Some (Refused o)) ks l pairs_none = refl
  word_same (Some (Refused o)) ks l (pairs_next e g ps) = refl
  word_same None ks l pairs_none = refl
  word_same None ks l (pairs_next e g ps) = refl

  list_same : (ks : List Kept) (l : List Tree) → Pairs (tree_at (suc (suc m)) s) (fits_tree 1) (Rows (errors_parent k)) ks l → to_bad (list_off k s (next_of ks)) ≡ first_off (errors_agree (words_of k) l) Nowhere
  list_same ks l pairs_none = refl
  list_same ks l (pairs_next {k = x} {t = t} e g ps) =
      let z = list_kids x t e in
      rw z (errors_same k m s (white_at s (x.child.gt + 1)) (rw (← z) (fit_fixed 1 (errors_parent k) t (spelt_of k).errors_fixed g)))

  pub entry_same : to_bad (entry_off_at k s (kept_from (entry_parent k) s i)) ≡ first_off (entry_agrees (words_of k) (trees_from (suc (suc m)) s i)) Nowhere
  unfolding entry_off_at
  entry_same =
      let sp = spelt_of k in
      let a = text_is_lem (suc m) s (fits_tree 1) (entry_parent k) i all_fit_lem 6 "esito_operazione" EsitoOperazione sp.word.row in
      let b = place_is (suc m) s (fits_tree 1) (entry_parent k) i all_fit_lem 6 "esito_operazione" _ sp.word.row in
      let c = word_same (esito_operazione (text_named "esito_operazione" in_tree)) (in_row 8 es) (children_named ("lista_errori" ∷ []) in_tree) list_pairs in
      let d = list_same (in_row 8 es) (children_named ("lista_errori" ∷ []) in_tree) list_pairs in
      rw (a, b, c) (go (word_agrees (esito_operazione (text_named "esito_operazione" in_tree)) (children_named ("lista_errori" ∷ []) in_tree)) d)
    where
      go : (b : Bool) → to_bad (list_off k s (next_of (in_row 8 es))) ≡ first_off (errors_agree w (children_named ("lista_errori" ∷ []) in_tree)) Nowhere
          → to_bad (cond b (list_off k s (next_of (in_row 8 es))) (Some (place_named "esito_operazione" in_tree))) ≡ cond b (first_off (errors_agree w (children_named ("lista_errori" ∷ []) in_tree)) Nowhere) (Place (place_named "esito_operazione" in_tree) Misformed)
      go true e = e
      go false e = refl

  -- ITS BYTES
  text_by_lem : (n : ℕ) → n < 9 → text_by s (parts_in (kept_from (entry_parent k) s i)) n ≡ text_in n s (kept_from (entry_parent k) s i)
  text_by_lem n h = at_text (parts_in es) es refl n h s

  code_same : error_code_at k s (span_in 8 (kept_from (entry_parent k) s i)) ≡ code_in (children_named ("lista_errori" ∷ []) (trees_from (suc (suc m)) s i))
  code_same = go (in_row 8 es) (children_named ("lista_errori" ∷ []) in_tree) list_pairs (there 8 (entry_parent k) s i) refl
    where
      go : (ks : List Kept) (l : List Tree) → Pairs (tree_at (suc (suc m)) s) (fits_tree 1) (Rows (errors_parent k)) ks l → There 8 (entry_parent k) s i → in_row 8 (kept_from (entry_parent k) s i) ≡ ks → error_code_at k s (span_of_next (next_of ks)) ≡ code_in l
      go ks l pairs_none h z = refl
      go ks l (pairs_next {k = x} {t = t} {ks = xs} e g ps) (absent d q) z = let y : ◌≡◌ {A = Option Kept} (Some x) (None) = ap next_of (sym z) ∙ d in let v : ◌≡◌ {A = ℕ} 0 1 = cc in absurd (omega arith)
      go ks l (pairs_next {k = x} {t = t} {ks = xs} e g ps) (present y d q r) z =
          let u = ap (λ (j : List Kept). (span_of_next (next_of j)).to) z in
          let v = list_kids x t e in
          let o = error_code k m s (white_at s (x.child.gt + 1)) (rw (← v) (fit_fixed 1 (errors_parent k) t (spelt_of k).errors_fixed g)) in
          rw (ne_eqb x.child.to 0 (λ n. omega arith), o, v)

  facts_same : facts_at k s (parts_in (kept_from (entry_parent k) s i)) ≡ facts_of (words_of k) (entry_in (words_of k) (trees_from (suc (suc m)) s i))
  facts_same =
      let sp = spelt_of k in
      let t₁ = text_by_lem 1 (omega arith) ∙ text_is_lem (suc m) s (fits_tree 1) (entry_parent k) i all_fit_lem 1 "esercizio" Esercizio sp.esercizio.row in
      let t₂ = text_by_lem 2 (omega arith) ∙ text_is_lem (suc m) s (fits_tree 1) (entry_parent k) i all_fit_lem 2 (number_name (words_of k)) Numero sp.number.row in
      let t₄ = text_by_lem 4 (omega arith) ∙ text_is_lem (suc m) s (fits_tree 1) (entry_parent k) i all_fit_lem 4 (date_name (words_of k)) Data sp.date.row in
      let t₅ = text_by_lem 5 (omega arith) ∙ text_is_lem (suc m) s (fits_tree 1) (entry_parent k) i all_fit_lem 5 "importo" Importo sp.total.row in
      let t₆ = text_by_lem 6 (omega arith) ∙ text_is_lem (suc m) s (fits_tree 1) (entry_parent k) i all_fit_lem 6 "esito_operazione" EsitoOperazione sp.word.row in
      let c = ap (error_code_at k s) (at_span (parts_in es) es refl 8 (omega arith)) ∙ code_same in
      λ j. record {
        kind = kind_same k j;
        operation = operation_number (operation_in (esito_operazione (t₆ j)));
        code = c j;
        esercizio = value_of (esercizio (t₁ j));
        number = value_of (numero (t₂ j));
        date = date_of (data_of (t₄ j));
        total = value_of (importo (t₅ j));
      }
    where
      kind_same : (k : EntryKind) → kind_number k ≡ (words_of k).kind
      kind_same Reversale = refl
      kind_same Mandato = refl

  pub bytes_same : entry_at k s (kept_from (entry_parent k) s i) ≡ entry_shown (words_of k) (trees_from (suc (suc m)) s i)
  unfolding entry_at
  bytes_same =
      let sp = spelt_of k in
      let a = at_span (parts_in es) es refl 0 (omega arith) in
      let b = at_span (parts_in es) es refl 7 (omega arith) in
      let x = ap span_bytes a ∙ shown_is (suc m) s (fits_tree 1) (entry_parent k) i all_fit_lem 0 "identificativo_flusso" Identificativo sp.flow.row in
      let y = ap span_bytes b ∙ shown_is (suc m) s (fits_tree 1) (entry_parent k) i all_fit_lem 7 "data_ora_esito_operazione" DataOraZona sp.time.row in
      λ j. facts_bytes (facts_same j) ++ (x j ++ (y j ++ bytes8 0))

-- ENTRIES
module _ (k : EntryKind) (m : ℕ) (s : List ℕ) where
  -- the trees inside an entry, of the structure of its table
  entry_kids : (x : Kept) (t : Tree) → tree_at (suc (suc (suc m))) s x.child ≡ t → kids_in (held_of t) ≡ trees_from (suc (suc m)) s (white_at s (x.child.gt + 1))
  entry_kids x t e = ap (λ (y : Tree). kids_in (held_of y)) (sym e) ∙ kids_of (suc (suc m)) s x.child

  pub off_same : (ks : List Kept) (l : List Tree) → Pairs (tree_at (suc (suc (suc m))) s) (fits_tree 2) (Rows (entry_parent k)) ks l → to_bad (entries_off_at k s ks) ≡ entries_off (words_of k) l Nowhere
  unfolding entries_off_at entries_off
  off_same ks l pairs_none = refl
  off_same ks l (pairs_next {k = x} {t = t} {ks = xs} {l = ts} e g ps) =
      let z = entry_kids x t e in
      let a = entry_same k m s (white_at s (x.child.gt + 1)) (rw (← z) (fit_fixed 2 (entry_parent k) t (spelt_of k).entry_fixed g)) in
      or_same (entry_off_at k s (inside_of s x (Rows (entry_parent k)))) (entries_off_at k s xs) ∙ rw (a, off_same xs ts ps, z) (sym (first_or (entry_agrees (words_of k) (trees_from (suc (suc m)) s (white_at s (x.child.gt + 1)))) (entries_off (words_of k) ts Nowhere)))

  pub entries_same : (ks : List Kept) (l : List Tree) → Pairs (tree_at (suc (suc (suc m))) s) (fits_tree 2) (Rows (entry_parent k)) ks l → entries_at k s ks ≡ entries_shown (words_of k) l
  unfolding entries_at entries_shown
  entries_same ks l pairs_none = refl
  entries_same ks l (pairs_next {k = x} {t = t} {ks = xs} {l = ts} e g ps) =
      let z = entry_kids x t e in
      let a = bytes_same k m s (white_at s (x.child.gt + 1)) (rw (← z) (fit_fixed 2 (entry_parent k) t (spelt_of k).entry_fixed g)) in
      rw (a, entries_same xs ts ps, z)
