-- Reading by positions is reading by the tree: what the code gives keeps the promise (specs/Promise.antt).
use Rattle.std.specs.Prelude.{Option, Result, Some, None, Ok, Err}
use mathlib.Core.Path.{◌≡◌, refl, sym, ap, ◌∙◌}
use mathlib.Core.List.{List, [], ◌∷◌, ◌++◌}
use mathlib.Core.Bool.{Bool, true, false, cond, ◌&&◌}
use Prim.Native.Nat.{ℕ, ◌+◌, ◌*◌, ◌≤◌, ◌<◌}
use native.Mathlib.Omega.{arith}
use lib.ListN.{length}
use lib.Dec.{leb}
use borrow.Author.Tests.{leb-true, leb-false}
use Rattle.scan.specs.Bytes.{bytes, between, text_is}
use Rattle.tokens.specs.Tokens.{white_at}
use Rattle.markup.specs.Markup.{markup_of}
use Rattle.markup.proofs.Laws.{root_parts}
use Rattle.grammar.specs.Grammar.{content_place}
use Rattle.grammar.proofs.Complete.{flow_complete}
use Rattle.fields.specs.declared.Form.TheVariants.{CodiceAbi, CodiceEnte, DataOraZona, Testo}
use Rattle.fields.specs.declared.Cause.{Cause}
use Rattle.fields.specs.declared.Cause.TheVariants.{Misformed}
use Rattle.fields.specs.Causes.{cause_number}
use Rattle.words.specs.Numbers.{put}
use Rattle.schema.specs.declared.Parent.TheVariants.{MessaggiEsito, TestataMessaggio, EsitoReversali, EsitoMandati}
use Rattle.schema.specs.declared.Holds.TheVariants.{Rows}
use Rattle.rows.specs.declared.Kept.{Kept}
use Rattle.schema.specs.Table.{name_is}
use Rattle.rows.specs.Kept.{kept_from, next_of}
use Rattle.structure.specs.Structure.{fits_at}
use Rattle.standing.specs.Readings.{Bad, Place, Nowhere, fields_at, first_bad}
use Rattle.standing.specs.Standing.{standing_by, standing_at}
use Rattle.orders.specs.Orders.{in_row}
use Rattle.editions.specs.declared.Edition.{Edition}
use Rattle.flow.specs.Flow.{id_allowed}
use Rattle.tree.specs.Tree.{Tree, Trees, lt_of, name_of, held_of, kids_in, ReadsAs}
use Rattle.tree.specs.Structure.{named, held_fits}
use Rattle.tree.specs.Orders.{children_named, mandato_words, reversale_words}
use Rattle.tree.specs.Flow.{Structured, fields_of}
use Rattle.tree.proofs.Positions.{tree_at, trees_from}
use Rattle.tree.proofs.Levels.{kept_trees, all_trees, kept_fits, fits_tree, fields_tree}
use Rattle.tree.proofs.Names.{text_same}
use Rattle.tree.proofs.Book.{name_same, fits_tree_lem, fields_tree_lem}
use Rattle.tree.proofs.ByName.{held_named, held_fields_named}
use Rattle.tree.proofs.Orders.{fit_all, kids_of}
use Rattle.tree.proofs.Stand.{Right, bad_none}
use Rattle.tree.proofs.Values.{row_length}
use Rattle.tree.proofs.Read.{reads_some}
use Rattle.tree.proofs.Theorem.{Root, root_of_lem, right_root}
use Rattle.parts.specs.Parts.{span_of_next, spans_from, parts_in}
use Rattle.message.specs.Message.{Message, count_ok, entry_count}
use Rattle.message.specs.Read.{first_kids, entry_in, message_in, disagreeing, earlier, entries_off, MessageReading, read, refused, by_place, entries_in, reading_on, max_message, too_long, no_tree, on_tree}
use Rattle.message.proofs.Blind.{each_length}
use Rattle.agreement.specs.declared.EntryKind.TheVariants.{Reversale, Mandato}
use Rattle.agreement.specs.Agreement.{entries_off_at, entries_of, off_from}
use Rattle.message_values.specs.Values.{spans_bytes, values_from}
use Rattle.message_read.specs.declared.MessageFlaw.{MessageFlaw}
use Rattle.message_read.specs.declared.MessageFlaw.TheVariants.{Structure, Field}
use Rattle.message_read.specs.declared.Reply.{Reply}
use Rattle.message_read.specs.Steps.{count_from, by_standing, judged_by, judged_of, refusal, ReadGives}
use Rattle.message_read.specs.Values.{testata_bytes, values_in}
use Rattle.message_read.specs.Promise.{ReadIn, refuses, no_room, reads}
use Rattle.message_read.proofs.Match.{Pairs, pairs_none, pairs_next, pairs_length, row_pairs, shown_is}
use Rattle.message_read.proofs.Entry.{to_bad, or_same, entries_or, off_same, entries_same}

-- OF THE ROOT'S CHILDREN, from i on, that have the structure
module _ (s : List ℕ) (i : ℕ) (f : fits_tree 3 MessaggiEsito (trees_from 11 s i) ≡ true) where
  abbrev kids : Trees
  kids = trees_from 11 s i

  all_fit_lem : all_trees (kept_fits (fits_tree 2)) (kept_trees MessaggiEsito (trees_from 11 s i)) ≡ true
  all_fit_lem = fit_all 2 MessaggiEsito (trees_from 11 s i) f

  reversali : Pairs (tree_at 11 s) (fits_tree 2) (Rows EsitoReversali) (in_row 2 (kept_from MessaggiEsito s i)) (children_named ("esito_reversali" ∷ []) (trees_from 11 s i))
  reversali = row_pairs 10 s (fits_tree 2) MessaggiEsito i all_fit_lem 2 "esito_reversali" (Rows EsitoReversali) (_, refl)

  mandati : Pairs (tree_at 11 s) (fits_tree 2) (Rows EsitoMandati) (in_row 3 (kept_from MessaggiEsito s i)) (children_named ("esito_mandati" ∷ []) (trees_from 11 s i))
  mandati = row_pairs 10 s (fits_tree 2) MessaggiEsito i all_fit_lem 3 "esito_mandati" (Rows EsitoMandati) (_, refl)

  count_same : count_from s i ≡ entries_in (trees_from 11 s i)
  count_same = rw (pairs_length reversali, pairs_length mandati)

  off_is : to_bad (off_from s i) ≡ disagreeing (trees_from 11 s i)
  off_is =
      let a = off_same Reversale 8 s (entries_of Reversale s i) (children_named ("esito_reversali" ∷ []) kids) reversali in
      let b = off_same Mandato 8 s (entries_of Mandato s i) (children_named ("esito_mandati" ∷ []) kids) mandati in
      or_same (entries_off_at Reversale s (entries_of Reversale s i)) (entries_off_at Mandato s (entries_of Mandato s i)) ∙ rw (a, b) (sym (entries_or reversale_words (children_named ("esito_reversali" ∷ []) kids) (entries_off mandato_words (children_named ("esito_mandati" ∷ []) kids) Nowhere)))

  -- THE HEADER'S TEXTS
  testata_same : (j : ℕ) → fits_tree 2 TestataMessaggio (trees_from 10 s j) ≡ true → spans_bytes (parts_in (kept_from TestataMessaggio s j)) ≡ testata_bytes (trees_from 10 s j)
  unfolding spans_bytes spans_from
  testata_same j g =
      let a = fit_all 1 TestataMessaggio (trees_from 10 s j) g in
      let x₀ = shown_is 9 s (fits_tree 1) TestataMessaggio j a 0 "codice_ABI_BT" CodiceAbi (_, refl) in
      let x₁ = shown_is 9 s (fits_tree 1) TestataMessaggio j a 1 "data_ora_creazione_flusso" DataOraZona (_, refl) in
      let x₂ = shown_is 9 s (fits_tree 1) TestataMessaggio j a 2 "codice_ente" Testo (_, refl) in
      let x₃ = shown_is 9 s (fits_tree 1) TestataMessaggio j a 3 "descrizione_ente" Testo (_, refl) in
      let x₄ = shown_is 9 s (fits_tree 1) TestataMessaggio j a 4 "codice_istat_ente" Testo (_, refl) in
      let x₅ = shown_is 9 s (fits_tree 1) TestataMessaggio j a 5 "codice_fiscale_ente" Testo (_, refl) in
      let x₆ = shown_is 9 s (fits_tree 1) TestataMessaggio j a 6 "codice_tramite_ente" Testo (_, refl) in
      let x₇ = shown_is 9 s (fits_tree 1) TestataMessaggio j a 7 "codice_tramite_BT" Testo (_, refl) in
      let x₈ = shown_is 9 s (fits_tree 1) TestataMessaggio j a 8 "codice_ente_BT" CodiceEnte (_, refl) in
      λ k. x₀ k ++ (x₁ k ++ (x₂ k ++ (x₃ k ++ (x₄ k ++ (x₅ k ++ (x₆ k ++ (x₇ k ++ x₈ k)))))))

  inner_same : (ks : List Kept) (l : List Tree) → Pairs (tree_at 11 s) (fits_tree 2) (Rows TestataMessaggio) ks l → between 1 1 (length l) ≡ true
      → spans_bytes (parts_in (kept_from TestataMessaggio s (white_at s (span_of_next (next_of ks)).from))) ≡ testata_bytes (first_kids l)
  inner_same ks l pairs_none c = let y : ◌≡◌ {A = ℕ} 0 1 = cc in absurd (omega arith)
  inner_same ks l (pairs_next {k = x} {t = t} e g ps) c =
      let z : kids_in (held_of t) ≡ trees_from 10 s (white_at s (x.child.gt + 1)) = ap (λ (y : Tree). kids_in (held_of y)) (sym e) ∙ kids_of 10 s x.child in
      rw z (testata_same (white_at s (x.child.gt + 1)) (rw (← z) g))

  pub values_same : Right 3 MessaggiEsito (trees_from 11 s i) → values_from s i ≡ values_in (trees_from 11 s i)
  values_same r =
      let p = row_pairs 10 s (fits_tree 2) MessaggiEsito i all_fit_lem 0 "testata_messaggio" (Rows TestataMessaggio) (_, refl) in
      let c = row_length 2 MessaggiEsito (trees_from 11 s i) r 0 "testata_messaggio" (Rows TestataMessaggio) 1 1 (_, refl) in
      let a = inner_same (in_row 0 (kept_from MessaggiEsito s i)) (children_named ("testata_messaggio" ∷ []) kids) p c in
      let b = shown_is 10 s (fits_tree 2) MessaggiEsito i all_fit_lem 1 "identificativo_flusso_BT" Testo (_, refl) in
      let d = entries_same Reversale 8 s (entries_of Reversale s i) (children_named ("esito_reversali" ∷ []) kids) reversali in
      let e = entries_same Mandato 8 s (entries_of Mandato s i) (children_named ("esito_mandati" ∷ []) kids) mandati in
      rw (a, b, d, e)

-- THE VERDICT BY POSITIONS AND BY THE TREE
data Both (n : ℕ) (m : Message) : Result ℕ MessageFlaw → MessageReading → Type 0 where
  structure : Both n m (Err Structure) (refused 4 0 0)
  field : {p : ℕ} {c : Cause} → Both n m (Err (Field p c)) (refused 5 p (cause_number c))
  stands : Both n m (Ok n) (read m)

earlier_both : (n : ℕ) (m : Message) (f : Bad) (o : Option ℕ) → Both n m (by_standing (standing_by true f) o n) (by_place m (earlier f (to_bad o)))
earlier_both n m Nowhere None = stands
earlier_both n m Nowhere (Some q) = field
earlier_both n m (Place p c) None = field
earlier_both n m (Place p c) (Some q) = go (leb p q)
  where
    go : (b : Bool) → Both n m (cond b (Err (Field p c)) (Err (Field q Misformed))) (by_place m (cond b (Place p c) (Place q Misformed)))
    go true = field
    go false = field

module _ {ids : Bool} (s : List ℕ) (t : Tree) (at : ℕ) (r : Root ids s t at) where
  abbrev from : ℕ
  from = white_at s at

  abbrev n : ℕ
  n = count_from s (white_at s at)

  abbrev message : Message
  message = message_in (kids_in (held_of t))

  fits_same : fits_at 3 MessaggiEsito s at ≡ held_fits (held_of t) (named (Rows MessaggiEsito))
  fits_same = fits_tree_lem 3 11 MessaggiEsito s at (omega arith) ∙ ap (fits_tree 3 MessaggiEsito) r.kids ∙ held_named 3 MessaggiEsito (λ b. refl) (omega arith) (held_of t)

  fits_trees : held_fits (held_of t) (named (Rows MessaggiEsito)) ≡ true → fits_tree 3 MessaggiEsito (trees_from 11 s (white_at s at)) ≡ true
  fits_trees e = sym (fits_tree_lem 3 11 MessaggiEsito s at (omega arith)) ∙ fits_same ∙ e

  fields_same : held_fits (held_of t) (named (Rows MessaggiEsito)) ≡ true → fields_at 3 MessaggiEsito s at ≡ fields_of MessaggiEsito t
  fields_same e = fields_tree_lem 3 11 MessaggiEsito s at (omega arith) (fits_same ∙ e) ∙ ap (fields_tree 3 MessaggiEsito) r.kids ∙ held_fields_named 3 MessaggiEsito (λ b. refl) (omega arith) (lt_of t) (held_of t) e

  name_is_lem : name_is (bytes "messaggi_esito_applicativo") s (r.lt + 1) r.end ≡ text_is (bytes "messaggi_esito_applicativo") (name_of t)
  name_is_lem = name_same s (r.lt + 1) r.end r.inside (bytes "messaggi_esito_applicativo") ∙ ap (text_is (bytes "messaggi_esito_applicativo")) r.name

  both_judged : Both (count_from s (white_at s at)) (message_in (kids_in (held_of t))) (judged_of s r.lt r.end at) (reading_on t)
  unfolding reading_on judged_by standing_at
  both_judged = rw name_is_lem (go (text_is (bytes "messaggi_esito_applicativo") (name_of t)) (held_fits (held_of t) (named (Rows MessaggiEsito))) refl)
    where
      broken : (c : Bool) (g : Bad) → Both n message (cond c (by_standing (standing_by false g) (off_from s from) n) (Err Structure)) (refused 4 0 0)
      broken true g = structure
      broken false g = structure

      counted : (c : Bool) → Both n message (cond c (by_standing (standing_by true (first_bad (fields_of MessaggiEsito t))) (off_from s from) n) (Err Structure)) (cond c (by_place message (earlier (first_bad (fields_of MessaggiEsito t)) (to_bad (off_from s from)))) (refused 4 0 0))
      counted true = earlier_both n message (first_bad (fields_of MessaggiEsito t)) (off_from s from)
      counted false = structure

      go : (a b : Bool) → held_fits (held_of t) (named (Rows MessaggiEsito)) ≡ b
          → Both n message (cond a (cond (count_ok n) (by_standing (standing_by (fits_at 3 MessaggiEsito s at) (first_bad (fields_at 3 MessaggiEsito s at))) (off_from s from) n) (Err Structure)) (Err Structure))
          (cond (a && (b && count_ok (entries_in (kids_in (held_of t))))) (by_place message (earlier (first_bad (fields_of MessaggiEsito t)) (disagreeing (kids_in (held_of t))))) (refused 4 0 0))
      go false b e = structure
      go true false e = rw (fits_same ∙ e) (broken (count_ok n) (first_bad (fields_at 3 MessaggiEsito s at)))
      go true true e =
          let f = fits_trees e in
          let c : n ≡ entries_in (kids_in (held_of t)) = count_same s from f ∙ ap entries_in r.kids in
          let o : to_bad (off_from s from) ≡ disagreeing (kids_in (held_of t)) = off_is s from f ∙ ap disagreeing r.kids in
          rw (fits_same ∙ e, fields_same e, ← c, ← o) (counted (count_ok n))

  -- of a message that is read
  read_right : (m : Message) → reading_on t ≡ read m → Right 3 MessaggiEsito (kids_in (held_of t)) × (held_fits (held_of t) (named (Rows MessaggiEsito)) ≡ true) × (message_in (kids_in (held_of t)) ≡ m)
  unfolding reading_on
  read_right m e = go (text_is (bytes "messaggi_esito_applicativo") (name_of t)) refl (held_fits (held_of t) (named (Rows MessaggiEsito))) refl (count_ok (entries_in (kids_in (held_of t)))) (first_bad (fields_of MessaggiEsito t)) refl (disagreeing (kids_in (held_of t))) e
    where
      no : {A : Type 0} {c p x : ℕ} → refused c p x ≡ read m → A
      no h = let z : ◌≡◌ {A = ℕ} 0 1 = cc in absurd (omega arith)

      later : (p q : ℕ) (c d : Cause) (b : Bool) → by_place message (cond b (Place p c) (Place q d)) ≡ read m → Right 3 MessaggiEsito (kids_in (held_of t)) × (held_fits (held_of t) (named (Rows MessaggiEsito)) ≡ true) × (message ≡ m)
      later p q c d true h = no h
      later p q c d false h = no h

      go : (a : Bool) → text_is (bytes "messaggi_esito_applicativo") (name_of t) ≡ a → (b : Bool) → held_fits (held_of t) (named (Rows MessaggiEsito)) ≡ b → (c : Bool) (g : Bad) → first_bad (fields_of MessaggiEsito t) ≡ g → (o : Bad)
          → cond (a && (b && c)) (by_place message (earlier g o)) (refused 4 0 0) ≡ read m → Right 3 MessaggiEsito (kids_in (held_of t)) × (held_fits (held_of t) (named (Rows MessaggiEsito)) ≡ true) × (message ≡ m)
      go true x true y true Nowhere z Nowhere h =
          let u : message ≡ m = cc in
          let st : Structured "messaggi_esito_applicativo" MessaggiEsito t = record { name = text_same (bytes "messaggi_esito_applicativo") (name_of t) x; holds = y } in
          (right_root MessaggiEsito 3 (λ b. refl) (omega arith) "messaggi_esito_applicativo" t st (bad_none (fields_of MessaggiEsito t) z), y, u)
      go true x true y true Nowhere z (Place q d) h = no h
      go true x true y true (Place p c) z Nowhere h = no h
      go true x true y true (Place p c) z (Place q d) h = later p q c d (leb p q) h
      go true x true y false g z o h = no h
      go true x false y c g z o h = no h
      go false x b y c g z o h = no h

  values_is : (m : Message) → reading_on t ≡ read m → (values_from s (white_at s at) ≡ values_in (kids_in (held_of t))) × (count_from s (white_at s at) ≡ entry_count m)
  values_is m e =
      let w = read_right m e in
      let f = fits_trees w.1 in
      let a = each_length (entry_in reversale_words) (children_named ("esito_reversali" ∷ []) (kids_in (held_of t))) in
      let b = each_length (entry_in mandato_words) (children_named ("esito_mandati" ∷ []) (kids_in (held_of t))) in
      let c : count_from s from ≡ entries_in (kids_in (held_of t)) = count_same s from f ∙ ap entries_in r.kids in
      let d : entry_count message ≡ entries_in (kids_in (held_of t)) = rw (a, b) in
      (values_same s from f (rw r.kids w.0) ∙ ap values_in r.kids, c ∙ sym d ∙ ap entry_count w.2)

  -- THE PROMISE, of a tree
  module _ (ed : Edition) (d : ReadsAs (id_allowed ed) s t) (l : length s ≤ max_message) (values : List ℕ) where
    given : (m : Message) (j : Result ℕ MessageFlaw) (q : MessageReading) → Both (count_from s (white_at s at)) m j q → reading_on t ≡ q → (reply : Reply) (left : List ℕ) → ReadGives s values (white_at s at) j reply left → ReadIn ed s values reply left
    given m j q structure e reply left g = rw (g.0, g.1) (refuses (on_tree l d e))
    given m j q field e reply left g = rw (g.0, g.1) (refuses (on_tree l d e))
    given m j q stands e reply left g =
        let v = values_is m e in
        rw (g.0, g.1, v.0, v.1) (go (leb (80 + 48 * entry_count m) (length values)) refl)
      where
        go : (b : Bool) → leb (80 + 48 * entry_count m) (length values) ≡ b
            → ReadIn ed s values (cond b (record { code = 0; place = 0; cause = 0; entries = entry_count m }) (refusal 40 0 0)) (cond b (put values 0 (values_in (kids_in (held_of t)))) values)
        go true z = reads (record { short = l; derived = d; reading = e }) (leb-true (80 + 48 * entry_count m) (length values) z)
        go false z = no_room (record { short = l; derived = d; reading = e }) (leb-false (80 + 48 * entry_count m) (length values) z)

-- of bytes whose markup stands
pub root_promise : (ed : Edition) (s values : List ℕ) (lt e at : ℕ) → length s ≤ max_message → markup_of (id_allowed ed) s ≡ Ok (lt, e, at) → (reply : Reply) (left : List ℕ) → ReadGives s values (white_at s at) (judged_of s lt e at) reply left → ReadIn ed s values reply left
root_promise ed s values lt e at l h reply left g =
    let x = reads_some s lt e at h in
    let t = x.0 in
    let d = x.1 in
    let r = root_of_lem s t d in
    let p = root_parts (sym h ∙ r.stands) in
    let a = p.0 in
    let b = p.1 in
    let c = p.2 in
    given s t (content_place d.0) r ed d l values (message_in (kids_in (held_of t))) (judged_of s r.lt r.end (content_place d.0)) (reading_on t) (both_judged s t (content_place d.0) r) refl reply left (rw (← a, ← b, ← c) g)

pub broken_promise : (ed : Edition) (s values : List ℕ) (q : ℕ) → length s ≤ max_message → markup_of (id_allowed ed) s ≡ Err q → (reply : Reply) → reply ≡ refusal 3 0 0 → ReadIn ed s values reply values
broken_promise ed s values q l e reply z = rw z (refuses (no_tree l (λ t d. let m = flow_complete s d.0 in let y : ◌≡◌ {A = ℕ} 0 1 = cc in omega arith)))

pub long_promise : (ed : Edition) (s values : List ℕ) → max_message < length s → (reply : Reply) → reply ≡ refusal 2 0 0 → ReadIn ed s values reply values
long_promise ed s values l reply z = rw z (refuses (too_long l))
