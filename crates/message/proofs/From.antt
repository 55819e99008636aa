-- What a flow, its outcome bytes and a caller's values of the right form give may be written, and is read back.
use Rattle.std.specs.Prelude.{Ok}
use mathlib.Core.Path.{◌≡◌, refl, sym, ap, subst, ◌∙◌}
use mathlib.Core.List.{List, [], ◌∷◌}
use mathlib.Core.Bool.{Bool, true, false, cond, ◌&&◌}
use Prim.Native.Nat.{ℕ, suc, ◌+◌, ◌≤◌}
use native.Mathlib.Omega.{arith}
use lib.ListN.{length, drop}
use lib.Dec.{eqb, leb}
use borrow.Author.Tests.{eqb-true, eqb-false}
use Rattle.scan.specs.Bytes.{bytes, byte_at, starts_with, has_at, text_is}
use Rattle.scan.proofs.Laws.{both}
use Rattle.words.specs.Numbers.{be4, be8}
use Rattle.bounds.specs.Bounds.{is_year}
use Rattle.tokens.specs.Tokens.{white_at}
use Rattle.grammar.specs.Grammar.{content_place}
use Rattle.codes.specs.Codes.{operation_number}
use Rattle.fields.specs.declared.Form.TheVariants.{CodiceAbi, Identificativo, CodiceEnte, DataOraZona}
use Rattle.schema.specs.declared.Parent.{Parent}
use Rattle.schema.specs.declared.Parent.TheVariants.{FlussoOrdinativi, FlussoOpi, TestataFlusso}
use Rattle.schema.specs.declared.Holds.TheVariants.{Text, Rows}
use Rattle.rows.specs.declared.Kept.{Kept}
use Rattle.schema.specs.Table.{◌is◌, once}
use Rattle.rows.specs.Kept.{kept_from, next_of}
use Rattle.rows.specs.Replaces.{rows_for}
use Rattle.structure.specs.Structure.{levels}
use Rattle.order.specs.Ordinativo.{Ordinativo}
use Rattle.orders.specs.Orders.{those, in_row, inside, text_in}
use Rattle.editions.specs.declared.Edition.{Edition}
use Rattle.editions.specs.declared.Edition.TheVariants.{Oil, Opi}
use Rattle.header.specs.Header.{Header, root_of, inside_next, testata_of}
use Rattle.flow.specs.declared.Breakage.TheVariants as verdict
use Rattle.flow.specs.Flow.{flow_kind, verdict_of, header_of, flow_orders}
use Rattle.flow.proofs.Laws.{flow_stood}
use Rattle.flow.proofs.Values.{OrderOk, orders_ok, header_ok}
use Rattle.flow.proofs.Values as flow
use Rattle.tree.specs.Tree.{Tree, Trees, held_of, kids_in, ReadsAs}
use Rattle.tree.specs.Orders.{children_named, text_named}
use Rattle.tree.specs.Flow.{DocumentAnswered, no_tree, one_tree}
use Rattle.tree.specs.Written.{Good}
use Rattle.tree.proofs.Positions.{tree_at, trees_from}
use Rattle.tree.proofs.Levels.{kept_trees, all_trees, kept_fits, fits_tree, testata_tree}
use Rattle.tree.proofs.Levels as levels
use Rattle.tree.proofs.Book.{as_tree, as_trees}
use Rattle.tree.proofs.Names.{has_names, as_kept}
use Rattle.tree.proofs.ByName.{rank_levels}
use Rattle.tree.proofs.Orders.{fit_all, row_name, row_fits, same_one, cons_one, all_one, never, kids_of, text_at}
use Rattle.tree.proofs.Written.{flow_good}
use Rattle.tree.proofs.Theorem.{root_of_lem, root_fixed, flow_stands, right_root, book_tree, document_answered}
use Rattle.message.specs.Message.{Entry, Message, TextOk, is_outcome, EntryOk, Every, every_none, every_next, count_ok, MessageOk}
use Rattle.message.specs.Written.{message_bytes}
use Rattle.message.specs.Read.{first_kids, read, MessageOf}
use Rattle.message.specs.From.{Caller, CallerOk, outcome_fits, outcomes_fit, entry_from, entries_from, message_from, identificativo_of, flow_message}
use Rattle.message.proofs.Kept.{Sound, good_kids, text_there, row_sound}
use Rattle.message.proofs.Write.{ranged}
use Rattle.message.proofs.Theorem.{read_written}

-- OUTCOMES
code_fits : (q : Ordinativo) (o : List ℕ) → outcome_fits q o ≡ true → is_outcome (byte_at o 2) ≡ true
code_fits q o e =
    let r = is_outcome (byte_at o 2) && (eqb (byte_at o 3) (length q.lines) && (eqb (be4 o 4) q.number && eqb (be8 o 8) q.total)) in
    let a = both (eqb (byte_at o 0) q.kind) (eqb (byte_at o 1) (operation_number q.operation) && r) e in
    let b = both (eqb (byte_at o 1) (operation_number q.operation)) r a.1 in
    (both (is_outcome (byte_at o 2)) (eqb (byte_at o 3) (length q.lines) && (eqb (be4 o 4) q.number && eqb (be8 o 8) q.total)) b.1).0

module _ (id : List ℕ) (year : ℕ) (time : List ℕ) (f : TextOk Identificativo id) (y : is_year year ≡ true) (t : TextOk DataOraZona time) where
  entry_ok : (q : Ordinativo) (code : ℕ) → OrderOk q → is_outcome code ≡ true → EntryOk (entry_from id year time q code)
  entry_ok q code k c = record { code = c; flow = f; esercizio = y; number = ranged 1 9999999 q.number k.number.0 k.number.1; date = k.date; total = k.total; time = t }

  entries_ok : (kind : ℕ) (qs : List Ordinativo) (o : List ℕ) → flow.Each OrderOk qs → outcomes_fit qs o ≡ true → Every EntryOk (entries_from kind id year time qs o)
  unfolding entries_from outcomes_fit
  entries_ok kind [] o k e = every_none
  entries_ok kind (q ∷ qs) o k e =
      let a = both (leb 16 (length o) && outcome_fits q o) (outcomes_fit qs (drop 16 o)) e in
      let c = code_fits q o (both (leb 16 (length o)) (outcome_fits q o) a.0).1 in
      go (eqb q.kind kind) (entry_ok q (byte_at o 2) k.0 c) (entries_ok kind qs (drop 16 o) k.1 a.1)
    where
      go : (b : Bool) → EntryOk (entry_from id year time q (byte_at o 2)) → Every EntryOk (entries_from kind id year time qs (drop 16 o)) → Every EntryOk (cond b (entry_from id year time q (byte_at o 2) ∷ entries_from kind id year time qs (drop 16 o)) (entries_from kind id year time qs (drop 16 o)))
      go true h i = every_next h i
      go false h i = i

  -- "One entry per order"
  entries_all : (qs : List Ordinativo) (o : List ℕ) → flow.Each OrderOk qs → length (entries_from 2 id year time qs o) + length (entries_from 1 id year time qs o) ≡ length qs
  unfolding entries_from
  entries_all [] o k = omega arith
  entries_all (q ∷ qs) o k = go (eqb q.kind 2) refl (eqb q.kind 1) refl k.0.kind (entries_all qs (drop 16 o) k.1)
    where
      go : (a : Bool) → eqb q.kind 2 ≡ a → (b : Bool) → eqb q.kind 1 ≡ b → (1 ≤ q.kind) × (q.kind ≤ 2) → length (entries_from 2 id year time qs (drop 16 o)) + length (entries_from 1 id year time qs (drop 16 o)) ≡ length qs
          → length (cond a (entry_from id year time q (byte_at o 2) ∷ entries_from 2 id year time qs (drop 16 o)) (entries_from 2 id year time qs (drop 16 o)))
          + length (cond b (entry_from id year time q (byte_at o 2) ∷ entries_from 1 id year time qs (drop 16 o)) (entries_from 1 id year time qs (drop 16 o))) ≡ suc (length qs)
      go true x true z r i = let u = eqb-true q.kind 2 x in let v = eqb-true q.kind 1 z in absurd (omega arith)
      go true x false z r i = omega arith
      go false x true z r i = omega arith
      go false x false z r i = let u = eqb-false q.kind 2 x in let v = eqb-false q.kind 1 z in let lo = r.0 in let hi = r.1 in absurd (omega (arith, u, v))

-- THE HEADER'S TEXTS are those of the flow's tree: of its root's children, or in edition 2 of its testata_flusso's
same_kids : (l : List Tree) → first_kids l ≡ levels.first_kids l
same_kids [] = refl
same_kids (t ∷ l) = refl

record HeaderTexts (ts : Trees) : Type 0 where
  abi : TextOk CodiceAbi (text_named "codice_ABI_BT" ts)
  flow : TextOk Identificativo (text_named "identificativo_flusso" ts)
  body : TextOk CodiceEnte (text_named "codice_ente_BT" ts)

texts_ok : (e : Edition) (ts : Trees) → Sound 11 4 (root_of e) ts → HeaderTexts (testata_tree e ts)
unfolding text_is has_at starts_with
texts_ok Oil ts o = record {
  abi = text_there o {n = 0} {lo = 1} {hi = 1} {f = CodiceAbi} (record { row = (_, refl); spot = refl }) refl;
  flow = text_there o {n = 1} {lo = 1} {hi = 1} {f = Identificativo} (record { row = (_, refl); spot = refl }) refl;
  body = text_there o {n = 3} {lo = 1} {hi = 1} {f = CodiceEnte} (record { row = (_, refl); spot = refl }) refl;
}
texts_ok Opi ts o =
    let i : Sound 10 3 TestataFlusso (levels.first_kids (children_named ("testata_flusso" ∷ []) ts)) = subst (Sound 10 3 TestataFlusso) (same_kids (children_named ("testata_flusso" ∷ []) ts)) (row_sound o {n = 0} {lo = 1} {hi = 1} {x = "testata_flusso"} {q = TestataFlusso} (record { row = (_, refl); spot = refl }) (λ b. refl) refl) in
    record {
      abi = text_there i {n = 0} {lo = 1} {hi = 1} {f = CodiceAbi} (record { row = (_, refl); spot = refl }) refl;
      flow = text_there i {n = 1} {lo = 1} {hi = 1} {f = Identificativo} (record { row = (_, refl); spot = refl }) refl;
      body = text_there i {n = 3} {lo = 1} {hi = 1} {f = CodiceEnte} (record { row = (_, refl); spot = refl }) refl;
    }

-- identificativo_flusso of the one testata_flusso
module _ (s : List ℕ) where
  inner_id : (ks : List Kept) (l : List Tree) → as_trees (tree_at 11 s) ks ≡ as_kept 0 (Rows TestataFlusso) l → all_trees (kept_fits (fits_tree 3)) (as_trees (tree_at 11 s) ks) ≡ true
      → text_in 1 s (inside_next s (next_of ks)) ≡ text_named "identificativo_flusso" (levels.first_kids l)
  unfolding inside rows_for text_in those children_named
  inner_id [] [] e a = refl
  inner_id [] (t ∷ l) e a = never e
  inner_id (k ∷ ks) [] e a = never (sym e)
  inner_id (k ∷ ks) (t ∷ l) e a =
      let b = all_one (kept_fits (fits_tree 3)) (as_tree (tree_at 11 s) k) (as_trees (tree_at 11 s) ks) a in
      let h = same_one (tree_at 11 s) (fits_tree 3) k t 0 (Rows TestataFlusso) (cons_one e).0 b.0 in
      let j = white_at s (k.child.gt + 1) in
      let y : kids_in (held_of t) ≡ trees_from 10 s j = rw (← h.it) (kids_of 10 s k.child) in
      let g : fits_tree 3 TestataFlusso (trees_from 10 s j) ≡ true = rw (← y) h.fits in
      rw (h.kind, y) (text_at 9 s (fits_tree 2) TestataFlusso j 1 "identificativo_flusso" Identificativo (_, refl) (fit_all 2 TestataFlusso (trees_from 10 s j) g))

  id_tree : (e : Edition) (i : ℕ) → all_trees (kept_fits (fits_tree 3)) (kept_trees (root_of e) (trees_from 11 s i)) ≡ true
      → text_in 1 s (testata_of e s (kept_from (root_of e) s i)) ≡ text_named "identificativo_flusso" (testata_tree e (trees_from 11 s i))
  id_tree Oil i a = text_at 10 s (fits_tree 3) FlussoOrdinativi i 1 "identificativo_flusso" Identificativo (_, refl) a
  id_tree Opi i a =
      inner_id (in_row 0 (kept_from FlussoOpi s i)) (children_named ("testata_flusso" ∷ []) (trees_from 11 s i))
      (row_name 11 FlussoOpi s i 0 "testata_flusso" (Rows TestataFlusso) (has_names FlussoOpi 0 (once ("testata_flusso" is Rows TestataFlusso)) (_, refl)))
      (row_fits 11 FlussoOpi s i 0 (kept_fits (fits_tree 3)) a)

module _ (e : Edition) (s : List ℕ) (t : Tree) (at : ℕ) (d : ReadsAs (flow_kind e).ids s t) (v : verdict_of e s ≡ Ok at) where
  flow_sound : Sound 11 4 (root_of e) (kids_in (held_of t))
  flow_sound =
      let w = flow_stands e s t at d v in
      let g : Good 12 t = rw d.1 at (flow_good d.0) in
      record { right = right_root (root_of e) levels (root_fixed e) (rank_levels (root_of e)) "flusso_ordinativi" t w.0 w.1; goods = good_kids g }

  flow_id : identificativo_of e s at ≡ text_named "identificativo_flusso" (testata_tree e (kids_in (held_of t)))
  flow_id =
      let r = root_of_lem s t d in
      let w = flow_stands e s t at d v in
      let f = (right_root (root_of e) levels (root_fixed e) (rank_levels (root_of e)) "flusso_ordinativi" t w.0 w.1).fits in
      let z : at ≡ content_place d.0 = sym w.2 in
      let k = r.kids in
      let i = white_at s (content_place d.0) in
      let a = fit_all 3 (root_of e) (trees_from 11 s i) (rw k f) in
      rw z (id_tree s e i a ∙ ap (λ (ts : Trees). text_named "identificativo_flusso" (testata_tree e ts)) k)

  -- WRITTEN FROM A FLOW THAT STANDS: it may be written
  tree_ok : (o : List ℕ) (c : Caller) → outcomes_fit (flow_orders e s at) o ≡ true → CallerOk c → MessageOk (flow_message e s at o c)
  tree_ok o c x k =
      let b = (book_tree e s t at d v).0 in
      let h = header_ok e s at (flow_stood e s at v) in
      let qs = flow_orders e s at in
      let q = orders_ok e s at (flow_stood e s at v) in
      let y = ranged 2000 2099 (header_of e s at).esercizio h.0.esercizio.0 h.0.esercizio.1 in
      let i = texts_ok e (kids_in (held_of t)) flow_sound in
      let f : TextOk Identificativo (identificativo_of e s at) = subst (TextOk Identificativo) (sym flow_id) i.flow in
      let abi : (header_of e s at).abi ≡ text_named "codice_ABI_BT" (testata_tree e (kids_in (held_of t))) = ap (λ (x : Header). x.abi) b in
      let ente : (header_of e s at).ente ≡ text_named "codice_ente_BT" (testata_tree e (kids_in (held_of t))) = ap (λ (x : Header). x.ente) b in
      let l = entries_all (identificativo_of e s at) (header_of e s at).esercizio c.outcome f y k.outcome qs o q in
      record {
        abi = subst (TextOk CodiceAbi) (sym abi) i.abi;
        created = k.created;
        ente = k.ente;
        described = k.described;
        istat = k.istat;
        fiscal = k.fiscal;
        tramite_ente = k.tramite_ente;
        tramite_bt = k.tramite_bt;
        body = subst (TextOk CodiceEnte) (sym ente) i.body;
        flow_bt = k.flow_bt;
        reversali = entries_ok (identificativo_of e s at) (header_of e s at).esercizio c.outcome f y k.outcome 2 qs o q x;
        mandati = entries_ok (identificativo_of e s at) (header_of e s at).esercizio c.outcome f y k.outcome 1 qs o q x;
        count = rw l (ranged 1 64 (length qs) h.1.0 h.1.1);
      }

pub written_ok : (e : Edition) (s : List ℕ) (at : ℕ) → verdict_of e s ≡ Ok at → (o : List ℕ) (c : Caller) → outcomes_fit (flow_orders e s at) o ≡ true → CallerOk c → MessageOk (flow_message e s at o c)
written_ok e s at v o c x k = go (document_answered (flow_kind e) (root_fixed e) s)
  where
    go : DocumentAnswered (flow_kind e) s → MessageOk (flow_message e s at o c)
    go (no_tree n) = let b = n.breaks in let y : ◌≡◌ {A = ℕ} 0 1 = cc in absurd (omega arith)
    go (one_tree {t = t} n) = tree_ok e s t at n.derived v o c x k

-- read in either edition
pub from_read : (e y : Edition) (s : List ℕ) (at : ℕ) → verdict_of e s ≡ Ok at → (o : List ℕ) (c : Caller) → outcomes_fit (flow_orders e s at) o ≡ true → CallerOk c
    → MessageOf y (message_bytes (flow_message e s at o c)) (read (flow_message e s at o c))
from_read e y s at v o c x k = read_written y (flow_message e s at o c) (written_ok e s at v o c x k)
