-- REQ 01: "MessageReading what was written gives the same values, and whatever is read and written again has the same meaning."
use Rattle.std.specs.Prelude.{Option, Result, Some, None, Ok, Err}
use mathlib.Core.Path.{◌≡◌, refl, sym, ap, ◌∙◌}
use mathlib.Core.List.{List, [], ◌∷◌}
use mathlib.Core.Bool.{Bool, true, false, cond, ◌&&◌}
use Prim.Native.Nat.{ℕ, suc, ◌+◌, ◌≤◌, ◌<◌}
use native.Mathlib.Omega.{arith}
use lib.ListN.{length}
use lib.Dec.{eqb, leb}
use borrow.Author.Tests.{leb-true, leb-false}
use Rattle.scan.specs.Bytes.{bytes, starts_with, has_at, text_is}
use Rattle.scan.proofs.Laws.{both}
use Rattle.markup.specs.Markup.{markup_of}
use Rattle.grammar.specs.Grammar.{start_tag}
use Rattle.grammar.proofs.Complete.{flow_complete}
use Rattle.codes.specs.declared.Esito.{Esito}
use Rattle.codes.specs.declared.Esito.TheVariants.{Accepted, Refused}
use Rattle.codes.specs.Codes.{esito_operazione}
use Rattle.digits.specs.Digits.{codice_errore}
use Rattle.orders.specs.Orders.{value_of}
use Rattle.schema.specs.declared.Parent.{Parent}
use Rattle.schema.specs.declared.Parent.TheVariants.{MessaggiEsito, EsitoReversali, EsitoMandati}
use Rattle.schema.specs.declared.Holds.TheVariants.{Rows}
use Rattle.fields.specs.declared.Cause.{Cause}
use Rattle.standing.specs.Readings.{Bad, Place, Nowhere, first_bad}
use Rattle.editions.specs.declared.Edition.{Edition}
use Rattle.flow.specs.Flow.{id_allowed}
use Rattle.tree.specs.Tree.{Tree, Trees, name_of, held_of, kids_in, ReadsAs}
use Rattle.tree.specs.Structure.{named, held_fits}
use Rattle.tree.specs.Fields.{AllStand}
use Rattle.tree.specs.Orders.{children_named, Words, mandato_words, reversale_words, text_named}
use Rattle.tree.specs.Flow.{Structured, fields_of}
use Rattle.tree.specs.Written.{bytes_of, placed, placed_held, placed_all, Good}
use Rattle.tree.proofs.Written.{flow_good}
use Rattle.tree.proofs.Read.{reads_some, reads_one}
use Rattle.tree.proofs.Names.{text_same}
use Rattle.tree.proofs.Laid.{right_structured}
use Rattle.tree.proofs.Stand.{no_bad, bad_none}
use Rattle.tree.proofs.Places.{structured_placed, stand_placed, read_back}
use Rattle.tree.proofs.Theorem.{right_root}
use Rattle.message.specs.Message.{Entry, Message, Every, every_none, every_next, is_accepted, count_ok, MessageOk}
use Rattle.message.specs.Written.{message_tree, message_bytes, root_out}
use Rattle.message.specs.Read.{operation_in, code_in, entry_in, each_of, message_in, entries_off, disagreeing, earlier, MessageReading, read, refused, by_place, entries_in, reading_on, MessageOf, too_long, no_tree, on_tree}
use Rattle.message.specs.Statements.{WordSaid, OneReading}
use Rattle.message.proofs.Kept.{no, Sound, good_kids, rows_sound, text_there}
use Rattle.message.proofs.Values.{values_ok, code_ok, not_zero, Spelt, spelt_reversale, spelt_mandato}
use Rattle.message.proofs.Blind.{error_ok, agrees, entries_agree, message_placed, count_placed, each_placed, entry_ok, entry_ok_placed, all_ok, entries_off_lem}
use Rattle.message.proofs.Short.{message_short}
use Rattle.message.proofs.Write.{text_self, message_right, message_good, message_value, message_agrees, message_entries}

-- WHAT STANDS
record Stands (t : Tree) : Type 0 where
  structured : Structured "messaggi_esito_applicativo" MessaggiEsito t
  fields : AllStand (fields_of MessaggiEsito t)
  count : count_ok (entries_in (kids_in (held_of t))) ≡ true
  reversali : all_ok (each_of (entry_ok reversale_words) (children_named ("esito_reversali" ∷ []) (kids_in (held_of t)))) ≡ true
  mandati : all_ok (each_of (entry_ok mandato_words) (children_named ("esito_mandati" ∷ []) (kids_in (held_of t)))) ≡ true

stands_read : (t : Tree) → Stands t → reading_on t ≡ read (message_in (kids_in (held_of t)))
unfolding reading_on
stands_read t s =
    let n : text_is (bytes "messaggi_esito_applicativo") (name_of t) ≡ true = rw s.structured.name (text_self (bytes "messaggi_esito_applicativo")) in
    let a = no_bad (fields_of MessaggiEsito t) s.fields in
    let b = entries_off_lem reversale_words (children_named ("esito_reversali" ∷ []) (kids_in (held_of t))) (entries_off mandato_words (children_named ("esito_mandati" ∷ []) (kids_in (held_of t))) Nowhere) s.reversali in
    let c = entries_off_lem mandato_words (children_named ("esito_mandati" ∷ []) (kids_in (held_of t))) Nowhere s.mandati in
    rw (n, s.structured.holds, s.count, a, b, c)

-- THE VALUES of what stands, and the other way round
no_reading : {m : Message} {c p k : ℕ} {A : Type 0} → refused c p k ≡ read m → A
no_reading e = let z : ◌≡◌ {A = ℕ} 0 1 = cc in absurd (omega arith)

record Standing (t : Tree) (m : Message) : Type 0 where
  structured : Structured "messaggi_esito_applicativo" MessaggiEsito t
  count : count_ok (entries_in (kids_in (held_of t))) ≡ true
  fields : AllStand (fields_of MessaggiEsito t)
  agree : disagreeing (kids_in (held_of t)) ≡ Nowhere
  values : message_in (kids_in (held_of t)) ≡ m

standing : (t : Tree) (m : Message) → reading_on t ≡ read m → Standing t m
unfolding reading_on
standing t m e =
    go (text_is (bytes "messaggi_esito_applicativo") (name_of t)) refl (held_fits (held_of t) (named (Rows MessaggiEsito))) refl (count_ok (entries_in (kids_in (held_of t)))) refl (first_bad (fields_of MessaggiEsito t)) refl (disagreeing (kids_in (held_of t))) refl e
  where
    later : (p : ℕ) (x : Cause) (c : Bool) (q : ℕ) (y : Cause) → by_place (message_in (kids_in (held_of t))) (cond c (Place p x) (Place q y)) ≡ read m → Standing t m
    later p x true q y h = no_reading h
    later p x false q y h = no_reading h

    go : (a : Bool) → text_is (bytes "messaggi_esito_applicativo") (name_of t) ≡ a → (b : Bool) → held_fits (held_of t) (named (Rows MessaggiEsito)) ≡ b → (c : Bool) → count_ok (entries_in (kids_in (held_of t))) ≡ c
        → (f : Bad) → first_bad (fields_of MessaggiEsito t) ≡ f → (d : Bad) → disagreeing (kids_in (held_of t)) ≡ d → cond (a && (b && c)) (by_place (message_in (kids_in (held_of t))) (earlier f d)) (refused 4 0 0) ≡ read m → Standing t m
    go true n true x true y Nowhere z Nowhere v h =
        let u : message_in (kids_in (held_of t)) ≡ m = cc in
        record { structured = record { name = text_same (bytes "messaggi_esito_applicativo") (name_of t) n; holds = x }; count = y; fields = bad_none (fields_of MessaggiEsito t) z; agree = v; values = u }
    go true n true x true y Nowhere z (Place p w) v h = no_reading h
    go true n true x true y (Place p w) z Nowhere v h = no_reading h
    go true n true x true y (Place p w) z (Place q u) v h = later p w (leb p q) q u h
    go true n true x false y f z d v h = no_reading h
    go true n false x c y f z d v h = no_reading h
    go false n b x c y f z d v h = no_reading h

-- ANY BYTES have one reading
pub reading_some : (x : Edition) (s : List ℕ) → (r : MessageReading) × MessageOf x s r
reading_some x s = go (leb (length s) 65536) refl (markup_of (id_allowed x) s) refl
  where
    go : (b : Bool) → leb (length s) 65536 ≡ b → (w : Result (ℕ × ℕ × ℕ) ℕ) → markup_of (id_allowed x) s ≡ w → (r : MessageReading) × MessageOf x s r
    go false l w e = (refused 2 0 0, too_long (let h = leb-false (length s) 65536 l in omega arith))
    go true l (Ok (lt, e, at)) h = let t = reads_some s lt e at h in (reading_on t.0, on_tree (leb-true (length s) 65536 l) t.1 refl)
    go true l (Err p) h = (refused 3 0 0, no_tree (leb-true (length s) 65536 l) (λ t d. let m = flow_complete s d.0 in let y : ◌≡◌ {A = ℕ} 0 1 = cc in omega arith))

pub reading_one : {x : Edition} (s : List ℕ) (r q : MessageReading) → MessageOf x s r → MessageOf x s q → r ≡ q
reading_one s r q (too_long l) (too_long k) = refl
reading_one s r q (too_long l) (no_tree k f) = absurd (omega arith)
reading_one s r q (too_long l) (on_tree k d e) = absurd (omega arith)
reading_one s r q (no_tree l f) (too_long k) = absurd (omega arith)
reading_one s r q (no_tree l f) (no_tree k g) = refl
reading_one s r q (no_tree l f) (on_tree {t = t} k d e) = absurd (f t d)
reading_one s r q (on_tree l d e) (too_long k) = absurd (omega arith)
reading_one s r q (on_tree {t = t} l d e) (no_tree k g) = absurd (g t d)
reading_one s r q (on_tree {t = t} l d e) (on_tree {t = u} k f g) = let z = reads_one s t u d f in cc

pub one_reading : (x : Edition) (s : List ℕ) → OneReading x s
one_reading x s = let a = reading_some x s in record { reading = a.0; said = a.1; alone = λ r m. reading_one s r a.0 m a.1 }

-- WRITTEN
written_stands : (m : Message) → MessageOk m → Stands (message_tree m)
written_stands m k =
    let s = right_structured 3 MessaggiEsito (λ b. refl) (omega arith) "messaggi_esito_applicativo" (root_out m) (message_right m k) in
    let a = message_agrees m k in
    record { structured = s.0; fields = s.1; count = message_entries m k; reversali = a.0; mandati = a.1 }

-- in its places
placed_stands : (m : Message) → Stands (message_tree m) → Stands (placed 0 (message_tree m))
unfolding placed placed_held
placed_stands m s =
    let q = 0 + length (start_tag (bytes "messaggi_esito_applicativo")) in
    let ts = root_out m in
    record {
      structured = structured_placed "messaggi_esito_applicativo" MessaggiEsito 0 (message_tree m) s.structured;
      fields = stand_placed MessaggiEsito 0 (message_tree m) s.fields;
      count = ap count_ok (count_placed q ts) ∙ s.count;
      reversali = ap all_ok (each_placed (entry_ok reversale_words) (entry_ok_placed reversale_words) "esito_reversali" q ts) ∙ s.reversali;
      mandati = ap all_ok (each_placed (entry_ok mandato_words) (entry_ok_placed mandato_words) "esito_mandati" q ts) ∙ s.mandati;
    }

placed_value : (m : Message) → MessageOk m → message_in (kids_in (held_of (placed 0 (message_tree m)))) ≡ m
unfolding placed placed_held
placed_value m k = message_placed (0 + length (start_tag (bytes "messaggi_esito_applicativo"))) (root_out m) ∙ message_value m k

pub read_written : (x : Edition) (m : Message) → MessageOk m → MessageOf x (message_bytes m) (read m)
read_written x m k =
    let t = message_tree m in
    let l = message_short m k in
    on_tree (omega arith) (read_back (id_allowed x) t (message_good m k)) (stands_read (placed 0 t) (placed_stands m (written_stands m k)) ∙ ap read (placed_value m k))

-- READ
sound_of : {ids : Bool} (s : List ℕ) (t : Tree) (m : Message) → ReadsAs ids s t → Standing t m → Sound 11 3 MessaggiEsito (kids_in (held_of t))
sound_of s t m r w =
    let g : Good 12 t = rw r.1 at (flow_good r.0) in
    record { right = right_root MessaggiEsito 3 (λ b. refl) (omega arith) "messaggi_esito_applicativo" t w.structured w.fields; goods = good_kids g }

tree_ok : {ids : Bool} (s : List ℕ) (t : Tree) (m : Message) → ReadsAs ids s t → reading_on t ≡ read m → MessageOk m
tree_ok s t m r e =
    let w = standing t m e in
    rw (← w.values) (values_ok (kids_in (held_of t)) (sound_of s t m r w) w.count)

ok_by : {x : Edition} (s : List ℕ) (m : Message) (r : MessageReading) → MessageOf x s r → r ≡ read m → MessageOk m
ok_by s m r (too_long l) e = no_reading e
ok_by s m r (no_tree l f) e = no_reading e
ok_by s m r (on_tree {t = t} l d g) e = tree_ok s t m d (g ∙ e)

pub read_ok : {x : Edition} (s : List ℕ) (m : Message) → MessageOf x s (read m) → MessageOk m
read_ok s m y = ok_by s m (read m) y refl

pub same_meaning : (x y : Edition) (s : List ℕ) (m : Message) → MessageOf x s (read m) → MessageOf y (message_bytes m) (read m)
same_meaning x y s m r = read_written y m (read_ok s m r)

-- AND THE WORDS ARE KEPT
said_by : (w : Words) {p q : Parent} → Spelt p q w → {e : ℕ} (s : Option Esito) (l : List Tree) → Every (λ (t : Tree). Sound (suc e) 1 q (kids_in (held_of t))) l → agrees s (each_of (error_ok w) l) ≡ true
    → s ≡ cond (is_accepted (code_in l)) (Some (Accepted (operation_in s))) (Some (Refused (operation_in s)))
unfolding each_of
said_by w sp (Some (Accepted o)) [] k a = refl
said_by w sp (Some (Accepted o)) (t ∷ l) k a = no a
said_by w sp (Some (Refused o)) [] k a = no a
said_by w sp (Some (Refused o)) (t ∷ l) (every_next c k) a =
    let x = text_named "codice_errore" (kids_in (held_of t)) in
    rw (not_zero (value_of (codice_errore x)) (code_ok x (text_there c sp.code refl)))
said_by w sp None l k a = no a

each_said : (w : Words) {p q : Parent} → Spelt p q w → {e : ℕ} (l : List Tree) → Every (λ (t : Tree). Sound (suc (suc e)) 2 p (kids_in (held_of t))) l → all_ok (each_of (entry_ok w) l) ≡ true → Every (WordSaid w) l
unfolding each_of all_ok
each_said w sp [] k a = every_none
each_said w sp (t ∷ l) (every_next c k) a =
    let ts = kids_in (held_of t) in
    let b = both (entry_ok w ts) (all_ok (each_of (entry_ok w) l)) a in
    every_next (record { word = said_by w sp (esito_operazione (text_named "esito_operazione" ts)) (children_named ("lista_errori" ∷ []) ts) (rows_sound c sp.errors sp.errors_fixed) b.0 }) (each_said w sp l k b.1)

pub words_kept : {ids : Bool} (s : List ℕ) (t : Tree) (m : Message) → ReadsAs ids s t → reading_on t ≡ read m
    → Every (WordSaid reversale_words) (children_named ("esito_reversali" ∷ []) (kids_in (held_of t))) × Every (WordSaid mandato_words) (children_named ("esito_mandati" ∷ []) (kids_in (held_of t)))
unfolding text_is has_at starts_with
words_kept s t m r e =
    let w = standing t m e in
    let o = sound_of s t m r w in
    let ts = kids_in (held_of t) in
    let a = entries_agree reversale_words (children_named ("esito_reversali" ∷ []) ts) (entries_off mandato_words (children_named ("esito_mandati" ∷ []) ts) Nowhere) w.agree in
    let b = entries_agree mandato_words (children_named ("esito_mandati" ∷ []) ts) Nowhere a.1 in
    let x = rows_sound o {n = 2} {lo = 0} {hi = 64} {x = "esito_reversali"} {q = EsitoReversali} (record { row = (_, refl); spot = refl }) (λ b. refl) in
    let y = rows_sound o {n = 3} {lo = 0} {hi = 64} {x = "esito_mandati"} {q = EsitoMandati} (record { row = (_, refl); spot = refl }) (λ b. refl) in
    (each_said reversale_words spelt_reversale (children_named ("esito_reversali" ∷ []) ts) x a.0, each_said mandato_words spelt_mandato (children_named ("esito_mandati" ∷ []) ts) y b.0)
