-- What may be written has the structure, its fields stand and agree, and it says its own values.
use Rattle.std.specs.Prelude.{Some}
use mathlib.Core.Path.{◌≡◌, refl, sym, ap, ◌∙◌}
use mathlib.Core.Logic.{◌⊎◌, inl, inr}
use mathlib.Core.List.{List, [], ◌∷◌}
use mathlib.Core.Bool.{Bool, true, false, cond, ◌&&◌, ◌||◌}
use Prim.Native.Nat.{ℕ, zero, suc, ◌+◌, ◌≤◌, ◌<◌}
use Prim.Native.String.{String}
use native.Mathlib.Omega.{arith}
use lib.ListN.{length}
use lib.Dec.{eqb, leb}
use borrow.Author.Tests.{eq-eqb, eqb-true, le-leb, leb-true}
use Rattle.scan.specs.Bytes.{bytes, between, is_letter, is_digit, is_name_byte, all, starts_with, has_at, text_is}
use Rattle.scan.proofs.Laws.{both, in_range}
use Rattle.tokens.specs.Tokens.{is_plain}
use Rattle.bounds.specs.Bounds.{is_year, is_numero, max_cents}
use Rattle.grammar.specs.Grammar.{Name, name}
use Rattle.codes.specs.declared.Operation.{Operation}
use Rattle.codes.specs.declared.Operation.TheVariants.{Inserimento, Variazione, Annullo, Sostituzione}
use Rattle.codes.specs.declared.Esito.{Esito}
use Rattle.codes.specs.declared.Esito.TheVariants.{Accepted, Refused}
use Rattle.codes.specs.Codes.{accepted_word, refused_word, esito_operazione, length_in}
use Rattle.digits.specs.Digits.{digits, esercizio, numero, importo, codice_errore, is_refusal}
use Rattle.dates.specs.Dates.{data_of}
use Rattle.fields.specs.declared.Form.{Form}
use Rattle.fields.specs.declared.Form.TheVariants.{CodiceAbi, Identificativo, CodiceEnte, Esercizio, Numero, Data, Importo, DataOraZona, Testo, EsitoOperazione, CodiceErrore, Descrizione, Elemento}
use Rattle.fields.specs.declared.Judged.TheVariants as judged
use Rattle.fields.specs.declared.Judged.TheVariants.{Stands}
use Rattle.fields.specs.Fields.{field_stands}
use Rattle.orders.specs.Orders.{value_of, date_of}
use Rattle.schema.specs.declared.Parent.{Parent}
use Rattle.schema.specs.declared.Parent.TheVariants.{MessaggiEsito, TestataMessaggio, EsitoReversali, EsitoMandati, ErroriReversali, ErroriMandati}
use Rattle.schema.specs.declared.Holds.TheVariants.{Text as TextOf, Rows}
use Rattle.schema.specs.Table.{Named, ◌is◌, Row, once, optional, table, entry_rows, error_rows}
use Rattle.tree.specs.Tree.{Tree, Trees, none, more}
use Rattle.tree.specs.Orders.{children_named, Words, mandato_words, reversale_words, first_text, text_named}
use Rattle.tree.specs.Written.{leaf, node, Good, good, good_text, good_trees, GoodTrees, good_last, good_next}
use Rattle.tree.proofs.Levels.{spot_named}
use Rattle.tree.proofs.Stand.{Right}
use Rattle.tree.proofs.Laid.{Laid, done, on, laid_right, lay_leaf, lay_node, plain, plain_text}
use Rattle.pen.specs.Decimal.{fixed, decimal, amount, dated}
use Rattle.message.specs.Message.{Entry, Message, accepted_as, refused_as, word_of, element_name, TextOk, is_outcome, EntryOk, Every, every_none, every_next, count_ok, MessageOk, number_name, date_name}
use Rattle.message.specs.Written.{error_out, errors_out, entry_out, entries_out, istat_out, head_out, root_out, message_tree}
use Rattle.message.specs.Read.{kids_named, operation_in, code_in, entry_in, each_of, message_in, entries_in}
use Rattle.message.proofs.Decimal.{numero_decimal, esercizio_fixed, code_fixed, importo_amount, data_dated, fixed_text, decimal_text, amount_text, dated_text}
use Rattle.message.proofs.Kept.{no}
use Rattle.message.proofs.Values.{Spelt, spelt_reversale, spelt_mandato}
use Rattle.message.proofs.Blind.{error_ok, agrees, entry_ok, all_ok}

pub ranged : (lo hi n : ℕ) → lo ≤ n → n ≤ hi → between lo hi n ≡ true
ranged lo hi n h k = rw (le-leb lo n h, le-leb n hi k)

-- A TEXT IS ITSELF
starts_self : (x : List ℕ) → starts_with x x ≡ true
unfolding starts_with
starts_self [] = refl
starts_self (b ∷ x) = rw (eq-eqb b b refl, starts_self x)

pub text_self : (x : List ℕ) → text_is x x ≡ true
unfolding text_is has_at
text_self x = rw (eq-eqb (length x) (length x) refl, starts_self x)

-- THE TEXTS THAT VALUES ARE WRITTEN AS have their forms
year_out : (n : ℕ) → is_year n ≡ true → TextOk Esercizio (fixed 4 n)
unfolding field_stands
year_out n r = record { form = rw (esercizio_fixed n r); text = fixed_text 4 n }

number_out : (n : ℕ) → is_numero n ≡ true → TextOk Numero (decimal n)
unfolding field_stands
number_out n r = record { form = rw (numero_decimal n r); text = decimal_text n }

date_out : (e : Entry) → EntryOk e → TextOk Data (dated e.date)
unfolding field_stands
date_out e k = record { form = rw (data_dated e.date k.date); text = dated_text e.date }

total_out : (n : ℕ) → n ≤ max_cents → TextOk Importo (amount n)
unfolding field_stands
total_out n r = record { form = rw (importo_amount n r); text = amount_text n }

code_out : (n : ℕ) → is_refusal n ≡ true → TextOk CodiceErrore (fixed 2 n)
unfolding field_stands
code_out n r = record { form = rw (code_fixed n r); text = fixed_text 2 n }

again_form : (n : ℕ) → field_stands Descrizione (fixed 2 n) ≡ Stands
unfolding field_stands length_in
again_form n = refl

-- the eight words
pub accepted_read : (o : Operation) → esito_operazione (bytes (accepted_as o)) ≡ Some (Accepted o)
unfolding esito_operazione accepted_word refused_word text_is has_at starts_with
accepted_read Inserimento = refl
accepted_read Variazione = refl
accepted_read Annullo = refl
accepted_read Sostituzione = refl

pub refused_read : (o : Operation) → esito_operazione (bytes (refused_as o)) ≡ Some (Refused o)
unfolding esito_operazione accepted_word refused_word text_is has_at starts_with
refused_read Inserimento = refl
refused_read Variazione = refl
refused_read Annullo = refl
refused_read Sostituzione = refl

word_plain : (b : Bool) (o : Operation) → all plain (bytes (word_of b o)) ≡ true
unfolding all is_plain
word_plain true Inserimento = refl
word_plain true Variazione = refl
word_plain true Annullo = refl
word_plain true Sostituzione = refl
word_plain false Inserimento = refl
word_plain false Variazione = refl
word_plain false Annullo = refl
word_plain false Sostituzione = refl

word_form : (b : Bool) (o : Operation) → field_stands EsitoOperazione (bytes (word_of b o)) ≡ judged.Stands
unfolding field_stands
word_form true o = rw (accepted_read o)
word_form false o = rw (refused_read o)

word_out : (b : Bool) (o : Operation) → TextOk EsitoOperazione (bytes (word_of b o))
word_out b o = record { form = word_form b o; text = plain_text (bytes (word_of b o)) (word_plain b o) }

-- NAMES
unfoldable pub name_ok : List ℕ → Bool
name_ok [] = false
name_ok (b ∷ t) = is_letter b && (all is_name_byte t && leb (length (b ∷ t)) 48)

name_ok_lem : (x : List ℕ) → name_ok x ≡ true → Name x
unfolding name_ok
name_ok_lem [] e = no e
name_ok_lem (b ∷ t) e =
    let c = both (is_letter b) (all is_name_byte t && leb (length (b ∷ t)) 48) e in
    let d = both (all is_name_byte t) (leb (length (b ∷ t)) 48) c.1 in
    name c.0 d.0 (leb-true _ _ d.1)

-- WHAT A KIND'S WORDS give, by computing
pub record Names (w : Words) : Type 0 where
  pub number : name_ok (bytes (number_name w)) ≡ true
  pub date : name_ok (bytes (date_name w)) ≡ true
  pub element : (n : ℕ) → TextOk Elemento (bytes (element_name w n))
  pub reads_flow : (e : Entry) → text_named "identificativo_flusso" (entry_out w e) ≡ e.flow
  pub reads_year : (e : Entry) → text_named "esercizio" (entry_out w e) ≡ fixed 4 e.esercizio
  pub reads_number : (e : Entry) → text_named (number_name w) (entry_out w e) ≡ decimal e.number
  pub reads_date : (e : Entry) → text_named (date_name w) (entry_out w e) ≡ dated e.date
  pub reads_total : (e : Entry) → text_named "importo" (entry_out w e) ≡ amount e.total
  pub reads_word : (e : Entry) → text_named "esito_operazione" (entry_out w e) ≡ bytes (word_of (eqb e.code 0) e.operation)
  pub reads_time : (e : Entry) → text_named "data_ora_esito_operazione" (entry_out w e) ≡ e.time
  pub reads_errors : (e : Entry) → children_named ("lista_errori" ∷ []) (entry_out w e) ≡ children_named ("lista_errori" ∷ []) (errors_out w e.code (eqb e.code 0))

element_by : (x y z u : String) → TextOk Elemento (bytes x) → TextOk Elemento (bytes y) → TextOk Elemento (bytes z) → TextOk Elemento (bytes u) → (a b c : Bool) → TextOk Elemento (bytes (cond a x (cond b y (cond c z u))))
element_by x y z u f g h i true b c = f
element_by x y z u f g h i false true c = g
element_by x y z u f g h i false false true = h
element_by x y z u f g h i false false false = i

element_ok : (x : String) → all plain (bytes x) ≡ true → length_in 1 24 (bytes x) ≡ true → TextOk Elemento (bytes x)
unfolding field_stands
element_ok x p s = record { form = rw s; text = plain_text (bytes x) p }

pub names_reversale : Names reversale_words
unfolding children_named text_is has_at starts_with element_name all is_plain length_in name_ok is_letter is_digit is_name_byte
names_reversale = record {
  number = refl;
  date = refl;
  element = λ n. element_by "tipo_operazione" "progressivo_versante" "importo_reversale" "numero_reversale" (element_ok "tipo_operazione" refl refl) (element_ok "progressivo_versante" refl refl) (element_ok "importo_reversale" refl refl) (element_ok "numero_reversale" refl refl) (eqb n 11) (eqb n 12) (eqb n 13 || eqb n 19);
  reads_flow = λ e. refl;
  reads_year = λ e. refl;
  reads_number = λ e. refl;
  reads_date = λ e. refl;
  reads_total = λ e. refl;
  reads_word = λ e. refl;
  reads_time = λ e. refl;
  reads_errors = λ e. refl;
}

pub names_mandato : Names mandato_words
unfolding children_named text_is has_at starts_with element_name all is_plain length_in name_ok is_letter is_digit is_name_byte
names_mandato = record {
  number = refl;
  date = refl;
  element = λ n. element_by "tipo_operazione" "progressivo_beneficiario" "importo_mandato" "numero_mandato" (element_ok "tipo_operazione" refl refl) (element_ok "progressivo_beneficiario" refl refl) (element_ok "importo_mandato" refl refl) (element_ok "numero_mandato" refl refl) (eqb n 11) (eqb n 12) (eqb n 13 || eqb n 19);
  reads_flow = λ e. refl;
  reads_year = λ e. refl;
  reads_number = λ e. refl;
  reads_date = λ e. refl;
  reads_total = λ e. refl;
  reads_word = λ e. refl;
  reads_time = λ e. refl;
  reads_errors = λ e. refl;
}

-- GOOD
leaf_good : (d : ℕ) (x : String) {f : Form} (t : List ℕ) → name_ok (bytes x) ≡ true → TextOk f t → Good (suc d) (leaf x t)
leaf_good d x t e k = good (name_ok_lem (bytes x) e) (good_text k.text)

node_good : (d : ℕ) (x : String) (ts : Trees) → name_ok (bytes x) ≡ true → GoodTrees d ts → Good (suc d) (node x ts)
node_good d x ts e k = good (name_ok_lem (bytes x) e) (good_trees k)

abbrev Rest : ℕ → Trees → Type 0
Rest d ts = (ts ≡ none) ⊎ GoodTrees d ts

then : {d : ℕ} {t : Tree} {ts : Trees} → Good d t → Rest d ts → GoodTrees d (more t ts)
then {d} {t} {ts} g (inl z) = rw z (good_last g)
then g (inr k) = good_next g k

-- A code that is refused
refusal : (n : ℕ) → is_outcome n ≡ true → eqb n 0 ≡ false → is_refusal n ≡ true
refusal n e f = rw f at e

code_of : (w : Words) (n : ℕ) → text_named "codice_errore" (error_out w n) ≡ fixed 2 n
unfolding children_named text_is has_at starts_with
code_of w n = refl

again_of : (w : Words) (n : ℕ) → text_named "descrizione" (error_out w n) ≡ fixed 2 n
unfolding children_named text_is has_at starts_with
again_of w n = refl

element_of : (w : Words) (n : ℕ) → text_named "elemento" (error_out w n) ≡ bytes (element_name w n)
unfolding children_named text_is has_at starts_with
element_of w n = refl

error_ok_lem : (w : Words) (n : ℕ) → is_refusal n ≡ true → error_ok w (error_out w n) ≡ true
error_ok_lem w n r =
    let a : text_named "codice_errore" (error_out w n) ≡ fixed 2 n = code_of w n in
    let b : text_named "descrizione" (error_out w n) ≡ fixed 2 n = again_of w n in
    let c : text_named "elemento" (error_out w n) ≡ bytes (element_name w n) = element_of w n in
    rw (a, b, c, code_fixed n r, text_self (fixed 2 n), text_self (bytes (element_name w n)))

-- AN ENTRY
module _ {p q : Parent} {w : Words} (sp : Spelt p q w) (nm : Names w) where
  error_right : (n : ℕ) → is_refusal n ≡ true → Right 1 q (error_out w n)
  error_right n r =
      let c = (code_out n r).form in
      laid_right 0 q _
      (rw sp.error_rows
      (on refl
      (lay_leaf "codice_errore" CodiceErrore _ sp.code.spot c (on refl
      (lay_leaf "descrizione" Descrizione _ sp.described.spot (again_form n) (on refl
      (lay_leaf "elemento" Elemento _ sp.element.spot (nm.element n).form (on refl done))))))))

  errors_laid : (n : ℕ) → is_outcome n ≡ true → (b : Bool) → eqb n 0 ≡ b → Laid 1 p (optional ("lista_errori" is Rows q) ∷ []) 8 0 (errors_out w n b)
  errors_laid n k true e = on refl done
  errors_laid n k false e = lay_node "lista_errori" q _ sp.errors.spot sp.errors_fixed (error_right n (refusal n k e)) (on refl done)

  entry_right : (e : Entry) → EntryOk e → Right 2 p (entry_out w e)
  entry_right e k =
      laid_right 1 p _
      (rw sp.rows
      (lay_leaf "identificativo_flusso" Identificativo _ sp.flow.spot k.flow.form (on refl
      (lay_leaf "esercizio" Esercizio _ sp.esercizio.spot (year_out e.esercizio k.esercizio).form (on refl
      (lay_leaf (number_name w) Numero _ sp.number.spot (number_out e.number k.number).form (on refl (on refl
      (lay_leaf (date_name w) Data _ sp.date.spot (date_out e k).form (on refl
      (lay_leaf "importo" Importo _ sp.total.spot (total_out e.total k.total).form (on refl
      (lay_leaf "esito_operazione" EsitoOperazione _ sp.word.spot (word_form (eqb e.code 0) e.operation) (on refl
      (lay_leaf "data_ora_esito_operazione" DataOraZona _ sp.time.spot k.time.form (on refl
      (errors_laid e.code k.code (eqb e.code 0) refl)))))))))))))))))

  errors_good : (d n : ℕ) → is_outcome n ≡ true → (b : Bool) → eqb n 0 ≡ b → Rest (suc (suc d)) (errors_out w n b)
  unfolding name_ok all is_letter is_digit is_name_byte
  errors_good d n k true e = inl refl
  errors_good d n k false e =
      let c = code_out n (refusal n k e) in
      inr (good_last (node_good (suc d) "lista_errori" _ refl
      (good_next (leaf_good d "codice_errore" _ refl c)
      (good_next (leaf_good d "descrizione" _ refl c)
      (good_last (leaf_good d "elemento" _ refl (nm.element n)))))))

  entry_good : (d : ℕ) (e : Entry) → EntryOk e → GoodTrees (suc (suc d)) (entry_out w e)
  unfolding name_ok all is_letter is_digit is_name_byte
  entry_good d e k =
      good_next (leaf_good (suc d) "identificativo_flusso" _ refl k.flow)
      (good_next (leaf_good (suc d) "esercizio" _ refl (year_out e.esercizio k.esercizio))
      (good_next (leaf_good (suc d) (number_name w) _ nm.number (number_out e.number k.number))
      (good_next (leaf_good (suc d) (date_name w) _ nm.date (date_out e k))
      (good_next (leaf_good (suc d) "importo" _ refl (total_out e.total k.total))
      (good_next (leaf_good (suc d) "esito_operazione" _ refl (word_out (eqb e.code 0) e.operation))
      (then (leaf_good (suc d) "data_ora_esito_operazione" _ refl k.time) (errors_good d e.code k.code (eqb e.code 0) refl)))))))

  -- its values
  word_value : (b : Bool) (o : Operation) → operation_in (esito_operazione (bytes (word_of b o))) ≡ o
  word_value true o = rw (accepted_read o)
  word_value false o = rw (refused_read o)

  code_value : (n : ℕ) → is_outcome n ≡ true → (b : Bool) → eqb n 0 ≡ b → code_in (children_named ("lista_errori" ∷ []) (errors_out w n b)) ≡ n
  unfolding children_named text_is has_at starts_with
  code_value n k true e = sym (eqb-true n 0 e)
  code_value n k false e = rw (code_fixed n (refusal n k e))

  pub entry_value : (e : Entry) → EntryOk e → entry_in w (entry_out w e) ≡ e
  entry_value e k =
      let c = code_value e.code k.code (eqb e.code 0) refl in
      rw (
        nm.reads_flow e,
        nm.reads_year e,
        nm.reads_number e,
        nm.reads_date e,
        nm.reads_total e,
        nm.reads_word e,
        nm.reads_time e,
        nm.reads_errors e,
        c,
        word_value (eqb e.code 0) e.operation,
        esercizio_fixed e.esercizio k.esercizio,
        numero_decimal e.number k.number,
        importo_amount e.total k.total,
        data_dated e.date k.date,
      )

  -- its fields agree
  errors_ok : (n : ℕ) → is_outcome n ≡ true → (o : Operation) (b : Bool) → eqb n 0 ≡ b → agrees (esito_operazione (bytes (word_of b o))) (each_of (error_ok w) (children_named ("lista_errori" ∷ []) (errors_out w n b))) ≡ true
  unfolding children_named text_is has_at starts_with each_of
  errors_ok n k o true e = rw (accepted_read o)
  errors_ok n k o false e = rw (refused_read o) (error_ok_lem w n (refusal n k e))

  pub entry_agrees : (e : Entry) → EntryOk e → entry_ok w (entry_out w e) ≡ true
  entry_agrees e k = rw (nm.reads_word e, nm.reads_errors e) (errors_ok e.code k.code e.operation (eqb e.code 0) refl)

-- ENTRIES, one after the other
module _ {p q : Parent} {w : Words} (sp : Spelt p q w) (nm : Names w) (x : String) where
  entries_laid : {r : Row} {rs : List Row} {n : ℕ} {rest : Trees} → spot_named (table MessaggiEsito) 0 (bytes x) ≡ Some (n, (Rows p)) → (c : ℕ) (es : List Entry) → Every EntryOk es
      → ((k : ℕ) → k ≡ c + length es → Laid 2 MessaggiEsito (r ∷ rs) n k rest) → Laid 2 MessaggiEsito (r ∷ rs) n c (entries_out x w es rest)
  entries_laid z c [] k f = f c (omega arith)
  entries_laid z c (e ∷ es) (every_next a k) f = lay_node x p _ z sp.entry_fixed (entry_right sp nm e a) (entries_laid z (suc c) es k (λ j h. f j (omega arith)))

  entries_good : (d : ℕ) (es : List Entry) {rest : Trees} → name_ok (bytes x) ≡ true → Every EntryOk es → Rest (suc (suc (suc d))) rest → Rest (suc (suc (suc d))) (entries_out x w es rest)
  entries_good d [] z k r = r
  entries_good d (e ∷ es) z (every_next a k) r = inr (then (node_good (suc (suc d)) x _ z (entry_good sp nm d e a)) (entries_good d es z k r))

-- the children of the entries' own name
unfoldable nodes : String → Words → List Entry → List Tree
nodes x w [] = []
nodes x w (e ∷ es) = node x (entry_out w e) ∷ nodes x w es

named_here : (x : String) (w : Words) (es : List Entry) (rest : Trees) → children_named (x ∷ []) rest ≡ [] → children_named (x ∷ []) (entries_out x w es rest) ≡ nodes x w es
unfolding children_named nodes
named_here x w [] rest e = e
named_here x w (a ∷ es) rest e = rw (text_self (bytes x), named_here x w es rest e)

named_other : (x y : String) (w : Words) (es : List Entry) (rest : Trees) → text_is (bytes x) (bytes y) ≡ false → children_named (x ∷ []) (entries_out y w es rest) ≡ children_named (x ∷ []) rest
unfolding children_named
named_other x y w [] rest e = refl
named_other x y w (a ∷ es) rest e = rw (e, named_other x y w es rest e)

module _ {p q : Parent} {w : Words} (sp : Spelt p q w) (nm : Names w) (x : String) where
  nodes_values : (es : List Entry) → Every EntryOk es → each_of (entry_in w) (nodes x w es) ≡ es
  unfolding each_of nodes
  nodes_values [] k = refl
  nodes_values (e ∷ es) (every_next a k) = rw (entry_value sp nm e a, nodes_values es k)

  nodes_agree : (es : List Entry) → Every EntryOk es → all_ok (each_of (entry_ok w) (nodes x w es)) ≡ true
  unfolding each_of nodes all_ok
  nodes_agree [] k = refl
  nodes_agree (e ∷ es) (every_next a k) = rw (entry_agrees sp nm e a, nodes_agree es k)

nodes_length : (x : String) (w : Words) (es : List Entry) → length (nodes x w es) ≡ length es
unfolding nodes
nodes_length x w [] = refl
nodes_length x w (e ∷ es) = ap suc (nodes_length x w es)

-- THE HEADER
abbrev istat_row : Row
istat_row = optional ("codice_istat_ente" is TextOf Testo)

abbrev head_rest : List Row
head_rest = once ("codice_fiscale_ente" is TextOf Testo) ∷ once ("codice_tramite_ente" is TextOf Testo) ∷ once ("codice_tramite_BT" is TextOf Testo) ∷ once ("codice_ente_BT" is TextOf CodiceEnte) ∷ []

abbrev after_istat : Message → Trees
after_istat m =
    more (leaf "codice_fiscale_ente" m.fiscal)
    (more (leaf "codice_tramite_ente" m.tramite_ente)
    (more (leaf "codice_tramite_BT" m.tramite_bt)
    (more (leaf "codice_ente_BT" m.body) none)))

after_laid : (m : Message) → MessageOk m → {r : Row} {c : ℕ} → between r.least r.most c ≡ true → Laid 1 TestataMessaggio (r ∷ head_rest) 4 c (after_istat m)
unfolding text_is has_at starts_with
after_laid m k z =
    on z
    (lay_leaf "codice_fiscale_ente" Testo _ refl k.fiscal.form (on refl
    (lay_leaf "codice_tramite_ente" Testo _ refl k.tramite_ente.form (on refl
    (lay_leaf "codice_tramite_BT" Testo _ refl k.tramite_bt.form (on refl
    (lay_leaf "codice_ente_BT" CodiceEnte _ refl k.body.form (on refl done))))))))

istat_laid : (m : Message) → MessageOk m → (i : List ℕ) → (i ≡ []) ⊎ TextOk Testo i → Laid 1 TestataMessaggio (istat_row ∷ head_rest) 4 0 (istat_out i (after_istat m))
unfolding text_is has_at starts_with
istat_laid m k [] o = after_laid m k refl
istat_laid m k (b ∷ t) (inl z) = let y : ◌≡◌ {A = ℕ} 0 1 = cc in absurd (omega arith)
istat_laid m k (b ∷ t) (inr o) = lay_leaf "codice_istat_ente" Testo _ refl o.form (after_laid m k refl)

head_right : (m : Message) → MessageOk m → Right 2 TestataMessaggio (head_out m)
unfolding text_is has_at starts_with
head_right m k =
    laid_right 1 TestataMessaggio _
    (lay_leaf "codice_ABI_BT" CodiceAbi _ refl k.abi.form (on refl
    (lay_leaf "data_ora_creazione_flusso" DataOraZona _ refl k.created.form (on refl
    (lay_leaf "codice_ente" Testo _ refl k.ente.form (on refl
    (lay_leaf "descrizione_ente" Testo _ refl k.described.form (on refl
    (istat_laid m k m.istat k.istat)))))))))

after_good : (d : ℕ) (m : Message) → MessageOk m → GoodTrees (suc d) (after_istat m)
unfolding name_ok all is_letter is_digit is_name_byte
after_good d m k =
    good_next (leaf_good d "codice_fiscale_ente" _ refl k.fiscal)
    (good_next (leaf_good d "codice_tramite_ente" _ refl k.tramite_ente)
    (good_next (leaf_good d "codice_tramite_BT" _ refl k.tramite_bt)
    (good_last (leaf_good d "codice_ente_BT" _ refl k.body))))

istat_good : (d : ℕ) (i : List ℕ) {rest : Trees} → (i ≡ []) ⊎ TextOk Testo i → GoodTrees (suc d) rest → GoodTrees (suc d) (istat_out i rest)
unfolding name_ok all is_letter is_digit is_name_byte
istat_good d [] o k = k
istat_good d (b ∷ t) (inl z) k = let y : ◌≡◌ {A = ℕ} 0 1 = cc in absurd (omega arith)
istat_good d (b ∷ t) (inr o) k = good_next (leaf_good d "codice_istat_ente" _ refl o) k

head_good : (d : ℕ) (m : Message) → MessageOk m → GoodTrees (suc d) (head_out m)
unfolding name_ok all is_letter is_digit is_name_byte
head_good d m k =
    good_next (leaf_good d "codice_ABI_BT" _ refl k.abi)
    (good_next (leaf_good d "data_ora_creazione_flusso" _ refl k.created)
    (good_next (leaf_good d "codice_ente" _ refl k.ente)
    (good_next (leaf_good d "descrizione_ente" _ refl k.described)
    (istat_good d m.istat k.istat (after_good d m k)))))

-- THE WHOLE
most_of : (m : Message) → MessageOk m → length m.reversali + length m.mandati ≤ 64
most_of m k = (in_range 1 64 (length m.reversali + length m.mandati) k.count).1

pub message_right : (m : Message) → MessageOk m → Right 3 MessaggiEsito (root_out m)
unfolding text_is has_at starts_with
message_right m k =
    laid_right 2 MessaggiEsito _
    (lay_node "testata_messaggio" TestataMessaggio _ refl (λ b. refl) (head_right m k) (on refl
    (lay_leaf "identificativo_flusso_BT" Testo _ refl k.flow_bt.form (on refl
    (entries_laid spelt_reversale names_reversale "esito_reversali" refl 0 m.reversali k.reversali (λ j h. on (ranged 0 64 j (omega arith) (omega (arith, most_of m k)))
    (entries_laid spelt_mandato names_mandato "esito_mandati" refl 0 m.mandati k.mandati (λ i g. on (ranged 0 64 i (omega arith) (omega (arith, most_of m k))) done))))))))

pub message_good : (m : Message) → MessageOk m → Good 12 (message_tree m)
unfolding name_ok all is_letter is_digit is_name_byte
message_good m k =
    node_good 11 "messaggi_esito_applicativo" _ refl
    (good_next (node_good 10 "testata_messaggio" _ refl (head_good 9 m k))
    (then (leaf_good 10 "identificativo_flusso_BT" _ refl k.flow_bt)
    (entries_good spelt_reversale names_reversale "esito_reversali" 8 m.reversali refl k.reversali (entries_good spelt_mandato names_mandato "esito_mandati" 8 m.mandati refl k.mandati (inl refl)))))

-- ITS VALUES
istat_other : (x : String) (i : List ℕ) (rest : Trees) → text_is (bytes x) (bytes "codice_istat_ente") ≡ false → children_named (x ∷ []) (istat_out i rest) ≡ children_named (x ∷ []) rest
unfolding children_named
istat_other x [] rest e = refl
istat_other x (b ∷ t) rest e = rw e

istat_text : (i : List ℕ) (rest : Trees) → children_named ("codice_istat_ente" ∷ []) rest ≡ [] → text_named "codice_istat_ente" (istat_out i rest) ≡ i
unfolding children_named text_is has_at starts_with
istat_text [] rest e = ap first_text e
istat_text (b ∷ t) rest e = refl

record HeadTexts (m : Message) (ts : Trees) : Type 0 where
  abi : text_named "codice_ABI_BT" ts ≡ m.abi
  created : text_named "data_ora_creazione_flusso" ts ≡ m.created
  ente : text_named "codice_ente" ts ≡ m.ente
  described : text_named "descrizione_ente" ts ≡ m.described
  istat : text_named "codice_istat_ente" ts ≡ m.istat
  fiscal : text_named "codice_fiscale_ente" ts ≡ m.fiscal
  tramite_ente : text_named "codice_tramite_ente" ts ≡ m.tramite_ente
  tramite_bt : text_named "codice_tramite_BT" ts ≡ m.tramite_bt
  body : text_named "codice_ente_BT" ts ≡ m.body

head_texts : (m : Message) → HeadTexts m (head_out m)
unfolding children_named text_is has_at starts_with
head_texts m = record {
  abi = refl;
  created = refl;
  ente = refl;
  described = refl;
  istat = istat_text m.istat (after_istat m) refl;
  fiscal = ap first_text (istat_other "codice_fiscale_ente" m.istat (after_istat m) refl);
  tramite_ente = ap first_text (istat_other "codice_tramite_ente" m.istat (after_istat m) refl);
  tramite_bt = ap first_text (istat_other "codice_tramite_BT" m.istat (after_istat m) refl);
  body = ap first_text (istat_other "codice_ente_BT" m.istat (after_istat m) refl);
}

head_kids : (m : Message) → (kids_named "testata_messaggio" (root_out m) ≡ head_out m) × (text_named "identificativo_flusso_BT" (root_out m) ≡ m.flow_bt)
unfolding children_named text_is has_at starts_with
head_kids m = (refl, refl)

reversali_nodes : (m : Message) → children_named ("esito_reversali" ∷ []) (root_out m) ≡ nodes "esito_reversali" reversale_words m.reversali
unfolding children_named text_is has_at starts_with
reversali_nodes m = named_here "esito_reversali" reversale_words m.reversali (entries_out "esito_mandati" mandato_words m.mandati none) (named_other "esito_reversali" "esito_mandati" mandato_words m.mandati none refl)

mandati_nodes : (m : Message) → children_named ("esito_mandati" ∷ []) (root_out m) ≡ nodes "esito_mandati" mandato_words m.mandati
unfolding children_named text_is has_at starts_with
mandati_nodes m = named_other "esito_mandati" "esito_reversali" reversale_words m.reversali (entries_out "esito_mandati" mandato_words m.mandati none) refl ∙ named_here "esito_mandati" mandato_words m.mandati none refl

pub message_value : (m : Message) → MessageOk m → message_in (root_out m) ≡ m
message_value m k =
    let h = head_texts m in
    let c = head_kids m in
    let r = ap (each_of (entry_in reversale_words)) (reversali_nodes m) ∙ nodes_values spelt_reversale names_reversale "esito_reversali" m.reversali k.reversali in
    let n = ap (each_of (entry_in mandato_words)) (mandati_nodes m) ∙ nodes_values spelt_mandato names_mandato "esito_mandati" m.mandati k.mandati in
    rw (r, n, c.0, c.1, h.abi, h.created, h.ente, h.described, h.istat, h.fiscal, h.tramite_ente, h.tramite_bt, h.body)

pub message_agrees : (m : Message) → MessageOk m → (all_ok (each_of (entry_ok reversale_words) (children_named ("esito_reversali" ∷ []) (root_out m))) ≡ true) × (all_ok (each_of (entry_ok mandato_words) (children_named ("esito_mandati" ∷ []) (root_out m))) ≡ true)
message_agrees m k = (
  rw (reversali_nodes m) (nodes_agree spelt_reversale names_reversale "esito_reversali" m.reversali k.reversali),
  rw (mandati_nodes m) (nodes_agree spelt_mandato names_mandato "esito_mandati" m.mandati k.mandati),
)

pub message_entries : (m : Message) → MessageOk m → count_ok (entries_in (root_out m)) ≡ true
message_entries m k =
    let a = ap length (reversali_nodes m) ∙ nodes_length "esito_reversali" reversale_words m.reversali in
    let b = ap length (mandati_nodes m) ∙ nodes_length "esito_mandati" mandato_words m.mandati in
    rw (a, b) k.count
