-- What may be written is short enough to be read.
use mathlib.Core.Path.{◌≡◌, refl, sym, ap, ◌∙◌}
use mathlib.Core.Logic.{◌⊎◌, inl, inr}
use mathlib.Core.List.{List, [], ◌∷◌, ◌++◌}
use mathlib.Core.Bool.{Bool, true, false, cond, ◌&&◌, ◌||◌}
use Prim.Native.Nat.{ℕ, zero, suc, ◌+◌, ◌*◌, ◌-◌, ◌≤◌, ◌<◌}
use Prim.Native.String.{String}
use native.Mathlib.Omega.{arith}
use lib.ListN.{length, length-append}
use lib.Dec.{eqb, leb}
use borrow.Author.Tests.{eqb-true}
use Rattle.scan.specs.Bytes.{bytes, byte_at, part, between, is_digit, is_alnum, all, text_is}
use Rattle.scan.proofs.Laws.{both, in_range}
use Rattle.ranges.specs.Ranges.{is_identifying}
use Rattle.codes.specs.declared.Operation.{Operation}
use Rattle.codes.specs.declared.Operation.TheVariants.{Inserimento, Variazione, Annullo, Sostituzione}
use Rattle.codes.specs.Codes.{codice_abi, identificativo, codice_ente, length_in}
use Rattle.codes.proofs.Laws.{abi_length, ente_length}
use Rattle.digits.specs.Digits.{digits}
use Rattle.dates.specs.Dates.{data_ora_zona_written, data_ora_zona_within, data_ora_zona}
use Rattle.dates.proofs.Laws.{zona_both, ora_zona_long}
use Rattle.fields.specs.declared.Form.TheVariants.{CodiceAbi, Identificativo, CodiceEnte, DataOraZona, Testo}
use Rattle.fields.specs.declared.Judged.TheVariants as judged
use Rattle.fields.specs.Fields.{judged, field_stands}
use Rattle.grammar.specs.Grammar.{start_tag, end_tag}
use Rattle.grammar.proofs.Parts.{part_length}
use Rattle.tree.specs.Tree.{Tree, Trees, none, more}
use Rattle.tree.specs.Orders.{Words, mandato_words, reversale_words}
use Rattle.tree.specs.Written.{bytes_of, bytes_held, bytes_all, leaf, node}
use Rattle.tree.proofs.Names.{text_same}
use Rattle.pen.specs.Decimal.{fixed, decimal, amount, dated}
use Rattle.message.specs.Message.{Entry, Message, word_of, element_name, TextOk, EntryOk, Every, every_none, every_next, MessageOk, number_name, date_name}
use Rattle.message.specs.Written.{error_out, errors_out, entry_out, entries_out, istat_out, head_out, root_out, message_tree, message_bytes}
use Rattle.message.proofs.Decimal.{decimal_short, amount_short, dated_length}

-- THE LENGTH of what is written
around : (x t : List ℕ) → length (start_tag x ++ t ++ end_tag x) ≡ length x + length x + 5 + length t
around x t =
    let a = length-append (start_tag x ++ t) (end_tag x) in
    let b = length-append (start_tag x) t in
    let c = length-append (bytes "<" ++ x) (bytes ">") in
    let d = length-append (bytes "</" ++ x) (bytes ">") in
    omega arith

leaf_size : (x : String) (t : List ℕ) (ts : Trees) → length (bytes_all (more (leaf x t) ts)) ≡ length (bytes x) + length (bytes x) + 5 + length t + length (bytes_all ts)
unfolding bytes_all bytes_of bytes_held
leaf_size x t ts = length-append (start_tag (bytes x) ++ t ++ end_tag (bytes x)) (bytes_all ts) ∙ ap (λ n. n + length (bytes_all ts)) (around (bytes x) t)

node_size : (x : String) (ks ts : Trees) → length (bytes_all (more (node x ks) ts)) ≡ length (bytes x) + length (bytes x) + 5 + length (bytes_all ks) + length (bytes_all ts)
unfolding bytes_all bytes_of bytes_held
node_size x ks ts = length-append (start_tag (bytes x) ++ bytes_all ks ++ end_tag (bytes x)) (bytes_all ts) ∙ ap (λ n. n + length (bytes_all ts)) (around (bytes x) (bytes_all ks))

none_size : length (bytes_all none) ≡ 0
unfolding bytes_all
none_size = refl

-- THE LENGTH OF A TEXT of each form
judged_true : (b : Bool) → judged b ≡ judged.Stands → b ≡ true
judged_true true e = refl
judged_true false e = let z : ◌≡◌ {A = ℕ} 0 1 = cc in absurd (omega arith)

text_short : (t : List ℕ) → TextOk Testo t → length t ≤ 140
unfolding field_stands length_in
text_short t k = (in_range 1 140 (length t) (judged_true (length_in 1 140 t) k.form)).1

flow_short : (t : List ℕ) → TextOk Identificativo t → length t ≤ 35
unfolding field_stands identificativo
flow_short t k = (in_range 1 35 (length t) (both (between 1 35 (length t)) (all is_identifying t) (judged_true (identificativo t) k.form)).0).1

abi_short : (t : List ℕ) → TextOk CodiceAbi t → length t ≡ 5
unfolding field_stands
abi_short t k = abi_length t (judged_true (codice_abi t) k.form)

body_short : (t : List ℕ) → TextOk CodiceEnte t → length t ≤ 16
unfolding field_stands
body_short t k = (ente_length t (judged_true (codice_ente t) k.form)).1

time_short : (t : List ℕ) → TextOk DataOraZona t → length t ≤ 25
unfolding field_stands
time_short t k = (ora_zona_long t (both (data_ora_zona_written t) (data_ora_zona_within t) (sym (zona_both t) ∙ judged_true (data_ora_zona t) k.form)).0).1

word_short : (b : Bool) (o : Operation) → length (bytes (word_of b o)) ≤ 14
word_short true Inserimento = omega arith
word_short true Variazione = omega arith
word_short true Annullo = omega arith
word_short true Sostituzione = omega arith
word_short false Inserimento = omega arith
word_short false Variazione = omega arith
word_short false Annullo = omega arith
word_short false Sostituzione = omega arith

-- AN ENTRY
module _ (w : Words) (x : String) (a : (n : ℕ) → length (bytes x) * 2 + length (bytes (number_name w)) * 2 + length (bytes (date_name w)) * 2 + length (bytes (element_name w n)) ≤ 110) where
  errors_short : (n : ℕ) (c : Bool) → length (bytes_all (errors_out w n c)) ≤ 112 + length (bytes (element_name w n))
  errors_short n true = let z = none_size in omega arith
  errors_short n false =
      let x₀ = node_size "lista_errori" (error_out w n) none in
      let x₁ = leaf_size "codice_errore" (fixed 2 n) (more (leaf "descrizione" (fixed 2 n)) (more (leaf "elemento" (bytes (element_name w n))) none)) in
      let x₂ = leaf_size "descrizione" (fixed 2 n) (more (leaf "elemento" (bytes (element_name w n))) none) in
      let x₃ = leaf_size "elemento" (bytes (element_name w n)) none in
      let z = none_size in
      omega arith

  entry_short : (e : Entry) → EntryOk e → length (bytes x) * 2 + 5 + length (bytes_all (entry_out w e)) ≤ 525
  entry_short e k =
      let t₈ = errors_out w e.code (eqb e.code 0) in
      let t₇ = more (leaf "data_ora_esito_operazione" e.time) t₈ in
      let t₆ = more (leaf "esito_operazione" (bytes (word_of (eqb e.code 0) e.operation))) t₇ in
      let t₅ = more (leaf "importo" (amount e.total)) t₆ in
      let t₄ = more (leaf (date_name w) (dated e.date)) t₅ in
      let t₃ = more (leaf (number_name w) (decimal e.number)) t₄ in
      let t₂ = more (leaf "esercizio" (fixed 4 e.esercizio)) t₃ in
      let x₁ = leaf_size "identificativo_flusso" e.flow t₂ in
      let x₂ = leaf_size "esercizio" (fixed 4 e.esercizio) t₃ in
      let x₃ = leaf_size (number_name w) (decimal e.number) t₄ in
      let x₄ = leaf_size (date_name w) (dated e.date) t₅ in
      let x₅ = leaf_size "importo" (amount e.total) t₆ in
      let x₆ = leaf_size "esito_operazione" (bytes (word_of (eqb e.code 0) e.operation)) t₇ in
      let x₇ = leaf_size "data_ora_esito_operazione" e.time t₈ in
      let x₈ = errors_short e.code (eqb e.code 0) in
      let h = a e.code in
      let y₁ = flow_short e.flow k.flow in
      let y₃ = decimal_short e.number k.number in
      let y₄ = dated_length e.date in
      let y₅ = amount_short e.total k.total in
      let y₆ = word_short (eqb e.code 0) e.operation in
      let y₇ = time_short e.time k.time in
      omega arith

  entries_short : (es : List Entry) (rest : Trees) → Every EntryOk es → length (bytes_all (entries_out x w es rest)) ≤ length es * 525 + length (bytes_all rest)
  entries_short [] rest k = omega arith
  entries_short (e ∷ es) rest (every_next c k) =
      let a = node_size x (entry_out w e) (entries_out x w es rest) in
      let b = entry_short e c in
      let d = entries_short es rest k in
      omega arith

-- THE HEADER
istat_short : (i : List ℕ) (rest : Trees) → (i ≡ []) ⊎ TextOk Testo i → length (bytes_all (istat_out i rest)) ≤ 179 + length (bytes_all rest)
istat_short [] rest o = omega arith
istat_short (b ∷ t) rest (inl z) = let y : ◌≡◌ {A = ℕ} 0 1 = cc in absurd (omega arith)
istat_short (b ∷ t) rest (inr o) = let x = leaf_size "codice_istat_ente" (b ∷ t) rest in let y = text_short (b ∷ t) o in omega arith

head_short : (m : Message) → MessageOk m → length (bytes_all (head_out m)) ≤ 1233
head_short m k =
    let t₉ = more (leaf "codice_ente_BT" m.body) none in
    let t₈ = more (leaf "codice_tramite_BT" m.tramite_bt) t₉ in
    let t₇ = more (leaf "codice_tramite_ente" m.tramite_ente) t₈ in
    let t₆ = more (leaf "codice_fiscale_ente" m.fiscal) t₇ in
    let t₅ = istat_out m.istat t₆ in
    let t₄ = more (leaf "descrizione_ente" m.described) t₅ in
    let t₃ = more (leaf "codice_ente" m.ente) t₄ in
    let t₂ = more (leaf "data_ora_creazione_flusso" m.created) t₃ in
    let x₁ = leaf_size "codice_ABI_BT" m.abi t₂ in
    let x₂ = leaf_size "data_ora_creazione_flusso" m.created t₃ in
    let x₃ = leaf_size "codice_ente" m.ente t₄ in
    let x₄ = leaf_size "descrizione_ente" m.described t₅ in
    let x₅ = istat_short m.istat t₆ k.istat in
    let x₆ = leaf_size "codice_fiscale_ente" m.fiscal t₇ in
    let x₇ = leaf_size "codice_tramite_ente" m.tramite_ente t₈ in
    let x₈ = leaf_size "codice_tramite_BT" m.tramite_bt t₉ in
    let x₉ = leaf_size "codice_ente_BT" m.body none in
    let y₁ = abi_short m.abi k.abi in
    let y₂ = time_short m.created k.created in
    let y₃ = text_short m.ente k.ente in
    let y₄ = text_short m.described k.described in
    let y₆ = text_short m.fiscal k.fiscal in
    let y₇ = text_short m.tramite_ente k.tramite_ente in
    let y₈ = text_short m.tramite_bt k.tramite_bt in
    let y₉ = body_short m.body k.body in
    let z = none_size in
    omega arith

-- THE NAMES of the two kinds
one_of : (l : ℕ) (x y z u : String) → length (bytes x) ≤ l → length (bytes y) ≤ l → length (bytes z) ≤ l → length (bytes u) ≤ l → (a b c : Bool) → length (bytes (cond a x (cond b y (cond c z u)))) ≤ l
one_of l x y z u f g h i true b c = f
one_of l x y z u f g h i false true c = g
one_of l x y z u f g h i false false true = h
one_of l x y z u f g h i false false false = i

names_reversali : (n : ℕ) → length (bytes "esito_reversali") * 2 + length (bytes (number_name reversale_words)) * 2 + length (bytes (date_name reversale_words)) * 2 + length (bytes (element_name reversale_words n)) ≤ 110
unfolding element_name
names_reversali n = let l = one_of 20 "tipo_operazione" "progressivo_versante" "importo_reversale" "numero_reversale" (omega arith) (omega arith) (omega arith) (omega arith) (eqb n 11) (eqb n 12) (eqb n 13 || eqb n 19) in omega arith

names_mandati : (n : ℕ) → length (bytes "esito_mandati") * 2 + length (bytes (number_name mandato_words)) * 2 + length (bytes (date_name mandato_words)) * 2 + length (bytes (element_name mandato_words n)) ≤ 110
unfolding element_name
names_mandati n = let l = one_of 24 "tipo_operazione" "progressivo_beneficiario" "importo_mandato" "numero_mandato" (omega arith) (omega arith) (omega arith) (omega arith) (eqb n 11) (eqb n 12) (eqb n 13 || eqb n 19) in omega arith

-- THE WHOLE
whole_size : (t : Tree) → length (bytes_all (more t none)) ≡ length (bytes_of t)
unfolding bytes_all
whole_size t = length-append (bytes_of t) [] ∙ (omega arith)

pub message_short : (m : Message) → MessageOk m → length (message_bytes m) ≤ 35122
message_short m k =
    let r = entries_out "esito_reversali" reversale_words m.reversali (entries_out "esito_mandati" mandato_words m.mandati none) in
    let a = whole_size (message_tree m) in
    let b = node_size "messaggi_esito_applicativo" (root_out m) none in
    let c = node_size "testata_messaggio" (head_out m) (more (leaf "identificativo_flusso_BT" m.flow_bt) r) in
    let d = head_short m k in
    let e = leaf_size "identificativo_flusso_BT" m.flow_bt r in
    let f = text_short m.flow_bt k.flow_bt in
    let g = entries_short reversale_words "esito_reversali" names_reversali m.reversali (entries_out "esito_mandati" mandato_words m.mandati none) k.reversali in
    let h = entries_short mandato_words "esito_mandati" names_mandati m.mandati none k.mandati in
    let z = none_size in
    let l = (in_range 1 64 (length m.reversali + length m.mandati) k.count).1 in
    omega arith
