-- THE WHOLE: what is written from the values of a reading is the message that was read.
use mathlib.Core.Path.{◌≡◌, refl, ap, subst, ◌∙◌}
use mathlib.Core.List.{List, [], ◌∷◌, ◌++◌, append_assoc}
use mathlib.Core.Bool.{Bool, true, false, cond}
use Prim.Native.Nat.{ℕ, zero, suc, ◌+◌, ◌*◌, ◌%◌, ◌≤◌}
use Prim.Native.String.{String}
use native.Mathlib.Omega.{arith}
use lib.ListN.{length, drop, length-append}
use Rattle.scan.proofs.Laws.{in_range}
use Rattle.words.specs.Numbers.{be2, be4, bytes4}
use Rattle.words.proofs.Laws.{be4_bytes}
use Rattle.calendar.proofs.Laws.{date_ranges}
use Rattle.standing.specs.Readings.{Bad, Place, Nowhere}
use Rattle.tree.specs.Tree.{Tree, Trees, none, more, held_of, kids_in}
use Rattle.tree.specs.Orders.{children_named, first_text, text_named, Words, mandato_words, reversale_words}
use Rattle.tree.specs.Written.{leaf, node}
use Rattle.message.specs.Message.{Entry, Message, EntryOk, Every, every_next, entry_count, MessageOk}
use Rattle.message.specs.Written.{◌and◌, head_out, entries_out, message_tree}
use Rattle.message.specs.Read.{first_kids, kids_named, entry_in, each_of, entries_named, message_in, first_broken, read, refused, by_place, is_message, reading_on}
use Rattle.message.proofs.Blind.{each_length}
use Rattle.message_pen.specs.Parts.{words_for, entry_name}
use Rattle.message_read.specs.Values.{shown_named, testata_bytes, entry_shown, entries_shown, values_in}
use Rattle.message_rewrite.specs.Again.{text_shown, PairAt, entries_again, EntriesAt, no_entries, an_entry, message_again, HeadAt, AllAt}
use Rattle.message_rewrite.proofs.Places.{TextAt, AllIn, all_none, DeepAt, AllOf, none_of, one_of, all_named}
use Rattle.message_rewrite.proofs.Bridge.{Pair, pair_of, shows, shows_at, Fits, entry_rest_lem, entry_at, entry_same}

-- an entry that may be written fits its bytes
fits_of : (e : Entry) → EntryOk e → Fits e
fits_of e o =
    let y = in_range 2000 2099 e.esercizio o.esercizio in
    let n = in_range 1 9999999 e.number o.number in
    let d = date_ranges e.date o.date in
    let t = o.total in
    let d₁ = d.year in
    let d₂ = d.month in
    let d₃ = d.day in
    record { esercizio = omega arith; number = omega arith; year = omega arith; month = omega arith; day = omega arith; total = omega arith }

-- THE ENTRIES OF A KIND, and what follows them
abbrev KidsAt : List ℕ → Tree → Type 0
KidsAt s t = AllIn (TextAt s) (kids_in (held_of t))

module _ (s v : List ℕ) (short : length s ≤ 65536) (w : Words) (k : words_for w.kind ≡ w) where
  abbrev Goes : ℕ → ℕ → Trees → Type 0
  Goes at n ts = EntriesAt s v at n × (entries_again s v at n ≡ ts)

  entries_same : (ts : List Tree) (at to : ℕ) (rest : List ℕ) (n c : ℕ) (us : Trees) → length ts + n ≡ c → AllOf (KidsAt s) ts → Every EntryOk (each_of (entry_in w) ts) → drop at v ≡ entries_shown w ts ++ rest → at + 48 * length ts ≡ to
      → (drop to v ≡ rest → EntriesAt s v to n × (entries_again s v to n ≡ us))
      → EntriesAt s v at c × (entries_again s v at c ≡ entries_out (entry_name w.kind) w (each_of (entry_in w) ts) us)
  unfolding entries_shown each_of entries_again
  entries_same [] at to rest n c us h a o d z f =
      let y : to ≡ at = omega arith in
      let x : n ≡ c = omega arith in
      subst (λ (j : ℕ). Goes at j us) x (subst (λ (x : ℕ). drop x v ≡ rest → Goes x n us) y f d)
  entries_same (t ∷ ts) at to rest n zero us h a o d z f = absurd (omega arith)
  entries_same (t ∷ ts) at to rest n (suc c) us h (one_of p a) (every_next o os) d z f =
      let kids = kids_in (held_of t) in
      let e = entry_in w kids in
      let l₁ = children_named ("identificativo_flusso" ∷ []) kids in
      let l₂ = children_named ("data_ora_esito_operazione" ∷ []) kids in
      let p₁ = pair_of s l₁ (all_named "identificativo_flusso" p) in
      let p₂ = pair_of s l₂ (all_named "data_ora_esito_operazione" p) in
      let x = entries_shown w ts ++ rest in
      let b : drop at v ≡ entry_shown w kids ++ (entries_shown w ts ++ rest) = d ∙ append_assoc (entry_shown w kids) (entries_shown w ts) rest in
      let r = entries_same ts (at + 48) to rest n c us (omega arith) a os (entry_rest_lem s v at short w e l₁ l₂ x p₁ p₂ b) (omega arith) f in
      let g = entry_same s v at short w e l₁ l₂ x p₁ p₂ b (fits_of e o) refl refl k in
      (an_entry (entry_at s v at short w e l₁ l₂ x p₁ p₂ b) r.0, λ i. more (g i) (r.1 i))

-- THE VALUES OF A READING are its tree's
pub read_values : (t : Tree) (m : Message) → reading_on t ≡ read m → message_in (kids_in (held_of t)) ≡ m
unfolding reading_on
read_values t m e = go (is_message t) (first_broken t) e
  where
    no : {A : Type 0} {c p w : ℕ} → refused c p w ≡ read m → A
    no h = let z : ◌≡◌ {A = ℕ} 0 1 = cc in absurd (omega arith)

    go : (b : Bool) (f : Bad) → cond b (by_place (message_in (kids_in (held_of t))) f) (refused 4 0 0) ≡ read m → message_in (kids_in (held_of t)) ≡ m
    go true Nowhere h = (cc)
    go true (Place p c) h = no h
    go false f h = no h

-- THE WHOLE, of the root's children
kids_of_first : {s : List ℕ} {l : List Tree} → AllOf (DeepAt s) l → AllIn (TextAt s) (first_kids l)
kids_of_first none_of = all_none
kids_of_first (one_of p a) = p.1

each_kids : {s : List ℕ} {l : List Tree} → AllOf (DeepAt s) l → AllOf (KidsAt s) l
each_kids none_of = none_of
each_kids (one_of p a) = one_of p.1 (each_kids a)

module _ (s : List ℕ) (short : length s ≤ 65536) (kids : Trees) (deep : AllIn (DeepAt s) kids) where
  abbrev head : Trees
  head = kids_named "testata_messaggio" kids

  in_head : AllIn (TextAt s) (kids_named "testata_messaggio" kids)
  in_head = kids_of_first (all_named "testata_messaggio" deep)

  pair : (x : String) → Pair s (children_named (x ∷ []) (kids_named "testata_messaggio" kids))
  pair x = pair_of s (children_named (x ∷ []) head) (all_named x in_head)

  texts : {l : List Tree} → AllOf (DeepAt s) l → AllOf (TextAt s) l
  texts none_of = none_of
  texts (one_of p a) = one_of p.0 (texts a)

  last : Pair s (children_named ("identificativo_flusso_BT" ∷ []) kids)
  last = pair_of s (children_named ("identificativo_flusso_BT" ∷ []) kids) (texts (all_named "identificativo_flusso_BT" deep))

  abbrev two : {l : List Tree} → Pair s l → List ℕ
  two p = bytes4 p.place ++ bytes4 p.size

  -- the ten pairs
  abbrev ten : List ℕ
  ten =
      (two (pair "codice_ABI_BT") ++ (two (pair "data_ora_creazione_flusso") ++ (two (pair "codice_ente") ++ (two (pair "descrizione_ente") ++ (two (pair "codice_istat_ente")
      ++ (two (pair "codice_fiscale_ente") ++ (two (pair "codice_tramite_ente") ++ (two (pair "codice_tramite_BT") ++ two (pair "codice_ente_BT")))))))))
      ++ two last

  ten_is : testata_bytes (kids_named "testata_messaggio" kids) ++ shown_named "identificativo_flusso_BT" kids ≡ ten
  ten_is = λ i.
      ((pair "codice_ABI_BT").bytes i ++ ((pair "data_ora_creazione_flusso").bytes i ++ ((pair "codice_ente").bytes i ++ ((pair "descrizione_ente").bytes i ++ ((pair "codice_istat_ente").bytes i
      ++ ((pair "codice_fiscale_ente").bytes i ++ ((pair "codice_tramite_ente").bytes i ++ ((pair "codice_tramite_BT").bytes i ++ (pair "codice_ente_BT").bytes i))))))))
      ++ last.bytes i

  module _ (v rest : List ℕ) (e : v ≡ values_in kids ++ rest) where
    abbrev R : List Tree
    R = entries_named "esito_reversali" kids

    abbrev M : List Tree
    M = entries_named "esito_mandati" kids

    abbrev after : List ℕ
    after = entries_shown reversale_words R ++ (entries_shown mandato_words M ++ rest)

    laid : v ≡ ten ++ after
    laid =
        let x = testata_bytes (kids_named "testata_messaggio" kids) ++ shown_named "identificativo_flusso_BT" kids in
        let r = entries_shown reversale_words R in
        let m = entries_shown mandato_words M in
        e ∙ append_assoc x (r ++ m) rest ∙ ap (λ (y : List ℕ). x ++ y) (append_assoc r m rest) ∙ ap (λ (y : List ℕ). y ++ after) ten_is

    long : 80 ≤ length v
    long = let a : length v ≡ length ten + length after = ap length laid ∙ length-append ten after in omega arith

    entries_from : drop 80 v ≡ after
    entries_from = ap (drop 80) laid

    -- a pair of the ten, where it stands
    module _ (at : ℕ) {l : List Tree} (p : Pair s l) (a : be4 (ten ++ after) at ≡ p.place % 4294967296) (b : be4 (ten ++ after) (at + 4) ≡ p.size % 4294967296) where
      here : be4 v at ≡ p.place % 4294967296
      here = ap (λ (x : List ℕ). be4 x at) laid ∙ a

      next : be4 v (at + 4) ≡ p.size % 4294967296
      next = ap (λ (x : List ℕ). be4 x (at + 4)) laid ∙ b

      text_here : text_shown s v at ≡ first_text l
      text_here = shows s v at short p here next

      pair_here : at + 8 ≤ 80 → PairAt s v at
      pair_here h = let l = long in shows_at s v at short p here next (omega arith)

    pub record Ten : Type 0 where
      abi : (text_shown s v 0 ≡ text_named "codice_ABI_BT" head) × PairAt s v 0
      created : (text_shown s v 8 ≡ text_named "data_ora_creazione_flusso" head) × PairAt s v 8
      ente : (text_shown s v 16 ≡ text_named "codice_ente" head) × PairAt s v 16
      described : (text_shown s v 24 ≡ text_named "descrizione_ente" head) × PairAt s v 24
      istat : (text_shown s v 32 ≡ text_named "codice_istat_ente" head) × PairAt s v 32
      fiscal : (text_shown s v 40 ≡ text_named "codice_fiscale_ente" head) × PairAt s v 40
      tramite_ente : (text_shown s v 48 ≡ text_named "codice_tramite_ente" head) × PairAt s v 48
      tramite_bt : (text_shown s v 56 ≡ text_named "codice_tramite_BT" head) × PairAt s v 56
      body : (text_shown s v 64 ≡ text_named "codice_ente_BT" head) × PairAt s v 64
      flow_bt : (text_shown s v 72 ≡ text_named "identificativo_flusso_BT" kids) × PairAt s v 72

    at_pair : (at : ℕ) {l : List Tree} (p : Pair s l) → be4 (ten ++ after) at ≡ p.place % 4294967296 → be4 (ten ++ after) (at + 4) ≡ p.size % 4294967296 → at + 8 ≤ 80 → (text_shown s v at ≡ first_text l) × PairAt s v at
    at_pair at p a b h = (text_here at p a b, pair_here at p a b h)

    all_ten : Ten
    unfolding be4 be2
    all_ten = record {
      abi = at_pair 0 (pair "codice_ABI_BT") (be4_bytes (pair "codice_ABI_BT").place) (be4_bytes (pair "codice_ABI_BT").size) (omega arith);
      created = at_pair 8 (pair "data_ora_creazione_flusso") (be4_bytes (pair "data_ora_creazione_flusso").place) (be4_bytes (pair "data_ora_creazione_flusso").size) (omega arith);
      ente = at_pair 16 (pair "codice_ente") (be4_bytes (pair "codice_ente").place) (be4_bytes (pair "codice_ente").size) (omega arith);
      described = at_pair 24 (pair "descrizione_ente") (be4_bytes (pair "descrizione_ente").place) (be4_bytes (pair "descrizione_ente").size) (omega arith);
      istat = at_pair 32 (pair "codice_istat_ente") (be4_bytes (pair "codice_istat_ente").place) (be4_bytes (pair "codice_istat_ente").size) (omega arith);
      fiscal = at_pair 40 (pair "codice_fiscale_ente") (be4_bytes (pair "codice_fiscale_ente").place) (be4_bytes (pair "codice_fiscale_ente").size) (omega arith);
      tramite_ente = at_pair 48 (pair "codice_tramite_ente") (be4_bytes (pair "codice_tramite_ente").place) (be4_bytes (pair "codice_tramite_ente").size) (omega arith);
      tramite_bt = at_pair 56 (pair "codice_tramite_BT") (be4_bytes (pair "codice_tramite_BT").place) (be4_bytes (pair "codice_tramite_BT").size) (omega arith);
      body = at_pair 64 (pair "codice_ente_BT") (be4_bytes (pair "codice_ente_BT").place) (be4_bytes (pair "codice_ente_BT").size) (omega arith);
      flow_bt = at_pair 72 last (be4_bytes last.place) (be4_bytes last.size) (omega arith);
    }

    all_at : HeadAt s v
    all_at = record {
      abi = all_ten.abi.1;
      created = all_ten.created.1;
      ente = all_ten.ente.1;
      described = all_ten.described.1;
      istat = all_ten.istat.1;
      fiscal = all_ten.fiscal.1;
      tramite_ente = all_ten.tramite_ente.1;
      tramite_bt = all_ten.tramite_bt.1;
      body = all_ten.body.1;
      flow_bt = all_ten.flow_bt.1;
    }

    module _ (ok : MessageOk (message_in kids)) where
      abbrev count : ℕ
      count = entry_count (message_in kids)

      all_entries : EntriesAt s v 80 count × (entries_again s v 80 count ≡ entries_out "esito_reversali" reversale_words (message_in kids).reversali (entries_out "esito_mandati" mandato_words (message_in kids).mandati none))
      unfolding entries_again
      all_entries =
          let a = each_length (entry_in reversale_words) R in
          let b = each_length (entry_in mandato_words) M in
          entries_same s v short reversale_words refl R 80 (80 + 48 * length R) (entries_shown mandato_words M ++ rest) (length M) count (entries_out "esito_mandati" mandato_words (message_in kids).mandati none) (omega arith) (each_kids (all_named "esito_reversali" deep)) ok.reversali entries_from refl
          (λ d. entries_same s v short mandato_words refl M (80 + 48 * length R) (80 + 48 * length R + 48 * length M) rest 0 (length M) none (omega arith) (each_kids (all_named "esito_mandati" deep)) ok.mandati d refl (λ x. (no_entries, refl)))

      pub whole_at : AllAt s v (entry_count (message_in kids))
      whole_at = record { head = all_at; entries = all_entries.0 }

      pub whole_same : message_again s v (entry_count (message_in kids)) ≡ message_tree (message_in kids)
      whole_same =
          let n = all_entries.1 in
          let h = all_ten in
          λ i. node "messaggi_esito_applicativo" (node "testata_messaggio" (head_out (record { abi = h.abi.0 i; created = h.created.0 i; ente = h.ente.0 i; described = h.described.0 i; istat = h.istat.0 i; fiscal = h.fiscal.0 i; tramite_ente = h.tramite_ente.0 i; tramite_bt = h.tramite_bt.0 i; body = h.body.0 i; flow_bt = []; reversali = []; mandati = [] })) and leaf "identificativo_flusso_BT" (h.flow_bt.0 i) and n i)
