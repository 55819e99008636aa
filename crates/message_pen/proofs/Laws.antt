-- Elements written one after the other: what each needs of the room, and what they are together.
use mathlib.Core.Path.{◌≡◌, refl, sym, ap, subst, ◌∙◌}
use mathlib.Core.Logic.{◌⊎◌, inl, inr}
use mathlib.Core.List.{List, [], ◌∷◌, ◌++◌, append_assoc}
use mathlib.Core.Bool.{Bool, true, false, cond}
use Prim.Native.Nat.{ℕ}
use Prim.Native.String.{String}
use native.Mathlib.Omega.{arith}
use lib.ListN.{length}
use lib.Dec.{eqb}
use borrow.Author.Tests.{eq-eqb, ne_eqb}
use Rattle.scan.specs.Bytes.{bytes}
use Rattle.codes.specs.declared.Operation.{Operation}
use Rattle.codes.specs.declared.Operation.TheVariants.{Inserimento, Variazione, Annullo, Sostituzione}
use Rattle.grammar.specs.Grammar.{start_tag, end_tag}
use Rattle.tree.specs.Tree.{Tree, tree, Held, says, holds, Trees, none, more}
use Rattle.tree.specs.Orders.{Words, mandato_words, reversale_words}
use Rattle.tree.specs.Written.{leaf, bytes_of, bytes_held, bytes_all}
use Rattle.pen.specs.Pen.{Wrote, Room, tagged}
use Rattle.pen.proofs.Laws.{wrote_nothing, wrote_then, room_first, room_then, room_open, room_in, room_close, wrote_tagged}
use Rattle.message.specs.Message.{accepted_as, refused_as, number_name, total_name, progressivo_name, element_name}
use Rattle.message.specs.Written.{istat_out}
use Rattle.message_pen.specs.declared.Given.{Given}
use Rattle.message_pen.specs.Parts.{RoomFor, WroteAll, RoomOf, WroteTree, join, by_kind, words_for, entry_name, text_at, head_first, head_last, head_in}

-- an element of text, or of elements, and the room of what is in it
leaf_is : (p : ℕ) (n t : List ℕ) → bytes_of (tree p n (says t)) ≡ tagged n t
unfolding bytes_of bytes_held tagged
leaf_is p n t = refl

node_is : (p : ℕ) (n : List ℕ) (ts : Trees) → bytes_of (tree p n (holds ts)) ≡ tagged n (bytes_all ts)
unfolding bytes_of bytes_held tagged
node_is p n ts = refl

more_is : (t : Tree) (ts : Trees) → bytes_all (more t ts) ≡ bytes_of t ++ bytes_all ts
unfolding bytes_all
more_is t ts = refl

-- nothing
pub wrote_none : (s : List ℕ) (at : ℕ) → WroteAll s s at none at
unfolding bytes_all
wrote_none s at = record { wrote = wrote_nothing s at }

-- an element of text, then the others
module _ {p at : ℕ} {n t : List ℕ} {ts : Trees} (h : RoomFor at (more (tree p n (says t)) ts)) where
  pub leaf_room : Room at (tagged n t)
  leaf_room = room_first (bytes_all ts) (rw (more_is, leaf_is) at h.room)

  pub leaf_rest : {s u : List ℕ} {q : ℕ} → Wrote s u at (tagged n t) q → RoomFor q ts
  leaf_rest x = record { room = room_then x (rw (more_is, leaf_is) at h.room) }

pub wrote_leaf : {s u v : List ℕ} {p at q r : ℕ} {n t : List ℕ} {ts : Trees} → Wrote s u at (tagged n t) q → WroteAll u v q ts r → WroteAll s v at (more (tree p n (says t)) ts) r
wrote_leaf x y = record { wrote = rw (more_is, leaf_is) (wrote_then x y.wrote) }

-- an element of text alone
pub wrote_alone : {s u : List ℕ} {p at q : ℕ} {n t : List ℕ} → Wrote s u at (tagged n t) q → WroteAll s u at (more (tree p n (says t)) none) q
wrote_alone {u = u} {q = q} x = wrote_leaf x (wrote_none u q)

-- its text as it is shown
module _ (n : List ℕ) {x y : List ℕ} (e : x ≡ y) where
  pub leaf_as : {at : ℕ} → Room at (tagged n y) → Room at (tagged n x)
  leaf_as {at} h = subst (λ (t : List ℕ). Room at (tagged n t)) (sym e) h

  pub leaf_wrote : {m u : List ℕ} {at r : ℕ} → Wrote m u at (tagged n x) r → Wrote m u at (tagged n y) r
  leaf_wrote {m} {u} {at} {r} w = subst (λ (t : List ℕ). Wrote m u at (tagged n t) r) e w

-- an element of elements
module _ {p at : ℕ} {n : List ℕ} {ts : Trees} (h : RoomOf at (tree p n (holds ts))) where
  pub node_open : Room at (start_tag n)
  node_open = room_open n (bytes_all ts) (rw node_is at h.room)

  pub node_in : {s u : List ℕ} {q : ℕ} → Wrote s u at (start_tag n) q → RoomFor q ts
  node_in x = record { room = room_in n (bytes_all ts) (rw node_is at h.room) x }

  pub node_close : {s u v : List ℕ} {q r : ℕ} → Wrote s u at (start_tag n) q → WroteAll u v q ts r → Room r (end_tag n)
  node_close x y = room_close n (bytes_all ts) (rw node_is at h.room) x y.wrote

pub wrote_node : {s u v w : List ℕ} {p at q r e : ℕ} {n : List ℕ} {ts : Trees} → Wrote s u at (start_tag n) q → WroteAll u v q ts r → Wrote v w r (end_tag n) e → WroteTree s w at (tree p n (holds ts)) e
wrote_node {n = n} {ts = ts} x y z = record { wrote = rw node_is (wrote_tagged n (bytes_all ts) x y.wrote z) }

-- any element, then the others
module _ {at : ℕ} {t : Tree} {ts : Trees} (h : RoomFor at (more t ts)) where
  pub first_room : RoomOf at t
  first_room = record { room = room_first (bytes_all ts) (rw more_is at h.room) }

  pub first_rest : {s u : List ℕ} {q : ℕ} → WroteTree s u at t q → RoomFor q ts
  first_rest x = record { room = room_then x.wrote (rw more_is at h.room) }

pub wrote_first : {s u v : List ℕ} {at q r : ℕ} {t : Tree} {ts : Trees} → WroteTree s u at t q → WroteAll u v q ts r → WroteAll s v at (more t ts) r
wrote_first x y = record { wrote = rw more_is (wrote_then x.wrote y.wrote) }

-- elements, then others
join_is : (ts us : Trees) → bytes_all (join ts us) ≡ bytes_all ts ++ bytes_all us
unfolding bytes_all
join_is none us = refl
join_is (more t ts) us = ap (λ (b : List ℕ). bytes_of t ++ b) (join_is ts us) ∙ sym (append_assoc (bytes_of t) (bytes_all ts) (bytes_all us))

module _ (ts us : Trees) {at : ℕ} (h : RoomFor at (join ts us)) where
  pub join_room : RoomFor at ts
  join_room = record { room = room_first (bytes_all us) (rw (join_is ts us) at h.room) }

  pub join_rest : {s u : List ℕ} {q : ℕ} → WroteAll s u at ts q → RoomFor q us
  join_rest x = record { room = room_then x.wrote (rw (join_is ts us) at h.room) }

pub wrote_join : (ts us : Trees) {s u v : List ℕ} {at q r : ℕ} → WroteAll s u at ts q → WroteAll u v q us r → WroteAll s v at (join ts us) r
wrote_join ts us x y = record { wrote = rw (join_is ts us) (wrote_then x.wrote y.wrote) }

-- AN EMPTY ISTAT CODE IS LEFT OUT
istat_join : (i : List ℕ) (us : Trees) → join (istat_out i none) us ≡ istat_out i us
istat_join [] us = refl
istat_join (b ∷ i) us = refl

module _ (i : List ℕ) (us : Trees) {at : ℕ} (h : RoomFor at (istat_out i us)) where
  istat_room : RoomFor at (istat_out i none)
  istat_room = join_room (istat_out i none) us (rw (istat_join i us) h)

  istat_rest : {s u : List ℕ} {q : ℕ} → WroteAll s u at (istat_out i none) q → RoomFor q us
  istat_rest x = join_rest (istat_out i none) us (rw (istat_join i us) h) x

wrote_istat : (i : List ℕ) (us : Trees) {s u v : List ℕ} {at q r : ℕ} → WroteAll s u at (istat_out i none) q → WroteAll u v q us r → WroteAll s v at (istat_out i us) r
wrote_istat i us x y = rw (istat_join i us) at (wrote_join (istat_out i none) us x y)

istat_none : (i : List ℕ) → length i ≡ 0 → istat_out i none ≡ none
istat_none [] h = refl
istat_none (b ∷ i) h = absurd (omega arith)

istat_some : (i : List ℕ) → (length i ≡ 0 → ⊥) → istat_out i none ≡ more (leaf "codice_istat_ente" i) none
istat_some [] h = absurd (h refl)
istat_some (b ∷ i) h = refl

module _ {i t : List ℕ} (e : i ≡ t) where
  pub istat_left : (s : List ℕ) (at : ℕ) → length i ≡ 0 → WroteAll s s at (istat_out t none) at
  istat_left s at h = rw (← e, istat_none i h) (wrote_none s at)

  module _ (h : length i ≡ 0 → ⊥) where
    pub istat_fits : {at : ℕ} → RoomFor at (istat_out t none) → Room at (tagged (bytes "codice_istat_ente") i)
    istat_fits r = leaf_room (rw (← e, istat_some i h) at r)

    pub istat_wrote : {s u : List ℕ} {at r : ℕ} → Wrote s u at (tagged (bytes "codice_istat_ente") i) r → WroteAll s u at (istat_out t none) r
    istat_wrote w = rw (← e, istat_some i h) (wrote_alone w)

-- THE HEADER in its three parts
module _ (abi s : List ℕ) (g : Given) (body : List ℕ) where
  abbrev after_first : Trees
  after_first = istat_out (text_at s g.istat) (head_last s g body)

  module _ {at : ℕ} (h : RoomOf at (head_in abi s g body)) {m u : List ℕ} {q : ℕ} (x : Wrote m u at (start_tag (bytes "testata_messaggio")) q) where
    pub head_first_room : RoomFor q (head_first abi s g)
    head_first_room = join_room (head_first abi s g) after_first (node_in h x)

    module _ {v : List ℕ} {r : ℕ} (y : WroteAll u v q (head_first abi s g) r) where
      pub head_istat_room : RoomFor r (istat_out (text_at s g.istat) none)
      head_istat_room = istat_room (text_at s g.istat) (head_last s g body) (join_rest (head_first abi s g) after_first (node_in h x) y)

      pub head_last_room : {w : List ℕ} {k : ℕ} → WroteAll v w r (istat_out (text_at s g.istat) none) k → RoomFor k (head_last s g body)
      head_last_room z = istat_rest (text_at s g.istat) (head_last s g body) (join_rest (head_first abi s g) after_first (node_in h x) y) z

  pub head_all : {u v w z : List ℕ} {q r k e : ℕ} → WroteAll u v q (head_first abi s g) r → WroteAll v w r (istat_out (text_at s g.istat) none) k → WroteAll w z k (head_last s g body) e
      → WroteAll u z q (join (head_first abi s g) after_first) e
  head_all a b c = wrote_join (head_first abi s g) after_first a (wrote_istat (text_at s g.istat) (head_last s g body) b c)

-- THE WORD of an outcome: a refused order's has NON before it
refused_is : (o : Operation) → bytes (refused_as o) ≡ bytes "NON " ++ bytes (accepted_as o)
refused_is Inserimento = refl
refused_is Variazione = refl
refused_is Annullo = refl
refused_is Sostituzione = refl

module _ (o : Operation) (n : List ℕ) {at : ℕ} (h : Room at (tagged n (bytes (refused_as o)))) {s u : List ℕ} {q : ℕ} (x : Wrote s u at (start_tag n) q) where
  within_word : Room q (bytes "NON " ++ bytes (accepted_as o))
  within_word = rw (refused_is o) at (room_in n (bytes (refused_as o)) h x)

  pub non_room : Room q (bytes "NON ")
  non_room = room_first (bytes (accepted_as o)) within_word

  module _ {v : List ℕ} {r : ℕ} (y : Wrote u v q (bytes "NON ") r) where
    pub word_room : Room r (bytes (accepted_as o))
    word_room = room_then y within_word

    pub refused_wrote : {w : List ℕ} {k : ℕ} → Wrote v w r (bytes (accepted_as o)) k → Wrote u w q (bytes (refused_as o)) k
    refused_wrote z = rw (refused_is o) (wrote_then y z)

-- THE ELEMENT THAT HAS THE ERROR, by the order's kind
name_by : (k : ℕ) (f : Words → String) → bytes (f (words_for k)) ≡ by_kind k (bytes (f mandato_words)) (bytes (f reversale_words))
name_by k f = go (eqb k 2)
  where
    go : (b : Bool) → bytes (f (cond b reversale_words mandato_words)) ≡ cond b (bytes (f reversale_words)) (bytes (f mandato_words))
    go true = refl
    go false = refl

module _ (k n : ℕ) where
  pub element_operation : n ≡ 11 → bytes (element_name (words_for k) n) ≡ bytes "tipo_operazione"
  unfolding element_name
  element_operation e = rw e

  pub element_line : n ≡ 12 → bytes (element_name (words_for k) n) ≡ by_kind k (bytes "progressivo_beneficiario") (bytes "progressivo_versante")
  unfolding element_name
  element_line e = rw e (name_by k progressivo_name)

  pub element_total : (n ≡ 13) ⊎ (n ≡ 19) → bytes (element_name (words_for k) n) ≡ by_kind k (bytes "importo_mandato") (bytes "importo_reversale")
  unfolding element_name
  element_total (inl e) = rw e (name_by k total_name)
  element_total (inr e) = rw e (name_by k total_name)

  pub element_number : (n ≡ 11 → ⊥) → (n ≡ 12 → ⊥) → (n ≡ 13 → ⊥) → (n ≡ 19 → ⊥) → bytes (element_name (words_for k) n) ≡ by_kind k (bytes "numero_mandato") (bytes "numero_reversale")
  unfolding element_name
  element_number a b c d = rw (ne_eqb n 11 a, ne_eqb n 12 b, ne_eqb n 13 c, ne_eqb n 19 d) (name_by k number_name)

-- AN ENTRY'S NAME, by the order's kind
pub name_reversali : (k : ℕ) → k ≡ 2 → bytes (entry_name k) ≡ bytes "esito_reversali"
name_reversali k e = rw (eq-eqb k 2 e)

pub name_mandati : (k : ℕ) → (k ≡ 2 → ⊥) → bytes (entry_name k) ≡ bytes "esito_mandati"
name_mandati k e = rw (ne_eqb k 2 e)

module _ {n x : List ℕ} (e : n ≡ x) {p : ℕ} {h : Held} where
  pub room_renamed : {at : ℕ} → RoomOf at (tree p n h) → RoomOf at (tree p x h)
  room_renamed r = rw (← e) r

  pub wrote_renamed : {s u : List ℕ} {at r : ℕ} → WroteTree s u at (tree p x h) r → WroteTree s u at (tree p n h) r
  wrote_renamed w = rw e w
