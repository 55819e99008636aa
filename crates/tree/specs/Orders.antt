-- The header and the orders that a tree says, by name.
use Rattle.std.specs.Prelude.{◌≡◌, ◌⊎◌, ℕ, List, [], ◌∷◌, Bool, false, cond, ◌||◌, Some}
use Prim.Native.String.{String}
use Rattle.scan.specs.Bytes.{bytes, text_is}
use Rattle.codes.specs.declared.Operation.{Operation}
use Rattle.codes.specs.declared.Operation.TheVariants.{Inserimento, Variazione, Annullo, Sostituzione}
use Rattle.codes.specs.Codes.{tipo_operazione}
use Rattle.digits.specs.Digits.{esercizio, numero, importo, progressivo}
use Rattle.dates.specs.Dates.{data_of}
use Rattle.record.specs.Slot.{mandato_kind, reversale_kind}
use Rattle.order.specs.declared.NamedLine.{NamedLine}
use Rattle.order.specs.declared.Line.{Line}
use Rattle.order.specs.Ordinativo.{Ordinativo, no_name}
use Rattle.editions.specs.declared.Edition.{Edition}
use Rattle.editions.specs.declared.Edition.TheVariants.{Oil, Opi}
use Rattle.header.specs.Header.{Header}
use Rattle.tree.specs.Tree.{Tree, tree, Held, says, holds, Trees, none, more, name_of, held_of, kids_in}

-- CHILDREN BY NAME
abbrev pub is_one_of : List String → List ℕ → Bool
is_one_of [] n = false
is_one_of (x ∷ xs) n = text_is (bytes x) n || is_one_of xs n

-- the children of these names, in document order
unfoldable pub children_named : List String → Trees → List Tree
children_named xs none = []
children_named xs (more t ts) = cond (is_one_of xs (name_of t)) (t ∷ children_named xs ts) (children_named xs ts)

-- the text of the first child of the name x: none where there is no such child, or one that holds elements
abbrev pub held_text : Held → List ℕ
held_text (says t) = t
held_text (holds ts) = []

abbrev pub first_text : List Tree → List ℕ
first_text [] = []
first_text (t ∷ ts) = held_text (held_of t)

abbrev pub text_named : String → Trees → List ℕ
text_named x kids = first_text (children_named (x ∷ []) kids)

-- one child has the name x, and holds the text
pub record OneText (x : String) (kids : Trees) (text : List ℕ) : Type 0 where
  pub place : ℕ
  pub alone : children_named (x ∷ []) kids ≡ tree place (bytes x) (says text) ∷ []

-- one child has the name x, and holds the elements
pub record OneHolds (x : String) (kids ts : Trees) : Type 0 where
  pub place : ℕ
  pub alone : children_named (x ∷ []) kids ≡ tree place (bytes x) (holds ts) ∷ []

-- one child has the name x, and its text says v in this form
pub record OneValue {A : Type 0} (x : String) (form : List ℕ → A) (kids : Trees) (v : A) : Type 0 where
  pub text : List ℕ
  pub one : OneText x kids text
  pub is : form text ≡ v

-- one after the other
pub data Each {A : Type 0} (Is : Tree → A → Type 0) : List Tree → List A → Type 0 where
  each_none : Each Is [] []
  each_next : {t : Tree} {a : A} {ts : List Tree} {vs : List A} → Is t a → Each Is ts vs → Each Is (t ∷ ts) (a ∷ vs)

-- THE HEADER among the root's children. Where codice_ABI_BT and codice_ente_BT stand: in edition 1 among them, in edition 2 in testata_flusso
-- (document 02, Req 05: "the header of document 000, 9.2.1, with its own nesting")
abbrev pub TestataIn : Edition → Trees → Trees → Type 0
TestataIn Oil kids ts = ts ≡ kids
TestataIn Opi kids ts = OneHolds "testata_flusso" kids ts

pub record HeaderIn (e : Edition) (kids : Trees) (h : Header) : Type 0 where
  pub testata : Trees
  pub there : TestataIn e kids testata
  pub abi : OneText "codice_ABI_BT" testata h.abi
  pub ente : OneText "codice_ente_BT" testata h.ente
  pub esercizio : OneValue "esercizio" esercizio kids (Some h.esercizio)

-- AN ORDER'S WORDS: its kind, its element's name, and who its lines are for. "Reversale is the same with reversale, informazioni_versante, versante in
-- place of mandato, informazioni_beneficiario, beneficiario"
pub record Words : Type 0 where
  pub kind : ℕ
  pub name : String
  pub party : String

abbrev pub mandato_words : Words
mandato_words = record { kind = mandato_kind; name = "mandato"; party = "beneficiario" }

abbrev pub reversale_words : Words
reversale_words = record { kind = reversale_kind; name = "reversale"; party = "versante" }

-- a name of two parts, such as numero_ and mandato
abbrev pub joined : String → String → String
joined String.[] y = y
joined (String.◌∷◌ c x) y = String.◌∷◌ c (joined x y)

-- THE LINE THAT A LINE NAMES, in the one structure of its kind: "each line names one line, of the same kind and body, by number, line and esercizio (the
-- sostituzione structures of 000)" (document 02, Req 07)
abbrev pub da_sostituire : String → String → String
da_sostituire x y = joined x (joined y "_da_sostituire")

pub record NamedIn (w : Words) (kids : Trees) (n : NamedLine) : Type 0 where
  pub structure : Trees
  pub there : OneHolds (joined "sostituzione_" w.name) kids structure
  pub number : OneValue (da_sostituire "numero_" w.name) numero structure (Some n.number)
  pub line : OneValue (da_sostituire "progressivo_" w.party) progressivo structure (Some n.line)
  pub esercizio : OneValue (da_sostituire "esercizio_" w.name) esercizio structure (Some n.esercizio)

-- "other operations pass it over"
abbrev pub NamedBy : Operation → Words → Trees → NamedLine → Type 0
NamedBy Sostituzione w kids n = NamedIn w kids n
NamedBy Inserimento w kids n = n ≡ no_name
NamedBy Variazione w kids n = n ≡ no_name
NamedBy Annullo w kids n = n ≡ no_name

-- AN ORDER, with all its lines, each of which knows the order's operation
pub record LineIn (o : Operation) (w : Words) (t : Tree) (l : Line) : Type 0 where
  pub progressivo : OneValue (joined "progressivo_" w.party) progressivo (kids_in (held_of t)) (Some l.progressivo)
  pub amount : OneValue (joined "importo_" w.party) importo (kids_in (held_of t)) (Some l.amount)
  pub named : NamedBy o w (kids_in (held_of t)) l.named

pub record OrderIn (w : Words) (t : Tree) (o : Ordinativo) : Type 0 where
  pub name : name_of t ≡ bytes w.name
  pub kind : o.kind ≡ w.kind
  pub operation : OneValue "tipo_operazione" tipo_operazione (kids_in (held_of t)) (Some o.operation)
  pub number : OneValue (joined "numero_" w.name) numero (kids_in (held_of t)) (Some o.number)
  pub date : OneValue (joined "data_" w.name) data_of (kids_in (held_of t)) (Some o.date)
  pub total : OneValue (joined "importo_" w.name) importo (kids_in (held_of t)) (Some o.total)
  pub lines : Each (LineIn o.operation w) (children_named (joined "informazioni_" w.party ∷ []) (kids_in (held_of t))) o.lines

-- THE ORDERS among the root's children: "mandato and reversale in any mix"
abbrev pub AnOrder : Tree → Ordinativo → Type 0
AnOrder t o = OrderIn mandato_words t o ⊎ OrderIn reversale_words t o

abbrev pub OrdersIn : Trees → List Ordinativo → Type 0
OrdersIn kids os = Each AnOrder (children_named (mandato_words.name ∷ reversale_words.name ∷ []) kids) os
