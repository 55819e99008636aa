-- A tree says one header and one list of orders.
use Rattle.std.specs.Prelude.{Some}
use mathlib.Core.Path.{◌≡◌, refl, sym, subst, ◌∙◌}
use mathlib.Core.Logic.{inl, inr}
use mathlib.Core.List.{List, [], ◌∷◌}
use Prim.Native.Nat.{ℕ}
use Prim.Native.String.{String}
use native.Mathlib.Omega.{arith}
use Rattle.digits.specs.Digits.{esercizio, numero, progressivo}
use Rattle.codes.specs.declared.Operation.{Operation}
use Rattle.codes.specs.declared.Operation.TheVariants.{Inserimento, Variazione, Annullo, Sostituzione}
use Rattle.order.specs.declared.NamedLine.{NamedLine}
use Rattle.order.specs.declared.Line.{Line}
use Rattle.editions.specs.declared.Edition.{Edition}
use Rattle.editions.specs.declared.Edition.TheVariants.{Oil, Opi}
use Rattle.header.specs.Header.{Header}
use Rattle.tree.specs.Tree.{Tree, Trees, held_of, kids_in}
use Rattle.tree.specs.Orders.{OneText, OneValue, Each, each_none, each_next, TestataIn, HeaderIn, Words, mandato_words, reversale_words, joined, children_named, da_sostituire, NamedIn, NamedBy, LineIn, OrderIn, AnOrder, OrdersIn}
use Rattle.order.specs.Ordinativo.{Ordinativo}

text_one : {x : String} {ts : Trees} {t u : List ℕ} → OneText x ts t → OneText x ts u → t ≡ u
text_one a b = let y = a.alone in let z = b.alone in cc

value_one : {A : Type 0} {x : String} {form : List ℕ → A} {ts : Trees} {v w : A} → OneValue x form ts v → OneValue x form ts w → v ≡ w
value_one a b = let y = a.is in let z = b.is in let e = text_one a.one b.one in cc

number_one : {x : String} {form : List ℕ → _} {ts : Trees} {v w : ℕ} → OneValue x form ts (Some v) → OneValue x form ts (Some w) → v ≡ w
number_one a b = let e = value_one a b in cc

testata_one : (e : Edition) (ts us vs : Trees) → TestataIn e ts us → TestataIn e ts vs → us ≡ vs
testata_one Oil ts us vs a b = a ∙ sym b
testata_one Opi ts us vs a b = let y = a.alone in let z = b.alone in cc

pub header_one : (e : Edition) (ts : Trees) (h g : Header) → HeaderIn e ts h → HeaderIn e ts g → h ≡ g
header_one e ts h g a b =
    let z = testata_one e ts b.testata a.testata b.there a.there in
    let x = text_one a.abi (subst (λ (us : Trees). OneText "codice_ABI_BT" us g.abi) z b.abi) in
    let y = text_one a.ente (subst (λ (us : Trees). OneText "codice_ente_BT" us g.ente) z b.ente) in
    λ i. record { abi = x i; ente = y i; esercizio = number_one a.esercizio b.esercizio i }

each_one : {A : Type 0} {Is : Tree → A → Type 0} → ((t : Tree) (a b : A) → Is t a → Is t b → a ≡ b) → {ts : List Tree} {vs ws : List A} → Each Is ts vs → Each Is ts ws → vs ≡ ws
each_one u each_none each_none = refl
each_one u (each_next {t = t} {a = a} x xs) (each_next {a = b} y ys) = let e = u t a b x y in let f = each_one u xs ys in cc

named_one : (w : Words) (ts : Trees) (n m : NamedLine) → NamedIn w ts n → NamedIn w ts m → n ≡ m
named_one w ts n m a b =
    let z : b.structure ≡ a.structure = let y = a.there.alone in let x = b.there.alone in cc in
    let u = number_one a.number (subst (λ (us : Trees). OneValue (da_sostituire "numero_" w.name) numero us (Some m.number)) z b.number) in
    let v = number_one a.line (subst (λ (us : Trees). OneValue (da_sostituire "progressivo_" w.party) progressivo us (Some m.line)) z b.line) in
    let e = number_one a.esercizio (subst (λ (us : Trees). OneValue (da_sostituire "esercizio_" w.name) esercizio us (Some m.esercizio)) z b.esercizio) in
    λ i. record { number = u i; line = v i; esercizio = e i }

by_one : (o : Operation) (w : Words) (ts : Trees) (n m : NamedLine) → NamedBy o w ts n → NamedBy o w ts m → n ≡ m
by_one Sostituzione w ts n m a b = named_one w ts n m a b
by_one Inserimento w ts n m a b = a ∙ sym b
by_one Variazione w ts n m a b = a ∙ sym b
by_one Annullo w ts n m a b = a ∙ sym b

module _ (w : Words) where
  line_one : (o : Operation) (t : Tree) (l m : Line) → LineIn o w t l → LineIn o w t m → l ≡ m
  line_one o t l m a b =
      let n = by_one o w (kids_in (held_of t)) l.named m.named a.named b.named in
      λ i. record { progressivo = number_one a.progressivo b.progressivo i; amount = number_one a.amount b.amount i; named = n i }

  order_one : (t : Tree) (o q : Ordinativo) → OrderIn w t o → OrderIn w t q → o ≡ q
  order_one t o q a b =
      let k : o.kind ≡ q.kind = let y = a.kind in let z = b.kind in cc in
      let x : o.operation ≡ q.operation = let y = value_one a.operation b.operation in cc in
      let d : o.date ≡ q.date = let y = value_one a.date b.date in cc in
      let l = subst (λ (p : Operation). Each (LineIn p w) (children_named (joined "informazioni_" w.party ∷ []) (kids_in (held_of t))) q.lines) (sym x) b.lines in
      λ i. record { kind = k i; operation = x i; number = number_one a.number b.number i; date = d i; total = number_one a.total b.total i; lines = each_one (line_one o.operation) a.lines l i }

an_order_one : (t : Tree) (o q : Ordinativo) → AnOrder t o → AnOrder t q → o ≡ q
an_order_one t o q (inl a) (inl b) = order_one mandato_words t o q a b
an_order_one t o q (inl a) (inr b) = let y = a.name in let z = b.name in let e : ◌≡◌ {A = ℕ} 109 114 = cc in absurd (omega arith)
an_order_one t o q (inr a) (inl b) = let y = a.name in let z = b.name in let e : ◌≡◌ {A = ℕ} 109 114 = cc in absurd (omega arith)
an_order_one t o q (inr a) (inr b) = order_one reversale_words t o q a b

pub orders_one : (ts : Trees) (os qs : List Ordinativo) → OrdersIn ts os → OrdersIn ts qs → os ≡ qs
orders_one ts os qs a b = each_one an_order_one a b
