-- The header put together of the root's first named children, in both editions.
use Rattle.std.specs.Prelude.{Option, Some, None}
use mathlib.Core.Path.{◌≡◌, refl, sym, ap, ◌∙◌}
use mathlib.Core.Logic.{◌⊎◌, ⊎_elim}
use mathlib.Core.List.{List, ◌∷◌}
use mathlib.Core.Bool.{false}
use Prim.Native.Nat.{ℕ, ◌+◌, ◌≤◌, ◌<◌}
use native.Mathlib.Omega.{arith}
use lib.ListN.{length, drop}
use Rattle.scan.specs.Bytes.{part}
use Rattle.tokens.specs.Tokens.{white_at}
use Rattle.digits.specs.Digits.{esercizio}
use Rattle.schema.specs.declared.Parent.{Parent}
use Rattle.schema.specs.declared.Parent.TheVariants.{FlussoOrdinativi, FlussoOpi, TestataFlusso}
use Rattle.schema.specs.declared.Holds.{Holds}
use Rattle.schema.specs.declared.Holds.TheVariants.{Text, Rows}
use Rattle.rows.specs.declared.Kept.{Kept}
use Rattle.schema.specs.Table.{table}
use Rattle.rows.specs.Kept.{kept_from, next_of}
use Rattle.structure.specs.Structure.{Range, ranges, kept_holds, fits_at}
use Rattle.structure.proofs.Laws.{HeldIn, all_next}
use Rattle.orders.specs.Shape.{Shaped, Filled}
use Rattle.orders.specs.Orders.{those, of_row, in_row, text_of_next, text_in, value_of, inside_of, held_for, inside, orders_of, holds_order, is_order, orders_in}
use Rattle.orders.proofs.Laws.{one, held_at, those_at, those_other, row_one, Found, found_some, found, Inside, shaped_other, Standing}
use Rattle.editions.specs.declared.Edition.{Edition}
use Rattle.editions.specs.declared.Edition.TheVariants.{Oil, Opi}
use Rattle.header.specs.declared.Span.{Span}
use Rattle.header.specs.declared.Testata.{Testata}
use Rattle.header.specs.declared.Heading.{Heading}
use Rattle.header.specs.Header.{root_of, esercizio_row, inside_next, testata_of, header_in}
use Rattle.header.specs.Heading.{root_rows, span_of, testata_in, four_then, heading_in, heading_from, header_by, Within}

-- THE FOUR FIELDS, one after the other
module _ {rs : List Range} (depth : ℕ) (p : Parent) (s : List ℕ) (i : ℕ) (a b c d : Kept)
    (fa : Found (drop 1 (four_then rs)) depth p s 0 i a) (fb : Found (drop 2 (four_then rs)) depth p s 1 a.child.after b)
    (fc : Found (drop 3 (four_then rs)) depth p s 2 b.child.after c) (fd : Found rs depth p s 3 c.child.after d)
    (na : next_of (kept_from p s i) ≡ Some a) (nd : next_of (kept_from p s c.child.after) ≡ Some d) where
  fourth : in_row 3 (kept_from p s i) ≡ d ∷ in_row 3 (kept_from p s d.child.after)
  fourth = fa.later 3 (omega arith) ∙ fb.later 3 (omega arith) ∙ fc.later 3 (omega arith) ∙ row_one 3 p s c.child.after d nd fd.row

  pub testata_made : (t : Testata) → t.abi.from ≡ a.child.gt + 1 → t.abi.to ≡ a.child.to → t.ente.from ≡ d.child.gt + 1 → t.ente.to ≡ d.child.to
      → t.after ≡ d.child.after → t ≡ testata_in (kept_from p s i)
  unfolding testata_in
  testata_made t u v w x y =
      let e : next_of (in_row 0 (kept_from p s i)) ≡ Some a = ap next_of (row_one 0 p s i a na fa.row) in
      let f : next_of (in_row 3 (kept_from p s i)) ≡ Some d = ap next_of fourth in
      rw (e, f, ← u, ← v, ← w, ← x, ← y)

-- past a row of one
record Passed (rs : List Range) (depth : ℕ) (p : Parent) (s : List ℕ) (n i : ℕ) (k : Kept) : Type 0 where
  next : next_of (kept_from p s i) ≡ Some k
  found : Found rs depth p s n i k

passed : {rs : List Range} (depth : ℕ) (p : Parent) (s : List ℕ) (n i : ℕ) → Filled (one ∷ rs) depth p s n i → (k : Kept) × Passed rs depth p s n i k
passed {rs} depth p s n i f = go (next_of (kept_from p s i)) refl
  where
    go : (x : Option Kept) → next_of (kept_from p s i) ≡ x → (k : Kept) × Passed rs depth p s n i k
    go None e = absurd (found_some depth p s n i f e)
    go (Some k) e = (k, record { next = e; found = found depth p s n i f k e })

-- it holds no order
abbrev NoOrder : Parent → ℕ → Type 0
NoOrder p n = (h : Holds) → HeldIn (table p) n h → holds_order h ≡ false

no_order : {g : Holds} → holds_order g ≡ false → (h : Holds) → (g ≡ h) ⊎ ⊥ → holds_order h ≡ false
no_order z h w = ⊎_elim (λ e. rw (← e) z) (λ e. absurd e) w

order_past : {rs : List Range} {depth : ℕ} (p : Parent) (s : List ℕ) (n i : ℕ) (k : Kept) → NoOrder p n → Passed rs depth p s n i k
    → those is_order (kept_from p s i) ≡ those is_order (kept_from p s k.child.after)
order_past p s n i k l o = let r = o.found.row in those_other is_order p s i k o.next (l k.holds (rw r at (held_at p s i k o.next)))

-- past all four
pub record Four (rs : List Range) (depth : ℕ) (p : Parent) (s : List ℕ) (i j : ℕ) : Type 0 where
  pub on : Filled rs depth p s 4 j
  pub later : (m : ℕ) → 3 < m → in_row m (kept_from p s i) ≡ in_row m (kept_from p s j)
  pub orders : NoOrder p 0 → NoOrder p 1 → NoOrder p 2 → NoOrder p 3 → those is_order (kept_from p s i) ≡ those is_order (kept_from p s j)

pub four_past : {rs : List Range} (depth : ℕ) (p : Parent) (s : List ℕ) (i : ℕ) → Filled (four_then rs) depth p s 0 i → Four rs depth p s i (testata_in (kept_from p s i)).after
unfolding testata_in
four_past {rs} depth p s i f =
    let a = passed depth p s 0 i f in
    let b = passed depth p s 1 a.0.child.after a.1.found.on in
    let c = passed depth p s 2 b.0.child.after b.1.found.on in
    let d = passed depth p s 3 c.0.child.after c.1.found.on in
    let z = fourth depth p s i a.0 b.0 c.0 d.0 a.1.found b.1.found c.1.found d.1.found a.1.next d.1.next in
    rw z (record {
      on = d.1.found.on;
      later = λ m l. a.1.found.later m (omega arith) ∙ b.1.found.later m (omega arith) ∙ c.1.found.later m (omega arith) ∙ d.1.found.later m (omega arith);
      orders = λ x y v w.
          order_past p s 0 i a.0 x a.1 ∙ order_past p s 1 a.0.child.after b.0 y b.1 ∙ order_past p s 2 b.0.child.after c.0 v c.1
          ∙ order_past p s 3 c.0.child.after d.0 w d.1;
    })

-- testata_flusso, the first named child of edition 2's root
pub record Nested (s : List ℕ) (i : ℕ) (k : Kept) : Type 0 where
  pub holds : k.holds ≡ Rows TestataFlusso
  pub shaped : Shaped (ranges (table TestataFlusso)) 3 s k
  pub inner : Inside (ranges (table TestataFlusso)) 2 s k TestataFlusso
  pub own : testata_of Opi s (kept_from FlussoOpi s i) ≡ kept_from TestataFlusso s (white_at s (k.child.gt + 1))

pub nested : (s : List ℕ) (i : ℕ) (k : Kept) → Filled (root_rows Opi) 3 FlussoOpi s 0 i → next_of (kept_from FlussoOpi s i) ≡ Some k → Nested s i k
nested s i k f e =
    let o = found 3 FlussoOpi s 0 i f k e in
    let l = o.lies in
    let r = o.row in
    let h : k.holds ≡ Rows TestataFlusso = ⊎_elim sym (λ x. absurd x) (rw r at (held_at FlussoOpi s i k e)) in
    let w = all_next FlussoOpi s i k e (kept_holds (λ q b. fits_at 3 q s b) s) f.each in
    let v : Shaped (ranges (table TestataFlusso)) 3 s k = record { within = omega arith; rows = rw h; holds = w.0 } in
    let n = shaped_other (ranges (table TestataFlusso)) 2 s k TestataFlusso (λ x. omega arith) h v in
    let z : next_of (in_row 0 (kept_from FlussoOpi s i)) ≡ Some k = ap next_of (row_one 0 FlussoOpi s i k e r) in
    record { holds = h; shaped = v; inner = n; own = rw z n.named }

-- THE HEADER of either edition
module _ (e : Edition) (s : List ℕ) (i : ℕ) where
  abbrev kids : List Kept
  kids = kept_from (root_of e) s i

  pub heading_made : (k : Kept) → next_of (in_row (esercizio_row e) kids) ≡ Some k → (t : Testata) → t ≡ testata_in (testata_of e s kids)
      → (h : Heading) → h.abi ≡ t.abi → h.ente ≡ t.ente → h.esercizio ≡ value_of (esercizio (part s (k.child.gt + 1) k.child.to)) → h.orders ≡ k.child.after
      → h ≡ heading_from e s i
  unfolding heading_in testata_in text_in
  heading_made k x t y h a b c d =
      let p : h.abi ≡ span_of (next_of (in_row 0 (testata_of e s kids))) = a ∙ ap (λ (u : Testata). u.abi) y in
      let q : h.ente ≡ span_of (next_of (in_row 3 (testata_of e s kids))) = b ∙ ap (λ (u : Testata). u.ente) y in
      rw (x, ← c, ← d, ← p, ← q)

-- A PART OF THE HEADER is the text of its row, and lies within the flow
span_text : (s : List ℕ) (w : Option Kept) → part s (span_of w).from (span_of w).to ≡ text_of_next s w
span_text s (Some k) = refl
span_text s None = refl

row_text : (n : ℕ) (s : List ℕ) (ks : List Kept) → part s (span_of (next_of (in_row n ks))).from (span_of (next_of (in_row n ks))).to ≡ text_in n s ks
unfolding text_in
row_text n s ks = span_text s (next_of (in_row n ks))

abbrev Inner : List ℕ → Span → Type 0
Inner s w = (w.from ≤ w.to) × (w.to ≤ length s)

row_within : (n : ℕ) (p : Parent) (s : List ℕ) (i : ℕ) → Inner s (span_of (next_of (in_row n (kept_from p s i))))
row_within n p s i = go (next_of (in_row n (kept_from p s i))) refl
  where
    go : (w : Option Kept) → next_of (in_row n (kept_from p s i)) ≡ w → Inner s (span_of w)
    go (Some k) e = let l = (those_at (of_row n) p s i k e).lies in (l.inner, omega arith)
    go None e = (omega arith, omega arith)

testata_within : (n : ℕ) (e : Edition) (s : List ℕ) (i : ℕ) → Inner s (span_of (next_of (in_row n (testata_of e s (kept_from (root_of e) s i)))))
unfolding those inside
testata_within n Oil s i = row_within n FlussoOrdinativi s i
testata_within n Opi s i = next (next_of (in_row 0 (kept_from FlussoOpi s i)))
  where
    held : (k : Kept) (h : Holds) → Inner s (span_of (next_of (in_row n (inside_of s k h))))
    held k (Text f) = (omega arith, omega arith)
    held k (Rows q) = row_within n q s (white_at s (k.child.gt + 1))

    next : (w : Option Kept) → Inner s (span_of (next_of (in_row n (inside_next s w))))
    next (Some k) = held k (held_for s k k.holds)
    next None = (omega arith, omega arith)

pub heading_header : (e : Edition) (s : List ℕ) (i : ℕ) → header_by s (heading_from e s i) ≡ header_in e s (kept_from (root_of e) s i)
unfolding heading_in
heading_header e s i = let ks = testata_of e s (kept_from (root_of e) s i) in rw (row_text 0 s ks, row_text 3 s ks)

pub heading_within : (e : Edition) (s : List ℕ) (i : ℕ) → Within s (heading_from e s i)
unfolding heading_in
heading_within e s i = record { abi = testata_within 0 e s i; ente = testata_within 3 e s i }

-- THE ORDERS begin past the header: none of its fields is one, nor is testata_flusso
pub record Begin (p : Parent) (s : List ℕ) (i j : ℕ) : Type 0 where
  pub within : j ≤ length s
  pub same : orders_in s (kept_from p s j) ≡ orders_in s (kept_from p s i)
  pub standing : Standing p s j

pub heading_orders : (e : Edition) (s : List ℕ) (i : ℕ) → Filled (root_rows e) 3 (root_of e) s 0 i → Begin (root_of e) s i (heading_from e s i).orders
unfolding heading_in
heading_orders Oil s i f =
    let p = FlussoOrdinativi in
    let j = (testata_in (kept_from p s i)).after in
    let a = four_past 3 p s i f in
    let b = passed 3 p s 4 j a.on in
    let z : in_row 4 (kept_from p s i) ≡ _ = a.later 4 (omega arith) ∙ row_one 4 p s j b.0 b.1.next b.1.found.row in
    let o = a.orders (no_order refl) (no_order refl) (no_order refl) (no_order refl) ∙ order_past p s 4 j b.0 (no_order refl) b.1 in
    rw z (record { within = b.1.found.on.within; same = ap (orders_of s) (sym o); standing = b.1.found.on.each })
heading_orders Opi s i f =
    let p = FlussoOpi in
    let a = passed 3 p s 0 i f in
    let j = a.0.child.after in
    let b = passed 3 p s 1 j a.1.found.on in
    let z : in_row 1 (kept_from p s i) ≡ _ = a.1.found.later 1 (omega arith) ∙ row_one 1 p s j b.0 b.1.next b.1.found.row in
    let o = order_past p s 0 i a.0 (no_order refl) a.1 ∙ order_past p s 1 j b.0 (no_order refl) b.1 in
    rw z (record { within = b.1.found.on.within; same = ap (orders_of s) (sym o); standing = b.1.found.on.each })
