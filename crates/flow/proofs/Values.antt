-- The values of a flow that stands: its header and its orders are within the bounds of their forms.
use Rattle.std.specs.Prelude.{Option, Result, Some, None, Ok, Err}
use mathlib.Core.Path.{◌≡◌, refl, sym, ap, subst, ◌∙◌}
use mathlib.Core.Logic.{◌⊎◌, ⊎_elim}
use mathlib.Core.List.{List, [], ◌∷◌, ◌++◌, map}
use mathlib.Core.Bool.{Bool, true, false, ◌&&◌}
use Prim.Native.Nat.{ℕ, zero, suc, ◌+◌, ◌-◌, ◌≤◌, ◌<◌}
use native.Mathlib.Omega.{arith}
use lib.ListN.{length, get_or, take, drop, replicate, length-map}
use lib.Seq.{take-take, take_at}
use lib.Dec.{eqb}
use borrow.Author.Tests.{eqb-true}
use Rattle.scan.specs.Bytes.{is_white}
use Rattle.scan.proofs.Laws.{run_within}
use Rattle.tokens.specs.Tokens.{white_at}
use Rattle.calendar.specs.Calendar.{is_date}
use Rattle.fields.specs.declared.Form.{Form}
use Rattle.fields.specs.declared.Form.TheVariants.{CodiceAbi, Identificativo, DataOra, CodiceEnte, Esercizio, TipoOperazione, Numero, Data, Importo, Progressivo, DataOraZona}
use Rattle.fields.specs.declared.Judged.TheVariants.{Stands}
use Rattle.codes.specs.Codes.{codice_abi, codice_ente}
use Rattle.digits.specs.Digits.{esercizio, numero, importo}
use Rattle.dates.specs.Dates.{data_of}
use Rattle.fields.specs.Fields.{reading_of, judged, is_number, is_day, field_stands}
use Rattle.fields.proofs.Laws.{stands_holds}
use Rattle.digits.proofs.Laws.{esercizio_range, numero_range, importo_range}
use Rattle.dates.proofs.Laws.{data_real}
use Rattle.schema.specs.declared.Parent.{Parent}
use Rattle.schema.specs.declared.Parent.TheVariants.{FlussoOrdinativi, Mandato, Reversale, InformazioniBeneficiario, InformazioniVersante, FlussoOpi, TestataFlusso}
use Rattle.schema.specs.declared.Holds.{Holds}
use Rattle.schema.specs.declared.Holds.TheVariants.{Text, Rows}
use Rattle.rows.specs.declared.Kept.{Kept}
use Rattle.schema.specs.Table.{table}
use Rattle.rows.specs.Kept.{kept_from, next_of}
use Rattle.rows.specs.Replaces.{rows_for}
use Rattle.children.proofs.Laws.{Lies}
use Rattle.rows.proofs.Laws.{next_at, next_done}
use Rattle.structure.specs.Structure.{Range, ranges, all_kept, kept_holds, fits_at}
use Rattle.structure.proofs.Laws.{HeldIn, fits_parts, all_next, order_last, versante_rows}
use Rattle.standing.specs.Readings.{Bad, Place, Nowhere, text_of, fields_in, fields_by, fields_at, bad_or, first_bad}
use Rattle.standing.proofs.Readings.{or_bad, bad_append}
use Rattle.order.specs.declared.Line.{Line}
use Rattle.order.specs.Ordinativo.{Ordinativo, ordinativo, no_line}
use Rattle.orders.specs.Shape.{order_rows, line_rows, Shaped, Filled}
use Rattle.orders.specs.Orders.{those, of_row, in_row, text_in, value_of, date_of, line_of, lines_of, eight, lines_in, kind_of, order_by, order_of, orders_of, holds_order, is_order, orders_in}
use Rattle.editions.specs.declared.Edition.{Edition}
use Rattle.editions.specs.declared.Edition.TheVariants.{Oil, Opi}
use Rattle.header.specs.Header.{Header, root_of, testata_of}
use Rattle.header.specs.Heading.{four_then, root_rows}
use Rattle.header.proofs.Laws.{nested}
use Rattle.orders.proofs.Laws.{one, held_at, those_at, those_done, those_other, those_one, those_all, found, found_some, mandato_rows, reversale_rows, rows_other, shaped_inside, shaped_other, line_other, Standing, order_held, order_at, orders_end, standing, lines_length}
use Rattle.flow.specs.Flow.{header_of, flow_orders}
use Rattle.bounds.specs.Bounds.{max_cents}
use Rattle.flow.proofs.Laws.{Stood}
use Rattle.fields.specs.declared.Value.{Value}
use Rattle.fields.specs.declared.Cause.{Cause}
use Rattle.calendar.specs.declared.Date.{Date}

-- AN ORDER AND A HEADER WITHIN BOUNDS
pub record OrderOk (o : Ordinativo) : Type 0 where
  pub kind : (1 ≤ o.kind) × (o.kind ≤ 2)
  pub number : (1 ≤ o.number) × (o.number ≤ 9999999)
  pub date : is_date o.date ≡ true
  pub total : o.total ≤ max_cents
  pub count : (1 ≤ length o.lines) × (length o.lines ≤ 8)
  pub amounts : (j : ℕ) → (get_or o.lines j no_line).amount ≤ max_cents

pub record HeaderOk (h : Header) : Type 0 where
  pub abi : codice_abi h.abi ≡ true
  pub ente : codice_ente h.ente ≡ true
  pub esercizio : (2000 ≤ h.esercizio) × (h.esercizio ≤ 2099)

-- FIELDS THAT STAND have a value
judged_true : (b : Bool) → judged b ≡ Stands → b ≡ true
judged_true true e = refl
judged_true false e = let z : ◌≡◌ {A = ℕ} 0 1 = cc in absurd (omega arith)

number_there : (n : Option ℕ) → is_number n ≡ Stands → n ≡ Some (value_of n)
number_there (Some v) e = refl
number_there None e = let z : ◌≡◌ {A = ℕ} 0 1 = cc in absurd (omega arith)

day_there : (d : Option Date) → is_day d ≡ Stands → d ≡ Some (date_of d)
day_there (Some d) e = refl
day_there None e = let z : ◌≡◌ {A = ℕ} 0 1 = cc in absurd (omega arith)

abbrev is_nowhere : Bad → Bool
is_nowhere (Place p c) = false
is_nowhere Nowhere = true

-- no field of a named child breaks
abbrev stands_in : ℕ → List ℕ → Kept → Bool
stands_in d s k = is_nowhere (first_bad (fields_in (λ q a. fields_at d q s a) s k k.holds))

each_stands : (d : ℕ) (s : List ℕ) (ks : List Kept) → first_bad (fields_by (λ q a. fields_at d q s a) s ks) ≡ Nowhere → all_kept (stands_in d s) ks ≡ true
unfolding fields_by all_kept
each_stands d s [] e = refl
each_stands d s (k ∷ ks) e = go (first_bad (fields_in (λ q a. fields_at d q s a) s k k.holds)) (sym (bad_append (fields_in (λ q a. fields_at d q s a) s k k.holds) (fields_by (λ q a. fields_at d q s a) s ks)) ∙ e) (each_stands d s ks)
  where
    go : (b : Bad) → or_bad b (first_bad (fields_by (λ q a. fields_at d q s a) s ks)) ≡ Nowhere → (first_bad (fields_by (λ q a. fields_at d q s a) s ks) ≡ Nowhere → all_kept (stands_in d s) ks ≡ true) → (is_nowhere b && all_kept (stands_in d s) ks) ≡ true
    go (Place p c) e ih = let z : ◌≡◌ {A = ℕ} 0 1 = cc in absurd (omega arith)
    go Nowhere e ih = ih e

nowhere : (b : Bad) → is_nowhere b ≡ true → b ≡ Nowhere
nowhere (Place p c) e = let z : ◌≡◌ {A = ℕ} 0 1 = cc in absurd (omega arith)
nowhere Nowhere e = refl

-- a field's own
text_stands : (d : ℕ) (s : List ℕ) (k : Kept) (f : Form) → k.holds ≡ Text f → stands_in d s k ≡ true → field_stands f (text_of s k) ≡ Stands
unfolding first_bad
text_stands d s k f h e = go (reading_of f (text_of s k)) refl (rw h at e)
  where
    go : (r : Result Value Cause) → reading_of f (text_of s k) ≡ r → is_nowhere (bad_or k.child.lt Nowhere r) ≡ true → field_stands f (text_of s k) ≡ Stands
    go (Ok v) z e = sym (stands_holds f (text_of s k) (sym z))
    go (Err c) z e = let y : ◌≡◌ {A = ℕ} 0 1 = cc in absurd (omega arith)

-- ROWS IN ORDER whose fields stand
record Well (rs : List Range) (d : ℕ) (p : Parent) (s : List ℕ) (n i : ℕ) : Type 0 where
  filled : Filled rs d p s n i
  fields : all_kept (stands_in d s) (kept_from p s i) ≡ true

-- the field of a row that takes one
record FieldAt (f : Form) (rs : List Range) (d : ℕ) (p : Parent) (s : List ℕ) (n i j : ℕ) : Type 0 where
  stands : field_stands f (text_in n s (kept_from p s i)) ≡ Stands
  on : Well rs d p s (suc n) j
  later : (m : ℕ) → n < m → in_row m (kept_from p s i) ≡ in_row m (kept_from p s j)
  texts : (m : ℕ) → n < m → text_in m s (kept_from p s i) ≡ text_in m s (kept_from p s j)

-- what the table says of a row: elements of one name, that hold a text
abbrev IsText : Parent → ℕ → Form → Type 0
IsText p n f = (h : Holds) → HeldIn (table p) n h → h ≡ Text f

only : {g : Holds} (h : Holds) → (g ≡ h) ⊎ ⊥ → h ≡ g
only h w = ⊎_elim sym (λ e. absurd e) w

field_at : {rs : List Range} (d : ℕ) (p : Parent) (s : List ℕ) (n i : ℕ) (f : Form) → IsText p n f → Well (one ∷ rs) d p s n i → (j : ℕ) × FieldAt f rs d p s n i j
field_at {rs} d p s n i f t w = go (next_of (kept_from p s i)) refl
  where
    go : (x : Option Kept) → next_of (kept_from p s i) ≡ x → (j : ℕ) × FieldAt f rs d p s n i j
    go None e = absurd (found_some d p s n i w.filled e)
    go (Some k) e =
        let o = found d p s n i w.filled k e in
        let a = all_next p s i k e (stands_in d s) w.fields in
        let r = o.row in
        let h = t k.holds (rw r at (held_at p s i k e)) in
        (k.child.after, record { stands = rw o.text (text_stands d s k f h a.0); on = record { filled = o.on; fields = a.1 }; later = o.later; texts = o.texts })

-- the rows of what a named child holds
well_inside : (rs : List Range) (d : ℕ) (s : List ℕ) (k : Kept) (p : Parent) → k.holds ≡ Rows p → Shaped rs (suc d) s k → stands_in (suc d) s k ≡ true
    → Well rs d (rows_for p s (k.child.gt + 1)) s 0 (white_at s (k.child.gt + 1))
unfolding fields_at
well_inside rs d s k p h w e =
    let i = white_at s (k.child.gt + 1) in
    let q = rows_for p s (k.child.gt + 1) in
    record { filled = (shaped_inside rs d s k p h w).filled; fields = each_stands d s (kept_from q s i) (nowhere (first_bad (fields_by (λ q a. fields_at d q s a) s (kept_from q s i))) (rw h at e)) }

-- of all but an order
well_other : (rs : List Range) (d : ℕ) (s : List ℕ) (k : Kept) (p : Parent) → (length rs ≡ 5 → ⊥) → k.holds ≡ Rows p → Shaped rs (suc d) s k → stands_in (suc d) s k ≡ true → Well rs d p s 0 (white_at s (k.child.gt + 1))
well_other rs d s k p f h w e =
    let r : ranges (table p) ≡ rs = rw h at w.rows in
    subst (λ (q : Parent). Well rs d q s 0 (white_at s (k.child.gt + 1))) (rows_other p s (k.child.gt + 1) (λ z. f (ap length (sym r) ∙ z))) (well_inside rs d s k p h w e)

-- LINES
abbrev LineOk : Line → Type 0
LineOk l = l.amount ≤ max_cents

cents_ok : (t : List ℕ) → is_number (importo t) ≡ Stands → value_of (importo t) ≤ max_cents
cents_ok t e = omega (arith, importo_range t (number_there (importo t) e))

-- the parents that are lines: what their rows hold
record LineTable (q : Parent) : Type 0 where
  first : IsText q 0 Progressivo
  second : IsText q 1 Importo

line_ok : (r : Bool) (s : List ℕ) (k : Kept) (q : Parent) → LineTable q → k.holds ≡ Rows q → Shaped (line_rows r) 2 s k → stands_in 2 s k ≡ true → LineOk (line_of s k)
unfolding line_of field_stands
line_ok r s k q t h w e =
    let i = white_at s (k.child.gt + 1) in
    let a = field_at 1 q s 0 i Progressivo t.first (well_other (line_rows r) 1 s k q (line_other r) h w e) in
    let b = field_at 1 q s 1 a.0 Importo t.second a.1.on in
    rw ((shaped_other (line_rows r) 1 s k q (line_other r) h w).named, a.1.texts 1 (omega arith)) (cents_ok (text_in 1 s (kept_from q s a.0)) b.1.stands)

-- the parents that are orders: what their rows hold, the last of them lines of the parent q
record OrderTable (p q : Parent) : Type 0 where
  rows : ranges (table p) ≡ order_rows
  first : IsText p 0 TipoOperazione
  second : IsText p 1 Numero
  third : IsText p 2 Data
  fourth : IsText p 3 Importo
  lines : (h : Holds) → HeldIn (table p) 4 h → h ≡ Rows q
  line : LineTable q
  replacing : Bool
  same : ranges (table q) ≡ line_rows replacing

mandato : (r : Bool) → OrderTable (Mandato r) (InformazioniBeneficiario r)
mandato r = record { rows = refl; first = only; second = only; third = only; fourth = only; lines = only; line = record { first = only; second = only }; replacing = r; same = refl }

reversale : (r : Bool) → OrderTable (Reversale r) (InformazioniVersante r)
reversale r = record { rows = refl; first = only; second = only; third = only; fourth = only; lines = only; line = record { first = only; second = only }; replacing = r; same = versante_rows r }

-- each line of an order, wherever it is asked for
lines_ok : (n : ℕ) (p q : Parent) (s : List ℕ) (i : ℕ) → length s - i < n → OrderTable p q
    → all_kept (of_row 4) (kept_from p s i) ≡ true → all_kept (kept_holds (λ r a. fits_at 2 r s a) s) (kept_from p s i) ≡ true → all_kept (stands_in 2 s) (kept_from p s i) ≡ true
    → (j : ℕ) → LineOk (get_or (lines_of s (kept_from p s i)) j no_line)
unfolding lines_of
lines_ok zero p q s i h t r f e j = absurd (omega arith)
lines_ok (suc n) p q s i h t r f e j = go (next_of (kept_from p s i)) refl (lines_ok n p q s)
  where
    pick : (k : Kept) (ks : List Kept) (j : ℕ) → LineOk (line_of s k) → ((m : ℕ) → LineOk (get_or (lines_of s ks) m no_line)) → LineOk (get_or (line_of s k ∷ lines_of s ks) j no_line)
    pick k ks zero a b = a
    pick k ks (suc j) a b = b j

    go : (x : Option Kept) → next_of (kept_from p s i) ≡ x
        → ((u : ℕ) → length s - u < n → OrderTable p q → all_kept (of_row 4) (kept_from p s u) ≡ true → all_kept (kept_holds (λ r a. fits_at 2 r s a) s) (kept_from p s u) ≡ true → all_kept (stands_in 2 s) (kept_from p s u) ≡ true → (m : ℕ) → LineOk (get_or (lines_of s (kept_from p s u)) m no_line))
        → LineOk (get_or (lines_of s (kept_from p s i)) j no_line)
    go None x ih = rw (next_done p s i x) (omega arith)
    go (Some k) x ih =
        let l = (next_at p s i k x).lies in
        let a = all_next p s i k x (of_row 4) r in
        let b = all_next p s i k x (kept_holds (λ r a. fits_at 2 r s a) s) f in
        let c = all_next p s i k x (stands_in 2 s) e in
        let z : k.row ≡ 4 = eqb-true k.row 4 a.0 in
        let y : k.holds ≡ Rows q = t.lines k.holds (rw z at (held_at p s i k x)) in
        let w : Shaped (line_rows t.replacing) 2 s k = record { within = omega arith; rows = rw y t.same; holds = b.0 } in
        rw (next_at p s i k x).rest (pick k (kept_from p s k.child.after) j (line_ok t.replacing s k q t.line y w c.0) (ih k.child.after (omega arith) t a.1 b.1 c.1))

-- of the eight places those of the lines
lines_there : (ls : List Line) (n : ℕ) → length ls ≡ n → n ≤ 8 → take n (eight ls) ≡ ls
unfolding eight
lines_there ls n e h = take-take n 8 (ls ++ replicate 8 no_line) h ∙ take_at ls (replicate 8 no_line) n e

-- AN ORDER, its four fields read one after the other
module _ (s : List ℕ) (p q : Parent) (t : OrderTable p q) (i j1 j2 j3 j4 : ℕ) where
  order_by_lem : FieldAt TipoOperazione (drop 1 order_rows) 2 p s 0 i j1 → FieldAt Numero (drop 2 order_rows) 2 p s 1 j1 j2
      → FieldAt Data (drop 3 order_rows) 2 p s 2 j2 j3 → FieldAt Importo (drop 4 order_rows) 2 p s 3 j3 j4
      → (kind : ℕ) → (1 ≤ kind) × (kind ≤ 2) → OrderOk (ordinativo (order_by kind s (kept_from p s i)))
  unfolding lines_in field_stands
  order_by_lem a b c d kind v =
      let ks = kept_from p s i in
      let js = kept_from p s j4 in
      let f = d.on in
      let o = order_last (record { least = 1; most = 8 }) 4 js f.filled.rows in
      let z : in_row 4 ks ≡ js = a.later 4 (omega arith) ∙ b.later 4 (omega arith) ∙ c.later 4 (omega arith) ∙ d.later 4 (omega arith) ∙ those_all (of_row 4) js o.rows in
      let w : take (length (in_row 4 ks)) (eight (lines_of s (in_row 4 ks))) ≡ lines_of s js = lines_there (lines_of s (in_row 4 ks)) (length (in_row 4 ks)) (lines_length s (in_row 4 ks)) (rw z o.most) ∙ ap (lines_of s) z in
      let m = lines_length s js in
      let l : (j : ℕ) → LineOk (get_or (lines_of s js) j no_line) = lines_ok (suc (length s - j4)) p q s j4 (omega arith) t o.rows f.filled.each f.fields in
      record {
        kind = v;
        number = rw (a.texts 1 (omega arith)) (numero_range (text_in 1 s (kept_from p s j1)) (number_there (numero (text_in 1 s (kept_from p s j1))) b.stands));
        date = rw (a.texts 2 (omega arith), b.texts 2 (omega arith)) (data_real (text_in 2 s (kept_from p s j2)) (day_there (data_of (text_in 2 s (kept_from p s j2))) c.stands));
        total = rw (a.texts 3 (omega arith), b.texts 3 (omega arith), c.texts 3 (omega arith)) (cents_ok (text_in 3 s (kept_from p s j3)) d.stands);
        count = rw (w, m) (o.least, o.most);
        amounts = λ j. rw w (l j);
      }

order_ok : (s : List ℕ) (k : Kept) (o p q : Parent) → OrderTable p q → k.holds ≡ Rows o → rows_for o s (k.child.gt + 1) ≡ p → (1 ≤ kind_of (Rows o)) × (kind_of (Rows o) ≤ 2)
    → Shaped order_rows 3 s k → stands_in 3 s k ≡ true → OrderOk (ordinativo (order_of s k))
unfolding order_of
order_ok s k o p q t h z v w e =
    let i = white_at s (k.child.gt + 1) in
    let u = subst (λ (x : Parent). Well order_rows 2 x s 0 i) z (well_inside order_rows 2 s k o h w e) in
    let a = field_at 2 p s 0 i TipoOperazione t.first u in
    let b = field_at 2 p s 1 a.0 Numero t.second a.1.on in
    let c = field_at 2 p s 2 b.0 Data t.third b.1.on in
    let d = field_at 2 p s 3 c.0 Importo t.fourth c.1.on in
    rw ((shaped_inside order_rows 2 s k o h w).named, h, z) (order_by_lem s p q t i a.0 b.0 c.0 d.0 a.1 b.1 c.1 d.1 (kind_of (Rows o)) v)

-- ORDERS, as the walk goes
pub record Sound (p : Parent) (s : List ℕ) (i : ℕ) : Type 0 where
  pub standing : Standing p s i
  pub fields : all_kept (stands_in 3 s) (kept_from p s i) ≡ true

pub sound : (p : Parent) (s : List ℕ) (at : ℕ) → Stood p s at → Sound p s (white_at s at)
unfolding fields_at
sound p s at h = record { standing = standing p s at h.fits; fields = each_stands 3 s (kept_from p s (white_at s at)) h.fields }

pub sound_next : (p : Parent) (s : List ℕ) (i : ℕ) (k : Kept) → Sound p s i → next_of (those is_order (kept_from p s i)) ≡ Some k → OrderOk (ordinativo (order_of s k)) × Sound p s k.child.after
sound_next p s i k h e =
    let a = order_at p s i k h.standing e in
    let r = those_at is_order p s i k e in
    let b = r.every (stands_in 3 s) h.fields in (
      ⊎_elim
          (λ m. order_ok s k (Mandato m.0) _ _ (mandato _) (sym m.1) (mandato_rows m.0 s (k.child.gt + 1)) (omega arith) a.shaped b.0)
          (λ m. order_ok s k (Reversale m.0) _ _ (reversale _) (sym m.1) (reversale_rows m.0 s (k.child.gt + 1)) (omega arith) a.shaped b.0)
          (order_held k.holds r.is),
      record { standing = a.on; fields = b.1 },
    )

-- all of them
abbrev pub Each : (Ordinativo → Type 0) → List Ordinativo → Type 0
Each f [] = Unit
Each f (o ∷ os) = f o × Each f os

each_ok : (n : ℕ) (p : Parent) (s : List ℕ) (i : ℕ) → length s - i < n → Sound p s i → Each OrderOk (map ordinativo (orders_in s (kept_from p s i)))
each_ok zero p s i h w = absurd (omega arith)
each_ok (suc n) p s i h w = go (next_of (those is_order (kept_from p s i))) refl (each_ok n p s)
  where
    go : (x : Option Kept) → next_of (those is_order (kept_from p s i)) ≡ x → ((j : ℕ) → length s - j < n → Sound p s j → Each OrderOk (map ordinativo (orders_in s (kept_from p s j)))) → Each OrderOk (map ordinativo (orders_in s (kept_from p s i)))
    go None e ih = rw (orders_end p s i e) tt
    go (Some k) e ih =
        let a = order_at p s i k w.standing e in
        let l = a.lies in
        let b = sound_next p s i k w e in
        rw a.rest (b.0, ih k.child.after (omega arith) b.1)

pub orders_ok : (e : Edition) (s : List ℕ) (at : ℕ) → Stood (root_of e) s at → Each OrderOk (flow_orders e s at)
orders_ok e s at h = each_ok (suc (length s - white_at s at)) (root_of e) s (white_at s at) (omega arith) (sound (root_of e) s at h)

orders_length : (s : List ℕ) (ks : List Kept) → length (orders_of s ks) ≡ length ks
unfolding orders_of
orders_length s [] = refl
orders_length s (k ∷ ks) = ap suc (orders_length s ks)

-- THE ORDERS ARE ONE ROW of the root's table, the last
abbrev pub orders_row : Edition → ℕ
orders_row Oil = 5
orders_row Opi = 2

row_held : (e : Edition) (n : ℕ) (h : Holds) → HeldIn (table (root_of e)) n h → holds_order h ≡ eqb n (orders_row e)
row_held Oil zero h w = rw (only h w)
row_held Oil (suc zero) h w = rw (only h w)
row_held Oil (suc (suc zero)) h w = rw (only h w)
row_held Oil (suc (suc (suc zero))) h w = rw (only h w)
row_held Oil (suc (suc (suc (suc zero)))) h w = rw (only h w)
row_held Oil (suc (suc (suc (suc (suc zero))))) h w = ⊎_elim (λ e. rw (← e)) (⊎_elim (λ e. rw (← e)) (λ e. absurd e)) w
row_held Oil (suc (suc (suc (suc (suc (suc n)))))) h w = absurd w
row_held Opi zero h w = rw (only h w)
row_held Opi (suc zero) h w = rw (only h w)
row_held Opi (suc (suc zero)) h w = ⊎_elim (λ e. rw (← e)) (⊎_elim (λ e. rw (← e)) (λ e. absurd e)) w
row_held Opi (suc (suc (suc n))) h w = absurd w

module _ (e : Edition) (s : List ℕ) where
  abbrev root : Parent
  root = root_of e

  abbrev last : ℕ
  last = orders_row e

  abbrev kids : ℕ → List Kept
  kids i = kept_from root s i

  row_by : (n i : ℕ) → length s - i < n → those is_order (kids i) ≡ in_row last (kids i)
  row_by zero i h = absurd (omega arith)
  row_by (suc n) i h = go (next_of (kids i)) refl (row_by n)
    where
      go : (x : Option Kept) → next_of (kids i) ≡ x → ((j : ℕ) → length s - j < n → those is_order (kids j) ≡ in_row last (kids j)) → those is_order (kids i) ≡ in_row last (kids i)
      go None z ih = those_done is_order root s i z ∙ sym (those_done (of_row last) root s i z)
      go (Some k) z ih = at (of_row last k) refl
        where
          l : Lies s i k.child
          l = (next_at root s i k z).lies

          same : is_order k ≡ of_row last k
          same = row_held e k.row k.holds (held_at root s i k z)

          rest : those is_order (kids k.child.after) ≡ in_row last (kids k.child.after)
          rest = ih k.child.after (omega (arith, l))

          at : (b : Bool) → of_row last k ≡ b → those is_order (kids i) ≡ in_row last (kids i)
          at true g = those_one is_order root s i k z (same ∙ g) ∙ ap (λ t. k ∷ t) rest ∙ sym (those_one (of_row last) root s i k z g)
          at false g = those_other is_order root s i k z (same ∙ g) ∙ rest ∙ sym (those_other (of_row last) root s i k z g)

  pub orders_row_lem : (i : ℕ) → those is_order (kids i) ≡ in_row last (kids i)
  orders_row_lem i = row_by (suc (length s - i)) i (omega arith)

  -- how many there are, where those of that row begin at j
  number_by : (i j : ℕ) → in_row last (kids i) ≡ in_row last (kids j) → Filled (record { least = 1; most = 64 } ∷ []) 3 root s last j
      → (1 ≤ length (map ordinativo (orders_in s (kids i)))) × (length (map ordinativo (orders_in s (kids i))) ≤ 64)
  number_by i j l f =
      let o = order_last (record { least = 1; most = 64 }) last (kids j) f.rows in
      let z : in_row last (kids i) ≡ kids j = l ∙ those_all (of_row last) (kids j) o.rows in
      let m : length (map ordinativo (orders_in s (kids i))) ≡ length (kids j) = length-map (orders_in s (kids i)) ordinativo ∙ orders_length s (those is_order (kids i)) ∙ ap length (orders_row_lem i ∙ z) in
      (omega (arith, o.least), omega (arith, o.most))

  well : (at : ℕ) → Stood root s at → Well (root_rows e) 3 root s 0 (white_at s at)
  well at h =
      let f = fits_parts 3 root s at h.fits in
      record { filled = record { within = run_within is_white s at h.within; rows = f.0; each = f.1 }; fields = (sound root s at h).fields }

-- THE FOUR FIELDS that stand first in both editions, and what comes after them
record FourAt (rs : List Range) (d : ℕ) (p : Parent) (s : List ℕ) (i j : ℕ) : Type 0 where
  abi : codice_abi (text_in 0 s (kept_from p s i)) ≡ true
  ente : codice_ente (text_in 3 s (kept_from p s i)) ≡ true
  on : Well rs d p s 4 j
  later : (m : ℕ) → 3 < m → in_row m (kept_from p s i) ≡ in_row m (kept_from p s j)
  texts : (m : ℕ) → 3 < m → text_in m s (kept_from p s i) ≡ text_in m s (kept_from p s j)

four_at : {rs : List Range} (d : ℕ) (p : Parent) (s : List ℕ) (i : ℕ) (f : Form) → IsText p 0 CodiceAbi → IsText p 1 Identificativo → IsText p 2 f → IsText p 3 CodiceEnte
    → Well (four_then rs) d p s 0 i → (j : ℕ) × FourAt rs d p s i j
unfolding field_stands
four_at d p s i f ta tb tc td w =
    let a = field_at d p s 0 i CodiceAbi ta w in
    let b = field_at d p s 1 a.0 Identificativo tb a.1.on in
    let c = field_at d p s 2 b.0 f tc b.1.on in
    let e = field_at d p s 3 c.0 CodiceEnte td c.1.on in (
      e.0,
      record {
        abi = judged_true (codice_abi (text_in 0 s (kept_from p s i))) a.1.stands;
        ente = rw (a.1.texts 3 (omega arith), b.1.texts 3 (omega arith), c.1.texts 3 (omega arith)) (judged_true (codice_ente (text_in 3 s (kept_from p s c.0))) e.1.stands);
        on = e.1.on;
        later = λ m l. a.1.later m (omega arith) ∙ b.1.later m (omega arith) ∙ c.1.later m (omega arith) ∙ e.1.later m (omega arith);
        texts = λ m l. a.1.texts m (omega arith) ∙ b.1.texts m (omega arith) ∙ c.1.texts m (omega arith) ∙ e.1.texts m (omega arith);
      },
    )

-- testata_flusso, and what comes after it
record NestAt (s : List ℕ) (i : ℕ) (k : Kept) : Type 0 where
  own : testata_of Opi s (kept_from FlussoOpi s i) ≡ kept_from TestataFlusso s (white_at s (k.child.gt + 1))
  inner : Well (ranges (table TestataFlusso)) 2 TestataFlusso s 0 (white_at s (k.child.gt + 1))
  on : Well (drop 1 (root_rows Opi)) 3 FlussoOpi s 1 k.child.after
  later : (m : ℕ) → 0 < m → in_row m (kept_from FlussoOpi s i) ≡ in_row m (kept_from FlussoOpi s k.child.after)
  texts : (m : ℕ) → 0 < m → text_in m s (kept_from FlussoOpi s i) ≡ text_in m s (kept_from FlussoOpi s k.child.after)

nest_at : (s : List ℕ) (i : ℕ) → Well (root_rows Opi) 3 FlussoOpi s 0 i → (k : Kept) × NestAt s i k
nest_at s i w = go (next_of (kept_from FlussoOpi s i)) refl
  where
    go : (x : Option Kept) → next_of (kept_from FlussoOpi s i) ≡ x → (k : Kept) × NestAt s i k
    go None e = absurd (found_some 3 FlussoOpi s 0 i w.filled e)
    go (Some k) e =
        let o = found 3 FlussoOpi s 0 i w.filled k e in
        let n = nested s i k w.filled e in
        let a = all_next FlussoOpi s i k e (stands_in 3 s) w.fields in (
          k,
          record {
            own = n.own;
            inner = well_other (ranges (table TestataFlusso)) 2 s k TestataFlusso (λ x. omega arith) n.holds n.shaped a.0;
            on = record { filled = o.on; fields = a.1 };
            later = o.later;
            texts = o.texts;
          },
        )

-- THE HEADER, and how many orders there are
year_ok : (t : List ℕ) → field_stands Esercizio t ≡ Stands → (2000 ≤ value_of (esercizio t)) × (value_of (esercizio t) ≤ 2099)
unfolding field_stands
year_ok t h = esercizio_range t (number_there (esercizio t) h)

pub header_ok : (e : Edition) (s : List ℕ) (at : ℕ) → Stood (root_of e) s at → HeaderOk (header_of e s at) × ((1 ≤ length (flow_orders e s at)) × (length (flow_orders e s at) ≤ 64))
header_ok Oil s at h =
    let i = white_at s at in
    let p = FlussoOrdinativi in
    let a = four_at 3 p s i DataOra only only only only (well Oil s at h) in
    let e = field_at 3 p s 4 a.0 Esercizio only a.1.on in (
      record { abi = a.1.abi; ente = a.1.ente; esercizio = rw (a.1.texts 4 (omega arith)) (year_ok (text_in 4 s (kept_from p s a.0)) e.1.stands) },
      number_by Oil s i e.0 (a.1.later 5 (omega arith) ∙ e.1.later 5 (omega arith)) e.1.on.filled,
    )
header_ok Opi s at h =
    let i = white_at s at in
    let p = FlussoOpi in
    let n = nest_at s i (well Opi s at h) in
    let z = n.1.own in
    let a = four_at 2 TestataFlusso s (white_at s (n.0.child.gt + 1)) DataOraZona only only only only n.1.inner in
    let j = n.0.child.after in
    let e = field_at 3 p s 1 j Esercizio only n.1.on in (
      record { abi = rw z a.1.abi; ente = rw z a.1.ente; esercizio = rw (n.1.texts 1 (omega arith)) (year_ok (text_in 1 s (kept_from p s j)) e.1.stands) },
      number_by Opi s i e.0 (n.1.later 2 (omega arith) ∙ e.1.later 2 (omega arith)) e.1.on.filled,
    )
