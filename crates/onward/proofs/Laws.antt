-- Laws of content that is read as far as it stands: what a field, a child and an element that is passed over lead to, for every parent.
use Rattle.std.specs.Prelude.{Option, Result, Some, None, Ok, Err}
use mathlib.Core.Path.{◌≡◌, refl, sym, ap, ◌∙◌}
use mathlib.Core.Logic.{◌⊎◌, inl, inr, ⊎_elim}
use mathlib.Core.List.{List, [], ◌++◌}
use mathlib.Core.Bool.{Bool, true, false, not, ◌&&◌}
use Prim.Native.Nat.{ℕ, ◌+◌, ◌-◌, ◌≤◌, ◌<◌}
use native.Mathlib.Omega.{arith}
use lib.ListN.{length}
use lib.Dec.{eqb}
use borrow.Author.Tests.{eqb-true, eq-eqb}
use Rattle.scan.specs.Bytes.{bytes, byte_at, part, is_letter, is_white, has_at}
use Rattle.scan.proofs.Laws.{never, stands, run_within}
use Rattle.tokens.specs.Tokens.{name_at, text_at, end_tag_at, white_at}
use Rattle.tokens.proofs.Laws.{name_none, name_past, text_stop, text_past, end_some}
use Rattle.markup.specs.Markup.{element_at, content_at, content_by, children_by}
use Rattle.markup.specs.Noted.{Noted, note_in}
use Rattle.markup.proofs.Laws.{parts, element_ends, content_children, children_step, children_stop}
use Rattle.markup.proofs.Noted.{content_more, element_many, element_more, element_twelve, noted_more}
use Rattle.grammar.proofs.Parts.{not_so, part_join, part_1, part_length, has_split, has_byte}
use Rattle.grammar.proofs.Complete.{white_text, open_of}
use Rattle.children.specs.declared.Child.{Child}
use Rattle.children.specs.Child.{child_at}
use Rattle.children.proofs.Laws.{child_no_name, child_one, child_lies}
use Rattle.children.proofs.Whole.{holds_elements, children_text}
use Rattle.fields.specs.declared.Cause.{Cause}
use Rattle.fields.specs.declared.Form.{Form}
use Rattle.fields.specs.declared.Judged.TheVariants as judged
use Rattle.fields.specs.Causes.{cause_of}
use Rattle.fields.specs.Fields.{told, field_value, stands_by, field_stands}
use Rattle.schema.specs.declared.Parent.{Parent}
use Rattle.schema.specs.declared.Parent.TheVariants.{FlussoOrdinativi, Mandato, Reversale, InformazioniBeneficiario, InformazioniVersante, SostituzioneMandato, SostituzioneReversale, Beneficiario, Versante, MessaggiEsito, TestataMessaggio, EsitoReversali, EsitoMandati, ErroriReversali, ErroriMandati, FlussoOpi, TestataFlusso}
use Rattle.schema.specs.declared.Holds.{Holds}
use Rattle.schema.specs.declared.Holds.TheVariants.{Text, Rows}
use Rattle.schema.specs.Table.{table}
use Rattle.rows.specs.declared.Kept.{Kept}
use Rattle.rows.specs.Kept.{next_of}
use Rattle.rows.specs.Replaces.{rows_for}
use Rattle.rows.proofs.Laws.{kept_end, kept_passed, kept_at}
use Rattle.structure.specs.Structure.{ranges, text_only}
use Rattle.structure.specs.Walk.{filled_from, counted_of}
use Rattle.structure.proofs.Walk.{some_row}
use Rattle.standing.specs.Readings.{Nowhere, bad_or}
use Rattle.standing.specs.Standing.{standing_by_fields, standing_at, forget, field_breaking}
use Rattle.standing.specs.Walk.{Goes}
use Rattle.standing.proofs.Laws.{level, found, whole}
use Rattle.tags.specs.Tags.{Opens}
use Rattle.onward.specs.declared.Reached.{Reached}
use Rattle.onward.specs.Onward.{Reaches, Foreign, Passed, Tagged, Told, Inner, Ended, Taken}
use Rattle.fields.specs.declared.Value.{Value}

-- MORE LEVELS read no less
pub content_many : (d m : ℕ) (s : List ℕ) (p q : ℕ) → d ≤ m → content_at d s p ≡ Ok q → content_at m s p ≡ Ok q
unfolding content_at
content_many d m s p q h e = content_more (element_at d s) (element_at m s) s (element_many (m - d) d m s (omega arith)) p q e

-- A NAME is no end tag
module _ (s : List ℕ) where
  slash_no_name : (a : ℕ) → byte_at s a ≡ 47 → name_at s a ≡ Err a
  unfolding is_letter
  slash_no_name a z = name_none s a (rw z)

  no_slash : (a e : ℕ) → name_at s a ≡ Ok e → byte_at s a ≡ 47 → ⊥
  no_slash a e n z = never (sym (slash_no_name a z) ∙ n)

  not_closing : (i e : ℕ) → name_at s (i + 1) ≡ Ok e → has_at (bytes "</") s i ≡ false
  not_closing i e n = not_so (has_at (bytes "</") s i) (λ h. no_slash (i + 1) e n (open_of s i h).1)

  closing_end : (i : ℕ) → has_at (bytes "</") s i ≡ true → child_at s i ≡ None
  closing_end i h = let o = open_of s i h in child_no_name s i o.0 (i + 1) (slash_no_name (i + 1) o.1)

-- A TEXT up to an end tag: it is content that holds no element
module _ (s : List ℕ) (at p : ℕ) (t : text_at s at ≡ Ok p) (o : has_at (bytes "</") s p ≡ true) where
  no_elements : holds_elements s at ≡ false
  no_elements = go (eqb (byte_at s (white_at s at)) 60) refl
    where
      go : (b : Bool) → eqb (byte_at s (white_at s at)) 60 ≡ b → (b && not (eqb (byte_at s (white_at s at + 1)) 47)) ≡ false
      go true h =
          let a : ◌≡◌ {A = Result ℕ ℕ} (Ok (white_at s at)) (Ok p) = sym (text_stop s (white_at s at) (eqb-true _ _ h)) ∙ sym (white_text s (length s) at (omega arith)) ∙ t in
          let z : white_at s at ≡ p = cc in
          rw (z, eq-eqb _ _ (open_of s p o).1)
      go false h = refl

  pub text_content : (d : ℕ) → content_at d s at ≡ Ok p
  unfolding content_at content_by
  text_content d = rw no_elements t

  text_only_lem : text_only s at ≡ true
  unfolding text_only
  text_only_lem = rw (children_text s at no_elements)

-- a field whose text has its form
module _ {f : Form} {s : List ℕ} {at p : ℕ} (t : Told f s at p) where
  pub told_within : p ≤ length s
  told_within = omega (arith, (text_past s at p t.text).1)

  pub told_content : (depth : ℕ) → has_at (bytes "</") s p ≡ true → content_at depth s at ≡ Ok p
  told_content depth o = text_content s at p t.text o depth

field_stands_lem : (f : Form) (s : List ℕ) (i e p j : ℕ) → Told f s (e + 1) p → has_at (bytes "</") s p ≡ true → field_breaking s f (record { lt = i; gt = e; to = p; after = j }) ≡ None
unfolding field_breaking field_stands
field_stands_lem f s i e p j t o =
    let x = part s (e + 1) p in
    rw (text_only_lem s (e + 1) p t.text o) (go (cause_of f x) (field_value f x) t.stands)
  where
    go : (w : Cause) (v : Option Value) → stands_by v ≡ judged.Stands → forget (standing_by_fields (bad_or i Nowhere (told w v))) ≡ None
    go w (Some v) h = refl
    go w None h = let z : ◌≡◌ {A = ℕ} 0 1 = cc in absurd (omega arith)

pub field_taken : {d depth : ℕ} {f : Form} {s : List ℕ} {i e p j : ℕ} → Told f s (e + 1) p → Ended s (i + 1) e p j → Taken d depth s i e (Text f) j
field_taken {depth = depth} {f = f} {s = s} {i = i} {e = e} {p = p} {j = j} t n =
    record { to = p; holds = told_content t (depth - 1) n.closes; ended = n; stands = field_stands_lem f s i e p j t n.closes }

-- AN END TAG, compared with the start tag's own bytes
module _ {s : List ℕ} {a e : ℕ} (t : Tagged s a e) where
  pub tagged_on : a < e
  tagged_on = (name_past s a e t.name).on

  module _ (p : ℕ) (o : has_at (bytes "</") s p ≡ true) where
    pub end_same : has_at (part s a (e + 1)) s (p + 2) ≡ true → end_tag_at s a e p ≡ Ok (p + 2 + (e + 1 - a))
    end_same h =
        let l = tagged_on in
        let w = t.within in
        let x : part s a (e + 1) ≡ part s a e ++ bytes ">" = part_join s a e (e + 1) (omega arith) (omega arith) ∙ ap (λ (y : List ℕ). part s a e ++ y) (part_1 s e (e + 1) (omega arith) refl ∙ rw t.gt) in
        let y = part_length s a e (omega arith) in
        let k = has_split s (part s a e) (bytes ">") (p + 2) (p + 2 + (e - a)) (omega arith) (rw x at h) in
        let z : p + 2 + (e - a) + 1 ≡ p + 2 + (e + 1 - a) = omega arith in
        end_some s a e p o k.0 (has_byte s 62 [] (p + 2 + (e - a)) k.1) ∙ ap Ok z

    -- what is read so may be noted
    pub end_noted : (past : List ℕ) (q : ℕ) → Inner 11 s e p → end_tag_at s a e p ≡ Ok q → Noted s past → Noted s (note_in past a e q)
    end_noted past q c z n = noted_more s past 12 a e q n (omega arith) t.name (element_ends 12 s a (λ f. absurd (omega arith)) e t.name t.gt p (c o) ∙ z)

-- CONTENT that is read to an end tag, its rows filled
module _ {d depth : ℕ} {p : Parent} {s : List ℕ} {at : ℕ} {r : Reached} (g : Reaches d depth p s at r) (f : r.count ≡ 0 → ⊥) where
  reached_content : has_at (bytes "</") s r.at ≡ true → content_at depth s at ≡ Ok r.at
  reached_content o = g.read f ∙ children_stop depth s r.at o

  pub reached_eleven : depth ≤ 11 → has_at (bytes "</") s r.at ≡ true → content_at 11 s at ≡ Ok r.at
  reached_eleven h o = content_many depth 11 s at r.at h (reached_content o)

  reached_stands : has_at (bytes "</") s r.at ≡ true → filled_from (ranges (table p)) r.row r.count (length (ranges (table p))) ≡ true → forget (standing_at d p s at) ≡ None
  reached_stands o h = sym (whole _ d p s None r.at r.row r.count g.goes (ap next_of (kept_end p s r.at (closing_end s r.at o))) h)

pub rows_taken : {d depth : ℕ} {s : List ℕ} {i e j : ℕ} {q p : Parent} {r : Reached} → p ≡ rows_for q s (e + 1) → Reaches (d - 1) (depth - 1) p s (e + 1) r → (r.count ≡ 0 → ⊥)
    → filled_from (ranges (table p)) r.row r.count (length (ranges (table p))) ≡ true → Ended s (i + 1) e r.at j → Taken d depth s i e (Rows q) j
rows_taken {r = r} z g f h n = record { to = r.at; holds = reached_content g f n.closes; ended = n; stands = rw (← z) (reached_stands g f n.closes h) }

-- WHERE THE READING STANDS, at i, of the content at `at`: no element is read, or the markup of the rest is that of the children from i on
abbrev pub Begun : ℕ → List ℕ → ℕ → ℕ → ℕ → Type 0
Begun depth s at i n = ((i ≡ white_at s at) × (n ≡ 0)) ⊎ (content_at depth s at ≡ children_by (element_at depth s) s i)

pub record Stood (d depth : ℕ) (p : Parent) (s : List ℕ) (at i row n : ℕ) : Type 0 where
  pub goes : Goes (forget (standing_at d p s at)) d p s None i row n
  pub begun : Begun depth s at i n

pub stood_first : {d depth : ℕ} {p : Parent} {s : List ℕ} {at i : ℕ} → at ≤ length s → 1 ≤ d → i ≡ white_at s at → Stood d depth p s at i 0 0
stood_first {d} {depth} {p} {s} {at} h k z = record { goes = (rw z (run_within is_white s at h), omega arith, some_row p, rw z (level d p s at (λ x. omega arith))); begun = inl (z, refl) }

pub stood_reaches : {d depth : ℕ} {p : Parent} {s : List ℕ} {at i row n : ℕ} → Stood d depth p s at i row n → Reaches d depth p s at (record { at = i; row = row; count = n })
stood_reaches g = record { goes = g.goes; read = λ f. ⊎_elim (λ w. absurd (f w.1)) (λ w. w) g.begun }

-- past an element the rest is that of the children after it
module _ (depth : ℕ) (s : List ℕ) (at i n e q : ℕ) (l : byte_at s i ≡ 60) (m : name_at s (i + 1) ≡ Ok e) (h : element_at depth s (i + 1) ≡ Ok q) where
  begun_at : Begun depth s at i n → content_at depth s at ≡ children_by (element_at depth s) s i
  begun_at b = ⊎_elim first (λ w. w) b
    where
      first : (i ≡ white_at s at) × (n ≡ 0) → content_at depth s at ≡ children_by (element_at depth s) s i
      first w = let z = w.0 in content_children depth s at (rw (← z) l) (rw (← z) (no_slash s (i + 1) e m)) ∙ ap (children_by (element_at depth s) s) (sym z)

  begun_on : Begun depth s at i n → (j : ℕ) → j ≡ white_at s q → content_at depth s at ≡ children_by (element_at depth s) s j
  begun_on b j z = rw z (begun_at b ∙ children_step depth s i (not_closing s i e m) l q h)

-- an element whose name ends at e, as a child
element_child : (depth : ℕ) (s : List ℕ) (i e q : ℕ) → depth ≤ 12 → byte_at s i ≡ 60 → name_at s (i + 1) ≡ Ok e → element_at depth s (i + 1) ≡ Ok q
    → (p : ℕ) × (child_at s i ≡ Some (record { lt = i; gt = e; to = p; after = white_at s q }))
unfolding element_at content_at
element_child depth s i e q k l n h =
    let a = parts (content_at 12 s) s (i + 1) q (element_more 12 s (i + 1) q (element_twelve depth s (i + 1) q k h)) in
    let u = a.2.name in
    let v : a.0 ≡ e = cc in
    (a.1, rw v at (child_one s i l a.0 a.2.name (eqb-true _ _ a.2.opens) a.1 a.2.holds q a.2.end))

-- where it stands next
pub record Next (d depth : ℕ) (p : Parent) (s : List ℕ) (at i j row n : ℕ) : Type 0 where
  pub on : i < j
  pub stood : Stood d depth p s at j row n

-- an element that the table does not name
pub next_passed : {d depth : ℕ} {p : Parent} {s : List ℕ} {at i j row n : ℕ} → Stood d depth p s at i row n → depth ≤ 12 → Foreign p s i → Passed depth s i j → Next d depth p s at i j row n
next_passed {d} {depth} {p} {s} {at} {i} {j} {row} {n} g k f b =
    let c = element_child depth s i f.gt b.past k f.lt f.name b.element in
    let y = (child_lies s i _ c.1).1 in
    let o = g.goes in
    let z = b.next in
    let v : i < white_at s b.past = omega arith in
    let m = begun_on depth s at i n f.gt b.past f.lt f.name b.element g.begun j z in
    record { on = rw z v; stood = record { goes = (rw z y.within, omega arith, o.2, o.3 ∙ rw (z, kept_passed p s i _ c.1 f.spot)); begun = inr m } }

pub foreign_within : {p : Parent} {s : List ℕ} {i : ℕ} → Foreign p s i → i < length s
foreign_within {s = s} {i = i} f = stands 59 s i (eq-eqb _ _ f.lt)

-- a named child of a row that may follow
module _ {d depth : ℕ} {p : Parent} {s : List ℕ} {i e next j : ℕ} {h : Holds} (o : Opens p s i e next h) (b : Taken d depth s i e h j) (k : depth ≤ 12) (f : depth ≡ 0 → ⊥) where
  taken_element : element_at depth s (i + 1) ≡ Ok b.ended.past
  taken_element = element_ends depth s (i + 1) f e o.name o.gt b.to b.holds ∙ b.ended.end

  taken_child : child_at s i ≡ Some (record { lt = i; gt = e; to = b.to; after = j })
  taken_child = rw b.ended.next (child_one s i o.lt e o.name o.gt b.to (content_many (depth - 1) 12 s (e + 1) b.to (omega arith) b.holds) b.ended.past b.ended.end)

  pub next_taken : {at row n m : ℕ} → Stood d depth p s at i row n → filled_from (ranges (table p)) row n next ≡ true → m ≡ counted_of row n next → Next d depth p s at i j next m
  next_taken {at} {row} {n} {m} g w z =
      let c : Child = record { lt = i; gt = e; to = b.to; after = j } in
      let l = (child_lies s i c taken_child).1 in
      let x : Kept = record { child = c; row = next; holds = h } in
      let y = found (forget (standing_at d p s at)) d p s None i row n g.goes x (ap next_of (kept_at p s i c next h taken_child o.spot)) in
      let u = begun_on depth s at i n e b.ended.past o.lt o.name taken_element g.begun j b.ended.next in
      record { on = omega arith; stood = record { goes = y.on w m z h refl None (sym b.stands) None refl; begun = inr u } }

-- a table's rows are few
pub few_rows : (p : Parent) → length (ranges (table p)) ≤ 9
few_rows FlussoOrdinativi = omega arith
few_rows (Mandato r) = omega arith
few_rows (Reversale r) = omega arith
few_rows (InformazioniBeneficiario true) = omega arith
few_rows (InformazioniBeneficiario false) = omega arith
few_rows (InformazioniVersante true) = omega arith
few_rows (InformazioniVersante false) = omega arith
few_rows SostituzioneMandato = omega arith
few_rows SostituzioneReversale = omega arith
few_rows Beneficiario = omega arith
few_rows Versante = omega arith
few_rows MessaggiEsito = omega arith
few_rows TestataMessaggio = omega arith
few_rows EsitoReversali = omega arith
few_rows EsitoMandati = omega arith
few_rows ErroriReversali = omega arith
few_rows ErroriMandati = omega arith
few_rows FlussoOpi = omega arith
few_rows TestataFlusso = omega arith
