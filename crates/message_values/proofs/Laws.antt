-- Values written one after the other.
use Rattle.std.specs.Prelude.{Option, Some, None}
use mathlib.Core.Path.{◌≡◌, refl, sym, ap, ◌∙◌}
use mathlib.Core.List.{List, [], ◌∷◌, ◌++◌}
use mathlib.Core.Bool.{Bool, true, false, cond}
use Prim.Native.Nat.{ℕ, ◌+◌, ◌*◌, ◌-◌, ◌%◌, ◌≤◌, ◌<◌}
use native.Mathlib.Numerals.{add-one}
use native.Mathlib.Omega.{arith}
use lib.ListN.{length, get_or, drop, drop_of_length-le}
use lib.Seq.{drop-cons}
use borrow.Author.Tests.{eq-eqb, ne_eqb}
use Rattle.digits.proofs.Laws.{refusal_in}
use Rattle.tokens.specs.Tokens.{white_at}
use Rattle.calendar.specs.declared.Date.{Date}
use Rattle.codes.specs.Codes.{operation_number, esito_operazione}
use Rattle.digits.specs.Digits.{digits, within, esercizio, numero, importo, codice_errore, is_refusal}
use Rattle.dates.specs.Dates.{data_of}
use Rattle.words.specs.Numbers.{put, bytes2, bytes4, bytes8}
use Rattle.words.proofs.Laws.{length_put, put_nil, put_put}
use Rattle.schema.specs.declared.Parent.TheVariants.{MessaggiEsito, TestataMessaggio}
use Rattle.rows.specs.declared.Kept.{Kept}
use Rattle.rows.specs.Kept.{kept_from, next_of}
use Rattle.orders.specs.Orders.{in_row, value_of, date_of, inside_of}
use Rattle.parts.specs.declared.Span.{Span}
use Rattle.parts.specs.Parts.{no_span, span_in, spans_from, parts_in, text_by}
use Rattle.parts.proofs.Laws.{row_at, row_end, at_span, at_text}
use Rattle.message.specs.Read.{operation_in}
use Rattle.agreement.specs.declared.EntryKind.{EntryKind}
use Rattle.agreement.specs.Agreement.{entry_parent, errors_parent, entry_row, entries_of}
use Rattle.schema.specs.declared.Holds.TheVariants.{Rows}
use Rattle.message_values.specs.declared.Facts.{Facts}
use Rattle.message_values.specs.Values.{kind_number, span_bytes, spans_bytes, facts_bytes, error_code_at, facts_at, parts_bytes, entry_at, entries_at, head_at}

-- A CODE fits a byte
pub code_small : (t : List ℕ) → value_of (codice_errore t) ≤ 255
unfolding codice_errore
code_small t = go (digits 2 2 t)
  where
    by : (v : ℕ) (b : Bool) → is_refusal v ≡ b → value_of (cond b (Some v) None) ≤ 255
    by v true e = let r = (refusal_in v e).1 in omega arith
    by v false e = omega arith

    go : (n : Option ℕ) → value_of (within is_refusal n) ≤ 255
    go (Some v) = by v (is_refusal v) refl
    go None = omega arith

module _ (k : EntryKind) (s : List ℕ) (list : Span) where
  pub code_none : list.to ≡ 0 → 0 ≡ error_code_at k s list
  code_none e = rw (eq-eqb list.to 0 e)

  pub code_is : (list.to ≡ 0 → ⊥) → (each : List Span) → each ≡ parts_in (kept_from (errors_parent k) s (white_at s list.from)) → {n : ℕ} → n ≡ value_of (codice_errore (text_by s each 1)) → n ≡ error_code_at k s list
  code_is h each e z = rw (ne_eqb list.to 0 h) (z ∙ ap (λ t. value_of (codice_errore t)) (at_text each _ e 1 (omega arith) s))

-- FACTS
pub facts_made : (k : EntryKind) (s : List ℕ) (each : List Span) {a b c d n t : ℕ} {x : Date} → a ≡ kind_number k → b ≡ operation_number (operation_in (esito_operazione (text_by s each 6))) → c ≡ error_code_at k s (get_or each 8 no_span)
    → d ≡ value_of (esercizio (text_by s each 1)) → n ≡ value_of (numero (text_by s each 2)) → x ≡ date_of (data_of (text_by s each 4)) → t ≡ value_of (importo (text_by s each 5))
    → ◌≡◌ {A = Facts} (record { kind = a; operation = b; code = c; esercizio = d; number = n; date = x; total = t }) (facts_at k s each)
facts_made k s each a b c d n x t = λ i. record { kind = a i; operation = b i; code = c i; esercizio = d i; number = n i; date = x i; total = t i }

-- ONE TEXT
module _ (s : List ℕ) (at : ℕ) where
  pub span_put : (w : Span) {u v : List ℕ} {a b : ℕ} → at + 8 ≤ length s → a ≡ w.from → b ≡ w.to - w.from → u ≡ put s at (bytes4 a) → v ≡ put u (at + 4) (bytes4 b) → v ≡ put s at (span_bytes w)
  span_put w {u} {v} {a} {b} h ea eb eu ev = ev ∙ rw (eu, ea, eb) (put_put s at (bytes4 w.from) (bytes4 (w.to - w.from)) (at + 4) (omega arith) refl)

-- WHAT AN ENTRY SAYS, put down a part after the other
put_after : (s : List ℕ) (at : ℕ) (v w : List ℕ) {u x : List ℕ} → at ≤ length s → u ≡ put s at v → x ≡ put u (at + length v) w → x ≡ put s at (v ++ w)
put_after s at v w h e g = g ∙ ap (λ (y : List ℕ). put y (at + length v) w) e ∙ put_put s at v w (at + length v) h refl

pub facts_put : (s : List ℕ) (at : ℕ) (f : Facts) {u₁ u₂ u₃ u₄ u₅ u₆ u₇ : List ℕ} → at + 24 ≤ length s → u₁ ≡ put s at (f.kind ∷ f.operation ∷ f.code ∷ 0 ∷ []) → u₂ ≡ put u₁ (at + 4) (bytes2 f.esercizio)
    → u₃ ≡ put u₂ (at + 6) (bytes2 0) → u₄ ≡ put u₃ (at + 8) (bytes4 f.number) → u₅ ≡ put u₄ (at + 12) (bytes2 f.date.year) → u₆ ≡ put u₅ (at + 14) (f.date.month % 256 ∷ f.date.day % 256 ∷ [])
    → u₇ ≡ put u₆ (at + 16) (bytes8 f.total) → u₇ ≡ put s at (facts_bytes f)
facts_put s at f h e₁ e₂ e₃ e₄ e₅ e₆ e₇ =
    let v₁ = f.kind ∷ f.operation ∷ f.code ∷ 0 ∷ [] in
    let v₂ = v₁ ++ bytes2 f.esercizio in
    let v₃ = v₂ ++ bytes2 0 in
    let v₄ = v₃ ++ bytes4 f.number in
    let v₅ = v₄ ++ bytes2 f.date.year in
    let v₆ = v₅ ++ (f.date.month % 256 ∷ f.date.day % 256 ∷ []) in
    let l : at ≤ length s = omega arith in
    let a₂ = put_after s at v₁ (bytes2 f.esercizio) l e₁ e₂ in
    let a₃ = put_after s at v₂ (bytes2 0) l a₂ e₃ in
    let a₄ = put_after s at v₃ (bytes4 f.number) l a₃ e₄ in
    let a₅ = put_after s at v₄ (bytes2 f.date.year) l a₄ e₅ in
    let a₆ = put_after s at v₅ (f.date.month % 256 ∷ f.date.day % 256 ∷ []) l a₅ e₆ in
    put_after s at v₆ (bytes8 f.total) l a₆ e₇

-- AN ENTRY, of its facts and two texts
module _ (s : List ℕ) (at : ℕ) (f : Facts) (flow time : Span) where
  pub parts_put : {u v w x : List ℕ} → at + 48 ≤ length s → u ≡ put s at (facts_bytes f) → v ≡ put u (at + 24) (span_bytes flow) → w ≡ put v (at + 32) (span_bytes time) → x ≡ put w (at + 40) (bytes8 0) → x ≡ put s at (parts_bytes f flow time)
  parts_put {u} {v} {w} {x} h eu ev ew ex =
      let l₁ = length_put s at (facts_bytes f) (omega arith) in
      let l₂ : length u ≡ length s = ap length eu ∙ l₁ in
      let l₃ : length v ≡ length s = ap length ev ∙ length_put u (at + 24) (span_bytes flow) (omega arith) ∙ l₂ in
      let a : put w (at + 40) (bytes8 0) ≡ put v (at + 32) (span_bytes time ++ bytes8 0) = rw ew (put_put v (at + 32) (span_bytes time) (bytes8 0) (at + 40) (omega arith) (omega arith)) in
      let b : put v (at + 32) (span_bytes time ++ bytes8 0) ≡ put u (at + 24) (span_bytes flow ++ (span_bytes time ++ bytes8 0)) = rw ev (put_put u (at + 24) (span_bytes flow) (span_bytes time ++ bytes8 0) (at + 32) (omega arith) (omega arith)) in
      let c : put u (at + 24) (span_bytes flow ++ (span_bytes time ++ bytes8 0)) ≡ put s at (parts_bytes f flow time) = rw eu (put_put s at (facts_bytes f) (span_bytes flow ++ (span_bytes time ++ bytes8 0)) (at + 24) (omega arith) refl) in
      ex ∙ a ∙ b ∙ c

-- NINE TEXTS: so many are written, the rest is to come
pub record Texts (before : List ℕ) (each : List Span) (values : List ℕ) (i : ℕ) : Type 0 where
  pub most : i ≤ 9
  pub size : length values ≡ length before
  pub rest : put values (8 * i) (spans_bytes (drop i each)) ≡ put before 0 (spans_bytes each)

module _ (before : List ℕ) (each : List Span) (l : length each ≡ 9) where
  pub texts_start : Texts before each before 0
  texts_start = record { most = omega arith; size = refl; rest = refl }

  module _ (values : List ℕ) (i : ℕ) (t : Texts before each values i) where
    pub texts_step : {u : List ℕ} → i < 9 → 72 ≤ length before → u ≡ put values (8 * i) (span_bytes (get_or each i no_span)) → Texts before each u (i + 1)
    unfolding spans_bytes
    texts_step {u} h k e =
        let z = t.size in
        let w = span_bytes (get_or each i no_span) in
        let d : drop i each ≡ get_or each i no_span ∷ drop (i + 1) each = rw (add-one i) (drop-cons each i no_span (omega arith)) in
        let r : put values (8 * i) (w ++ spans_bytes (drop (i + 1) each)) ≡ put before 0 (spans_bytes each) = rw d at t.rest in
        let p = put_put values (8 * i) w (spans_bytes (drop (i + 1) each)) (8 * (i + 1)) (omega arith) (omega arith) in
        record { most = omega arith; size = ap length e ∙ length_put values (8 * i) w (omega arith) ∙ z; rest = rw e (p ∙ r) }

    pub texts_end : 9 ≤ i → values ≡ put before 0 (spans_bytes each)
    unfolding spans_bytes
    texts_end h = let d : drop i each ≡ [] = drop_of_length-le each {i = i} (omega arith) in sym (put_nil values (8 * i)) ∙ rw d at t.rest

-- ENTRIES
pub entry_length : (k : EntryKind) (s : List ℕ) (es : List Kept) → length (entry_at k s es) ≡ 48
unfolding entry_at
entry_length k s es = refl

pub record Entries (k : EntryKind) (s before : List ℕ) (from at : ℕ) (values : List ℕ) (to i : ℕ) : Type 0 where
  pub within : i ≤ length s
  pub size : length values ≡ length before
  pub place : to + 48 * length (entries_of k s i) ≡ at + 48 * length (entries_of k s from)
  pub rest : put values to (entries_at k s (entries_of k s i)) ≡ put before at (entries_at k s (entries_of k s from))

module _ (k : EntryKind) (s before : List ℕ) (from at : ℕ) (h : at + 48 * length (entries_of k s from) ≤ length before) where
  pub entries_start : from ≤ length s → Entries k s before from at before at from
  entries_start w = record { within = w; size = refl; place = refl; rest = refl }

  module _ (values : List ℕ) (to i n : ℕ) (t : Entries k s before from at values to i) (r : n ≡ entry_row k) where
    pub entries_end : next_of (in_row n (kept_from MessaggiEsito s i)) ≡ None → (to ≡ at + 48 * length (entries_of k s from)) × (values ≡ put before at (entries_at k s (entries_of k s from)))
    unfolding entries_at
    entries_end e =
        let z : entries_of k s i ≡ [] = row_end _ (rw r at e) in
        let p : to + 48 * 0 ≡ at + 48 * length (entries_of k s from) = rw z at t.place in
        (omega arith, sym (put_nil values to) ∙ rw z at t.rest)

    module _ (x : Kept) (e : next_of (in_row n (kept_from MessaggiEsito s i)) ≡ Some x) where
      rest_is : entries_of k s i ≡ x ∷ entries_of k s x.child.after
      rest_is = (row_at (entry_row k) MessaggiEsito s i x (rw r at e)).rest

      pub entries_room : to + 48 ≤ length values
      entries_room = let z = ap (λ (l : List Kept). length l) rest_is in let p = t.place in let q = t.size in omega arith

      pub entries_step : {u : List ℕ} {j : ℕ} → j ≡ white_at s (x.child.gt + 1) → u ≡ put values to (entry_at k s (kept_from (entry_parent k) s j)) → Entries k s before from at u (to + 48) x.child.after
      unfolding entries_at
      entries_step {u} h g' =
          let g : u ≡ put values to (entry_at k s (inside_of s x (Rows (entry_parent k)))) = g' ∙ ap (λ (j : ℕ). put values to (entry_at k s (kept_from (entry_parent k) s j))) h in
          let z = rest_is in
          let l = ap (λ (l : List Kept). length l) z in
          let b = entry_at k s (inside_of s x (Rows (entry_parent k))) in
          let m = entry_length k s (inside_of s x (Rows (entry_parent k))) in
          let q = t.size in
          let p = t.place in
          let o = entries_room in
          let y : put values to (b ++ entries_at k s (entries_of k s x.child.after)) ≡ put before at (entries_at k s (entries_of k s from)) = rw z at t.rest in
          let w = put_put values to b (entries_at k s (entries_of k s x.child.after)) (to + 48) (omega arith) (omega arith) in
          record { within = (row_at n MessaggiEsito s i x e).lies.within; size = ap length g ∙ length_put values to b (omega arith) ∙ q; place = omega arith; rest = rw g (w ∙ y) }

-- THE HEADER
pub spans_length : (each : List Span) → length (spans_bytes each) ≡ 8 * length each
unfolding spans_bytes
spans_length [] = refl
spans_length (w ∷ each) = let i = spans_length each in omega arith

parts_length : (ks : List Kept) → length (parts_in ks) ≡ 9
unfolding spans_from
parts_length ks = refl

pub head_put : (s : List ℕ) (i : ℕ) (root each : List Span) (before : List ℕ) {u v : List ℕ} → 80 ≤ length before → root ≡ parts_in (kept_from MessaggiEsito s i) → each ≡ parts_in (kept_from TestataMessaggio s (white_at s (get_or root 0 no_span).from))
    → u ≡ put before 0 (spans_bytes each) → v ≡ put u 72 (span_bytes (get_or root 1 no_span)) → v ≡ put before 0 (head_at s (kept_from MessaggiEsito s i))
head_put s i root each before {u} {v} h er ee eu ev =
    let ks = kept_from MessaggiEsito s i in
    let es = parts_in (kept_from TestataMessaggio s (white_at s (span_in 0 ks).from)) in
    let a = at_span root ks er 0 (omega arith) in
    let b = at_span root ks er 1 (omega arith) in
    let x : each ≡ es = ee ∙ ap (λ (w : Span). parts_in (kept_from TestataMessaggio s (white_at s w.from))) a in
    let m = spans_length es in
    let n = parts_length (kept_from TestataMessaggio s (white_at s (span_in 0 ks).from)) in
    ev ∙ rw (eu, x, b) (put_put before 0 (spans_bytes es) (span_bytes (span_in 1 ks)) 72 (omega arith) (omega arith))
