-- Every reading tells what specs/Told says.
use Rattle.std.specs.Prelude.{Option, Some, None, Err}
use mathlib.Core.Path.{◌≡◌, refl, sym, ap, subst, ◌∙◌}
use mathlib.Core.List.{List}
use mathlib.Core.Bool.{Bool, true, false, cond, not, ◌&&◌}
use Prim.Native.Nat.{ℕ, ◌≤◌, ◌<◌}
use native.Mathlib.Omega.{arith}
use lib.ListN.{length}
use lib.Dec.{ltb, eqb}
use borrow.Author.Tests.{ne_eqb, le-ltb, not-true, not-false}
use Rattle.scan.proofs.Laws.{both}
use Rattle.bounds.specs.Bounds.{is_year, is_numero}
use Rattle.calendar.specs.Calendar.{is_date}
use Rattle.codes.specs.declared.Esito.{Esito}
use Rattle.codes.specs.declared.Esito.TheVariants.{Accepted, Refused}
use Rattle.codes.specs.Codes.{codice_abi, identificativo, codice_ente, tipo_operazione, is_asked, testo, descrizione, elemento, esito_operazione, is_word}
use Rattle.codes.proofs.Laws.{abi_length, identificativo_length, ente_length, operation_length, word_length, length_in_lem}
use Rattle.digits.specs.Digits.{is_value, value_is, within, esercizio_written, esercizio, numero_written, numero, importo, progressivo, is_refusal, codice_errore_written, codice_errore}
use Rattle.digits.proofs.Laws.{digits_length, importo_length}
use Rattle.dates.specs.Dates.{data_written, real, is_on, day_is, data_of, data_ora}
use Rattle.dates.proofs.Laws.{data_10, ora_19, zona_both, ora_zona_long}
use Rattle.names.specs.Names.{anagrafica}
use Rattle.names.proofs.Laws.{anagrafica_length}
use Rattle.fields.specs.declared.Judged.TheVariants.{Breaks}
use Rattle.fields.specs.declared.Form.{Form}
use Rattle.fields.specs.declared.Form.TheVariants.{CodiceAbi, Identificativo, DataOra, CodiceEnte, Esercizio, TipoOperazione, Numero, Data, Importo, Progressivo, Anagrafica, DataOraZona, Testo, EsitoOperazione, CodiceErrore, Descrizione, Elemento}
use Rattle.fields.specs.declared.Cause.{Cause}
use Rattle.fields.specs.declared.Cause.TheVariants.{Empty, Long, Misformed, OutOfRange}
use Rattle.fields.specs.Causes.{cause_number, formed, in_range, applies, cause_of}
use Rattle.fields.specs.Fields.{told, field_value, reading_of, stands_by, judged, is_number, is_day, is_operation, is_esito, field_stands}
use Rattle.fields.specs.Told.{First, Told}
use Rattle.codes.specs.declared.Operation.{Operation}
use Rattle.calendar.specs.declared.Date.{Date}
use Rattle.fields.specs.declared.Value.{Value}

no : {A : Type 0} → ◌≡◌ {A = Bool} true false → A
no e = let z : ◌≡◌ {A = ℕ} 0 1 = cc in absurd (omega arith)

-- A FORM IS ITS SHAPE AND ITS RANGE, of each kind

text_whole : (b : Bool) → judged b ≡ judged (b && true)
text_whole true = refl
text_whole false = refl

number_whole : (n : Option ℕ) → is_number n ≡ judged (is_value n && true)
number_whole (Some v) = refl
number_whole None = refl

number_ranged : (f : ℕ → Bool) (n : Option ℕ) → is_number (within f n) ≡ judged (is_value n && value_is f n)
number_ranged f (Some v) = go (f v)
  where
    go : (b : Bool) → is_number (cond b (Some v) None) ≡ judged b
    go true = refl
    go false = refl
number_ranged f None = refl

day_ranged : (d : Option Date) → is_day (real d) ≡ judged (is_on d && day_is is_date d)
day_ranged (Some d) = go (is_date d)
  where
    go : (b : Bool) → is_day (cond b (Some d) None) ≡ judged b
    go true = refl
    go false = refl
day_ranged None = refl

operation_whole : (a : Option Operation) → is_operation a ≡ judged (is_asked a && true)
operation_whole (Some o) = refl
operation_whole None = refl

word_whole : (e : Option Esito) → is_esito e ≡ judged (is_word e && true)
word_whole (Some (Accepted o)) = refl
word_whole (Some (Refused o)) = refl
word_whole None = refl

stands_ranged : (f : Form) (t : List ℕ) → field_stands f t ≡ judged (formed f t && in_range f t)
unfolding field_stands formed in_range data_ora esercizio numero data_of codice_errore
stands_ranged CodiceAbi t = text_whole (codice_abi t)
stands_ranged Identificativo t = text_whole (identificativo t)
stands_ranged DataOra t = refl
stands_ranged CodiceEnte t = text_whole (codice_ente t)
stands_ranged Esercizio t = number_ranged is_year (esercizio_written t)
stands_ranged TipoOperazione t = operation_whole (tipo_operazione t)
stands_ranged Numero t = number_ranged is_numero (numero_written t)
stands_ranged Data t = day_ranged (data_written t)
stands_ranged Importo t = number_whole (importo t)
stands_ranged Progressivo t = number_whole (progressivo t)
stands_ranged Anagrafica t = text_whole (anagrafica t)
stands_ranged DataOraZona t = ap judged (zona_both t)
stands_ranged Testo t = text_whole (testo t)
stands_ranged EsitoOperazione t = word_whole (esito_operazione t)
stands_ranged CodiceErrore t = number_ranged is_refusal (codice_errore_written t)
stands_ranged Descrizione t = text_whole (descrizione t)
stands_ranged Elemento t = text_whole (elemento t)

-- of a text that breaks, the form g, which asks for no range, is not had
pub broken_whole : (g : Form) {f : Form} (t : List ℕ) → f ≡ g → in_range g t ≡ true → field_stands f t ≡ Breaks → false ≡ formed f t
broken_whole g {f} t e r b = go (formed f t) (in_range f t) (ap (λ x. in_range x t) e ∙ r) (sym (stands_ranged f t) ∙ b)
  where
    go : (a i : Bool) → i ≡ true → judged (a && i) ≡ Breaks → false ≡ a
    go false i r b = refl
    go true true r b = let z : ◌≡◌ {A = ℕ} 0 1 = cc in absurd (omega arith)
    go true false r b = no (sym r)

-- A TEXT OF THE RIGHT FORM is neither empty nor too long

in_bytes : (t : List ℕ) (lo n : ℕ) → 1 ≤ lo → (lo ≤ length t) × (length t ≤ n) → (eqb (length t) 0 ≡ false) × (ltb n (length t) ≡ false)
in_bytes t lo n l k = (ne_eqb (length t) 0 (λ e. omega arith), le-ltb n (length t) k.1)

exactly : (t : List ℕ) (n : ℕ) → 1 ≤ n → length t ≡ n → (eqb (length t) 0 ≡ false) × (ltb n (length t) ≡ false)
exactly t n l e = in_bytes t n n l (omega arith, omega arith)

pub formed_sized : (f : Form) (t : List ℕ) → formed f t ≡ true → (applies Empty f t ≡ false) × (applies Long f t ≡ false)
unfolding formed progressivo
formed_sized CodiceAbi t e = exactly t 5 (omega arith) (abi_length t e)
formed_sized Identificativo t e = in_bytes t 1 35 (omega arith) (identificativo_length t e)
formed_sized DataOra t e = exactly t 19 (omega arith) (ora_19 t e)
formed_sized CodiceEnte t e = in_bytes t 1 16 (omega arith) (ente_length t e)
formed_sized Esercizio t e = in_bytes t 4 4 (omega arith) (digits_length 4 4 t e)
formed_sized TipoOperazione t e = in_bytes t 1 12 (omega arith) (operation_length t e)
formed_sized Numero t e = in_bytes t 1 7 (omega arith) (digits_length 1 7 t e)
formed_sized Data t e = exactly t 10 (omega arith) (data_10 t e)
formed_sized Importo t e = in_bytes t 4 12 (omega arith) (importo_length t e)
formed_sized Progressivo t e = in_bytes t 1 3 (omega arith) (digits_length 1 3 t e)
formed_sized Anagrafica t e = let k = anagrafica_length t e in (ne_eqb (length t) 0 (λ z. omega arith), le-ltb 140 _ k.1)
formed_sized DataOraZona t e = in_bytes t 19 25 (omega arith) (ora_zona_long t e)
formed_sized Testo t e = in_bytes t 1 140 (omega arith) (length_in_lem 1 140 t e)
formed_sized EsitoOperazione t e = in_bytes t 1 14 (omega arith) (word_length t e)
formed_sized CodiceErrore t e = in_bytes t 2 2 (omega arith) (digits_length 2 2 t e)
formed_sized Descrizione t e = in_bytes t 1 2 (omega arith) (length_in_lem 1 2 t e)
formed_sized Elemento t e = in_bytes t 1 24 (omega arith) (length_in_lem 1 24 t e)

-- THE FOUR CONDITIONS

four : (e l b r : Bool) → (b ≡ true → (e ≡ false) × (l ≡ false)) → b && r ≡ not e && (not l && (b && r))
four false false b r h = refl
four false true true r h = no (h refl).1
four false true false r h = refl
four true l true r h = no (h refl).0
four true l false r h = refl

module _ (f : Form) (t : List ℕ) where
  exact : field_stands f t ≡ judged (not (applies Empty f t) && (not (applies Long f t) && (formed f t && in_range f t)))
  exact = stands_ranged f t ∙ ap judged (four (applies Empty f t) (applies Long f t) (formed f t) (in_range f t) (formed_sized f t))

  -- the cause and the verdict, by what the four conditions come to
  module _ {e l b r : Bool} (x : applies Empty f t ≡ e) (y : applies Long f t ≡ l) (z : formed f t ≡ b) (u : in_range f t ≡ r) where
    cause_by : cause_of f t ≡ cond e Empty (cond l Long (cond (not b) Misformed OutOfRange))
    unfolding cause_of
    cause_by = rw (x, y, z)

    stands_by_lem : field_stands f t ≡ judged (not e && (not l && (b && r)))
    stands_by_lem = exact ∙ rw (x, y, z, u)

  pub broken : (w : Cause) → cause_of f t ≡ w → field_stands f t ≡ Breaks → reading_of f t ≡ Err w
  unfolding field_stands
  broken w c = go (field_value f t)
    where
      go : (v : Option Value) → stands_by v ≡ Breaks → told (cause_of f t) v ≡ Err w
      go (Some v) s = let q : ◌≡◌ {A = ℕ} 0 1 = cc in absurd (omega arith)
      go None s = rw c

  pub breaks : (w : Cause) → reading_of f t ≡ Err w → (cause_of f t ≡ w) × (field_stands f t ≡ Breaks)
  unfolding field_stands
  breaks w = go (field_value f t)
    where
      go : (v : Option Value) → told (cause_of f t) v ≡ Err w → (cause_of f t ≡ w) × (stands_by v ≡ Breaks)
      go (Some v) s = let q : ◌≡◌ {A = ℕ} 0 1 = cc in absurd (omega arith)
      go None s = (cc, refl)

  before : (n : ℕ) → (1 < n → applies Empty f t ≡ false) → (2 < n → applies Long f t ≡ false) → (3 < n → applies Misformed f t ≡ false) → n ≤ 4 → (v : Cause) → cause_number v < n → applies v f t ≡ false
  before n a b c m Empty h = a h
  before n a b c m Long h = b h
  before n a b c m Misformed h = c h
  before n a b c m OutOfRange h = absurd (omega arith)

  first : (e l b r : Bool) → applies Empty f t ≡ e → applies Long f t ≡ l → formed f t ≡ b → in_range f t ≡ r → field_stands f t ≡ Breaks
      → First f t (cond e Empty (cond l Long (cond (not b) Misformed OutOfRange)))
  first true l b r x y z u s = record { it_applies = x; none_before = before 1 (λ h. absurd (omega arith)) (λ h. absurd (omega arith)) (λ h. absurd (omega arith)) (omega arith) }
  first false true b r x y z u s = record { it_applies = y; none_before = before 2 (λ h. x) (λ h. absurd (omega arith)) (λ h. absurd (omega arith)) (omega arith) }
  first false false false r x y z u s = record { it_applies = ap not z; none_before = before 3 (λ h. x) (λ h. y) (λ h. absurd (omega arith)) (omega arith) }
  first false false true false x y z u s = record { it_applies = rw (z, u); none_before = before 4 (λ h. x) (λ h. y) (λ h. ap not z) (omega arith) }
  first false false true true x y z u s = let k = stands_by_lem x y z u in let q : ◌≡◌ {A = ℕ} 0 1 = cc in absurd (omega arith)

  first_told : (w : Cause) → First f t w → reading_of f t ≡ Err w
  first_told Empty p = let x = p.it_applies in broken Empty (cause_by x refl refl refl) (stands_by_lem x refl refl refl)
  first_told Long p =
      let x = p.none_before Empty (omega arith) in
      let y = p.it_applies in
      broken Long (cause_by x y refl refl) (stands_by_lem x y refl refl)
  first_told Misformed p =
      let x = p.none_before Empty (omega arith) in
      let y = p.none_before Long (omega arith) in
      let z = not-true _ p.it_applies in
      broken Misformed (cause_by x y z refl) (stands_by_lem x y z refl)
  first_told OutOfRange p =
      let x = p.none_before Empty (omega arith) in
      let y = p.none_before Long (omega arith) in
      let z = not-false _ (p.none_before Misformed (omega arith)) in
      let u = not-true _ (both (formed f t) (not (in_range f t)) p.it_applies).1 in
      broken OutOfRange (cause_by x y z u) (stands_by_lem x y z u)

  tells_first : (w : Cause) → reading_of f t ≡ Err w → First f t w
  tells_first w h =
      let k = breaks w h in
      let c = cause_by {r = in_range f t} refl refl refl refl in
      subst (λ (v : Cause). First f t v) (sym c ∙ k.0) (first (applies Empty f t) (applies Long f t) (formed f t) (in_range f t) refl refl refl refl k.1)

  pub tells : Told f t
  tells = record { stands_exactly = exact; tells_first = tells_first; first_told = first_told }
