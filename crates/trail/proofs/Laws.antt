-- Laws of the trail: what a number stands for is what was written, and what is true may be kept.
use mathlib.Core.Path.{◌≡◌, refl, sym, ◌∙◌, ap}
use mathlib.Core.List.{List}
use mathlib.Core.Bool.{Bool, true, false, cond}
use Prim.Native.Nat.{ℕ, ◌+◌, ◌*◌, ◌/◌, ◌%◌, ◌≤◌, ◌<◌}
use native.Mathlib.Omega.{arith}
use lib.ListN.{length, get_or, set, replicate, get_or-replicate, length-replicate, length-set}
use lib.Seq.{get_or-set_same, get_or-set_other}
use lib.Dec.{eqb, leb}
use borrow.Author.Tests.{eqb-true, eqb-false, ne_eqb, le-leb, lt-leb, leb-true}
use Rattle.calendar.specs.declared.Date.{Date}
use Rattle.codes.specs.declared.Operation.{Operation as Operazione}
use Rattle.codes.specs.declared.Operation.TheVariants.{Inserimento, Variazione, Annullo, Sostituzione}
use Rattle.fields.specs.declared.Form.{Form}
use Rattle.fields.specs.declared.Form.TheVariants.{CodiceAbi, Identificativo, DataOra, CodiceEnte, Esercizio, TipoOperazione, Numero, Data, Importo, Progressivo, Anagrafica, DataOraZona, Testo, EsitoOperazione, CodiceErrore, Descrizione, Elemento}
use Rattle.fields.specs.declared.Value.{Value}
use Rattle.fields.specs.declared.Value.TheVariants.{Number, Day, Operation}
use Rattle.schema.specs.declared.Parent.{Parent}
use Rattle.schema.specs.declared.Parent.TheVariants.{FlussoOrdinativi, Mandato, Reversale, InformazioniBeneficiario, InformazioniVersante, SostituzioneMandato, SostituzioneReversale, Beneficiario, Versante, MessaggiEsito, TestataMessaggio, EsitoReversali, EsitoMandati, ErroriReversali, ErroriMandati, FlussoOpi, TestataFlusso}
use Rattle.trail.specs.declared.Found.{Found}
use Rattle.trail.specs.declared.Worth.{Worth}
use Rattle.trail.specs.declared.Entered.{Entered}
use Rattle.trail.specs.Codes.{flag, parent_code, parent_at, form_code, form_at, operation_shape, value_at, Tells}
use Rattle.trail.specs.Trail.{FieldFound, RowsFound, found_of, found_at, Coded, Finding, Trailed}

-- CODES of equal things are equal
pub parent_coded : {p q : Parent} → p ≡ q → parent_code q ≡ parent_code p
parent_coded e = ap parent_code (sym e)

pub form_coded : {f g : Form} → f ≡ g → form_code g ≡ form_code f
form_coded e = ap form_code (sym e)

-- what has a code is what the code stands for
pub parent_back : (p : Parent) → (parent_code p ≡ 0 → ⊥) → parent_at (parent_code p) ≡ p
unfolding parent_at
parent_back (Mandato true) h = refl
parent_back (Mandato false) h = refl
parent_back (Reversale true) h = refl
parent_back (Reversale false) h = refl
parent_back (InformazioniBeneficiario true) h = refl
parent_back (InformazioniBeneficiario false) h = refl
parent_back (InformazioniVersante true) h = refl
parent_back (InformazioniVersante false) h = refl
parent_back SostituzioneMandato h = refl
parent_back SostituzioneReversale h = refl
parent_back FlussoOrdinativi h = refl
parent_back FlussoOpi h = refl
parent_back Beneficiario h = absurd (h refl)
parent_back Versante h = absurd (h refl)
parent_back MessaggiEsito h = absurd (h refl)
parent_back TestataMessaggio h = absurd (h refl)
parent_back EsitoReversali h = absurd (h refl)
parent_back EsitoMandati h = absurd (h refl)
parent_back ErroriReversali h = absurd (h refl)
parent_back ErroriMandati h = absurd (h refl)
parent_back TestataFlusso h = absurd (h refl)

flag_one : (r : Bool) → flag r ≤ 1
flag_one true = omega arith
flag_one false = omega arith

pub parent_small : (p : Parent) → parent_code p ≤ 31
parent_small (Mandato r) = omega (arith, flag_one r)
parent_small (Reversale r) = omega (arith, flag_one r)
parent_small (InformazioniBeneficiario r) = omega (arith, flag_one r)
parent_small (InformazioniVersante r) = omega (arith, flag_one r)
parent_small SostituzioneMandato = omega arith
parent_small SostituzioneReversale = omega arith
parent_small FlussoOrdinativi = omega arith
parent_small FlussoOpi = omega arith
parent_small Beneficiario = omega arith
parent_small Versante = omega arith
parent_small MessaggiEsito = omega arith
parent_small TestataMessaggio = omega arith
parent_small EsitoReversali = omega arith
parent_small EsitoMandati = omega arith
parent_small ErroriReversali = omega arith
parent_small ErroriMandati = omega arith
parent_small TestataFlusso = omega arith

pub form_back : (f : Form) → (form_code f ≡ 0 → ⊥) → form_at (form_code f) ≡ f
unfolding form_at
form_back Esercizio h = refl
form_back TipoOperazione h = refl
form_back Numero h = refl
form_back Data h = refl
form_back Importo h = refl
form_back Progressivo h = refl
form_back CodiceAbi h = absurd (h refl)
form_back Identificativo h = absurd (h refl)
form_back DataOra h = absurd (h refl)
form_back CodiceEnte h = absurd (h refl)
form_back Anagrafica h = absurd (h refl)
form_back DataOraZona h = absurd (h refl)
form_back Testo h = absurd (h refl)
form_back EsitoOperazione h = absurd (h refl)
form_back CodiceErrore h = absurd (h refl)
form_back Descrizione h = absurd (h refl)
form_back Elemento h = absurd (h refl)

pub form_small : (f : Form) → form_code f ≤ 31
form_small Esercizio = omega arith
form_small TipoOperazione = omega arith
form_small Numero = omega arith
form_small Data = omega arith
form_small Importo = omega arith
form_small Progressivo = omega arith
form_small CodiceAbi = omega arith
form_small Identificativo = omega arith
form_small DataOra = omega arith
form_small CodiceEnte = omega arith
form_small Anagrafica = omega arith
form_small DataOraZona = omega arith
form_small Testo = omega arith
form_small EsitoOperazione = omega arith
form_small CodiceErrore = omega arith
form_small Descrizione = omega arith
form_small Elemento = omega arith

-- the value of a shape, case by case
module _ (k w : ℕ) where
  pub shape_1 : k ≡ 1 → Number w ≡ value_at k w
  unfolding value_at
  shape_1 h = rw h refl

  pub shape_2 : k ≡ 2 → Day (record { year = w / 65536; month = w / 256 % 256; day = w % 256 }) ≡ value_at k w
  unfolding value_at
  shape_2 h = rw h refl

  pub shape_3 : k ≡ 3 → Operation Inserimento ≡ value_at k w
  unfolding value_at
  shape_3 h = rw h refl

  pub shape_4 : k ≡ 4 → Operation Variazione ≡ value_at k w
  unfolding value_at
  shape_4 h = rw h refl

  pub shape_5 : k ≡ 5 → Operation Annullo ≡ value_at k w
  unfolding value_at
  shape_5 h = rw h refl

  pub shape_none : (k ≡ 1 → ⊥) → (k ≡ 2 → ⊥) → (k ≡ 3 → ⊥) → (k ≡ 4 → ⊥) → (k ≡ 5 → ⊥) → Operation Sostituzione ≡ value_at k w
  unfolding value_at
  shape_none h1 h2 h3 h4 h5 = rw (ne_eqb k 1 h1, ne_eqb k 2 h2, ne_eqb k 3 h3, ne_eqb k 4 h4, ne_eqb k 5 h5) refl

-- a value told in numbers
pub tells_none : (v : Value) → Tells v (record { shape = 0; value = 0 })
tells_none v = record { shape = omega arith; value = λ h. absurd (h refl) }

pub tells_number : (n : ℕ) → Tells (Number n) (record { shape = 1; value = n })
tells_number n = record { shape = omega arith; value = λ h. sym (shape_1 1 n refl) }

pub tells_operation : (o : Operazione) → Tells (Operation o) (record { shape = operation_shape o; value = 0 })
tells_operation Inserimento = record { shape = omega arith; value = λ h. sym (shape_3 3 0 refl) }
tells_operation Variazione = record { shape = omega arith; value = λ h. sym (shape_4 4 0 refl) }
tells_operation Annullo = record { shape = omega arith; value = λ h. sym (shape_5 5 0 refl) }
tells_operation Sostituzione = record { shape = omega arith; value = λ h. sym (shape_none 6 0 (λ e. omega arith) (λ e. omega arith) (λ e. omega arith) (λ e. omega arith) (λ e. omega arith)) }

pub tells_day : (d : Date) → d.month ≤ 255 → d.day ≤ 255 → Tells (Day d) (record { shape = 2; value = d.year * 65536 + d.month * 256 + d.day })
tells_day d m e =
    let w : ℕ = d.year * 65536 + d.month * 256 + d.day in
    let y : w / 65536 ≡ d.year = omega arith in
    let x : w / 256 % 256 ≡ d.month = omega arith in
    let z : w % 256 ≡ d.day = omega arith in
    record { shape = omega arith; value = λ h. sym (shape_2 2 w refl) ∙ (λ i. Day (record { year = y i; month = x i; day = z i })) }

-- THE TRAIL. Two words say what was written in them: a number is cut in two at each of its parts
module _ (x d : ℕ) where
  cut_16 : x < 65536 → (x + 65536 * d) / 65536 ≡ d
  cut_16 h = omega arith

  cut_32 : x < 4294967296 → (x + 4294967296 * d) / 4294967296 ≡ d
  cut_32 h = omega arith

  cut_35 : x < 34359738368 → (x + 34359738368 * d) / 34359738368 ≡ d
  cut_35 h = omega arith

  cut_40 : x < 1099511627776 → (x + 1099511627776 * d) / 1099511627776 ≡ d
  cut_40 h = omega arith

module _ (f a s h p : ℕ) (sf : f ≤ 65535) (sa : a ≤ 65535) (ss : s ≤ 7) (sh : h ≤ 31) where
  from_said : (f + 65536 * (a + 65536 * (s + 8 * (h + 32 * p)))) % 65536 ≡ f
  from_said = omega arith

  after_said : (f + 65536 * (a + 65536 * (s + 8 * (h + 32 * p)))) / 65536 % 65536 ≡ a
  after_said = rw (cut_16 f (a + 65536 * (s + 8 * (h + 32 * p))) (omega arith)) (omega arith)

  shape_said : (f + 65536 * (a + 65536 * (s + 8 * (h + 32 * p)))) / 4294967296 % 8 ≡ s
  shape_said =
      let e : f + 65536 * (a + 65536 * (s + 8 * (h + 32 * p))) ≡ (f + 65536 * a) + 4294967296 * (s + 8 * (h + 32 * p)) = omega arith in
      rw (e, cut_32 (f + 65536 * a) (s + 8 * (h + 32 * p)) (omega arith)) (omega arith)

  holds_said : (f + 65536 * (a + 65536 * (s + 8 * (h + 32 * p)))) / 34359738368 % 32 ≡ h
  holds_said =
      let e : f + 65536 * (a + 65536 * (s + 8 * (h + 32 * p))) ≡ (f + 65536 * a + 4294967296 * s) + 34359738368 * (h + 32 * p) = omega arith in
      rw (e, cut_35 (f + 65536 * a + 4294967296 * s) (h + 32 * p) (omega arith)) (omega arith)

  parent_said : (f + 65536 * (a + 65536 * (s + 8 * (h + 32 * p)))) / 1099511627776 ≡ p
  parent_said =
      let e : f + 65536 * (a + 65536 * (s + 8 * (h + 32 * p))) ≡ (f + 65536 * a + 4294967296 * s + 34359738368 * h) + 1099511627776 * p = omega arith in
      rw (e, cut_40 (f + 65536 * a + 4294967296 * s + 34359738368 * h) p (omega arith)) refl

abbrev key_of : Found → ℕ
key_of e = e.from + 65536 * (e.after + 65536 * (e.shape + 8 * (e.holds + 32 * e.parent)))

said : (e : Found) → e.from ≤ 65535 → e.after ≤ 65535 → Coded e → found_of (key_of e) e.value ≡ e
said e x y h =
    let a = from_said e.from e.after e.shape e.holds e.parent x y h.shape h.holds in
    let b = after_said e.from e.after e.shape e.holds e.parent x y h.shape h.holds in
    let c = parent_said e.from e.after e.shape e.holds e.parent x y h.shape h.holds in
    let d = holds_said e.from e.after e.shape e.holds e.parent x y h.shape h.holds in
    let f = shape_said e.from e.after e.shape e.holds e.parent x y h.shape h.holds in
    λ i. record { from = a i; after = b i; parent = c i; holds = d i; shape = f i; value = e.value }

-- the words of n after a child was kept there, and those of another place
abbrev both : List ℕ → ℕ → ℕ → ℕ → List ℕ
both t n k w = set (set t (2 * n) k) (2 * n + 1) w

module _ (t : List ℕ) (n : ℕ) (k w : ℕ) (r : n < length t / 2) where
  first : get_or (both t n k w) (2 * n) 0 ≡ k
  first =
      get_or-set_other (set t (2 * n) k) (2 * n + 1) (2 * n) w 0 (λ e. omega arith)
      ∙ get_or-set_same t (2 * n) k 0 (omega arith)

  second : get_or (both t n k w) (2 * n + 1) 0 ≡ w
  second = get_or-set_same (set t (2 * n) k) (2 * n + 1) w 0 (omega (arith, length-set t (2 * n) k))

  elsewhere : (j : ℕ) → (j ≡ 2 * n → ⊥) → (j ≡ 2 * n + 1 → ⊥) → get_or (both t n k w) j 0 ≡ get_or t j 0
  elsewhere j a b = get_or-set_other (set t (2 * n) k) (2 * n + 1) j w 0 b ∙ get_or-set_other t (2 * n) j k 0 a

  long : length (both t n k w) ≡ length t
  long = length-set (set t (2 * n) k) (2 * n + 1) w ∙ length-set t (2 * n) k

-- what is read of a place of the trail
pub found_there : (t : List ℕ) (n : ℕ) → n < length t / 2 → found_of (get_or t (2 * n) 0) (get_or t (2 * n + 1) 0) ≡ found_at t n
unfolding found_at
found_there t n h = rw (le-leb (n + 1) (length t / 2) (omega arith)) refl

pub found_out : (t : List ℕ) (n : ℕ) → length t / 2 ≤ n → found_of 0 0 ≡ found_at t n
unfolding found_at
found_out t n h = rw (lt-leb (n + 1) (length t / 2) (omega arith)) refl

-- nothing is said by two zeros
pub zeros_true : (s : List ℕ) → Finding s (found_of 0 0)
zeros_true s = record { field = λ h l. absurd (omega arith); rows = λ h. absurd (omega arith) }

-- what is true may be kept
module _ (s t : List ℕ) (n : ℕ) (e : Found) (x : e.from ≤ 65535) (y : e.after ≤ 65535) (c : Coded e) (f : Finding s e) (h : Trailed s t) (r : n < length t / 2) where
  kept_there : (b : Bool) (m : ℕ) → eqb m n ≡ b → Finding s (found_at (both t n (key_of e) e.value) m)
  unfolding found_at Trailed
  kept_there true m q =
      let z : m ≡ n = eqb-true m n q in
      rw (z, long t n (key_of e) e.value r, le-leb (n + 1) (length t / 2) (omega arith), first t n (key_of e) e.value r, second t n (key_of e) e.value r, said e x y c) f
  kept_there false m q =
      let z = eqb-false m n q in
      rw (long t n (key_of e) e.value r, elsewhere t n (key_of e) e.value r (2 * m) (λ k. z (omega arith)) (λ k. omega arith), elsewhere t n (key_of e) e.value r (2 * m + 1) (λ k. omega arith) (λ k. z (omega arith))) (h m)

  pub trail_keep : Trailed s (both t n (key_of e) e.value)
  unfolding Trailed
  trail_keep m = kept_there (eqb m n) m refl

-- a field that was found, in numbers that may be kept
module _ (s t : List ℕ) (p : Parent) (f : Form) (from after : ℕ) (v : Value) (pc fc : ℕ) (w : Worth) (ep : pc ≡ parent_code p) (ef : fc ≡ form_code f) (ev : Tells v w) where
  abbrev field_e : Found
  field_e = record { from = from; after = after; parent = pc; holds = fc; shape = w.shape; value = w.value }

  pub field_keeps : (pc ≡ 0 → ⊥) → (fc ≡ 0 → ⊥) → (w.shape ≡ 0 → ⊥) → Trailed s t → FieldFound p f s from after v → Trailed s t × Finding s field_e × Coded field_e
  field_keeps a b c h k =
      let x : parent_at pc ≡ p = rw ep (parent_back p (rw ep at a)) in
      let y : form_at fc ≡ f = rw ef (form_back f (rw ef at b)) in
      let z = parent_small p in
      let u = form_small f in (
        h,
        record { field = λ _ _. rw (x, y, ev.value c) k; rows = λ q. absurd (omega (arith, ev.shape)) },
        record { shape = omega (arith, ev.shape); holds = omega (arith, ef, u); parent = omega (arith, ep, z) },
      )

-- and a child that has children
module _ (s t : List ℕ) (p : Parent) (from : ℕ) (r : Entered) (pc qc : ℕ) (ep : pc ≡ parent_code p) (eq : qc ≡ parent_code r.parent) where
  abbrev rows_e : Found
  rows_e = record { from = from; after = r.after; parent = pc; holds = qc; shape = 7; value = r.inner }

  pub rows_keeps : (pc ≡ 0 → ⊥) → (qc ≡ 0 → ⊥) → Trailed s t → RowsFound p s from r → Trailed s t × Finding s rows_e × Coded rows_e
  rows_keeps a b h k =
      let x : parent_at pc ≡ p = rw ep (parent_back p (rw ep at a)) in
      let y : parent_at qc ≡ r.parent = rw eq (parent_back r.parent (rw eq at b)) in
      let z = parent_small p in
      let u = parent_small r.parent in (
        h,
        record { field = λ _ q. absurd (omega arith); rows = λ _. rw (x, y) k },
        record { shape = omega arith; holds = omega (arith, eq, u); parent = omega (arith, ep, z) },
      )

-- what is kept at a place is of the parent and the form whose codes stand there
module _ (s t : List ℕ) (p : Parent) (n : ℕ) (e : Found) (pc : ℕ) (ee : e ≡ found_at t n) (ep : pc ≡ parent_code p) (a : pc ≡ 0 → ⊥) (y : e.parent ≡ pc) where
  of_parent : parent_at e.parent ≡ p
  of_parent = rw (y, ep) (parent_back p (rw ep at a))

  true_of : Trailed s t → Finding s e
  unfolding Trailed
  true_of h = rw ee (h n)

pub field_kept_lem : (s t : List ℕ) (p : Parent) (f : Form) (from n : ℕ) (e : Found) (pc fc : ℕ) (v : Value) → e ≡ found_at t n → pc ≡ parent_code p → fc ≡ form_code f → v ≡ value_at e.shape e.value → Trailed s t
    → e.from ≡ from → (pc ≡ 0 → ⊥) → e.parent ≡ pc → (fc ≡ 0 → ⊥) → e.holds ≡ fc → (e.shape ≡ 0 → ⊥) → e.shape < 7 → FieldFound p f s from e.after v
field_kept_lem s t p f from n e pc fc v ee ep ef ev h x a y b z c d =
    let k = (true_of s t p n e pc ee ep a y h).field (omega (arith, c)) (omega (arith, d)) in
    let g : form_at e.holds ≡ f = rw (z, ef) (form_back f (rw ef at b)) in
    rw ev (rw (of_parent s t p n e pc ee ep a y, g, x) at k)

pub rows_kept_lem : (s t : List ℕ) (p : Parent) (from n : ℕ) (e : Found) (pc : ℕ) (q : Parent) → e ≡ found_at t n → pc ≡ parent_code p → q ≡ parent_at e.holds → Trailed s t
    → e.from ≡ from → (pc ≡ 0 → ⊥) → e.parent ≡ pc → e.shape ≡ 7 → RowsFound p s from (record { parent = q; inner = e.value; after = e.after })
rows_kept_lem s t p from n e pc q ee ep eq h x a y z = rw eq (rw (of_parent s t p n e pc ee ep a y, x) at ((true_of s t p n e pc ee ep a y h).rows z))

-- with nothing kept all is true
pub trailed_none : (s : List ℕ) (n : ℕ) → Trailed s (replicate n 0)
unfolding Trailed found_at
trailed_none s n m = go (leb (m + 1) (length zeros / 2)) refl
  where
    zeros : List ℕ
    zeros = replicate n 0

    go : (b : Bool) → leb (m + 1) (length zeros / 2) ≡ b → Finding s (cond b (found_of (get_or zeros (2 * m) 0) (get_or zeros (2 * m + 1) 0)) (found_of 0 0))
    go true q =
        let l : m + 1 ≤ n / 2 = rw (length-replicate {A = ℕ} n 0) at (leb-true (m + 1) (length zeros / 2) q) in
        rw (get_or-replicate {A = ℕ} n (2 * m) 0 0 (omega arith), get_or-replicate {A = ℕ} n (2 * m + 1) 0 0 (omega arith)) (zeros_true s)
    go false q = zeros_true s
