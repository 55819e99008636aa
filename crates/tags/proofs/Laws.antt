-- A tag stands wherever its bytes stand: what is seen of the bytes by themselves is seen of them in a flow.
use Rattle.std.specs.Prelude.{Option, Result, Some, None, Ok, Err}
use mathlib.Core.Path.{◌≡◌, refl, sym, ap, ◌∙◌}
use mathlib.Core.List.{List, [], ◌∷◌, ◌++◌}
use mathlib.Core.Bool.{Bool, true, false, cond, ◌&&◌}
use Prim.Native.Nat.{ℕ, suc, ◌+◌, ◌-◌, ◌≤◌, ◌<◌}
use native.Mathlib.Nat.{add-zero}
use native.Mathlib.Omega.{arith}
use lib.ListN.{length, drop, length-drop, length-take}
use lib.Seq.{drop-drop, drop-append-le, take-append-le}
use lib.Dec.{leb, eqb}
use borrow.Author.Tests.{eqb-true, leb-true}
use Rattle.scan.specs.Bytes.{bytes, byte, byte_at, part, is_letter, is_digit, is_name_byte, run, run_end, starts_with, has_at}
use Rattle.scan.proofs.Laws.{both, cond_past, stands, has_within}
use Rattle.tokens.specs.Tokens.{name_at, end_tag_at}
use Rattle.tokens.proofs.Laws.{name_past, name_some, end_some}
use Rattle.fields.specs.declared.Form.{Form}
use Rattle.fields.specs.declared.Form.TheVariants.{CodiceAbi, Identificativo, DataOra, CodiceEnte, Esercizio, TipoOperazione, Numero, Data, Importo, Progressivo, Anagrafica, DataOraZona}
use Rattle.schema.specs.declared.Parent.{Parent}
use Rattle.schema.specs.declared.Parent.TheVariants.{FlussoOrdinativi, Mandato, Reversale, InformazioniBeneficiario, InformazioniVersante, Beneficiario, Versante, FlussoOpi, TestataFlusso}
use Rattle.schema.specs.declared.Holds.{Holds}
use Rattle.schema.specs.declared.Holds.TheVariants.{Text, Rows}
use Rattle.schema.specs.Table.{Named, ◌is◌, Row, table, name_is, among, spot_in}
use Rattle.tags.specs.Tags.{Opens, Seen}
use Rattle.tags.specs.Inner.{tag_at, order_at, Heads}
use Rattle.tags.proofs.Words.{has_join, has_same}

-- what comes behind t says nothing of a run that ends in t, and nothing of bytes no longer than t
run_append : (p : ℕ → Bool) (t u : List ℕ) → run p t < length t → run p (t ++ u) ≡ run p t
unfolding run
run_append p [] u h = absurd (omega arith)
run_append p (b ∷ t) u h = go (p b) (run_append p t u) h
  where
    go : (k : Bool) → (run p t < length t → run p (t ++ u) ≡ run p t) → cond k (suc (run p t)) 0 < suc (length t) → cond k (suc (run p (t ++ u))) 0 ≡ cond k (suc (run p t)) 0
    go true f h = ap suc (f (omega arith))
    go false f h = refl

starts_append : (x t u : List ℕ) → length x ≤ length t → starts_with x (t ++ u) ≡ starts_with x t
unfolding starts_with
starts_append [] t u h = refl
starts_append (a ∷ x) [] u h = absurd (omega arith)
starts_append (a ∷ x) (b ∷ t) u h = ap (λ (k : Bool). eqb b a && k) (starts_append x t u (omega arith))

module _ (x s : List ℕ) (i : ℕ) (has : has_at x s i ≡ true) where
  -- s from a place of x on
  after : (k : ℕ) → k ≤ length x → drop (i + k) s ≡ drop k x ++ (has_join x s i has).0
  after k h = sym (drop-drop k i s) ∙ (ap (drop k) (has_join x s i has).1 ∙ drop-append-le k x (has_join x s i has).0 h)

  pub run_in : (p : ℕ → Bool) (k : ℕ) → k ≤ length x → run_end p x k < length x → run_end p s (i + k) ≡ i + run_end p x k
  unfolding run_end
  run_in p k h l =
      let z = run_append p (drop k x) (has_join x s i has).0 (omega (arith, length-drop k x)) in
      rw (after k h, z) (omega arith)

  pub name_in : (e : ℕ) → name_at x 1 ≡ Ok e → e < length x → name_at s (i + 1) ≡ Ok (i + e)
  unfolding name_at
  name_in e n l =
      let c = cond_past (is_letter (byte_at x 1) && leb (run_end is_name_byte x 1 - 1) 48) (Ok (run_end is_name_byte x 1)) 1 n in
      let b = both (is_letter (byte_at x 1)) (leb (run_end is_name_byte x 1 - 1) 48) c.0 in
      let y = c.1 in
      let r : run_end is_name_byte x 1 ≡ e = cc in
      let o = name_past x 1 e n in
      let g = run_in is_name_byte 1 (omega arith) (omega arith) in
      let k = leb-true (run_end is_name_byte x 1 - 1) 48 b.1 in
      name_some s (i + 1) (ap is_letter (has_same s x i has 1 (omega arith)) ∙ b.0) (i + e) (omega arith) (omega arith)

  pub is_in : (y : List ℕ) (a e : ℕ) → a ≤ e → e ≤ length x → name_is y s (i + a) (i + e) ≡ name_is y x a e
  unfolding name_is has_at
  is_in y a e h l =
      let z : i + e - (i + a) ≡ e - a = omega arith in
      rw z (go (eqb (e - a) (length y)) refl)
    where
      go : (b : Bool) → eqb (e - a) (length y) ≡ b → (b && starts_with y (drop (i + a) s)) ≡ (b && starts_with y (drop a x))
      go true f = rw (after a (omega arith)) (starts_append y (drop a x) (has_join x s i has).0 (omega (arith, length-drop a x, eqb-true (e - a) (length y) f)))
      go false f = refl

  module _ (e : ℕ) (h : 1 ≤ e) (l : e ≤ length x) where
    among_in : (ns : List Named) (n : ℕ) (o w : Option (ℕ × Holds)) → o ≡ w → among ns n s (i + 1) (i + e) o ≡ among ns n x 1 e w
    among_in [] n o w f = f
    among_in ((y is k) ∷ ns) n o w f = rw (is_in (bytes y) 1 e h l, among_in ns n o w f)

    spot_in_lem : (rs : List Row) (n : ℕ) → spot_in rs n s (i + 1) (i + e) ≡ spot_in rs n x 1 e
    spot_in_lem [] n = refl
    spot_in_lem (r ∷ rs) n = among_in r.names n (spot_in rs (suc n) s (i + 1) (i + e)) (spot_in rs (suc n) x 1 e) (spot_in_lem rs (suc n))

  has_in : (y : List ℕ) (k : ℕ) → k + length y ≤ length x → has_at y s (i + k) ≡ has_at y x k
  unfolding has_at
  has_in y k h = rw (after k (omega arith)) (starts_append y (drop k x) (has_join x s i has).0 (omega (arith, length-drop k x)))

  part_in : (a e : ℕ) → a ≤ e → e ≤ length x → part s (i + a) (i + e) ≡ part x a e
  part_in a e h l =
      let z : i + e - (i + a) ≡ e - a = omega arith in
      rw (z, after a (omega arith)) (take-append-le (e - a) (drop a x) (has_join x s i has).0 (omega (arith, length-drop a x)))

  pub end_in : (e p q : ℕ) → 1 ≤ e → e ≤ length x → end_tag_at x 1 e p ≡ Ok q → end_tag_at s (i + 1) (i + e) (i + p) ≡ Ok (i + q)
  unfolding end_tag_at
  end_in e p q h l f =
      let c = cond_past (has_at (bytes "</") x p && (has_at (part x 1 e) x (p + 2) && eqb (byte_at x (p + 2 + (e - 1))) 62)) (Ok (p + 2 + (e - 1) + 1)) p f in
      let d = both (has_at (bytes "</") x p) (has_at (part x 1 e) x (p + 2) && eqb (byte_at x (p + 2 + (e - 1))) 62) c.0 in
      let g = both (has_at (part x 1 e) x (p + 2)) (eqb (byte_at x (p + 2 + (e - 1))) 62) d.1 in
      let w : p + 2 + (e - 1) < length x = stands 61 x (p + 2 + (e - 1)) g.1 in
      let y = c.1 in
      let r : p + 2 + (e - 1) + 1 ≡ q = cc in
      let m : length (part x 1 e) ≤ e - 1 = omega (arith, length-take (e - 1) (drop 1 x)) in
      let z₁ : i + (p + 2) ≡ i + p + 2 = omega arith in
      let z₂ : i + (p + 2 + (e - 1)) ≡ i + p + 2 + (i + e - (i + 1)) = omega arith in
      let z₃ : i + p + 2 + (i + e - (i + 1)) + 1 ≡ i + q = omega arith in
      let k : has_at (part s (i + 1) (i + e)) s (i + p + 2) ≡ true = rw (part_in 1 e h l) (rw z₁ at (has_in (part x 1 e) (p + 2) (omega arith) ∙ g.0)) in
      let b : byte_at s (i + p + 2 + (i + e - (i + 1))) ≡ 62 = rw z₂ at (has_same s x i has (p + 2 + (e - 1)) w ∙ eqb-true _ _ g.1) in
      end_some s (i + 1) (i + e) (i + p) (has_in (bytes "</") p (omega arith) ∙ d.0) k b ∙ ap Ok z₃

  pub opens_in : (p : Parent) (e row : ℕ) (h : Holds) → i ≤ length s → Opens p x 0 e row h → Opens p s i (i + e) row h
  opens_in p e row h w o =
      let l = o.within in
      let a = name_past x 1 e o.name in
      let z = has_within x s i w has in
      record {
        lt = rw add-zero at (has_same s x i has 0 (omega arith)) ∙ o.lt;
        name = name_in e o.name l;
        gt = has_same s x i has e l ∙ o.gt;
        within = omega arith;
        spot = spot_in_lem e (omega arith) (omega arith) (table p) 0 ∙ o.spot;
      }

-- the tag x compared: it opens a child of p, else what is seen is said by the others
seen : (p : Parent) (x : List ℕ) (row : ℕ) (h : Holds) (s : List ℕ) (i : ℕ) (others : Option (ℕ × ℕ × Holds)) → i ≤ length s → Opens p x 0 (length x - 1) row h → Seen p s i others → Seen p s i (tag_at x row h s i others)
seen p x row h s i others w o q = go (has_at x s i) refl
  where
    go : (b : Bool) → has_at x s i ≡ b → Seen p s i (cond b (Some ((i + (length x - 1)), row, h)) others)
    go true f = opens_in x s i f p (length x - 1) row h w o
    go false f = q

-- BYTES BY THEMSELVES
past_at : Result ℕ ℕ → ℕ → Bool
past_at (Ok p) e = eqb p e
past_at (Err p) e = false

past_at_lem : (w : Result ℕ ℕ) (e : ℕ) → past_at w e ≡ true → w ≡ Ok e
unfolding past_at
past_at_lem (Ok p) e h = ap Ok (eqb-true p e h)
past_at_lem (Err p) e h = let z : ◌≡◌ {A = ℕ} 0 1 = cc in absurd (omega arith)

-- the row of p's table that the tag x is of, where it is a tag
pub alone : Parent → List ℕ → Option (ℕ × Holds)
alone p x =
    cond (eqb (byte_at x 0) (byte "<") && (past_at (name_at x 1) (length x - 1) && (eqb (byte_at x (length x - 1)) (byte ">") && leb 1 (length x))))
    (spot_in (table p) 0 x 1 (length x - 1)) None

cond_at : (b : Bool) (w : Option (ℕ × Holds)) {n : ℕ} {h : Holds} → cond b w None ≡ Some (n, h) → (b ≡ true) × (w ≡ Some (n, h))
cond_at true w e = (refl, e)
cond_at false w e = let z : ◌≡◌ {A = ℕ} 0 1 = cc in absurd (omega arith)

pub alone_opens : (p : Parent) (x : List ℕ) (row : ℕ) (h : Holds) → alone p x ≡ Some (row, h) → Opens p x 0 (length x - 1) row h
unfolding alone
alone_opens p x row h e =
    let c = cond_at (eqb (byte_at x 0) (byte "<") && (past_at (name_at x 1) (length x - 1) && (eqb (byte_at x (length x - 1)) (byte ">") && leb 1 (length x)))) (spot_in (table p) 0 x 1 (length x - 1)) e in
    let t = both (eqb (byte_at x 0) (byte "<")) (past_at (name_at x 1) (length x - 1) && (eqb (byte_at x (length x - 1)) (byte ">") && leb 1 (length x))) c.0 in
    let u = both (past_at (name_at x 1) (length x - 1)) (eqb (byte_at x (length x - 1)) (byte ">") && leb 1 (length x)) t.1 in
    let v = both (eqb (byte_at x (length x - 1)) (byte ">")) (leb 1 (length x)) u.1 in
    record { lt = eqb-true (byte_at x 0) (byte "<") t.0; name = past_at_lem (name_at x 1) (length x - 1) u.0; gt = eqb-true (byte_at x (length x - 1)) (byte ">") v.0; within = omega (arith, leb-true 1 (length x) v.1); spot = c.1 }

-- what is seen where a tag of p's is compared
module _ (p : Parent) (x : List ℕ) (row : ℕ) (h : Holds) (s : List ℕ) (i : ℕ) (others r : Option (ℕ × ℕ × Holds)) where
  pub told_opens : Opens p x 0 (length x - 1) row h → i ≤ length s → Seen p s i others → r ≡ tag_at x row h s i others → Seen p s i r
  told_opens o w q e = rw e (seen p x row h s i others w o q)

  pub told : alone p x ≡ Some (row, h) → i ≤ length s → Seen p s i others → r ≡ tag_at x row h s i others → Seen p s i r
  told a = told_opens (alone_opens p x row h a)

-- THE TAGS of p's rows from n on, each by itself
abbrev pub Spelled : Parent → ℕ → List Named → Type 0
Spelled p n [] = Unit
Spelled p n ((x is h) ∷ ts) = (alone p (bytes x) ≡ Some (n, h)) × Spelled p (suc n) ts

pub spelled_mandato : (r : Bool) → Spelled (Mandato r) 0 (("<tipo_operazione>" is Text TipoOperazione) ∷ ("<numero_mandato>" is Text Numero) ∷ ("<data_mandato>" is Text Data) ∷ ("<importo_mandato>" is Text Importo) ∷ ("<informazioni_beneficiario>" is Rows (InformazioniBeneficiario r)) ∷ [])
unfolding alone past_at name_at is_letter is_digit is_name_byte run run_end name_is has_at starts_with
spelled_mandato r = (refl, (refl, (refl, (refl, (refl, tt)))))

pub spelled_reversale : (r : Bool) → Spelled (Reversale r) 0 (("<tipo_operazione>" is Text TipoOperazione) ∷ ("<numero_reversale>" is Text Numero) ∷ ("<data_reversale>" is Text Data) ∷ ("<importo_reversale>" is Text Importo) ∷ ("<informazioni_versante>" is Rows (InformazioniVersante r)) ∷ [])
unfolding alone past_at name_at is_letter is_digit is_name_byte run run_end name_is has_at starts_with
spelled_reversale r = (refl, (refl, (refl, (refl, (refl, tt)))))

pub spelled_lines : (r : Bool) → Spelled (InformazioniBeneficiario r) 0 (("<progressivo_beneficiario>" is Text Progressivo) ∷ ("<importo_beneficiario>" is Text Importo) ∷ ("<beneficiario>" is Rows Beneficiario) ∷ []) × Spelled (InformazioniVersante r) 0 (("<progressivo_versante>" is Text Progressivo) ∷ ("<importo_versante>" is Text Importo) ∷ ("<versante>" is Rows Versante) ∷ [])
unfolding alone past_at name_at is_letter is_digit is_name_byte run run_end name_is has_at starts_with
spelled_lines r = ((refl, (refl, (refl, tt))), (refl, (refl, (refl, tt))))

pub spelled_names : (alone Beneficiario (bytes "<anagrafica_beneficiario>") ≡ Some (0, (Text Anagrafica))) × (alone Versante (bytes "<anagrafica_versante>") ≡ Some (0, (Text Anagrafica)))
unfolding alone past_at name_at is_letter is_digit is_name_byte run run_end name_is has_at starts_with
spelled_names = (refl, refl)

-- headers: their first four fields, and what else a root has before its orders
heads : (p : Parent) (time : Form) → Spelled p 0 (("<codice_ABI_BT>" is Text CodiceAbi) ∷ ("<identificativo_flusso>" is Text Identificativo) ∷ ("<data_ora_creazione_flusso>" is Text time) ∷ ("<codice_ente_BT>" is Text CodiceEnte) ∷ []) → Heads time p
heads p time a =
    (alone_opens p (bytes "<codice_ABI_BT>") 0 (Text CodiceAbi) a.0, alone_opens p (bytes "<identificativo_flusso>") 1 (Text Identificativo) a.1.0, alone_opens p (bytes "<data_ora_creazione_flusso>") 2 (Text time) a.1.1.0, alone_opens p (bytes "<codice_ente_BT>") 3 (Text CodiceEnte) a.1.1.1.0)

pub headed : Heads DataOra FlussoOrdinativi × Heads DataOraZona TestataFlusso
unfolding alone past_at name_at is_letter is_digit is_name_byte run run_end name_is has_at starts_with
headed = (heads FlussoOrdinativi DataOra (refl, (refl, (refl, (refl, tt)))), heads TestataFlusso DataOraZona (refl, (refl, (refl, (refl, tt)))))

pub spelled_roots : (alone FlussoOrdinativi (bytes "<esercizio>") ≡ Some (4, (Text Esercizio))) × Spelled FlussoOpi 0 (("<testata_flusso>" is Rows TestataFlusso) ∷ ("<esercizio>" is Text Esercizio) ∷ [])
unfolding alone past_at name_at is_letter is_digit is_name_byte run run_end name_is has_at starts_with
spelled_roots = (refl, (refl, (refl, tt)))

-- orders, in their row of a root
pub Ordered : Parent → ℕ → Type 0
Ordered p n = (alone p (bytes "<mandato>") ≡ Some (n, (Rows (Mandato false)))) × (alone p (bytes "<reversale>") ≡ Some (n, (Rows (Reversale false))))

pub ordered_roots : Ordered FlussoOrdinativi 5 × Ordered FlussoOpi 2
unfolding Ordered alone past_at name_at is_letter is_digit is_name_byte run run_end name_is has_at starts_with
ordered_roots = ((refl, refl), (refl, refl))

pub told_order : (p : Parent) (n : ℕ) (s : List ℕ) (i : ℕ) (r : Option (ℕ × ℕ × Holds)) → Ordered p n → i ≤ length s → r ≡ order_at n s i → Seen p s i r
unfolding Ordered
told_order p n s i r a w e =
    told p (bytes "<mandato>") n (Rows (Mandato false)) s i (tag_at (bytes "<reversale>") n (Rows (Reversale false)) s i None) r a.0 w
    (told p (bytes "<reversale>") n (Rows (Reversale false)) s i None (tag_at (bytes "<reversale>") n (Rows (Reversale false)) s i None) a.1 w tt refl) e
