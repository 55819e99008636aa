-- CONDITION 3, proved: the laws of isolation hold of every engine that keeps the promises, since each call is one body's or none's (Calls).
use Rattle.std.specs.Prelude.{Option as Maybe, Result, Some, None, Ok, Err}
use Prim.Native.Nat.{ℕ}
use mathlib.Core.Path.{◌≡◌, refl, sym, ap, ◌∙◌, subst}
use mathlib.Core.Bool.{Bool, true, false, cond, false≢true}
use mathlib.Core.Option.{Option, none, some}
use mathlib.Core.List.{List}
use native.Mathlib.Omega.{arith}
use lib.ListN.{length}
use lib.Dec.{eqb, leb}
use Rattle.bounds.specs.Bounds.{max_flow}
use Rattle.scan.specs.Bytes.{text_is}
use Rattle.table.specs.Table.{bodies, table_ok, body_of}
use Rattle.table.proofs.Bodies.{own_body, body_code as code-of-body}
use Rattle.request.specs.Request.{request_ok, needed}
use Rattle.opening.specs.declared.OpenRefusal.{OpenRefusal}
use Rattle.opening.specs.declared.OpenRefusal.TheVariants.{WrongRequest, WrongLength}
use Rattle.opening.specs.Opening.{opened, open_of, open_code, open_table, OpenReplies}
use Rattle.opening.proofs.Valid.{opened_valid}
use Rattle.editions.specs.declared.Edition.{Edition}
use Rattle.editions.specs.Editions.{edition_of}
use Rattle.flow.specs.declared.Breakage.{Breakage}
use Rattle.flow.specs.declared.Breakage.TheVariants.{MarkupBreaks, StructureBreaks, FieldBreaks}
use Rattle.flow.specs.Flow.{verdict_of, header_of}
use Rattle.isolation.specs.Machine.{Laws}
use Rattle.isolation.proofs.OrderLaws.{mine_by_body, strays_by_body}
use Rattle.isolation.proofs.Runs.{good_run}
use Rattle.isolation.proofs.Isolated.{isolated}
use Rattle.theorems.specs.Engine.{Call, flow, execute, reverse, totals, journal, close, Answer, Engine, answer_code, names_in, names, which_body, position, who, machine, table_after, names_by}
use Rattle.theorems.specs.Condition3.{FromValid, FromOpening}
use Rattle.theorems.specs.Codes.{one_of, stray_codes, body_codes}
use Rattle.theorems.proofs.Steps.{answer, after, one_step}
use Rattle.theorems.proofs.Good.{Good, fresh, abi_is, find_is, wrote_left, left_good, other_owned, unowned_is, owned_alike, alike_owned, whole}
use Rattle.theorems.proofs.Calls.{Owned, Serves, every}

-- 1 is no code of a call on a valid table
no_one : (c : Call) → (one_of (stray_codes c) 1 ≡ false) × (one_of (body_codes c) 1 ≡ false)
no_one (flow ed f out) = (refl, refl)
no_one (execute code k line d) = (refl, refl)
no_one (reverse code k line d) = (refl, refl)
no_one (totals code) = (refl, refl)
no_one (journal code s) = (refl, refl)
no_one (close code year) = (refl, refl)

module _ (E : Engine) (t₀ : List ℕ) (r : table_ok t₀ ≡ true) where
  by : (c : Call) (w : Option ℕ) → who t₀ c ≡ w → Serves t₀ (stray_codes c) (body_codes c) (E.answer c) (E.next c) w
  by c w e =
      let d : (t : List ℕ) → (E.answer c t ≡ answer c t) × (E.next c t ≡ after c t) = λ t. one_step c t (E.answer c t) (E.next c t) (E.keeps c t) in
      subst (λ (x : (List ℕ → Answer) × (List ℕ → List ℕ) × Option ℕ). Serves t₀ (stray_codes c) (body_codes c) x.0 x.1 x.2)
      (λ i. (λ t. sym (d t).0 i, λ t. sym (d t).1 i, e i)) (every t₀ r c)

  -- what a body's call leaves is good
  owned_good : (c : Call) (b : ℕ) → Owned t₀ (body_codes c) b (E.answer c) (E.next c) → (t : List ℕ) → Good t₀ t → Good t₀ (E.next c t)
  owned_good c b o t g = left_good t₀ r t (E.next c t) g b o.low (wrote_left t₀ r t (E.next c t) g b o.low (o.wrote t g))

  stays : (c : Call) (t : List ℕ) → Good t₀ t → Good t₀ (E.next c t)
  stays c t g = go (who t₀ c) refl
    where
      go : (w : Option ℕ) → who t₀ c ≡ w → Good t₀ (E.next c t)
      go none e = subst (Good t₀) (sym ((by c none e).still t g)) g
      go (some b) e = owned_good c b (by c (some b) e) t g

  pub laws : Laws (machine E t₀) (Good t₀)
  laws = record {
    named = λ c b e. (by c (some b) e).low;
    stays = stays;
    stray_state = λ c t g e. (by c none e).still t g;
    stray_answer = λ c s t g h e. (by c none e).same s t g h;
    other = λ c t a b l g e n. let o = by c (some b) e in other_owned t₀ r t (E.next c t) g b o.low (wrote_left t₀ r t (E.next c t) g b o.low (o.wrote t g)) a l n;
    frame = λ c t g. unowned_is t₀ r (E.next c t) (stays c t g) ∙ sym (unowned_is t₀ r t g);
    own = λ c s t b g h e p.
        let o = by c (some b) e in
        let x = o.own s t g h (owned_alike t₀ r s t g h b o.low p) in
        (x.0, alike_owned t₀ r (E.next c s) (E.next c t) (owned_good c b o s g) (owned_good c b o t h) b o.low x.1);
    whole = λ s t g h e f. whole t₀ r s t g h f;
  }

  -- after any calls
  module _ (cs : List Call) where
    abbrev now : List ℕ
    now = table_after E t₀ cs

    good : Good t₀ now
    good = good_run (machine E t₀) (Good t₀) laws cs t₀ (fresh t₀ r)

    stray_code : (c : Call) → who t₀ c ≡ none → one_of (stray_codes c) (answer_code (E.answer c now)) ≡ true
    stray_code c e = (by c none e).code now good

    body_code : (c : Call) (b : ℕ) → who t₀ c ≡ some b → one_of (body_codes c) (answer_code (E.answer c now)) ≡ true
    body_code c b e = (by c (some b) e).code now good

    never_invalid : (c : Call) → answer_code (E.answer c now) ≡ 1 → ⊥
    never_invalid c z = go (who t₀ c) refl
      where
        go : (w : Option ℕ) → who t₀ c ≡ w → ⊥
        go none e = false≢true (sym (no_one c).0 ∙ sym (ap (one_of (stray_codes c)) z) ∙ stray_code c e)
        go (some b) e = false≢true (sym (no_one c).1 ∙ sym (ap (one_of (body_codes c)) z) ∙ body_code c b e)

    -- who is named: the same read from this table
    by_verdict : (e : Edition) (f : List ℕ) (v : Result ℕ Breakage) → names_in e now f v ≡ names_in e t₀ f v
    by_verdict e f (Err (MarkupBreaks p)) = refl
    by_verdict e f (Err StructureBreaks) = refl
    by_verdict e f (Err (FieldBreaks p c)) = refl
    by_verdict e f (Ok at) = ap (λ (a : List ℕ). cond (text_is a (header_of e f at).abi) (some (header_of e f at).ente) none) (abi_is t₀ r now good)

    by_edition_lem : (f : List ℕ) (x : Maybe Edition) → names_by now f x ≡ names_by t₀ f x
    by_edition_lem f (Some e) = ap (λ (x : Option (List ℕ)). cond (leb (length f) max_flow) x none) (by_verdict e f (verdict_of e f))
    by_edition_lem f None = refl

    named : (c : Call) → names now c ≡ names t₀ c
    named (flow ed f out) = by_edition_lem f (edition_of ed)
    named (execute code k line d) = refl
    named (reverse code k line d) = refl
    named (totals code) = refl
    named (journal code s) = refl
    named (close code year) = refl

    placed : (x : Option (List ℕ)) → position now x ≡ position t₀ x
    placed none = refl
    placed (some code) = ap which_body (find_is t₀ r now good code)

-- a body by its code
pub found_at : (x : Maybe ℕ) (b : ℕ) → which_body x ≡ some b → x ≡ Some b
found_at (Some a) b e = cc
found_at None b e = absurd (let z : ◌≡◌ {A = ℕ} 0 1 = cc in omega arith)

-- THE THEOREM
pub condition3 : FromValid
condition3 E t₀ r = record {
  isolated = isolated (machine E t₀) (Good t₀) (laws E t₀ r) t₀ (fresh t₀ r);
  bodies_kept = λ cs b h. mine_by_body (who t₀) b (bodies t₀) h cs;
  strays_kept = λ cs. strays_by_body (who t₀) (bodies t₀) cs;
  own_code = λ c b h e. ap (position t₀) e ∙ ap which_body (own_body t₀ r b h);
  one_code = λ c b code e w. sym (code-of-body t₀ r code b (found_at (body_of t₀ code) b (sym (ap (position t₀) e) ∙ w)));
  who_stays = λ cs c. ap (position (table_after E t₀ cs)) (named E t₀ r cs c) ∙ placed E t₀ r cs (names t₀ c);
  stray_code = stray_code E t₀ r;
  body_code = body_code E t₀ r;
  valid = λ cs. (good E t₀ r cs).ok;
  never_invalid = never_invalid E t₀ r;
}

-- FROM OPENING ON: a buffer that opening answered 0 for is the opened table of a right request
right_request : (q : List ℕ) (n : ℕ) → open_of q n ≡ Ok tt → request_ok q ≡ true
unfolding open_of
right_request q n = go (request_ok q) (eqb n (needed q)) refl
  where
    go : (u v : Bool) → request_ok q ≡ u → cond {A = Result Unit OpenRefusal} u (cond v (Ok tt) (Err WrongLength)) (Err WrongRequest) ≡ Ok tt → request_ok q ≡ true
    go true v e z = e
    go false v e z = absurd (let y : ◌≡◌ {A = ℕ} 0 1 = cc in omega arith)

pub record OpenedBy (q t₀ : List ℕ) : Type 0 where
  pub right : request_ok q ≡ true
  pub filled : t₀ ≡ opened q

pub answered_0 : (q t t₀ : List ℕ) → OpenReplies q t 0 t₀ → OpenedBy q t₀
answered_0 q t t₀ p = go p.0 p.1.0 p.1.1 p.2
  where
    go : (a : Result Unit OpenRefusal) → a ≡ open_of q (length t) → t₀ ≡ open_table a q t → 0 ≡ open_code a → OpenedBy q t₀
    go (Ok tt) e d z = record { right = right_request q (length t) (sym e); filled = d }
    go (Err WrongRequest) e d z = absurd (omega arith)
    go (Err WrongLength) e d z = absurd (omega arith)

pub open_valid : (q t₀ : List ℕ) → OpenedBy q t₀ → table_ok t₀ ≡ true
open_valid q t₀ f = ap table_ok f.filled ∙ opened_valid q f.right

pub condition3_opened : FromOpening
condition3_opened E q t t₀ p = condition3 E t₀ (open_valid q t₀ (answered_0 q t t₀ p))
