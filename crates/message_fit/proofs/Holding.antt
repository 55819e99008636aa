-- A caller's nine texts, laid down one after another and cut out again.
use mathlib.Core.Path.{◌≡◌, refl, sym, ap, subst, ◌∙◌}
use mathlib.Core.List.{List, [], ◌∷◌, ◌++◌, append_assoc}
use mathlib.Core.Bool.{Bool, true, false, ◌&&◌, and_assoc, and_comm}
use Prim.Native.Nat.{ℕ, ◌-◌, ◌≤◌}
use native.Mathlib.Nat.{zero-add}
use native.Mathlib.Omega.{arith}
use lib.ListN.{length, take, drop}
use lib.Seq.{take_at, drop_at, drop-drop}
use Rattle.scan.specs.Bytes.{part}
use Rattle.scan.proofs.Laws.{both}
use Rattle.words.specs.Numbers.{put}
use Rattle.dates.specs.Dates.{signs, data_ora_written, data_ora, data_ora_zona, data_ora_zona_written, data_ora_zona_within}
use Rattle.dates.proofs.Laws.{zona_both, ora_zona_long}
use Rattle.texts.specs.Texts.{whole_text, caller_text, istat_text, caller_time}
use Rattle.texts.proofs.Laws.{istat_some, caller_text_told}
use Rattle.header.specs.declared.Span.{Span}
use Rattle.pen.specs.Pen.{Wrote}
use Rattle.pen.proofs.Laws.{wrote_then}
use Rattle.message.specs.From.{Caller}
use Rattle.message_fit.specs.declared.Held.{Held}
use Rattle.message_fit.specs.declared.Laid.{Laid}
use Rattle.message_fit.specs.Fit.{caller_by, caller_ok}
use Rattle.message_fit.specs.Holding.{texts_room, caller_in, Holds, Lays}

-- NO TEXT IS LONGER THAN 140 BYTES
pub text_140 : (t : List ℕ) → caller_text t ≡ true → length t ≤ 140
text_140 t e = ((caller_text_told t).sound e).1

pub istat_140 : (t : List ℕ) → istat_text t ≡ true → length t ≤ 140
istat_140 [] e = omega arith
istat_140 (b ∷ t) e = text_140 (b ∷ t) (sym (istat_some (b ∷ t) (λ z. omega arith)) ∙ e)

pub time_140 : (t : List ℕ) → caller_time t ≡ true → length t ≤ 140
unfolding caller_time
time_140 t e =
    let a = both (data_ora_zona t) (whole_text t) e in
    let b = ora_zona_long t (both (data_ora_zona_written t) (data_ora_zona_within t) (sym (zona_both t) ∙ a.0)).0 in
    omega arith

-- and none has the form of a time without a byte
no_time : caller_time [] ≡ false
unfolding caller_time data_ora_zona data_ora data_ora_written signs
no_time = refl

-- ONE TEXT
module _ (s : List ℕ) {a : Laid} (t : List ℕ) {ok : Bool} where
  pub lays_past : a.right ≡ false → Lays s s a t ok a
  lays_past w = record { right = rw w; wrote = λ e. absurd (let z : ◌≡◌ {A = ℕ} 0 1 = cc in omega arith); none = λ e. refl; after_it = omega arith; short = omega arith; size = refl }

  pub lays_wrong : ok ≡ false → Lays s s a t ok (record { right = false; to = a.to })
  lays_wrong w = record { right = sym (ap (λ (b : Bool). a.right && b) w ∙ and_comm a.right false); wrote = λ e. absurd (let z : ◌≡◌ {A = ℕ} 0 1 = cc in omega arith); none = λ e. refl; after_it = omega arith; short = omega arith; size = refl }

  pub lays_right : {u : List ℕ} {to : ℕ} → a.right ≡ true → ok ≡ true → length t ≤ 140 → Wrote s u a.to t to → Lays s u a t ok (record { right = true; to = to })
  lays_right w v l x =
      let i = x.to in
      record { right = sym (rw (w, v)); wrote = λ e. x; none = λ e. absurd (let z : ◌≡◌ {A = ℕ} 0 1 = cc in omega arith); after_it = omega arith; short = omega arith; size = x.size }

pub lays_by : {s u : List ℕ} {a r : Laid} {t : List ℕ} {ok b : Bool} → ok ≡ b → Lays s u a t ok r → Lays s u a t b r
lays_by {s} {u} {a} {r} {t} e l = subst (λ (x : Bool). Lays s u a t x r) e l

-- where it and those before it are right, those before it are
before : {s u : List ℕ} {a r : Laid} {t : List ℕ} {ok : Bool} → Lays s u a t ok r → r.right ≡ true → a.right ≡ true
before {a = a} {ok = ok} l e = (both a.right ok (sym l.right ∙ e)).0

-- CUT OUT AGAIN: the first of those that stand from a place on, and the others
module _ (s z : List ℕ) {u v x : List ℕ} {a e : ℕ} (w : Wrote u v a x e) where
  cut_last : drop a s ≡ x ++ z → part s a e ≡ x
  cut_last d = let l = w.to in let n : length x ≡ e - a = omega arith in ap (take (e - a)) d ∙ take_at x z (e - a) n

  module _ (y : List ℕ) (d : drop a s ≡ (x ++ y) ++ z) where
    cut_one : part s a e ≡ x
    cut_one = let l = w.to in let n : length x ≡ e - a = omega arith in ap (take (e - a)) (d ∙ append_assoc x y z) ∙ take_at x (y ++ z) (e - a) n

    cut_rest : drop e s ≡ y ++ z
    cut_rest = ap (λ (k : ℕ). drop k s) w.to ∙ sym (drop-drop (length x) a s) ∙ ap (drop (length x)) (d ∙ append_assoc x y z) ∙ drop_at x (y ++ z) (length x) refl

front : (s v : List ℕ) → put s 0 v ≡ v ++ drop (length v) s
unfolding put
front s v = rw (zero-add (length v))

empty : (s : List ℕ) {a e : ℕ} → e ≡ a → part s a e ≡ []
empty s {a} {e} q = let z : e - a ≡ 0 = omega arith in rw z

-- ALL NINE
-- the tests in the order of the code, and in the order of caller_ok
in_turn : (o n d i f t b w c : Bool) → (((((((o && n) && d) && i) && f) && t) && b) && w) && c ≡ c && (o && (n && (d && (i && (f && (t && (b && w)))))))
in_turn o n d i f t b w c = and_comm (((((((o && n) && d) && i) && f) && t) && b) && w) c ∙ ap (λ (x : Bool). c && x) (simp and_assoc)

module _ {s₀ s₁ s₂ s₃ s₄ s₅ s₆ s₇ s₈ s₉ : List ℕ} {a b c d e f g h i : Laid} {outcome ente described istat fiscal tramite bank flow created : List ℕ}
    (n : texts_room ≤ length s₀)
    (l₁ : Lays s₀ s₁ (record { right = true; to = 0 }) outcome (caller_time outcome) a)
    (l₂ : Lays s₁ s₂ a ente (caller_text ente) b)
    (l₃ : Lays s₂ s₃ b described (caller_text described) c)
    (l₄ : Lays s₃ s₄ c istat (istat_text istat) d)
    (l₅ : Lays s₄ s₅ d fiscal (caller_text fiscal) e)
    (l₆ : Lays s₅ s₆ e tramite (caller_text tramite) f)
    (l₇ : Lays s₆ s₇ f bank (caller_text bank) g)
    (l₈ : Lays s₇ s₈ g flow (caller_text flow) h)
    (l₉ : Lays s₈ s₉ h created (caller_time created) i) where
  abbrev theirs : Caller
  theirs = caller_by created outcome ente described istat fiscal tramite bank flow

  abbrev places : Held
  places = record {
    right = i.right;
    outcome = record { from = 0; to = a.to };
    given = record {
      created = record { from = h.to; to = i.to };
      ente = record { from = a.to; to = b.to };
      described = record { from = b.to; to = c.to };
      istat = record { from = c.to; to = d.to };
      fiscal = record { from = d.to; to = e.to };
      tramite = record { from = e.to; to = f.to };
      bank = record { from = f.to; to = g.to };
      flow = record { from = g.to; to = h.to };
    };
  }

  judged_so : i.right ≡ caller_ok theirs
  unfolding caller_ok
  judged_so = rw (l₉.right, l₈.right, l₇.right, l₆.right, l₅.right, l₄.right, l₃.right, l₂.right, l₁.right) (in_turn (caller_time outcome) (caller_text ente) (caller_text described) (istat_text istat) (caller_text fiscal) (caller_text tramite) (caller_text bank) (caller_text flow) (caller_time created))

  held_same : i.right ≡ true → caller_in places s₉ ≡ theirs
  held_same y =
      let y₈ = before l₉ y in
      let y₇ = before l₈ y₈ in
      let y₆ = before l₇ y₇ in
      let y₅ = before l₆ y₆ in
      let y₄ = before l₅ y₅ in
      let y₃ = before l₄ y₄ in
      let y₂ = before l₃ y₃ in
      let y₁ = before l₂ y₂ in
      let w₁ = l₁.wrote y₁ in
      let w₂ = l₂.wrote y₂ in
      let w₃ = l₃.wrote y₃ in
      let w₄ = l₄.wrote y₄ in
      let w₅ = l₅.wrote y₅ in
      let w₆ = l₆.wrote y₆ in
      let w₇ = l₇.wrote y₇ in
      let w₈ = l₈.wrote y₈ in
      let w₉ = l₉.wrote y in
      let w = wrote_then w₁ (wrote_then w₂ (wrote_then w₃ (wrote_then w₄ (wrote_then w₅ (wrote_then w₆ (wrote_then w₇ (wrote_then w₈ w₉))))))) in
      let r₇ = flow ++ created in
      let r₆ = bank ++ r₇ in
      let r₅ = tramite ++ r₆ in
      let r₄ = fiscal ++ r₅ in
      let r₃ = istat ++ r₄ in
      let r₂ = described ++ r₃ in
      let r₁ = ente ++ r₂ in
      let z = drop (length (outcome ++ r₁)) s₀ in
      let p₁ = w.wrote (omega arith) ∙ front s₀ (outcome ++ r₁) in
      let p₂ = cut_rest s₉ z w₁ r₁ p₁ in
      let p₃ = cut_rest s₉ z w₂ r₂ p₂ in
      let p₄ = cut_rest s₉ z w₃ r₃ p₃ in
      let p₅ = cut_rest s₉ z w₄ r₄ p₄ in
      let p₆ = cut_rest s₉ z w₅ r₅ p₅ in
      let p₇ = cut_rest s₉ z w₆ r₆ p₆ in
      let p₈ = cut_rest s₉ z w₇ r₇ p₇ in
      let p₉ = cut_rest s₉ z w₈ created p₈ in
      λ k. caller_by (cut_last s₉ z w₉ p₉ k) (cut_one s₉ z w₁ r₁ p₁ k) (cut_one s₉ z w₂ r₂ p₂ k) (cut_one s₉ z w₃ r₃ p₃ k) (cut_one s₉ z w₄ r₄ p₄ k) (cut_one s₉ z w₅ r₅ p₅ k) (cut_one s₉ z w₆ r₆ p₆ k) (cut_one s₉ z w₇ r₇ p₇ k) (cut_one s₉ z w₈ created p₈ k)

  -- where one is wrong, the last is empty
  held_judged : (x : Bool) → i.right ≡ x → i.right ≡ caller_ok (caller_in places s₉)
  unfolding caller_ok
  held_judged true y = judged_so ∙ ap caller_ok (sym (held_same y))
  held_judged false y = y ∙ sym (rw (empty s₉ (l₉.none y), no_time))

  held_all : Holds places s₉ theirs
  held_all = record {
    held = record {
      right = held_judged i.right refl;
      outcome = (omega arith, omega arith);
      given = record {
        created = (omega arith, omega arith);
        ente = (omega arith, omega arith);
        described = (omega arith, omega arith);
        istat = (omega arith, omega arith);
        fiscal = (omega arith, omega arith);
        tramite = (omega arith, omega arith);
        bank = (omega arith, omega arith);
        flow = (omega arith, omega arith);
      };
    };
    right = judged_so;
    same = held_same;
  }

  -- with the places as the code names them
  module _ {w₀ w₁ w₂ w₃ w₄ w₅ w₆ w₇ w₈ : Span} (q₀ : w₀ ≡ places.outcome) (q₁ : w₁ ≡ places.given.created) (q₂ : w₂ ≡ places.given.ente) (q₃ : w₃ ≡ places.given.described) (q₄ : w₄ ≡ places.given.istat) (q₅ : w₅ ≡ places.given.fiscal) (q₆ : w₆ ≡ places.given.tramite) (q₇ : w₇ ≡ places.given.bank) (q₈ : w₈ ≡ places.given.flow) where
    abbrev named : Held
    named = record { right = i.right; outcome = w₀; given = record { created = w₁; ente = w₂; described = w₃; istat = w₄; fiscal = w₅; tramite = w₆; bank = w₇; flow = w₈ } }

    pub held_so : {r : Held} → r ≡ named → Holds r s₉ theirs
    held_so {r} q =
        let z : named ≡ places = λ k. record { right = i.right; outcome = q₀ k; given = record { created = q₁ k; ente = q₂ k; described = q₃ k; istat = q₄ k; fiscal = q₅ k; tramite = q₆ k; bank = q₇ k; flow = q₈ k } } in
        subst (λ (x : Held). Holds x s₉ theirs) (sym (q ∙ z)) held_all
