-- What the promise of the call that reads and writes again comes to.
use Rattle.std.specs.Prelude.{Option, Some, None}
use mathlib.Core.Path.{◌≡◌, refl, sym, ap, subst, ◌∙◌}
use mathlib.Core.List.{List}
use Prim.Native.Nat.{ℕ, ◌≤◌}
use native.Mathlib.Omega.{arith}
use lib.ListN.{length, take}
use Rattle.words.specs.Numbers.{put}
use Rattle.grammar.specs.XML.{WellFormedXML}
use Rattle.editions.specs.declared.Edition.{Edition}
use Rattle.editions.specs.Editions.{edition_of}
use Rattle.message.specs.Message.{Message}
use Rattle.message.specs.Written.{message_bytes}
use Rattle.message.specs.Read.{read, refused, MessageOf}
use Rattle.message.proofs.Theorem.{reading_one, same_meaning}
use Rattle.message_rewrite.specs.declared.RewriteReply.{RewriteReply}
use Rattle.message_rewrite.specs.Promise.{RewriteIn, not_read, too_small, rewritten, no_edition, by_edition_lem}
use Rattle.message_rewrite.proofs.Call.{no_code}
use Rattle.messages.specs.Rewrites.{WrittenAgain, AgainSaid, SameAgain, RewrittenSame, AgainSame, AgainKept, NoSecondAgain}
use Rattle.messages.proofs.Writes.{read_xml, front, behind, written}

-- a message is read as one, and not refused
other : {A : Type 0} {y : Edition} {s : List ℕ} {m : Message} {c p w : ℕ} → MessageOf y s (refused c p w) → MessageOf y s (read m) → A
other {A} {y} {s} {m} {c} {p} {w} i j = let e = reading_one s (refused c p w) (read m) i j in let z : ◌≡◌ {A = ℕ} 0 1 = cc in absurd (omega arith)

one : {y : Edition} {s : List ℕ} {m n : Message} → MessageOf y s (read m) → MessageOf y s (read n) → m ≡ n
one {y} {s} {m} {n} i j = let e = reading_one s (read m) (read n) i j in (cc)

-- one number names one edition, or none
unlike : {A : Type 0} {y : Edition} → ◌≡◌ {A = Option Edition} (None) (Some y) → A
unlike e = let z : ◌≡◌ {A = ℕ} 0 1 = cc in absurd (omega arith)

alike : {x y : Edition} → ◌≡◌ {A = Option Edition} (Some x) (Some y) → x ≡ y
alike e = (cc)

-- WRITTEN AGAIN
made : (ed : ℕ) (y : Edition) (s b : List ℕ) (m : Message) → edition_of ed ≡ Some y → MessageOf y s (read m) → length (message_bytes m) ≤ length b → WrittenAgain ed s b (put b 0 (message_bytes m)) (length (message_bytes m))
made ed y s b m i x l =
    let t = front b (message_bytes m) in
    record {
      edition = y;
      numbered = i;
      message = m;
      said = x;
      bytes = t;
      size = refl;
      room = l;
      past = behind b (message_bytes m);
      means = λ e. subst (λ (z : List ℕ). MessageOf e z (read m)) (sym t) (same_meaning y e s m x);
      xml = subst WellFormedXML (sym t) (read_xml (same_meaning y y s m x) m refl);
    }

pub written_again : AgainSaid
written_again ed s b u r (no_edition x) e = absurd (omega arith)
written_again ed s b u r (by_edition_lem i (not_read {code = c} {place = p} {cause = w} x)) e = absurd (no_code (refused c p w) x refl e)
written_again ed s b u r (by_edition_lem i (too_small x l)) e = absurd (omega arith)
written_again ed s b u r (by_edition_lem {e = y} i (rewritten {m = m} x l)) e = made ed y s b m i x l

-- BYTE FOR BYTE
same : (t : List ℕ) (m : Message) → ((y : Edition) → MessageOf y t (read m)) → t ≡ message_bytes m → SameAgain t (length (message_bytes m))
same t m x e ed k d w r i l (no_edition j) = unlike (sym j ∙ i)
same t m x e ed k d w r i l (by_edition_lem {e = y} j (not_read z)) = other z (x y)
same t m x e ed k d w r i l (by_edition_lem {e = y} j (too_small {m = n} z h)) = let q = ap (λ (v : Message). length (message_bytes v)) (one z (x y)) in absurd (omega arith)
same t m x e ed k d w r i l (by_edition_lem {e = y} j (rewritten {m = n} z h)) =
    let q = one z (x y) in
    let g = ap (λ (v : Message). length (message_bytes v)) q in
    (refl, g, ap (λ (v : ℕ). take v (put d 0 (message_bytes n))) (sym g) ∙ front d (message_bytes n) ∙ ap message_bytes q ∙ sym e)

pub rewritten_same : RewrittenSame
rewritten_same ed f o c b u n p = let k = written ed f o c b u n p in subst (SameAgain (take n u)) (sym k.size) (same (take n u) _ k.reads k.message)

pub again_same : AgainSame
again_same ed s b u r p e = let k = written_again ed s b u r p e in subst (SameAgain (take r.length u)) (sym k.size) (same (take r.length u) k.message k.means k.bytes)

-- A REFUSAL
pub again_kept : AgainKept
again_kept ed s b u r (no_edition x) e = (refl, refl)
again_kept ed s b u r (by_edition_lem i (not_read x)) e = (refl, refl)
again_kept ed s b u r (by_edition_lem i (too_small x l)) e = (refl, refl)
again_kept ed s b u r (by_edition_lem i (rewritten x l)) e = absurd (e refl)

-- NO SECOND ANSWER
in_one : {e : Edition} (s b : List ℕ) (x y : RewriteReply) (u v : List ℕ) → RewriteIn e s b x u → RewriteIn e s b y v → (x ≡ y) × (u ≡ v)
in_one s b x y u v (not_read {code = c} {place = p} {cause = q} i) (not_read {code = d} {place = r} {cause = w} j) =
    let e = reading_one s (refused c p q) (refused d r w) i j in
    let z : c ≡ d = cc in
    (λ k. record { code = z k; length = 0 }, refl)
in_one s b x y u v (not_read i) (too_small j l) = other i j
in_one s b x y u v (not_read i) (rewritten j l) = other i j
in_one s b x y u v (too_small i k) (not_read j) = other j i
in_one s b x y u v (too_small i k) (too_small j l) = (refl, refl)
in_one s b x y u v (too_small {m = m} i k) (rewritten {m = n} j l) = let q = ap (λ (z : Message). length (message_bytes z)) (one i j) in absurd (omega arith)
in_one s b x y u v (rewritten i k) (not_read j) = other j i
in_one s b x y u v (rewritten {m = m} i k) (too_small {m = n} j l) = let q = ap (λ (z : Message). length (message_bytes z)) (one i j) in absurd (omega arith)
in_one s b x y u v (rewritten {m = m} i k) (rewritten {m = n} j l) =
    let e = one i j in
    (λ t. record { code = 0; length = length (message_bytes (e t)) }, ap (λ (z : Message). put b 0 (message_bytes z)) e)

pub no_second_again : NoSecondAgain
no_second_again ed s b x y u v (no_edition i) (no_edition j) = (refl, refl)
no_second_again ed s b x y u v (no_edition i) (by_edition_lem j k) = unlike (sym i ∙ j)
no_second_again ed s b x y u v (by_edition_lem i k) (no_edition j) = unlike (sym j ∙ i)
no_second_again ed s b x y u v (by_edition_lem i k) (by_edition_lem j l) = in_one s b x y u v k (subst (λ e. RewriteIn e s b y v) (alike (sym j ∙ i)) l)
