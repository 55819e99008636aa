-- The call: what a reading leaves to be written, and each way out.
use mathlib.Core.Path.{◌≡◌, refl, sym, ap, subst, ◌∙◌}
use mathlib.Core.List.{List}
use mathlib.Core.Bool.{Bool, true, false, cond}
use Prim.Native.Nat.{ℕ, ◌+◌, ◌*◌, ◌≤◌, ◌<◌}
use native.Mathlib.Omega.{arith}
use native.Mathlib.Nat.{zero-add}
use lib.ListN.{length, drop}
use lib.Dec.{leb}
use borrow.Author.Tests.{le-leb, lt-leb, leb-true, leb-false}
use Rattle.scan.proofs.Laws.{in_range}
use Rattle.words.specs.Numbers.{put}
use Rattle.standing.specs.Readings.{Bad, Place, Nowhere}
use Rattle.editions.specs.declared.Edition.{Edition}
use Rattle.tree.specs.Tree.{Tree, held_of, kids_in}
use Rattle.tree.specs.Written.{bytes_of}
use Rattle.message.specs.Message.{Message, entry_count, MessageOk}
use Rattle.message.specs.Written.{message_tree, message_bytes}
use Rattle.message.specs.Read.{MessageReading, read, refused, message_in, by_place, first_broken, is_message, reading_on, MessageOf, too_long, no_tree, on_tree}
use Rattle.message.proofs.Theorem.{read_ok}
use Rattle.message.proofs.Short.{message_short}
use Rattle.message_pen.specs.Parts.{RoomOf, WroteTree}
use Rattle.message_read.specs.declared.Reply.{Reply}
use Rattle.message_read.specs.Values.{values_in}
use Rattle.message_read.specs.Promise.{ReadFrom, ReadIn, refuses, no_room, reads}
use Rattle.message_read.proofs.NoSecond.{values_suffice}
use Rattle.message_rewrite.specs.declared.RewriteReply.{RewriteReply}
use Rattle.message_rewrite.specs.Again.{message_again, AllAt, again_reply, again_buffer}
use Rattle.message_rewrite.specs.Promise.{RewriteIn, not_read, too_small, rewritten}
use Rattle.message_rewrite.proofs.Places.{root_at}
use Rattle.message_rewrite.proofs.Whole.{read_values, whole_at, whole_same}

-- COUNTED, THEN WRITTEN
module _ (b s v : List ℕ) (n : ℕ) where
  abbrev out : List ℕ
  out = bytes_of (message_again s v n)

  -- a run on another buffer has counted
  module _ {c d : List ℕ} {to : ℕ} (w : WroteTree c d 0 (message_again s v n) to) where
    size : to ≡ length out
    size = w.wrote.to ∙ zero-add (length out)

    pub again_none : length b < to → (record { code = 40; length = 0 } ≡ again_reply (length b) out) × (b ≡ again_buffer b out)
    again_none h = let e = size in let l : length b < length out = omega arith in rw (lt-leb (length out) (length b) l) (refl, refl)

    pub again_made : {u : List ℕ} {r k : ℕ} → to ≤ length b → WroteTree b u 0 (message_again s v n) r → k ≡ r → (record { code = 0; length = k } ≡ again_reply (length b) out) × (u ≡ again_buffer b out)
    again_made {u} {r} {k} h x g =
        let e = size in
        let f : r ≡ length out = x.wrote.to ∙ zero-add (length out) in
        let l : length out ≤ length b = omega arith in
        rw (le-leb (length out) (length b) l) (λ i. record { code = 0; length = (g ∙ f) i }, x.wrote.wrote (omega arith))

-- WHAT IS READ
-- a refusal has a code
pub no_code : {y : Edition} {s : List ℕ} (r : MessageReading) → MessageOf y s r → {c p w : ℕ} → r ≡ refused c p w → c ≡ 0 → ⊥
unfolding reading_on
no_code r (too_long l) e z = let y : ◌≡◌ {A = ℕ} 2 0 = cc in omega arith
no_code r (no_tree l f) e z = let y : ◌≡◌ {A = ℕ} 3 0 = cc in omega arith
no_code r (on_tree {t = t} l d g) {c} {p} {w} e z = go (is_message t) (first_broken t) (g ∙ e)
  where
    go : (b : Bool) (f : Bad) → cond b (by_place (message_in (kids_in (held_of t))) f) (refused 4 0 0) ≡ refused c p w → ⊥
    go true Nowhere h = let y : ◌≡◌ {A = ℕ} 0 1 = cc in omega arith
    go true (Place q x) h = let y : ◌≡◌ {A = ℕ} 5 0 = cc in omega arith
    go false f h = let y : ◌≡◌ {A = ℕ} 4 0 = cc in omega arith

-- what is to be written of a message that was read
pub record Ready (y : Edition) (s v : List ℕ) (n : ℕ) : Type 0 where
  pub message : Message
  pub reading : MessageOf y s (read message)
  pub there : 80 + 48 * n ≤ length v
  pub few : n ≤ 64
  pub all : AllAt s v n
  pub same : message_again s v n ≡ message_tree message
  pub room : RoomOf 0 (message_again s v n)

module _ (y : Edition) (s : List ℕ) where
  ready : (z : List ℕ) {t : Tree} {m : Message} (v : List ℕ) → ReadFrom y s t m → v ≡ put z 0 (values_in (kids_in (held_of t))) → length v ≡ 3152 → Ready y s v (entry_count m)
  unfolding put
  ready z {t} {m} v f e k =
      let kids = kids_in (held_of t) in
      let q = read_values t m f.reading in
      let x : MessageOf y s (read m) = on_tree f.short f.derived f.reading in
      let ok = read_ok s m x in
      let ok' : MessageOk (message_in kids) = subst MessageOk (sym q) ok in
      let deep = root_at s t f.derived in
      let a = whole_at s f.short kids deep v (drop (0 + length (values_in kids)) z) e ok' in
      let b = whole_same s f.short kids deep v (drop (0 + length (values_in kids)) z) e ok' in
      let same : message_again s v (entry_count m) ≡ message_tree m = subst (λ (i : Message). message_again s v (entry_count i) ≡ message_tree i) q b in
      let short = message_short m ok in
      let c = in_range 1 64 (entry_count m) ok.count in
      record {
        message = m;
        reading = x;
        there = omega arith;
        few = c.1;
        all = subst (λ (i : Message). AllAt s v (entry_count i)) q a;
        same = same;
        room = subst (RoomOf 0) (sym same) (record { room = record { fits = omega arith } });
      }

  pub read_done : {z : List ℕ} {r : Reply} {v : List ℕ} → ReadIn y s z r v → length v ≡ 3152 → r.code ≡ 0 → Ready y s v r.entries
  read_done {z} {r} {v} (refuses {code = c} {place = p} {cause = w} x) k e = absurd (no_code (refused c p w) x refl e)
  read_done {z} {r} {v} (no_room f h) k e = absurd (omega arith)
  read_done {z} {r} {v} (reads f h) k e = ready z v f refl k

  pub read_refused : {z : List ℕ} (b : List ℕ) {r : Reply} {v : List ℕ} {q : RewriteReply} → ReadIn y s z r v → length z ≡ 3152 → (r.code ≡ 0 → ⊥) → q ≡ record { code = r.code; length = 0 } → RewriteIn y s b q b
  read_refused b (refuses x) l e g = rw g (not_read x)
  read_refused b (no_room {t = t} {m = m} f h) l e g = let k = values_suffice s t m f in absurd (omega arith)
  read_refused b (reads f h) l e g = absurd (e refl)

-- AND WRITTEN
pub ready_done : (y : Edition) (s v b u : List ℕ) (n : ℕ) (r : RewriteReply) → Ready y s v n → (r ≡ again_reply (length b) (bytes_of (message_again s v n))) × (u ≡ again_buffer b (bytes_of (message_again s v n))) → RewriteIn y s b r u
ready_done y s v b u n r d (x, w) =
    let m = d.message in
    let e : bytes_of (message_again s v n) ≡ message_bytes m = ap bytes_of d.same in
    go (leb (length (message_bytes m)) (length b)) refl (x ∙ ap (again_reply (length b)) e) (w ∙ ap (again_buffer b) e)
  where
    go : (g : Bool) → leb (length (message_bytes d.message)) (length b) ≡ g → r ≡ cond g (record { code = 0; length = length (message_bytes d.message) }) (record { code = 40; length = 0 })
        → u ≡ cond g (put b 0 (message_bytes d.message)) b → RewriteIn y s b r u
    go true h x w = subst (λ (q : RewriteReply). RewriteIn y s b q u) (sym x) (subst (RewriteIn y s b (record { code = 0; length = length (message_bytes d.message) })) (sym w) (rewritten d.reading (leb-true (length (message_bytes d.message)) (length b) h)))
    go false h x w = subst (λ (q : RewriteReply). RewriteIn y s b q u) (sym x) (subst (RewriteIn y s b (record { code = 40; length = 0 })) (sym w) (too_small d.reading (let k = leb-false (length (message_bytes d.message)) (length b) h in omega arith)))
