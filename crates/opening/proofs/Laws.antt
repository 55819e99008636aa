-- Laws of the bytes that opening writes.
use Rattle.std.specs.Prelude.{Ok, Err}
use mathlib.Core.Path.{◌≡◌, sym, ap, ◌∙◌}
use mathlib.Core.List.{List, ◌++◌}
use mathlib.Core.Bool.{true, false}
use Prim.Native.Nat.{ℕ, ◌+◌, ◌*◌}
use native.Mathlib.Nat.{zero-add}
use native.Mathlib.Omega.{arith}
use lib.ListN.{length, drop, replicate, length-append, length-replicate, replicate-append-replicate}
use lib.Seq.{drop_at}
use borrow.Author.Tests.{eq-eqb, ne_eqb}
use Rattle.scan.specs.Bytes.{part}
use Rattle.words.specs.Numbers.{put}
use Rattle.record.specs.Slot.{slot_size}
use Rattle.entries.specs.Entry.{entry_size, request_size}
use Rattle.entries.proofs.Laws.{put_next}
use Rattle.contents.specs.Contents.{head_bytes, entries_bytes}
use Rattle.contents.proofs.Laws.{length_part, length_head, length_entries}
use Rattle.table.specs.Table.{head_size}
use Rattle.request.specs.Request.{first_body, asked, slots_asked, needed, request_ok}
use Rattle.request.proofs.Laws.{request}
use Rattle.opening.specs.declared.OpenRefusal.TheVariants.{WrongRequest, WrongLength}
use Rattle.opening.specs.Opening.{no_cents, opened, open_of}

-- WHAT IS WRITTEN

drop_zeros : (k n m : ℕ) → n ≡ k + m → drop {A = ℕ} k (replicate n 0) ≡ replicate m 0
drop_zeros k n m e =
    ap (λ (x : ℕ). drop {A = ℕ} k (replicate x 0)) e
    ∙ ap (drop k) (sym (replicate-append-replicate k m 0))
    ∙ drop_at (replicate k 0) (replicate m 0) k (length-replicate k 0)

-- bytes put at the front of zeros
put_zeros : (v : List ℕ) (n m : ℕ) → n ≡ length v + m → put (replicate n 0) 0 v ≡ v ++ replicate m 0
unfolding put
put_zeros v n m e = ap (λ (l : List ℕ). v ++ l) (ap (λ (k : ℕ). drop {A = ℕ} k (replicate n 0)) (zero-add (length v)) ∙ drop_zeros (length v) n m e)

pub filled : (q t₁ t₂ t₃ : List ℕ) (n len m : ℕ) → request_ok q ≡ true → n ≡ asked q → len ≡ needed q → m ≡ needed q → t₁ ≡ replicate len 0
    → t₂ ≡ put t₁ 0 (head_bytes n m (part q 0 first_body))
    → t₃ ≡ put t₂ head_size (entries_bytes request_size no_cents q first_body n (head_size + entry_size * n)) → t₃ ≡ opened q
unfolding opened needed
filled q t₁ t₂ t₃ n len m ok e f g e₁ e₂ e₃ =
    let r = request q ok in
    let hs : List ℕ = head_bytes (asked q) (needed q) (part q 0 first_body) in
    let es : List ℕ = entries_bytes request_size no_cents q first_body (asked q) (head_size + entry_size * asked q) in
    let lh = length_head (asked q) (needed q) (part q 0 first_body) (length_part q 0 first_body (omega (arith, r.whole))) in
    let le = length_entries request_size no_cents q (omega arith) first_body (asked q) (head_size + entry_size * asked q) (omega (arith, r.whole)) in
    let e₄ : t₃ ≡ put t₂ head_size es = e₃ ∙ ap (λ (k : ℕ). put t₂ head_size (entries_bytes request_size no_cents q first_body k (head_size + entry_size * k))) e in
    let e₅ : t₂ ≡ put t₁ 0 hs = e₂ ∙ (λ i. put t₁ 0 (head_bytes (e i) (g i) (part q 0 first_body))) in
    put_next t₁ 0 hs es head_size (omega arith) (omega arith) e₅ e₄
    ∙ ap (λ (x : List ℕ). put x 0 (hs ++ es)) e₁
    ∙ put_zeros (hs ++ es) len (slot_size * slots_asked q) (omega (arith, length-append hs es))

-- THE ANSWER

module _ (q : List ℕ) (n : ℕ) where
  pub open_not : request_ok q ≡ false → open_of q n ≡ Err WrongRequest
  unfolding open_of
  open_not h = rw h

  module _ (g : request_ok q ≡ true) (m : ℕ) (e : m ≡ needed q) where
    pub open_other : (n ≡ m → ⊥) → open_of q n ≡ Err WrongLength
    unfolding open_of
    open_other h = rw (g, ← e, ne_eqb n m h)

    pub open_done : n ≡ m → open_of q n ≡ Ok tt
    unfolding open_of
    open_done h = rw (g, ← e, eq-eqb n m h)
