-- Reading a message, a way out of the code at a time.
use Rattle.std.specs.Prelude.{Option, Result, Some, None, Ok, Err}
use mathlib.Core.Path.{◌≡◌, refl, sym, ap, ◌∙◌}
use mathlib.Core.List.{List, [], ◌∷◌, ◌++◌}
use mathlib.Core.Bool.{Bool, true, false, cond}
use Prim.Native.Nat.{ℕ, ◌+◌, ◌*◌, ◌≤◌, ◌<◌}
use native.Mathlib.Omega.{arith}
use lib.ListN.{length, length-append}
use lib.Dec.{leb}
use borrow.Author.Tests.{le-leb, lt-leb}
use Rattle.scan.specs.Bytes.{bytes}
use Rattle.scan.proofs.Laws.{in_range}
use Rattle.tokens.specs.Tokens.{white_at}
use Rattle.fields.specs.declared.Cause.{Cause}
use Rattle.fields.specs.declared.Cause.TheVariants.{Misformed}
use Rattle.words.specs.Numbers.{put}
use Rattle.words.proofs.Laws.{length_put, put_put}
use Rattle.schema.specs.declared.Parent.TheVariants.{MessaggiEsito, TestataMessaggio}
use Rattle.rows.specs.declared.Kept.{Kept}
use Rattle.schema.specs.Table.{name_is}
use Rattle.rows.specs.Kept.{kept_from, next_of}
use Rattle.orders.specs.Orders.{in_row, inside_of}
use Rattle.standing.specs.declared.Flaw.{Flaw}
use Rattle.standing.specs.declared.Flaw.TheVariants as standing
use Rattle.standing.specs.Standing.{standing_at}
use Rattle.parts.proofs.Laws.{row_at, row_end}
use Rattle.parts.specs.Parts.{span_in, spans_from, parts_in}
use Rattle.agreement.specs.declared.EntryKind.{EntryKind}
use Rattle.agreement.specs.declared.EntryKind.TheVariants.{Reversale, Mandato}
use Rattle.agreement.specs.Agreement.{entry_parent, entry_row, entries_of, off_from}
use Rattle.message.specs.Message.{count_ok}
use Rattle.message_values.specs.Values.{span_bytes, spans_bytes, entry_at, entries_at, head_at}
use Rattle.message_values.proofs.Laws.{entry_length, spans_length}
use Rattle.schema.specs.declared.Holds.TheVariants.{Rows}
use Rattle.message_read.specs.declared.MessageFlaw.{MessageFlaw}
use Rattle.message_read.specs.declared.MessageFlaw.TheVariants.{Structure, Field}
use Rattle.message_read.specs.declared.Reply.{Reply}
use Rattle.message_read.specs.Steps.{count_from, by_standing, judged_by, judged_at, judged_of, refusal, ReadGives}

-- COUNTING
pub record Counted (k : EntryKind) (s : List ℕ) (from i n : ℕ) : Type 0 where
  pub within : i ≤ length s
  pub sum : n + length (entries_of k s i) ≡ length (entries_of k s from)
  pub few : n ≤ i

module _ (k : EntryKind) (s : List ℕ) (from : ℕ) where
  pub count_start : from ≤ length s → Counted k s from from 0
  count_start h = record { within = h; sum = omega arith; few = omega arith }

  module _ (i n r : ℕ) (t : Counted k s from i n) (e : r ≡ entry_row k) where
    pub count_end : next_of (in_row r (kept_from MessaggiEsito s i)) ≡ None → (n ≡ length (entries_of k s from)) × (n ≤ length s)
    count_end d =
        let z : length (entries_of k s i) ≡ 0 = ap (λ (l : List Kept). length l) (row_end (in_row (entry_row k) (kept_from MessaggiEsito s i)) (rw e at d)) in
        let a = t.sum in
        let b = t.few in
        let c = t.within in
        (omega arith, omega arith)

    module _ (x : Kept) (d : next_of (in_row r (kept_from MessaggiEsito s i)) ≡ Some x) where
      pub count_step : Counted k s from x.child.after (n + 1)
      count_step =
          let z = ap (λ (l : List Kept). length l) (row_at (entry_row k) MessaggiEsito s i x (rw e at d)).rest in
          let l = (row_at r MessaggiEsito s i x d).lies in
          let a = t.sum in
          let b = t.few in
          record { within = l.within; sum = omega arith; few = omega (arith, l.from, l.name, l.inner, l.ends) }

-- JUDGING
module _ (w : Result Unit Flaw) (off : Option ℕ) (n : ℕ) where
  pub judged_few : n < 1 → Err Structure ≡ judged_by w off n
  unfolding judged_by
  judged_few h = rw (lt-leb 1 n h)

  pub judged_many : 1 ≤ n → 64 < n → Err Structure ≡ judged_by w off n
  unfolding judged_by
  judged_many h k = rw (le-leb 1 n h, lt-leb n 64 k)

  pub judged_is : 1 ≤ n → n ≤ 64 → {j : Result ℕ MessageFlaw} → j ≡ by_standing w off n → j ≡ judged_by w off n
  unfolding judged_by
  judged_is h k e = rw (le-leb 1 n h, le-leb n 64 k) e

-- GIVING
entries_length : (k : EntryKind) (s : List ℕ) (es : List Kept) → length (entries_at k s es) ≡ 48 * length es
unfolding entries_at
entries_length k s [] = refl
entries_length k s (e ∷ es) =
    let a = length-append (entry_at k s (inside_of s e (Rows (entry_parent k)))) (entries_at k s es) in
    let b = entry_length k s (inside_of s e (Rows (entry_parent k))) in
    let c = entries_length k s es in
    omega arith

parts_length : (ks : List Kept) → length (parts_in ks) ≡ 9
unfolding spans_from
parts_length ks = refl

head_length : (s : List ℕ) (ks : List Kept) → length (head_at s ks) ≡ 80
head_length s ks =
    let es = kept_from TestataMessaggio s (white_at s (span_in 0 ks).from) in
    let a = length-append (spans_bytes (parts_in es)) (span_bytes (span_in 1 ks)) in
    let b = spans_length (parts_in es) in
    let c = parts_length es in
    omega arith

module _ (s values : List ℕ) (i n : ℕ) where
  pub give_none : length values < 80 + 48 * n → ReadGives s values i (Ok n) (refusal 40 0 0) values
  give_none h = (rw (lt-leb (80 + 48 * n) (length values) h), rw (lt-leb (80 + 48 * n) (length values) h))

  module _ (h : 80 + 48 * n ≤ length values) (c : n ≡ count_from s i) where
    abbrev ks : List Kept
    ks = kept_from MessaggiEsito s i

    pub give_first : 80 + 48 * length (entries_of Reversale s i) ≤ length values
    give_first = omega arith

    pub give_second : (to : ℕ) → to ≡ 80 + 48 * length (entries_of Reversale s i) → to + 48 * length (entries_of Mandato s i) ≤ length values
    give_second to e = omega arith

    pub give_all : {u v x : List ℕ} {to : ℕ} {r : Reply} → u ≡ put values 0 (head_at s (kept_from MessaggiEsito s i)) → to ≡ 80 + 48 * length (entries_of Reversale s i)
        → v ≡ put u 80 (entries_at Reversale s (entries_of Reversale s i)) → x ≡ put v to (entries_at Mandato s (entries_of Mandato s i)) → r ≡ record { code = 0; place = 0; cause = 0; entries = n } → ReadGives s values i (Ok n) r x
    give_all {u} {v} {x} {to} {r} eu et ev ex er =
        let a = head_at s (kept_from MessaggiEsito s i) in
        let b = entries_at Reversale s (entries_of Reversale s i) in
        let d = entries_at Mandato s (entries_of Mandato s i) in
        let la = head_length s (kept_from MessaggiEsito s i) in
        let lb = entries_length Reversale s (entries_of Reversale s i) in
        let lu : length u ≡ length values = ap length eu ∙ length_put values 0 a (omega arith) in
        let p : put v to d ≡ put u 80 (b ++ d) = rw ev (put_put u 80 b d to (omega arith) (omega arith)) in
        let q : put u 80 (b ++ d) ≡ put values 0 (a ++ (b ++ d)) = rw eu (put_put values 0 a (b ++ d) 80 (omega arith) (omega arith)) in
        (rw (le-leb (80 + 48 * n) (length values) h) er, rw (le-leb (80 + 48 * n) (length values) h) (ex ∙ p ∙ q))

-- THE CONTENT
pub judged_made : (s : List ℕ) (at : ℕ) {w : Result Unit Flaw} {o : Option ℕ} {a b from : ℕ} → w ≡ standing_at 3 MessaggiEsito s at → from ≡ white_at s at → o ≡ off_from s from → a ≡ length (entries_of Reversale s from) → b ≡ length (entries_of Mandato s from)
    → judged_by w o (a + b) ≡ judged_at s at
judged_made s at {w} {o} {a} {b} {from} ew ef eo ea eb = rw (ew, eo, ea, eb, ef)

pub judged_stands : (w : Result Unit Flaw) (o : Option ℕ) (k n : ℕ) → judged_by w o k ≡ Ok n → (n ≡ k) × (n ≤ 64)
unfolding judged_by
judged_stands w o k n e = go (count_ok k) refl w o e
  where
    no : {A : Type 0} → ◌≡◌ {A = Result ℕ MessageFlaw} (Err Structure) (Ok n) → A
    no h = let z : ◌≡◌ {A = ℕ} 0 1 = cc in absurd (omega arith)

    not : {A : Type 0} {p : ℕ} {c : Cause} → ◌≡◌ {A = Result ℕ MessageFlaw} (Err (Field p c)) (Ok n) → A
    not h = let z : ◌≡◌ {A = ℕ} 0 1 = cc in absurd (omega arith)

    go : (b : Bool) → count_ok k ≡ b → (w : Result Unit Flaw) (o : Option ℕ) → cond b (by_standing w o k) (Err Structure) ≡ Ok n → (n ≡ k) × (n ≤ 64)
    go false c w o h = no h
    go true c (Err standing.StructureBreaks) o h = no h
    go true c (Err (standing.FieldBreaks p x)) (Some q) h = both_not (leb p q) h
      where
        both_not : (b : Bool) → cond b (Err (Field p x)) (Err (Field q Misformed)) ≡ Ok n → (n ≡ k) × (n ≤ 64)
        both_not true h = not h
        both_not false h = not h
    go true c (Err (standing.FieldBreaks p x)) None h = not h
    go true c (Ok tt) (Some q) h = not h
    go true c (Ok tt) None h = let z : k ≡ n = cc in let l = (in_range 1 64 k c).1 in (sym z, omega arith)

pub gives_as : (s values : List ℕ) {i k : ℕ} {j q : Result ℕ MessageFlaw} {r : Reply} {left : List ℕ} → k ≡ i → q ≡ j → ReadGives s values i j r left → ReadGives s values k q r left
gives_as s values e f g = rw (e, f) g

-- THE ROOT
module _ (s values : List ℕ) (lt e at : ℕ) {b : Bool} (n : b ≡ name_is (bytes "messaggi_esito_applicativo") s (lt + 1) e) {r : Reply} {left : List ℕ} where
  pub gives_other : b ≡ false → ReadGives s values (white_at s at) (Err Structure) r left → ReadGives s values (white_at s at) (judged_of s lt e at) r left
  gives_other f g = gives_as s values {i = white_at s at} {k = white_at s at} {j = Err Structure} {q = judged_of s lt e at} refl (rw (sym n ∙ f)) g

  pub gives_named : b ≡ true → ReadGives s values (white_at s at) (judged_at s at) r left → ReadGives s values (white_at s at) (judged_of s lt e at) r left
  gives_named f g = gives_as s values {i = white_at s at} {k = white_at s at} {j = judged_at s at} {q = judged_of s lt e at} refl (rw (sym n ∙ f)) g
