-- What the values show is what was read: an entry, from its 48 bytes, is the entry that its tree says.
use mathlib.Core.Path.{◌≡◌, refl, sym, ap, ◌∙◌}
use mathlib.Core.List.{List, [], ◌∷◌, ◌++◌}
use Prim.Native.Nat.{ℕ, ◌+◌, ◌-◌, ◌%◌, ◌≤◌, ◌<◌}
use native.Mathlib.Nat.{add-zero, add_assoc}
use native.Mathlib.Omega.{arith}
use lib.ListN.{length, drop, get_or, length-append, length-drop}
use lib.Seq.{get_or-drop, drop-drop}
use Rattle.scan.specs.Bytes.{byte_at, part}
use Rattle.words.specs.Numbers.{be2, be4, be8, bytes4, bytes8}
use Rattle.words.proofs.Laws.{Agree, on, same2, same4, same8, be2_bytes, be4_bytes, be8_bytes}
use Rattle.grammar.proofs.Parts.{part_none}
use Rattle.codes.specs.declared.Operation.{Operation}
use Rattle.codes.specs.declared.Operation.TheVariants.{Inserimento, Variazione, Annullo, Sostituzione}
use Rattle.codes.specs.Codes.{operation_number}
use Rattle.tree.specs.Tree.{Tree, held_of}
use Rattle.tree.specs.Orders.{held_text, first_text, Words}
use Rattle.tree.specs.Written.{node}
use Rattle.message.specs.Message.{Entry}
use Rattle.message.specs.Written.{◌and◌, entry_out}
use Rattle.message_pen.specs.Parts.{words_for, entry_name, entry_with}
use Rattle.message_values.specs.Values.{facts_bytes}
use Rattle.message_read.specs.Values.{text_place, shown, facts_of}
use Rattle.message_rewrite.specs.Again.{text_shown, PairAt, operation_by, said_at, entry_again, EntryAt}
use Rattle.message_rewrite.proofs.Places.{TextAt, AllOf, one_of}

-- BYTES FROM A PLACE ON
module _ (v : List ℕ) (at : ℕ) where
  agree : (k n : ℕ) → Agree v (at + k) (drop at v) k n
  agree k n = record { same = λ i b. ap (λ (x : ℕ). get_or v x 0) (add_assoc at k i) ∙ sym (get_or-drop at v (k + i) 0) }

  pub byte_from : (k : ℕ) → byte_at v (at + k) ≡ byte_at (drop at v) k
  byte_from k = sym (get_or-drop at v k 0)

  pub byte_first : byte_at v at ≡ byte_at (drop at v) 0
  byte_first = sym (get_or-drop at v 0 0 ∙ ap (byte_at v) (add-zero at))

  pub two_from : (k : ℕ) → be2 v (at + k) ≡ be2 (drop at v) k
  two_from k = same2 (agree k 2) (omega arith)

  pub four_from : (k : ℕ) → be4 v (at + k) ≡ be4 (drop at v) k
  four_from k = same4 (agree k 4) (omega arith)

  pub four_next : (k : ℕ) → be4 v (at + k + 4) ≡ be4 (drop at v) (k + 4)
  four_next k = same4 (on (agree k 8) 4 4 (omega arith)) (omega arith)

  pub eight_from : (k : ℕ) → be8 v (at + k) ≡ be8 (drop at v) k
  eight_from k = same8 (agree k 8) (omega arith)

-- A PAIR of place and length that is shown
pub record Pair (s : List ℕ) (l : List Tree) : Type 0 where
  pub place : ℕ
  pub size : ℕ
  pub bytes : shown l ≡ bytes4 place ++ bytes4 size
  pub within : place + size ≤ length s
  pub text : part s place (place + size) ≡ first_text l

pub pair_of : (s : List ℕ) (l : List Tree) → AllOf (TextAt s) l → Pair s l
pair_of s [] a = record { place = 0; size = 0; bytes = refl; within = omega arith; text = part_none s 0 }
pair_of s (t ∷ l) (one_of p a) = record { place = text_place t; size = length (held_text (held_of t)); bytes = refl; within = p.within; text = p.stands }

-- read at a place
module _ (s v : List ℕ) (at : ℕ) (short : length s ≤ 65536) {l : List Tree} (p : Pair s l) (a : be4 v at ≡ p.place % 4294967296) (b : be4 v (at + 4) ≡ p.size % 4294967296) where
  place_is : be4 v at ≡ p.place
  place_is = let w = p.within in let z : p.place % 4294967296 ≡ p.place = omega arith in a ∙ z

  size_is : be4 v (at + 4) ≡ p.size
  size_is = let w = p.within in let z : p.size % 4294967296 ≡ p.size = omega arith in b ∙ z

  pub shows : text_shown s v at ≡ first_text l
  shows = (λ i. part s (place_is i) (place_is i + size_is i)) ∙ p.text

  pub shows_at : at + 8 ≤ length v → PairAt s v at
  shows_at h = let w = p.within in let x = place_is in let y = size_is in record { there = h; within = omega arith }

-- AN ENTRY
operation_back : (o : Operation) → operation_by (operation_number o) ≡ o
operation_back Inserimento = refl
operation_back Variazione = refl
operation_back Annullo = refl
operation_back Sostituzione = refl

-- its numbers fit their bytes
pub record Fits (e : Entry) : Type 0 where
  pub esercizio : e.esercizio < 65536
  pub number : e.number < 4294967296
  pub year : e.date.year < 65536
  pub month : e.date.month < 256
  pub day : e.date.day < 256
  pub total : e.total < 18446744073709551616

module _ (s v : List ℕ) (at : ℕ) (short : length s ≤ 65536) (w : Words) (e : Entry) (l₁ l₂ : List Tree) (rest : List ℕ) (p : Pair s l₁) (q : Pair s l₂)
    (d : drop at v ≡ (facts_bytes (facts_of w e) ++ (shown l₁ ++ (shown l₂ ++ bytes8 0))) ++ rest) where
  abbrev own : List ℕ
  own = facts_bytes (facts_of w e) ++ ((bytes4 p.place ++ bytes4 p.size) ++ ((bytes4 q.place ++ bytes4 q.size) ++ bytes8 0))

  abbrev laid : List ℕ
  laid = own ++ rest

  stands : drop at v ≡ laid
  stands = d ∙ (λ i. (facts_bytes (facts_of w e) ++ (p.bytes i ++ (q.bytes i ++ bytes8 0))) ++ rest)

  pub entry_long : at + 48 ≤ length v
  entry_long =
      let a : length (drop at v) ≡ length own + length rest = ap length stands ∙ length-append own rest in
      let b = length-drop at v in
      omega arith

  pub entry_rest_lem : drop (at + 48) v ≡ rest
  entry_rest_lem = sym (drop-drop 48 at v) ∙ ap (drop 48) stands

  kind_is : byte_at v at ≡ w.kind
  kind_is = byte_first v at ∙ ap (λ (x : List ℕ). byte_at x 0) stands

  operation_is : operation_by (byte_at v (at + 1)) ≡ e.operation
  operation_is = ap operation_by (byte_from v at 1 ∙ ap (λ (x : List ℕ). byte_at x 1) stands) ∙ operation_back e.operation

  code_is : byte_at v (at + 2) ≡ e.code
  code_is = byte_from v at 2 ∙ ap (λ (x : List ℕ). byte_at x 2) stands

  esercizio_is : be2 v (at + 4) ≡ e.esercizio % 65536
  unfolding be2
  esercizio_is = two_from v at 4 ∙ ap (λ (x : List ℕ). be2 x 4) stands ∙ be2_bytes e.esercizio

  number_is : be4 v (at + 8) ≡ e.number % 4294967296
  unfolding be4 be2
  number_is = four_from v at 8 ∙ ap (λ (x : List ℕ). be4 x 8) stands ∙ be4_bytes e.number

  year_is : be2 v (at + 12) ≡ e.date.year % 65536
  unfolding be2
  year_is = two_from v at 12 ∙ ap (λ (x : List ℕ). be2 x 12) stands ∙ be2_bytes e.date.year

  month_is : byte_at v (at + 14) ≡ e.date.month % 256
  month_is = byte_from v at 14 ∙ ap (λ (x : List ℕ). byte_at x 14) stands

  day_is : byte_at v (at + 15) ≡ e.date.day % 256
  day_is = byte_from v at 15 ∙ ap (λ (x : List ℕ). byte_at x 15) stands

  total_is : be8 v (at + 16) ≡ e.total % 18446744073709551616
  unfolding be8 be4 be2
  total_is = eight_from v at 16 ∙ ap (λ (x : List ℕ). be8 x 16) stands ∙ be8_bytes e.total

  flow_place : be4 v (at + 24) ≡ p.place % 4294967296
  unfolding be4 be2
  flow_place = four_from v at 24 ∙ ap (λ (x : List ℕ). be4 x 24) stands ∙ be4_bytes p.place

  flow_size : be4 v (at + 24 + 4) ≡ p.size % 4294967296
  unfolding be4 be2
  flow_size = four_next v at 24 ∙ ap (λ (x : List ℕ). be4 x 28) stands ∙ be4_bytes p.size

  time_place : be4 v (at + 32) ≡ q.place % 4294967296
  unfolding be4 be2
  time_place = four_from v at 32 ∙ ap (λ (x : List ℕ). be4 x 32) stands ∙ be4_bytes q.place

  time_size : be4 v (at + 32 + 4) ≡ q.size % 4294967296
  unfolding be4 be2
  time_size = four_next v at 32 ∙ ap (λ (x : List ℕ). be4 x 36) stands ∙ be4_bytes q.size

  pub entry_at : EntryAt s v at
  entry_at =
      let l = entry_long in
      record { flow = shows_at s v (at + 24) short p flow_place flow_size (omega arith); time = shows_at s v (at + 32) short q time_place time_size (omega arith) }

  module _ (f : Fits e) (a : e.flow ≡ first_text l₁) (b : e.time ≡ first_text l₂) where
    said : entry_with (said_at v at) (text_shown s v (at + 24)) (text_shown s v (at + 32)) ≡ e
    said =
        let f₁ = f.esercizio in
        let f₂ = f.number in
        let f₃ = f.year in
        let f₄ = f.month in
        let f₅ = f.day in
        let f₆ = f.total in
        let y : be2 v (at + 4) ≡ e.esercizio = let z : e.esercizio % 65536 ≡ e.esercizio = omega arith in esercizio_is ∙ z in
        let n : be4 v (at + 8) ≡ e.number = let z : e.number % 4294967296 ≡ e.number = omega arith in number_is ∙ z in
        let u : be2 v (at + 12) ≡ e.date.year = let z : e.date.year % 65536 ≡ e.date.year = omega arith in year_is ∙ z in
        let m : byte_at v (at + 14) ≡ e.date.month = let z : e.date.month % 256 ≡ e.date.month = omega arith in month_is ∙ z in
        let g : byte_at v (at + 15) ≡ e.date.day = let z : e.date.day % 256 ≡ e.date.day = omega arith in day_is ∙ z in
        let t : be8 v (at + 16) ≡ e.total = let z : e.total % 18446744073709551616 ≡ e.total = omega arith in total_is ∙ z in
        let x : text_shown s v (at + 24) ≡ e.flow = shows s v (at + 24) short p flow_place flow_size ∙ sym a in
        let r : text_shown s v (at + 32) ≡ e.time = shows s v (at + 32) short q time_place time_size ∙ sym b in
        λ i. record {
          operation = operation_is i;
          code = code_is i;
          flow = x i;
          esercizio = y i;
          number = n i;
          date = record { year = u i; month = m i; day = g i };
          total = t i;
          time = r i;
        }

    pub entry_same : words_for w.kind ≡ w → entry_again s v at ≡ node (entry_name w.kind) (entry_out w e)
    entry_same k = let o : words_for (byte_at v at) ≡ w = ap words_for kind_is ∙ k in λ i. node (entry_name (kind_is i)) (entry_out (o i) (said i))
