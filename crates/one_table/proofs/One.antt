-- A valid table 2 is fixed by its bank, its bodies' codes and slots, their records and closed years: head, entries and slots, one after another.
use Prim.Native.Nat.{ℕ, zero, suc, ◌+◌, ◌-◌, ◌*◌, ◌≤◌, ◌<◌}
use mathlib.Core.Path.{◌≡◌, refl, sym, ap, ◌∙◌}
use mathlib.Core.Bool.{true}
use mathlib.Core.List.{List, []}
use native.Mathlib.Omega.{arith}
use lib.ListN.{length, get_or, drop}
use lib.Seq.{get_or-take, get_or-drop, ext_get_or}
use borrow.Author.Tests.{eqb-true}
use Rattle.scan.specs.Bytes.{part}
use Rattle.bounds.specs.Bounds.{abi_length}
use Rattle.words.proofs.Laws.{Agree}
use Rattle.record.specs.Slot.{slot_size}
use Rattle.slots.specs.Slots.{records_at}
use Rattle.body.specs.Body.{body_ok, cents_of}
use Rattle.body.proofs.Same.{fewer}
use Rattle.entries.specs.Entry.{entry_size, closed_place, entry_rest, code_length, code_at, slots_of, place_of, closed_of, kept}
use Rattle.entries.proofs.Laws.{form}
use Rattle.entries.proofs.Codes.{codes_length, codes_get}
use Rattle.table.specs.Table.{table2, head_size, bodies, abi_of, records_of, layout_ok, table_ok, entry_of}
use Rattle.table.proofs.Laws.{Entry, entry, lay_split, lay_within, head, table, Holds}
use Rattle.table.proofs.Bodies.{body_at_lem}
use Rattle.table.proofs.Kept.{first, later}
use Rattle.contents.proofs.Laws.{length_part}
use Rattle.service.proofs.Totals.{agrees_is}
use Rattle.one_table.specs.One.{OneTable}
use Rattle.one_table.proofs.Bytes.{small, nothing, one, adjoined, two, four, eight}
use Rattle.one_table.proofs.Slots.{both_zero, body_fixed}

-- the same bytes in a part
same_part : (t u : List ℕ) (a n : ℕ) → part t a (a + n) ≡ part u a (a + n) → Agree t a u a n
same_part t u a n e = record { same = λ i b. sym (its t i b) ∙ ap (λ (l : List ℕ). get_or l i 0) e ∙ its u i b }
  where
    its : (s : List ℕ) (i : ℕ) → i < n → get_or (part s a (a + n)) i 0 ≡ get_or s (a + i) 0
    its s i b = get_or-take (a + n - a) (drop a s) i 0 (omega arith) ∙ get_or-drop a s i 0

-- two entries at `at` of the same code, slots, records and closed year, whose bodies hold
record Like (t u : List ℕ) (at : ℕ) : Type 0 where
  code : code_at t at ≡ code_at u at
  slots : slots_of t at ≡ slots_of u at
  records : records_of t at ≡ records_of u at
  closed : closed_of t at ≡ closed_of u at
  holds : Holds table2 t at
  holds_too : Holds table2 u at

-- the n entries from `at` on agree, and the slots from p on
record Fixed (t u : List ℕ) (at n p : ℕ) : Type 0 where
  long : length t ≡ length u
  entries : Agree t at u at (entry_size * n)
  slots : Agree t p u p (length t - p)

module _ {t u : List ℕ} (bt : (i : ℕ) → get_or t i 0 < 256) (bu : (i : ℕ) → get_or u i 0 < 256) where
  -- bytes 0 to 17: the code, and zeros after it
  form_fixed : (at p : ℕ) → Entry table2 t at p → Entry table2 u at p → at + entry_size ≤ length t → at + entry_size ≤ length u → code_at t at ≡ code_at u at → Agree t at u at 18
  unfolding code_at
  form_fixed at p e f lt lu c =
      let x = form t at e.formed in
      let y = form u at f.formed in
      let k : ℕ = code_length t at in
      let s = x.short in
      let r = y.short in
      let n : code_length t at ≡ code_length u at =
      sym (length_part t (at + 1) (code_length t at) (omega arith)) ∙ ap length c ∙ length_part u (at + 1) (code_length u at) (omega arith) in
      let code = same_part t u (at + 1) k (c ∙ ap (λ (m : ℕ). part u (at + 1) (at + 1 + m)) (sym n)) in
      let pad =
      both_zero t u (at + 1 + k) (at + 1 + code_length u at) (17 - k) (at + 18) (at + 18) x.padded y.padded (omega arith) (omega arith) in
      fewer (adjoined (adjoined (one at at n) code refl refl) pad (omega arith) (omega arith)) 18 (omega arith)

  entry_fixed : (at p : ℕ) → Entry table2 t at p → Entry table2 u at p → at + entry_size ≤ length t → at + entry_size ≤ length u → Like t u at → Agree t at u at entry_size
  unfolding slots_of place_of closed_of
  entry_fixed at p e f lt lu w =
      let a = agrees_is t at (records_of t at) (w.holds.kept refl) in
      let b = agrees_is u at (records_of u at) (w.holds_too.kept refl) in
      let paid : kept 1 t at ≡ kept 1 u at = a.0 ∙ ap (cents_of 1) w.records ∙ sym b.0 in
      let collected : kept 2 t at ≡ kept 2 u at = a.1 ∙ ap (cents_of 2) w.records ∙ sym b.1 in
      let x = adjoined (form_fixed at p e f lt lu w.code) (two bt bu (at + 18) (at + 18) w.slots) refl refl in
      let y = adjoined x (four bt bu (at + 20) (at + 20) (e.placed ∙ sym f.placed)) refl refl in
      let z = adjoined y (eight bt bu (at + 24) (at + 24) paid) refl refl in
      let v = adjoined z (eight bt bu (at + 32) (at + 32) collected) refl refl in
      let y = adjoined v (two bt bu (at + closed_place) (at + closed_place) w.closed) refl refl in
      adjoined y (both_zero t u (at + entry_rest) (at + entry_rest) 6 (at + entry_size) (at + entry_size) e.padded f.padded (omega arith) (omega arith)) refl refl

  slots_fixed : (at p : ℕ) → place_of t at ≡ p → place_of u at ≡ p → Like t u at → Agree t p u p (slot_size * slots_of t at)
  slots_fixed at p e f w =
      let y = (λ i. body_ok t (sym e i) (slots_of t at)) ∙ w.holds.body in
      let z = (λ i. body_ok u (sym f i) (w.slots i)) ∙ w.holds_too.body in
      let r = (λ i. records_at t (sym e i) (slots_of t at)) ∙ w.records ∙ (λ i. records_at u (f i) (sym w.slots i)) in
      body_fixed bt bu (slots_of t at) p p y z r

  walk : (at n p : ℕ) → at + entry_size * n ≤ length t → at + entry_size * n ≤ length u → layout_ok table2 t at n p ≡ true → layout_ok table2 u at n p ≡ true
      → ((b : ℕ) → b < n → Like t u (at + entry_size * b)) → Fixed t u at n p
  unfolding layout_ok
  walk at zero p lt lu e f w =
      let a = eqb-true p (length t) e in
      let b = eqb-true p (length u) f in
      record { long = omega arith; entries = fewer (nothing at at) (entry_size * 0) (omega arith); slots = fewer (nothing p p) (length t - p) (omega arith) }
  walk at (suc n) p lt lu e f w =
      let x = lay_split table2 t at (suc n) n p refl e in
      let y = lay_split table2 u at (suc n) n p refl f in
      let v = first (Like t u) at n w in
      let next : ℕ = p + slot_size * slots_of t at in
      let g = (λ i. layout_ok table2 u (at + entry_size) n (p + slot_size * v.slots i)) ∙ y.1 in
      let r = walk (at + entry_size) n next (omega arith) (omega arith) x.1 g (later (Like t u) at n w) in
      let a = entry table2 t at p x.0 in
      let b = entry table2 u at p y.0 in
      let l = lay_within table2 t (at + entry_size) n next x.1 in
      record {
        long = r.long;
        entries = fewer (adjoined (entry_fixed at p a b (omega arith) (omega arith) v) r.entries refl refl) (entry_size * suc n) (omega arith);
        slots = fewer (adjoined (slots_fixed at p a.placed b.placed v) r.slots refl refl) (length t - p) (omega arith);
      }

  head_fixed : table_ok t ≡ true → table_ok u ≡ true → length t ≡ length u → bodies t ≡ bodies u → abi_of t ≡ abi_of u → Agree t 0 u 0 head_size
  head_fixed y z l n a =
      let x = head table2 t (table table2 t y).head_ok in
      let w = head table2 u (table table2 u z).head_ok in
      let p = adjoined (two bt bu 0 0 n) (two bt bu 2 2 (x.first ∙ sym w.first)) refl refl in
      let q = adjoined p (four bt bu 4 4 (x.stated ∙ l ∙ sym w.stated)) refl refl in
      let r = adjoined q (same_part t u 8 abi_length a) refl refl in
      adjoined r (both_zero t u 13 13 3 16 16 x.padded w.padded refl refl) refl refl

pub one_table : OneTable
one_table t u bt bu y z m =
    let n : bodies t ≡ bodies u =
    sym (codes_length entry_size t head_size (bodies t)) ∙ ap length m.codes ∙ codes_length entry_size u head_size (bodies u) in
    let x = table table2 t y in
    let w = table table2 u z in
    let lt = (head table2 t x.head_ok).room in
    let lu = (head table2 u w.head_ok).room in
    let g = (λ i. layout_ok table2 u head_size (n i) (head_size + entry_size * n i)) ∙ w.layout in
    let f = walk (small t bt) (small u bu) head_size (bodies t) (head_size + entry_size * bodies t) (omega arith) (omega arith) x.layout g (like n) in
    let h = head_fixed (small t bt) (small u bu) y z f.long n m.bank in
    let all = adjoined (adjoined h f.entries refl refl) f.slots (omega arith) (omega arith) in
    ext_get_or 0 t u f.long (λ i b. (λ j. get_or t (zero_plus i j) 0) ∙ all.same i (omega arith) ∙ (λ j. get_or u (plus_zero i j) 0))
  where
    zero_plus : (i : ℕ) → i ≡ 0 + i
    zero_plus i = omega arith

    plus_zero : (i : ℕ) → 0 + i ≡ i
    plus_zero i = omega arith

    like : bodies t ≡ bodies u → (b : ℕ) → b < bodies t → Like t u (entry_of b)
    like n b h = record {
      code = sym (codes_get entry_size t head_size (bodies t) b h) ∙ ap (λ (l : List (List ℕ)). get_or l b []) m.codes ∙ codes_get entry_size u head_size (bodies u) b (omega arith);
      slots = m.slots b h;
      records = m.records b h;
      closed = m.closed b h;
      holds = (body_at_lem t y b h).holds;
      holds_too = (body_at_lem u z b (omega arith)).holds;
    }
