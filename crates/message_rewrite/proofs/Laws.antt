-- A message written from its values: an entry, the entries while they are walked, the header.
use mathlib.Core.Path.{◌≡◌, refl, sym, ap, subst, ◌∙◌}
use mathlib.Core.List.{List}
use Prim.Native.Nat.{ℕ, zero, suc, ◌+◌, ◌*◌, ◌≤◌}
use native.Mathlib.Omega.{arith}
use lib.ListN.{length}
use Rattle.words.specs.Numbers.{be4}
use Rattle.tree.specs.Tree.{Tree, Trees}
use Rattle.tree.specs.Written.{node}
use Rattle.message.specs.Written.{entry_out}
use Rattle.header.specs.declared.Span.{Span}
use Rattle.message_pen.specs.declared.Saying.{Saying}
use Rattle.message_pen.specs.declared.Given.{Given}
use Rattle.message_pen.specs.Parts.{RoomFor, WroteAll, RoomOf, WroteTree, words_for, entry_name, entry_with, text_at, Lies, GivenIn, beginning_in}
use Rattle.message_pen.proofs.Laws.{wrote_none, first_room, first_rest, wrote_first}
use Rattle.message_rewrite.specs.Again.{span_at, text_shown, PairAt, said_at, entry_again, EntryAt, entries_again, EntriesAt, an_entry, given_at, head_again, HeadAt}

-- AN ENTRY from what was read of it
module _ (s v : List ℕ) (at : ℕ) {x : Saying} {flow time : List ℕ} (a : x ≡ said_at v at) (b : flow ≡ text_shown s v (at + 24)) (c : time ≡ text_shown s v (at + 32)) where
  entry_is : node (entry_name x.kind) (entry_out (words_for x.kind) (entry_with x flow time)) ≡ entry_again s v at
  entry_is = λ i. node (entry_name (a i).kind) (entry_out (words_for (a i).kind) (entry_with (a i) (b i) (c i)))

  pub entry_room : {to : ℕ} → RoomOf to (entry_again s v at) → RoomOf to (node (entry_name x.kind) (entry_out (words_for x.kind) (entry_with x flow time)))
  entry_room {to} h = subst (RoomOf to) (sym entry_is) h

  pub entry_wrote : {m u : List ℕ} {to r : ℕ} → WroteTree m u to (node (entry_name x.kind) (entry_out (words_for x.kind) (entry_with x flow time))) r → WroteTree m u to (entry_again s v at) r
  entry_wrote {m} {u} {to} {r} w = subst (λ (t : Tree). WroteTree m u to t r) entry_is w

-- THE ENTRIES while they are walked: `left` of them are to come, from `at` on; whatever is written of them from `a` on makes the whole
pub record Going (s v : List ℕ) (n to : ℕ) (m₀ m : List ℕ) (left at a : ℕ) : Type 0 where
  pub entries : EntriesAt s v at left
  pub there : at + 48 * left ≤ length v
  pub room : RoomFor a (entries_again s v at left)
  pub size : length m ≡ length m₀
  pub on : (u : List ℕ) (r : ℕ) → WroteAll m u a (entries_again s v at left) r → WroteAll m₀ u to (entries_again s v 80 n) r

module _ (s v : List ℕ) (n to : ℕ) (m₀ : List ℕ) where
  pub going_start : 80 + 48 * n ≤ length v → EntriesAt s v 80 n → RoomFor to (entries_again s v 80 n) → Going s v n to m₀ m₀ n 80 to
  going_start l e h = record { entries = e; there = l; room = h; size = refl; on = λ u r w. w }

  pub going_end : {m : List ℕ} {left at a : ℕ} → Going s v n to m₀ m left at a → left ≡ 0 → WroteAll m₀ m to (entries_again s v 80 n) a
  unfolding entries_again
  going_end {m = m} {left = zero} {at = at} {a = a} g e = g.on m a (wrote_none m a)
  going_end {m = m} {left = suc left} {at = at} {a = a} g e = absurd (omega arith)

  -- the entry at hand
  pub record Here (left at a : ℕ) : Type 0 where
    pub there : at + 48 ≤ length v
    pub entry : EntryAt s v at
    pub room : RoomOf a (entry_again s v at)

  first_of : {left at : ℕ} → EntriesAt s v at (suc left) → EntryAt s v at × EntriesAt s v (at + 48) left
  first_of (an_entry e r) = (e, r)

  pub going_here : {m : List ℕ} {left at a : ℕ} → Going s v n to m₀ m left at a → (left ≡ 0 → ⊥) → Here left at a
  unfolding entries_again
  going_here {m = m} {left = zero} {at = at} {a = a} g k = absurd (k refl)
  going_here {m = m} {left = suc left} {at = at} {a = a} g k = let l = g.there in record { there = omega arith; entry = (first_of g.entries).0; room = first_room g.room }

  pub going_step : {m m' : List ℕ} {left at a q : ℕ} → Going s v n to m₀ m left at a → (left ≡ 0 → ⊥) → WroteTree m m' a (entry_again s v at) q → (left' at' : ℕ) → left' + 1 ≡ left → at' ≡ at + 48 → Going s v n to m₀ m' left' at' q
  unfolding entries_again
  going_step {m = m} {m' = m'} {left = zero} {at = at} {a = a} {q = q} g k w left' at' e f = absurd (k refl)
  going_step {m = m} {m' = m'} {left = suc left} {at = at} {a = a} {q = q} g k w left' at' e f =
      let z : left' ≡ left = omega arith in
      let l = g.there in
      rw (z, f) (record {
        entries = (first_of g.entries).1;
        there = omega arith;
        room = first_rest g.room w;
        size = w.wrote.size ∙ g.size;
        on = λ u r x. g.on u r (wrote_first w x);
      })

-- WHAT STANDS BEFORE THE ENTRIES
pub span_is : (v : List ℕ) (at : ℕ) {a b : ℕ} → a ≡ be4 v at → b ≡ be4 v (at + 4) → ◌≡◌ {A = Span} (record { from = a; to = a + b }) (span_at v at)
span_is v at a b = λ i. record { from = a i; to = a i + b i }

pub given_is : (v : List ℕ) {a b c d e f g h : Span} → a ≡ span_at v 8 → b ≡ span_at v 16 → c ≡ span_at v 24 → d ≡ span_at v 32 → e ≡ span_at v 40 → f ≡ span_at v 48 → g ≡ span_at v 56 → h ≡ span_at v 72
    → ◌≡◌ {A = Given} (record { created = a; ente = b; described = c; istat = d; fiscal = e; tramite = f; bank = g; flow = h }) (given_at v)
given_is v a b c d e f g h = λ i. record { created = a i; ente = b i; described = c i; istat = d i; fiscal = e i; tramite = f i; bank = g i; flow = h i }

pair_lies : {s v : List ℕ} {at : ℕ} → PairAt s v at → Lies s (span_at v at)
pair_lies p = let w = p.within in (omega arith, omega arith)

pub pair_there : {s v : List ℕ} {at : ℕ} {w : Span} → w ≡ span_at v at → PairAt s v at → Lies s w
pair_there {s} e p = subst (Lies s) (sym e) (pair_lies p)

pub text_shown_lem : (s v : List ℕ) (at : ℕ) {w : Span} {x : List ℕ} → w ≡ span_at v at → x ≡ text_at s w → x ≡ text_shown s v at
text_shown_lem s v at e q = q ∙ ap (text_at s) e

pub given_there : (s v : List ℕ) {g : Given} → g ≡ given_at v → HeadAt s v → GivenIn s g
given_there s v e h = subst (GivenIn s) (sym e) (record {
  created = pair_lies h.created;
  ente = pair_lies h.ente;
  described = pair_lies h.described;
  istat = pair_lies h.istat;
  fiscal = pair_lies h.fiscal;
  tramite = pair_lies h.tramite_ente;
  bank = pair_lies h.tramite_bt;
  flow = pair_lies h.flow_bt;
})

module _ (s v : List ℕ) {abi body : List ℕ} {g : Given} (a : abi ≡ text_shown s v 0) (b : body ≡ text_shown s v 64) (e : g ≡ given_at v) where
  head_is : beginning_in abi s g body ≡ head_again s v
  head_is = λ i. beginning_in (a i) s (e i) (b i)

  pub head_room : {to : ℕ} → RoomFor to (head_again s v) → RoomFor to (beginning_in abi s g body)
  head_room {to} h = subst (RoomFor to) (sym head_is) h

  pub head_wrote : {m u : List ℕ} {to r : ℕ} → WroteAll m u to (beginning_in abi s g body) r → WroteAll m u to (head_again s v) r
  head_wrote {m} {u} {to} {r} w = subst (λ (ts : Trees). WroteAll m u to ts r) head_is w
