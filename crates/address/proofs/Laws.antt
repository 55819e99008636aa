-- Laws of addressing, a way out of the code at a time.
use Rattle.std.specs.Prelude.{Option, Result, Some, None, Ok, Err}
use Rattle.std.specs.Option.{ok_or}
use mathlib.Core.Path.{◌≡◌, refl, sym, ap, ◌∙◌}
use mathlib.Core.List.{List}
use mathlib.Core.Bool.{Bool, true, false}
use Prim.Native.Nat.{ℕ, ◌+◌, ◌*◌, ◌≤◌}
use native.Mathlib.Omega.{arith}
use lib.ListN.{length}
use Rattle.record.specs.Slot.{slot_size}
use Rattle.slots.specs.Slots.{records_at}
use Rattle.body.specs.Body.{body_ok, all_later}
use Rattle.entries.specs.Entry.{entry_size, slots_of, place_of, closed_of}
use Rattle.bounds.specs.Bounds.{max_slots, max_length}
use Rattle.table.specs.Table.{table2, agrees, table_ok, body_of, entry_of}
use Rattle.table.proofs.Laws.{head, table, body_same}
use Rattle.table.proofs.Bodies.{body_at_lem, found_body}
use Rattle.address.specs.declared.NoBody.{NoBody}
use Rattle.address.specs.declared.NoBody.TheVariants.{Invalid, Unknown}
use Rattle.address.specs.Address.{body_at, body_named, addressed}

-- the entry of a body that was found lies within the table
pub record Row (t : List ℕ) (b : ℕ) : Type 0 where
  pub ends : entry_of b + entry_size ≤ length t
  pub fits : length t ≤ max_length

-- THE BODY THAT A CODE NAMES: its slots lie after its entry and within the table, they are valid, the entry agrees with them, and their records are later
-- than its closed year
pub record Slots (t : List ℕ) (e base n : ℕ) : Type 0 where
  pub entry : e + entry_size ≤ base
  pub inside : base + slot_size * n ≤ length t
  pub few : n ≤ max_slots
  pub valid : body_ok t base n ≡ true
  pub agreed : agrees t e (records_at t base n) ≡ true
  pub later : all_later (closed_of t e) (records_at t base n) ≡ true

-- a body's place is its own
body_parts : {a b c x y z : ℕ} → ◌≡◌ {A = Result (ℕ × ℕ × ℕ) NoBody} (Ok (a, b, c)) (Ok (x, y, z)) → (a ≡ x) × (b ≡ y) × (c ≡ z)
body_parts {a = a} {b = b} {c = c} {x = x} {y = y} {z = z} e =
    let p : ◌≡◌ {A = ℕ × ℕ × ℕ} (a, b, c) (x, y, z) = cc in
    (ap (λ (t : ℕ × ℕ × ℕ). t.0) p, ap (λ (t : ℕ × ℕ × ℕ). t.1) p, ap (λ (t : ℕ × ℕ × ℕ). t.2) p)

-- the place that a body was found at
pub found_of : {x f : Option ℕ} {r : Result ℕ NoBody} {b : ℕ} → x ≡ f → r ≡ ok_or x Unknown → r ≡ Ok b → f ≡ Some b
found_of {x} e g h = sym e ∙ go x (sym g ∙ h)
  where
    go : (y : Option ℕ) {b : ℕ} → ok_or y Unknown ≡ Ok b → y ≡ Some b
    go (Some n) {b} q = let z : n ≡ b = cc in ap Some z
    go None q = let z : ◌≡◌ {A = ℕ} 0 1 = cc in absurd (omega arith)

module _ (t code : List ℕ) where
  -- or that there is none
  pub to_unknown : {x : Option ℕ} {r : Result ℕ NoBody} {w : NoBody} → x ≡ body_of t code → r ≡ ok_or x Unknown → r ≡ Err w → Err w ≡ body_named t code
  to_unknown {x} e g h = go x (sym g ∙ h) ∙ ap (body_at t) e
    where
      go : (y : Option ℕ) {w : NoBody} → ok_or y Unknown ≡ Err w → Err w ≡ body_at t y
      go None {w} q = let z : Unknown ≡ w = cc in ap Err (sym z)
      go (Some n) q = let z : ◌≡◌ {A = ℕ} 0 1 = cc in absurd (omega arith)

  pub to_body : {b e p n : ℕ} → body_of t code ≡ Some b → e ≡ entry_of b → p ≡ place_of t e → n ≡ slots_of t e → Ok (e, p, n) ≡ body_named t code
  to_body w f g h = rw (w, g, h, f) refl

  pub to_invalid : table_ok t ≡ false → Err Invalid ≡ addressed t code
  unfolding addressed
  to_invalid h = rw h

  module _ (ok : table_ok t ≡ true) where
    pub to_named : {a : Result (ℕ × ℕ × ℕ) NoBody} → a ≡ body_named t code → a ≡ addressed t code
    unfolding addressed
    to_named e = rw ok e

    pub row : (b : ℕ) → body_of t code ≡ Some b → Row t b
    row b e =
        let h = head table2 t (table table2 t ok).head_ok in
        let w = (body_at_lem t ok b (found_body t ok code b e)).entry_in in
        record { ends = omega (arith, h.room); fits = h.fits }

    pub named_slots : {e base n : ℕ} → body_named t code ≡ Ok (e, base, n) → Slots t e base n
    named_slots {e} {base} {n} q = go (body_of t code) refl q
      where
        go : (f : Option ℕ) → body_of t code ≡ f → body_at t f ≡ Ok (e, base, n) → Slots t e base n
        go None g q = let z : ◌≡◌ {A = ℕ} 0 1 = cc in absurd (omega arith)
        go (Some b) g q =
            let w = body_at_lem t ok b (found_body t ok code b g) in
            let k = body_parts q in
            let d : entry_of b ≡ e = k.0 in
            let p : place_of t (entry_of b) ≡ base = k.1 in
            let s : slots_of t (entry_of b) ≡ n = k.2 in
            let i = w.inside in
            let m = w.own_form.most_slots in
            let x = w.entry_in in
            let y = w.past in
            record {
              entry = omega arith;
              inside = omega arith;
              few = omega arith;
              valid = sym (body_same t p s) ∙ w.holds.body;
              agreed = sym (λ j. agrees t (d j) (records_at t (p j) (s j))) ∙ w.holds.kept refl;
              later = sym (λ j. all_later (closed_of t (d j)) (records_at t (p j) (s j))) ∙ w.holds.later;
            }

  pub slots : {e base n : ℕ} → addressed t code ≡ Ok (e, base, n) → Slots t e base n
  slots {e} {base} {n} q = whether (table_ok t) refl
    where
      whether : (x : Bool) → table_ok t ≡ x → Slots t e base n
      whether true o = named_slots o (to_named o refl ∙ q)
      whether false o = let d = to_invalid o in let z : ◌≡◌ {A = ℕ} 0 1 = cc in absurd (omega arith)
