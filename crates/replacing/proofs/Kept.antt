-- Named lines on a valid body: each record stays valid, and so does the body; every byte outside its slots stays.
use Prim.Native.Nat.{ℕ, ◌+◌, ◌-◌, ◌*◌, ◌≤◌, ◌<◌}
use mathlib.Core.Bool.{true}
use mathlib.Core.List.{List, [], ◌∷◌}
use mathlib.Core.Path.{◌≡◌, refl, sym, ap, ◌∙◌}
use native.Mathlib.Omega.{arith}
use lib.ListN.{length, get_or}
use Rattle.record.specs.declared.Record.{Record}
use Rattle.record.specs.Slot.{slot_size, record_at, with_state}
use Rattle.valid.proofs.Valid.{Valid}
use Rattle.valid.proofs.Moved.{executed_acquired, moved_valid}
use Rattle.slots.specs.Slots.{records_at}
use Rattle.body.specs.Body.{body_ok}
use Rattle.body.proofs.Slots.{valid_at}
use Rattle.body.proofs.State.{Within, within_same, within_on, state_within}
use Rattle.replacing.specs.declared.Naming.{Naming}
use Rattle.replacing.specs.Replacing.{named_code, replace_code, replaced_by, line_put, lines_put}
use Rattle.replacing.proofs.Marks.{takes, or_zero}
use Rattle.replacing.proofs.Bytes.{named_held, named_small, line_is, line_long, line_records}

pub line_within : (t : List ℕ) (base n : ℕ) (m : Naming) → named_code (records_at t base n) m ≡ 0 → base + slot_size * n ≤ length t → body_ok t base n ≡ true → Within t (line_put t base n m) base n
line_within t base n m e fits ok =
    let g = named_held t base n m e in
    let w = takes (records_at t base n) m e in
    let r : Record = record_at t (base + slot_size * w.at) in
    let vr : Valid r = valid_at t base n w.at ok g.used in
    let l : m.line - 1 < r.lines = omega (arith, w.stands.first, w.stands.last, ap (λ (x : Record). x.lines) g.same) in
    let s : get_or r.states (m.line - 1) 0 ≡ 2 = sym (ap (λ (x : Record). get_or x.states (m.line - 1) 0) g.same) ∙ w.stands.state in
    let v : Valid (with_state r (m.line - 1) 3) = moved_valid r (m.line - 1) 3 vr (executed_acquired r (m.line - 1) vr l s) l (omega arith, omega arith) in
    rw (line_is t base n m e) (state_within t base n w.at (m.line - 1) 3 (named_small t base n m e) fits g.used ok v)

pub lines_within : (t : List ℕ) (base n : ℕ) (ms : List Naming) → replace_code (records_at t base n) ms ≡ 0 → base + slot_size * n ≤ length t → body_ok t base n ≡ true
    → Within t (lines_put t base n ms) base n
unfolding replace_code lines_put
lines_within t base n [] e fits ok = within_same t base n ok
lines_within t base n (m ∷ ms) e fits ok =
    let z = or_zero (named_code (records_at t base n) m) _ e in
    let k = line_within t base n m z.0 fits ok in
    within_on k (lines_within (line_put t base n m) base n ms (ap (λ (x : List Record). replace_code x ms) (line_records t base n m z.0 fits) ∙ z.1) (omega (arith, k.long)) k.ok)

-- nothing gets longer
pub lines_long : (t : List ℕ) (base n : ℕ) (ms : List Naming) → replace_code (records_at t base n) ms ≡ 0 → base + slot_size * n ≤ length t → length (lines_put t base n ms) ≡ length t
unfolding replace_code lines_put
lines_long t base n [] e fits = refl
lines_long t base n (m ∷ ms) e fits =
    let z = or_zero (named_code (records_at t base n) m) _ e in
    let l = line_long t base n m z.0 fits in
    lines_long (line_put t base n m) base n ms (ap (λ (x : List Record). replace_code x ms) (line_records t base n m z.0 fits) ∙ z.1) (omega arith) ∙ l

-- the bytes are the book's records
pub lines_records : (t : List ℕ) (base n : ℕ) (ms : List Naming) → replace_code (records_at t base n) ms ≡ 0 → base + slot_size * n ≤ length t
    → records_at (lines_put t base n ms) base n ≡ replaced_by (records_at t base n) ms
unfolding replace_code lines_put replaced_by
lines_records t base n [] e fits = refl
lines_records t base n (m ∷ ms) e fits =
    let z = or_zero (named_code (records_at t base n) m) _ e in
    let q = line_records t base n m z.0 fits in
    lines_records (line_put t base n m) base n ms (ap (λ (x : List Record). replace_code x ms) q ∙ z.1) (omega (arith, line_long t base n m z.0 fits))
    ∙ ap (λ (x : List Record). replaced_by x ms) q
