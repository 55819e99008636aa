-- A converted table, proved: the only table 2 with its table 1's bank, codes, slots and records; what is answered on it is what the rules say of the old records.
use Rattle.std.specs.Prelude.{Result, Some, Ok, Err}
use Prim.Native.Nat.{ℕ, zero, suc, ◌+◌, ◌*◌, ◌<◌}
use lib.IntN.{pos, ◌-ℤ◌}
use mathlib.Core.Path.{◌≡◌, refl, sym, ap, ◌∙◌, subst}
use mathlib.Core.Bool.{Bool, true, false, cond}
use mathlib.Core.List.{List, [], ◌∷◌, ◌++◌}
use native.Mathlib.Omega.{arith}
use lib.ListN.{length, replicate}
use lib.Dec.{eqb}
use Rattle.scan.specs.Bytes.{part, all, text_is}
use Rattle.words.specs.Numbers.{bytes2, bytes4, bytes8}
use Rattle.record.specs.declared.Record.{Record}
use Rattle.record.specs.Slot.{slot_size}
use Rattle.slots.specs.Slots.{records_at}
use Rattle.body.specs.Body.{cents_of}
use Rattle.entries.specs.Entry.{entry_size, request_size, slots_of, place_of, kept_bytes, find_code}
use Rattle.table.specs.Table.{table1, table2, head_size, bodies, abi_of, valid_as, body_of, entry_of}
use Rattle.table.proofs.Bodies.{found_body}
use Rattle.contents.specs.Contents.{head_bytes, entry_bytes, entries_bytes}
use Rattle.flow.specs.Flow.{header_of, flow_orders}
use Rattle.rules.specs.Rules.{judge_notice}
use Rattle.rules.specs.Effects.{all_records}
use Rattle.notices.specs.Notices.{noticed}
use Rattle.desk.specs.declared.FlowRefusal.{FlowRefusal}
use Rattle.desk.specs.Desk.{FlowPromise, flow_code}
use Rattle.convert.specs.declared.ConvertRefusal.{ConvertRefusal}
use Rattle.convert.specs.declared.ConvertRefusal.TheVariants.{InvalidTable, WrongLength}
use Rattle.convert.specs.Convert.{grown_length, cents_at, converted, convert_of, convert_code, convert_table}
use Rattle.convert.specs.Same.{Same}
use Rattle.convert.proofs.Valid.{converts}
use Rattle.one_table.specs.One.{are_bytes, Matching}
use Rattle.one_table.proofs.Bytes.{bytes_part, bytes_append, bytes_2, bytes_4, bytes_8}
use Rattle.one_table.proofs.One.{one_table}
use Rattle.isolation.specs.Machine.{log}
use Rattle.theorems.specs.Engine.{machine, table_after}
use Rattle.theorems.specs.Condition2.{codes_in_turn}
use Rattle.theorems.specs.History.{History}
use Rattle.theorems.specs.Totals.{old_body, TakenOld, FromTable1}
use Rattle.theorems.proofs.Condition2.{condition2}
use Rattle.theorems.proofs.Condition3.{condition3}
use Rattle.theorems.proofs.History.{history}

-- CONVERSION ANSWERED 0: the old table is valid, and the buffer is filled
record Filled (o t₀ : List ℕ) : Type 0 where
  right : valid_as table1 o ≡ true
  filled : t₀ ≡ converted o

answered_0 : (o t t₀ : List ℕ) (a : Result Unit ConvertRefusal) → a ≡ convert_of o (length t) → t₀ ≡ convert_table a o t → convert_code a ≡ 0 → Filled o t₀
unfolding convert_of
answered_0 o t t₀ (Ok tt) e f z = record { right = go (valid_as table1 o) (eqb (length t) (grown_length o)) refl e; filled = f }
  where
    go : (x y : Bool) → valid_as table1 o ≡ x → Ok tt ≡ cond x (cond y (Ok tt) (Err WrongLength)) (Err InvalidTable) → valid_as table1 o ≡ true
    go true y q h = q
    go false y q h = let u : ◌≡◌ {A = ℕ} 0 1 = cc in absurd (omega arith)
answered_0 o t t₀ (Err InvalidTable) e f z = absurd (omega arith)
answered_0 o t t₀ (Err WrongLength) e f z = absurd (omega arith)

-- A CONVERTED TABLE OF BYTES
module _ (o : List ℕ) (b : are_bytes o ≡ true) where
  head_bytes_lem : (n len : ℕ) → are_bytes (head_bytes n len (abi_of o)) ≡ true
  unfolding head_bytes all
  head_bytes_lem n len =
      bytes_append (bytes2 n ++ bytes2 table2.number ++ bytes4 len ++ abi_of o) (0 ∷ 0 ∷ 0 ∷ [])
      (bytes_append (bytes2 n ++ bytes2 table2.number ++ bytes4 len) (abi_of o)
      (bytes_append (bytes2 n ++ bytes2 table2.number) (bytes4 len) (bytes_append (bytes2 n) (bytes2 table2.number) (bytes_2 n) (bytes_2 table2.number)) (bytes_4 len))
      (bytes_part o b 8 13)) refl

  entry_bytes_lem : (form : List ℕ) → are_bytes form ≡ true → (p paid collected : ℕ) → are_bytes (entry_bytes form p paid collected) ≡ true
  unfolding entry_bytes kept_bytes all
  entry_bytes_lem form f p paid collected =
      bytes_append (form ++ bytes4 p ++ (bytes8 paid ++ bytes8 collected)) (replicate 8 0)
      (bytes_append (form ++ bytes4 p) (bytes8 paid ++ bytes8 collected) (bytes_append form (bytes4 p) f (bytes_4 p))
      (bytes_append (bytes8 paid) (bytes8 collected) (bytes_8 paid) (bytes_8 collected))) refl

  entries_bytes_lem : (size : ℕ) (cents : ℕ → ℕ → ℕ) (at n p : ℕ) → are_bytes (entries_bytes size cents o at n p) ≡ true
  unfolding entries_bytes all
  entries_bytes_lem size cents at zero p = refl
  entries_bytes_lem size cents at (suc n) p =
      bytes_append (entry_bytes (part o at (at + request_size)) p (cents 1 at) (cents 2 at)) (entries_bytes size cents o (at + size) n (p + slot_size * slots_of o at))
      (entry_bytes_lem (part o at (at + request_size)) (bytes_part o b at (at + request_size)) p (cents 1 at) (cents 2 at))
      (entries_bytes_lem size cents (at + size) n (p + slot_size * slots_of o at))

  converted_bytes : are_bytes (converted o) ≡ true
  unfolding converted
  converted_bytes =
      let hs : List ℕ = head_bytes (bodies o) (grown_length o) (abi_of o) in
      let es : List ℕ = entries_bytes table1.entry (cents_at o) o head_size (bodies o) (head_size + entry_size * bodies o) in
      bytes_append (hs ++ es) (part o (head_size + table1.entry * bodies o) (length o))
      (bytes_append hs es (head_bytes_lem (bodies o) (grown_length o)) (entries_bytes_lem table1.entry (cents_at o) head_size (bodies o) (head_size + entry_size * bodies o)))
      (bytes_part o b (head_size + table1.entry * bodies o) (length o))

-- two tables 2 of one table 1
matching : (o t u : List ℕ) → Same o t → Same o u → Matching t u
matching o t u S U = record {
  bank = S.bank ∙ sym U.bank;
  codes = S.codes ∙ sym U.codes;
  slots = λ b h. let l : b < bodies o = omega (arith, S.number) in S.slots b l ∙ sym (U.slots b l);
  records = λ b h. let l : b < bodies o = omega (arith, S.number) in S.records b l ∙ sym (U.records b l);
  closed = λ b h. let l : b < bodies o = omega (arith, S.number) in S.closed b l ∙ sym (U.closed b l);
}

pub conversion : FromTable1
conversion E o t t₀ p = record {
  same = S;
  flows = flows;
  notices = λ code b e executing k line d z a t' q.
      condition2.notices t₀ S.valid code b (found code b e) executing k line d z a t' q
      ∙ ap (λ (rs : List Record). noticed (judge_notice executing k line rs)) (S.records b (low code b (found code b e)));
  totals = λ code b e a q.
      let w = condition2.totals t₀ S.valid code b (found code b e) a q in
      let r = S.records b (low code b (found code b e)) in
      let x = w.2 ∙ ap (cents_of 1) r in
      let y = w.3 ∙ ap (cents_of 2) r in
      let n = w.1 ∙ ap length r in
      let z = w.4 ∙ (λ i. pos (y i) -ℤ pos (x i)) in
      λ i. record { code = w.0 i; used = n i; paid = x i; collected = y i; balance = z i };
  only = only;
  answers = λ bo u bu U cs. let q = only bo u bu U in (λ i. log (machine E (q i)) cs (q i), λ i. table_after E (q i) cs);
  isolated = condition3 E t₀ S.valid;
  history = λ b l cs.
      let m : b < bodies t₀ = omega (arith, S.number) in
      subst (History E t₀ b cs) (S.records b l) (history E t₀ S.valid b m cs);
}
  where
    F : Filled o t₀
    F = answered_0 o t t₀ p.0 p.1.0 p.1.1 (sym p.2)

    S : Same o t₀
    S = subst (Same o) (sym F.filled) (converts o F.right)

    found : (code : List ℕ) (b : ℕ) → old_body o code ≡ Some b → body_of t₀ code ≡ Some b
    found code b e = (λ i. find_code (S.codes i) 0 code) ∙ e

    low : (code : List ℕ) (b : ℕ) → body_of t₀ code ≡ Some b → b < bodies o
    low code b e = omega (arith, found_body t₀ S.valid code b e, S.number)

    only : are_bytes o ≡ true → (u : List ℕ) → are_bytes u ≡ true → Same o u → u ≡ t₀
    only bo u bu U = one_table u t₀ bu (ap are_bytes F.filled ∙ converted_bytes o bo) U.valid S.valid (matching o u t₀ U S)

    flows : (ed : ℕ) (f out : List ℕ) (a : Result (ℕ × ℕ × ℕ) FlowRefusal) (t' out' : List ℕ) → FlowPromise t₀ ed f out a t' out' → flow_code a ≡ 0 → TakenOld o t₀ ed f t' out'
    flows ed f out a t' out' q z =
        let T = condition2.taken t₀ ed f out a t' out' q z in
        let h = header_of T.edition f T.at in
        let l = low h.ente T.body T.named in
        let s = S.slots T.body l in
        let r = S.records T.body l in
        record {
          edition = T.edition;
          numbered = T.numbered;
          at = T.at;
          stands = T.stands;
          bank = (λ i. text_is (sym S.bank i) h.abi) ∙ T.bank;
          body = T.body;
          named = (λ i. find_code (sym S.codes i) 0 h.ente) ∙ T.named;
          codes = T.codes ∙ (λ i. codes_in_turn (s i) h.esercizio (flow_orders T.edition f T.at) (r i));
          records = (λ i. records_at t' (place_of t₀ (entry_of T.body)) (sym s i)) ∙ T.records
              ∙ (λ i. all_records (s i) h.esercizio (flow_orders T.edition f T.at) (r i));
        }
