-- CONDITION 1, proved. (Its codes: Codes and Accepted; a refused flow: crates/desk/proofs/Refusals.antt.)
use Rattle.std.specs.Prelude.{Result, Ok, Err}
use Prim.Native.Nat.{ℕ, suc, zero, ◌≤◌, ◌<◌}
use native.Mathlib.Omega.{arith}
use lib.Dec.{eqb, ltb}
use borrow.Author.Tests.{ne_eqb, eqb-true, eqb-false, ltb-true, ltb-false, le-leb, lt-leb}
use mathlib.Core.Path.{◌≡◌, refl, sym, ap, subst, ◌∙◌}
use mathlib.Core.Bool.{Bool, true, false}
use mathlib.Core.List.{List}
use Rattle.order.specs.Ordinativo.{Ordinativo}
use Rattle.target_days.specs.Target.{target_code}
use Rattle.record.specs.declared.Key.{Key}
use Rattle.rules.specs.Rules.{order_code}
use Rattle.service.specs.Service.{order_comes, order_stored, notice_comes, notice_stored}
use Rattle.address.specs.declared.NoBody.{NoBody}
use Rattle.address.specs.declared.NoBody.TheVariants.{Invalid, Unknown}
use Rattle.address.specs.Address.{addressed}
use Rattle.notices.specs.Notices.{noticed, notice_by, notice_table_by, on_day, table_on_day, notice_code_of}
use Rattle.opening.specs.declared.OpenRefusal.{OpenRefusal}
use Rattle.opening.specs.declared.OpenRefusal.TheVariants.{WrongRequest, WrongLength}
use Rattle.opening.specs.Opening.{open_code, open_table}
use Rattle.convert.specs.declared.ConvertRefusal.{ConvertRefusal}
use Rattle.convert.specs.Convert.{convert_code, convert_table}
use Rattle.salvage.specs.declared.SalvageRefusal.{SalvageRefusal}
use Rattle.salvage.specs.Salvage.{salvage_reply, salvage_table, salvage_report}
use Rattle.entries.specs.Entry.{closed_of}
use Rattle.slots.specs.Slots.{records_at}
use Rattle.year_end.specs.declared.CloseRefusal.{CloseRefusal}
use Rattle.year_end.specs.YearEnd.{close_of, close_stored, close_by, close_table_by, close_reply, close_code}
use Rattle.desk.proofs.Refusals.{code_keeps}
use Rattle.digits.specs.Digits.{is_refusal}
use Rattle.theorems.specs.Codes.{one_of, convert_codes, salvage_codes, order_refusals}
use Rattle.theorems.specs.Condition1.{Condition1}
use Rattle.theorems.proofs.Steps.{answer, after, steps}
use Rattle.theorems.proofs.Codes.{open_codes_lem, call_codes_lem, flow_causes}
use Rattle.theorems.proofs.Accepted.{outcomes_coded}
use Rattle.rules.specs.declared.Change.{Change}

stored : (t : List ℕ) (base n year : ℕ) (o : Ordinativo) (j : Result (Change × ℕ) ℕ) → (order_code j ≡ 0 → ⊥) → order_stored t base n year o j ≡ t
unfolding order_stored
stored t base n year o (Ok (c, i)) f = absurd (f refl)
stored t base n year o (Err c) f = refl

moved : (t : List ℕ) (e base n : ℕ) (executing : Bool) (line : ℕ) (m : Result (ℕ × ℕ) ℕ) → (notice_code_of (noticed m) ≡ 0 → ⊥) → notice_stored t e base n executing line m ≡ t
unfolding notice_stored
moved t e base n executing line (Ok (i, cents)) f = absurd (f refl)
moved t e base n executing line (Err c) f = refl

addressed_keeps : (t : List ℕ) (executing : Bool) (k : Key) (line : ℕ) (a : Result (ℕ × ℕ × ℕ) NoBody)
    → (notice_code_of (notice_by t executing k line a) ≡ 0 → ⊥) → notice_table_by t executing k line a ≡ t
unfolding notice_by notice_table_by
addressed_keeps t executing k line (Err Invalid) f = refl
addressed_keeps t executing k line (Err Unknown) f = refl
addressed_keeps t executing k line (Ok (e, base, n)) f = moved t e base n executing line (notice_comes t base n executing k line) f

dated_keeps : (t : List ℕ) (executing : Bool) (k : Key) (line : ℕ) (a : Result (ℕ × ℕ × ℕ) NoBody) (c : ℕ)
    → (notice_code_of (on_day c t (notice_by t executing k line a)) ≡ 0 → ⊥) → table_on_day c t (notice_table_by t executing k line a) ≡ t
dated_keeps t executing k line a zero f = addressed_keeps t executing k line a f
dated_keeps t executing k line a (suc c) f = refl

opening_keeps : (q t : List ℕ) (a : Result Unit OpenRefusal) → (open_code a ≡ 0 → ⊥) → open_table a q t ≡ t
opening_keeps q t (Ok tt) f = absurd (f refl)
opening_keeps q t (Err WrongRequest) f = refl
opening_keeps q t (Err WrongLength) f = refl

convert_keeps : (o t : List ℕ) (a : Result Unit ConvertRefusal) → (convert_code a ≡ 0 → ⊥) → convert_table a o t ≡ t
convert_keeps o t (Ok tt) f = absurd (f refl)
convert_keeps o t (Err ConvertRefusal.InvalidTable) f = refl
convert_keeps o t (Err ConvertRefusal.WrongLength) f = refl

convert_codes_lem : (a : Result Unit ConvertRefusal) → one_of convert_codes (convert_code a) ≡ true
convert_codes_lem (Ok tt) = refl
convert_codes_lem (Err ConvertRefusal.InvalidTable) = refl
convert_codes_lem (Err ConvertRefusal.WrongLength) = refl

salvage_keeps : (t r : List ℕ) (a : Result ℕ SalvageRefusal) → ((salvage_reply a).code ≡ 0 → ⊥) → (salvage_table a t ≡ t) × (salvage_report a t r ≡ r)
salvage_keeps t r (Ok k) f = absurd (f refl)
salvage_keeps t r (Err SalvageRefusal.InvalidContents) f = (refl, refl)
salvage_keeps t r (Err SalvageRefusal.ShortReport) f = (refl, refl)

salvage_codes_lem : (a : Result ℕ SalvageRefusal) → one_of salvage_codes (salvage_reply a).code ≡ true
salvage_codes_lem (Ok k) = refl
salvage_codes_lem (Err SalvageRefusal.InvalidContents) = refl
salvage_codes_lem (Err SalvageRefusal.ShortReport) = refl

-- A CLOSE that is refused
stored_keeps : (t : List ℕ) (e base n year : ℕ) (a : Result ℕ CloseRefusal) → (close_code a ≡ 0 → ⊥) → close_stored t e base n year a ≡ t
stored_keeps t e base n year (Ok k) f = absurd (f refl)
stored_keeps t e base n year (Err CloseRefusal.InvalidTable) f = refl
stored_keeps t e base n year (Err CloseRefusal.UnknownBody) f = refl
stored_keeps t e base n year (Err CloseRefusal.NotAYear) f = refl
stored_keeps t e base n year (Err CloseRefusal.AlreadyClosed) f = refl
stored_keeps t e base n year (Err CloseRefusal.EarlierRemains) f = refl
stored_keeps t e base n year (Err CloseRefusal.LineWaits) f = refl

none_removed : (a : Result ℕ CloseRefusal) → (close_code a ≡ 0 → ⊥) → (close_reply a).removed ≡ 0
none_removed (Ok k) f = absurd (f refl)
none_removed (Err CloseRefusal.InvalidTable) f = refl
none_removed (Err CloseRefusal.UnknownBody) f = refl
none_removed (Err CloseRefusal.NotAYear) f = refl
none_removed (Err CloseRefusal.AlreadyClosed) f = refl
none_removed (Err CloseRefusal.EarlierRemains) f = refl
none_removed (Err CloseRefusal.LineWaits) f = refl

close_keeps : (t : List ℕ) (year : ℕ) (a : Result (ℕ × ℕ × ℕ) NoBody) → (close_code (close_by t year a) ≡ 0 → ⊥) → close_table_by t year a ≡ t
unfolding close_by close_table_by
close_keeps t year (Err Invalid) f = refl
close_keeps t year (Err Unknown) f = refl
close_keeps t year (Ok (e, base, n)) f = stored_keeps t e base n year (close_of (closed_of t e) year (records_at t base n)) f

-- A MESSAGE'S CODES are those of a refused order: computed below 27, and from there on none is
abbrev Same : ℕ → Type 0
Same c = is_refusal c ≡ one_of order_refusals c

abbrev Below : ℕ → Type 0
Below zero = Unit
Below (suc n) = Below n × Same n

pick : (n c : ℕ) → Below n → c < n → Same c
pick zero c b h = absurd (omega arith)
pick (suc n) c b h = go (eqb c n) refl (pick n c b.0)
  where
    go : (x : Bool) → eqb c n ≡ x → (c < n → Same c) → Same c
    go true e f = subst Same (sym (eqb-true c n e)) b.1
    go false e f = let d = eqb-false c n e in f (omega arith)

computed : Below 27
computed = (((((((((((((((((((((((((((tt, refl), refl), refl), refl), refl), refl), refl), refl), refl), refl), refl), refl), refl), refl), refl), refl), refl), refl), refl), refl), refl), refl), refl), refl), refl), refl), refl)

above : (c : ℕ) → 27 ≤ c → Same c
above c l =
    rw (le-leb 12 c (omega arith), lt-leb c 19 (omega arith), le-leb 24 c (omega arith), lt-leb c 26 (omega arith), ne_eqb c 12 (λ e. omega arith), ne_eqb c 13 (λ e. omega arith), ne_eqb c 14 (λ e. omega arith), ne_eqb c 15 (λ e. omega arith), ne_eqb c 16 (λ e. omega arith), ne_eqb c 17 (λ e. omega arith), ne_eqb c 18 (λ e. omega arith), ne_eqb c 19 (λ e. omega arith), ne_eqb c 24 (λ e. omega arith), ne_eqb c 25 (λ e. omega arith), ne_eqb c 26 (λ e. omega arith))

message_code : (code : ℕ) → Same code
message_code c = go (ltb c 27) refl
  where
    go : (x : Bool) → ltb c 27 ≡ x → Same c
    go true e = pick 27 c computed (ltb-true c 27 e)
    go false e = above c (ltb-false c 27 e)

pub condition1 : Condition1
condition1 = record {
  opening_numbered = λ q t a t' p. open_codes_lem a;
  conversion_numbered = λ o t a t' p. convert_codes_lem a;
  salvage_numbered = λ t r a t' r' p. salvage_codes_lem a;
  call_numbered = call_codes_lem;
  orders_numbered = outcomes_coded;
  message_codes = message_code;
  cause_numbered = λ t ed f out a t' out' p. flow_causes a;
  answered = λ c t. (answer c t, after c t, steps c t);
  refused_flow = λ t ed f out a t' out' p h. code_keeps t ed f out h p;
  refused_order = λ t base n year o. stored t base n year o (order_comes t base n year o);
  refused_notice = λ t executing code k line d a t' p f.
      p.1 ∙ dated_keeps t executing k line (addressed t code) (target_code d) (λ e. f (ap notice_code_of p.0 ∙ e));
  refused_opening = λ q t a t' p f. p.1 ∙ opening_keeps q t a f;
  refused_conversion = λ o t a t' p f. p.1 ∙ convert_keeps o t a f;
  refused_close = λ t code year a t' p f. (p.1 ∙ close_keeps t year (addressed t code) (λ e. f (ap close_code p.0 ∙ e)), none_removed a f);
  refused_salvage = λ t r a t' r' p f. let w = salvage_keeps t r a f in (p.1 ∙ w.0, p.2 ∙ w.1);
}
