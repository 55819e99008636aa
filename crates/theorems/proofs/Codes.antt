-- EVERY CODE IS A NUMBERED ANSWER: opening's, a call's, and an order's, which is never 0 where the rules refuse it.
use Rattle.std.specs.Prelude.{Option, Result, Some, None, Ok, Err}
use Prim.Native.Nat.{ℕ, zero, suc, ◌-◌}
use mathlib.Core.Path.{◌≡◌, refl, sym, ap, ◌∙◌}
use mathlib.Core.Bool.{Bool, true, false, cond, ◌&&◌, ◌||◌}
use mathlib.Core.List.{List, [], ◌∷◌}
use mathlib.Core.Logic.{◌⊎◌, inl, inr}
use native.Mathlib.Omega.{arith}
use lib.Dec.{eqb, leb, ltb}
use lib.ListN.{length, get_or}
use Rattle.fields.specs.declared.Cause.TheVariants.{Empty, Long, Misformed, OutOfRange}
use Rattle.order.specs.declared.Line.{Line}
use Rattle.order.specs.Ordinativo.{Ordinativo}
use Rattle.calendar.specs.declared.Date.{Date}
use Rattle.days.specs.Days.{served}
use Rattle.target_days.specs.Target.{closing, target_code}
use Rattle.record.specs.declared.Key.{Key}
use Rattle.record.specs.declared.Record.{Record}
use Rattle.slots.specs.Slots.{find_in, records_at, nth}
use Rattle.lines.specs.Lines.{numbered_from, sum_of, line_code}
use Rattle.replacing.specs.declared.Naming.{Naming}
use Rattle.replacing.specs.Replacing.{namings, line_named_in, named_at, named_code, with_replaced, first_code, replace_code}
use Rattle.rules.specs.declared.Situation.{Situation}
use Rattle.rules.specs.declared.Situation.TheVariants.{Absent, Annulled, Waiting, Executed}
use Rattle.rules.specs.declared.Change.{Change}
use Rattle.rules.specs.declared.Change.TheVariants.{Insert, Vary, Annul, Replace}
use Rattle.rules.specs.Rules.{change_of, was_executed, situation_of, step_code, same_order, placed, unless, stepped, judge_change, key_for, judge_order, order_code, line_moves, notice_in, notice_at, judge_notice, notice_code}
use Rattle.entries.specs.Entry.{closed_of}
use Rattle.service.specs.Service.{notice_comes}
use Rattle.address.specs.declared.NoBody.{NoBody}
use Rattle.address.specs.declared.NoBody.TheVariants.{Invalid, Unknown}
use Rattle.notices.specs.declared.NoticeRefusal.{NoticeRefusal}
use Rattle.notices.specs.declared.NoticeRefusal.TheVariants.{WrongDay, InvalidTable as NoTable}
use Rattle.notices.specs.declared.TotalsAnswer.{TotalsAnswer}
use Rattle.table.specs.Table.{table_ok}
use Rattle.address.specs.Address.{addressed}
use Rattle.notices.specs.Notices.{noticed, notice_by, on_day, notice_code_of, body_totals, totals_by, totals_of}
use Rattle.opening.specs.declared.OpenRefusal.{OpenRefusal}
use Rattle.opening.specs.declared.OpenRefusal.TheVariants.{WrongRequest, WrongLength}
use Rattle.opening.specs.Opening.{open_code}
use Rattle.desk.specs.declared.FlowRefusal.{FlowRefusal}
use Rattle.desk.specs.declared.FlowRefusal.TheVariants.{InvalidTable, UnknownEdition, TooLong, BrokenMarkup, BrokenStructure, BrokenField, OtherBank, UnknownBody, ClosedYear, NoRoom}
use Rattle.desk.specs.Desk.{flow_reply, flow_code}
use Rattle.journal.specs.Journal.{journal_by, journal_of}
use Rattle.journal.proofs.Laws.{checked_one}
use Rattle.year_end.specs.declared.CloseRefusal.{CloseRefusal}
use Rattle.year_end.specs.YearEnd.{close_by, close_code}
use Rattle.year_end.proofs.Laws.{close_one}
use Rattle.theorems.specs.Engine.{Call, flow, execute, reverse, totals, journal, close, Answer, answer_code, Step}
use Rattle.theorems.specs.Codes.{one_of, open_codes, notice_codes, call_codes, causes_with, order_refusals, order_codes}

-- 0, or one of these
abbrev pub Or : List ℕ → ℕ → Type 0
Or xs c = (c ≡ 0) ⊎ (one_of xs c ≡ true)

-- AN ORDER: accepted, or refused with one of the codes
abbrev pub Coded : Result (Change × ℕ) ℕ → Type 0
Coded (Ok (c, i)) = Unit
Coded (Err code) = one_of order_refusals code ≡ true

later : (c : ℕ) → Or order_refusals (suc c) → one_of order_refusals (suc c) ≡ true
later c (inl e) = absurd (omega arith)
later c (inr e) = e

unless_coded : (c : ℕ) (j : Result (Change × ℕ) ℕ) → Or order_refusals c → Coded j → Coded (unless Err c j)
unless_coded zero j h k = k
unless_coded (suc c) j h k = later c h

lines_coded : (ls : List Line) (total : ℕ) → Or order_refusals (line_code ls total)
unfolding line_code
lines_coded ls total = go (numbered_from 1 ls) (eqb (sum_of ls) total)
  where
    go : (a b : Bool) → Or order_refusals (cond a (cond b 0 13) 12)
    go true true = inl refl
    go true false = inr refl
    go false b = inr refl

step_coded : (c : Change) (s : Situation) → Or order_refusals (step_code c s)
step_coded Insert Absent = inl refl
step_coded Insert Annulled = inr refl
step_coded Insert Waiting = inr refl
step_coded Insert Executed = inr refl
step_coded Vary Absent = inr refl
step_coded Vary Annulled = inr refl
step_coded Vary Waiting = inl refl
step_coded Vary Executed = inr refl
step_coded Annul Absent = inr refl
step_coded Annul Annulled = inr refl
step_coded Annul Waiting = inl refl
step_coded Annul Executed = inr refl
step_coded Replace Absent = inl refl
step_coded Replace Annulled = inr refl
step_coded Replace Waiting = inr refl
step_coded Replace Executed = inr refl

-- the lines that a replacement names
named_coded : (rs : List Record) (m : Naming) → Or order_refusals (named_code rs m)
unfolding named_code named_at line_named_in
named_coded rs m = at (find_in rs 0 m.key)
  where
    in_record : (a b c : Bool) → Or order_refusals (cond a (cond b (cond c 0 26) 25) 24)
    in_record false b c = inr refl
    in_record true false c = inr refl
    in_record true true false = inr refl
    in_record true true true = inl refl

    at : (f : Option ℕ) → Or order_refusals (named_at rs m f)
    at None = inr refl
    at (Some i) = in_record (leb 1 m.line && leb m.line (nth rs i).lines) (eqb (get_or (nth rs i).states (m.line - 1) 0) 2) (eqb (get_or (nth rs i).amounts (m.line - 1) 0) m.amount)

first_coded : (c n : ℕ) → Or order_refusals c → Or order_refusals n → Or order_refusals (first_code c n)
first_coded zero n h k = k
first_coded (suc c) n h k = h

names_coded : (rs : List Record) (ms : List Naming) → Or order_refusals (replace_code rs ms)
unfolding replace_code
names_coded rs [] = inl refl
names_coded rs (m ∷ ms) = first_coded (named_code rs m) _ (named_coded rs m) (names_coded (with_replaced rs m) ms)

or_else_lem : (b : Bool) (c : Change) (i code : ℕ) → one_of order_refusals code ≡ true → Coded (cond b (Ok (c, i)) (Err code))
or_else_lem true c i code e = tt
or_else_lem false c i code e = e

placed_coded : (slots : ℕ) (o : Ordinativo) (rs : List Record) (c : Change) (f : Option ℕ) → Coded (placed slots o rs c f)
unfolding placed
placed_coded slots o rs Insert f = or_else_lem (ltb (length rs) slots) Insert (length rs) 15 refl
placed_coded slots o rs Replace f =
    unless_coded (replace_code rs (namings o)) _ (names_coded rs (namings o)) (or_else_lem (ltb (length rs) slots) Replace (length rs) 15 refl)
placed_coded slots o rs Vary (Some i) = tt
placed_coded slots o rs Vary None = refl
placed_coded slots o rs Annul (Some i) = or_else_lem (same_order o (nth rs i)) Annul i 19 refl
placed_coded slots o rs Annul None = refl

change_coded : (slots year : ℕ) (o : Ordinativo) (rs : List Record) (c : Change) → Coded (judge_change slots year o rs c)
unfolding stepped
change_coded slots year o rs c =
    let f = find_in rs 0 (key_for year o) in
    unless_coded (line_code o.lines o.total) _ (lines_coded o.lines o.total)
    (unless_coded (step_code c (situation_of rs f)) _ (step_coded c (situation_of rs f)) (placed_coded slots o rs c f))

pub order_coded : (slots year : ℕ) (o : Ordinativo) (rs : List Record) → Coded (judge_order slots year o rs)
unfolding judge_order
order_coded slots year o rs = change_coded slots year o rs (change_of o.operation)

-- so an outcome's code is 0 where the order is accepted, and there alone
pub never_zero : (j : Result (Change × ℕ) ℕ) → Coded j → (order_code j ≡ 0 → (c : Change) × (i : ℕ) × (j ≡ Ok (c, i)))
never_zero (Ok (c, i)) h e = (c, i, refl)
never_zero (Err c) h e = absurd (let z : ◌≡◌ {A = Bool} false true = sym (ap (one_of order_refusals) e) ∙ h in no z)
  where
    no : ◌≡◌ {A = Bool} false true → ⊥
    no z = let y : ◌≡◌ {A = ℕ} 0 1 = cc in omega arith

pub or_true : (b : Bool) {c : Bool} → c ≡ true → b || c ≡ true
or_true true e = refl
or_true false e = e

pub judged_codes : (j : Result (Change × ℕ) ℕ) → Coded j → one_of order_codes (order_code j) ≡ true
judged_codes (Ok (c, i)) h = refl
judged_codes (Err c) h = or_true (eqb c 0) h

-- OPENING
pub open_codes_lem : (a : Result Unit OpenRefusal) → one_of open_codes (open_code a) ≡ true
open_codes_lem (Ok tt) = refl
open_codes_lem (Err WrongRequest) = refl
open_codes_lem (Err WrongLength) = refl

-- A NOTICE for a body
moves_coded : (executing : Bool) (s i cents : ℕ) → one_of (notice_codes executing) (notice_code (unless Err (line_moves executing s) (Ok (i, cents)))) ≡ true
unfolding line_moves
moves_coded true s i cents = go (was_executed s)
  where
    go : (u : Bool) → one_of (notice_codes true) (notice_code (unless Err (cond u 21 0) (Ok (i, cents)))) ≡ true
    go true = refl
    go false = refl
moves_coded false s i cents = go (eqb s 2)
  where
    go : (u : Bool) → one_of (notice_codes false) (notice_code (unless Err (cond u 0 22) (Ok (i, cents)))) ≡ true
    go true = refl
    go false = refl

-- 16, 17 and 20 are codes of both notices
both_have : (executing : Bool) → (one_of (notice_codes executing) 16 ≡ true) × (one_of (notice_codes executing) 17 ≡ true) × (one_of (notice_codes executing) 20 ≡ true)
both_have true = (refl, refl, refl)
both_have false = (refl, refl, refl)

in_coded : (executing : Bool) (line i : ℕ) (x : Record) → one_of (notice_codes executing) (notice_code (notice_in executing line i x)) ≡ true
unfolding notice_in
in_coded executing line i x = go (eqb x.state 2) (leb 1 line && leb line x.lines)
  where
    go : (u v : Bool)
        → one_of (notice_codes executing) (notice_code (cond u (Err 17) (cond v (unless Err (line_moves executing (get_or x.states (line - 1) 0)) (Ok (i, (get_or x.amounts (line - 1) 0)))) (Err 20)))) ≡ true
    go true v = (both_have executing).1
    go false false = (both_have executing).2
    go false true = moves_coded executing (get_or x.states (line - 1) 0) i (get_or x.amounts (line - 1) 0)

at_coded : (executing : Bool) (line : ℕ) (rs : List Record) (f : Option ℕ) → one_of (notice_codes executing) (notice_code (notice_at executing line rs f)) ≡ true
unfolding notice_at
at_coded executing line rs None = (both_have executing).0
at_coded executing line rs (Some i) = in_coded executing line i (nth rs i)

pub noticed_code : (m : Result (ℕ × ℕ) ℕ) → notice_code_of (noticed m) ≡ notice_code m
noticed_code (Ok (i, cents)) = refl
noticed_code (Err c) = refl

pub body_notice_codes : (t : List ℕ) (base n : ℕ) (executing : Bool) (k : Key) (line : ℕ)
    → one_of (notice_codes executing) (notice_code_of (noticed (notice_comes t base n executing k line))) ≡ true
unfolding notice_comes judge_notice
body_notice_codes t base n executing k line =
    let rs = records_at t base n in
    ap (one_of (notice_codes executing)) (noticed_code (notice_at executing line rs (find_in rs 0 k))) ∙ at_coded executing line rs (find_in rs 0 k)

-- ANY CALL
notice_codes_lem : (t : List ℕ) (executing : Bool) (k : Key) (line : ℕ) (b : Result (ℕ × ℕ × ℕ) NoBody)
    → one_of (1 ∷ 7 ∷ notice_codes executing) (notice_code_of (notice_by t executing k line b)) ≡ true
unfolding notice_by
notice_codes_lem t executing k line (Err Invalid) = refl
notice_codes_lem t executing k line (Err Unknown) = refl
notice_codes_lem t executing k line (Ok (e, base, n)) =
    let c = notice_code_of (noticed (notice_comes t base n executing k line)) in
    or_true (eqb c 1) (or_true (eqb c 7) (body_notice_codes t base n executing k line))

-- a date's code: 0, 27 or 28
pub date_codes : (d : Date) → Or (7 ∷ 27 ∷ 28 ∷ []) (target_code d)
unfolding target_code
date_codes d = go (served d) (closing d)
  where
    go : (a b : Bool) → Or (7 ∷ 27 ∷ 28 ∷ []) (cond a (cond b 28 0) 27)
    go true true = inr refl
    go true false = inl refl
    go false b = inr refl

strays_more : (executing : Bool) (c : ℕ) → one_of (1 ∷ 7 ∷ notice_codes executing) c ≡ true → one_of (1 ∷ 7 ∷ 27 ∷ 28 ∷ notice_codes executing) c ≡ true
strays_more executing c = go (eqb c 1) (eqb c 7) (eqb c 27) (eqb c 28) (one_of (notice_codes executing) c)
  where
    go : (a b x y z : Bool) → a || (b || z) ≡ true → a || (b || (x || (y || z))) ≡ true
    go true b x y z e = refl
    go false true x y z e = refl
    go false false true y z e = refl
    go false false false true z e = refl
    go false false false false z e = e

dated_codes : (t : List ℕ) (executing : Bool) (k : Key) (line : ℕ) (b : Result (ℕ × ℕ × ℕ) NoBody) (c : ℕ) → Or (7 ∷ 27 ∷ 28 ∷ []) c
    → one_of (1 ∷ 7 ∷ 27 ∷ 28 ∷ notice_codes executing) (notice_code_of (on_day c t (notice_by t executing k line b))) ≡ true
dated_codes t executing k line b zero h = strays_more executing (notice_code_of (notice_by t executing k line b)) (notice_codes_lem t executing k line b)
dated_codes t executing k line b (suc c) (inl e) = absurd (omega arith)
dated_codes t executing k line b (suc c) (inr e) = go (table_ok t)
  where
    more : (a b x y : Bool) → a || (b || (x || false)) ≡ true → y || (a || (b || (x || one_of (notice_codes executing) (suc c)))) ≡ true
    more a b x true q = refl
    more true b x false q = refl
    more false true x false q = refl
    more false false true false q = refl
    more false false false false q = absurd (no q)
      where
        no : ◌≡◌ {A = Bool} false true → ⊥
        no z = let y : ◌≡◌ {A = ℕ} 0 1 = cc in omega arith

    go : (v : Bool) → one_of (1 ∷ 7 ∷ 27 ∷ 28 ∷ notice_codes executing) (notice_code_of (cond v (Err (WrongDay (suc c))) (Err NoTable))) ≡ true
    go true = more (eqb (suc c) 7) (eqb (suc c) 27) (eqb (suc c) 28) (eqb (suc c) 1) e
    go false = refl

flow_codes : (ed : ℕ) (f out : List ℕ) (a : Result (ℕ × ℕ × ℕ) FlowRefusal) → one_of (call_codes (flow ed f out)) (flow_reply a).code ≡ true
flow_codes ed f out (Err InvalidTable) = refl
flow_codes ed f out (Err UnknownEdition) = refl
flow_codes ed f out (Err TooLong) = refl
flow_codes ed f out (Err BrokenMarkup) = refl
flow_codes ed f out (Err BrokenStructure) = refl
flow_codes ed f out (Err (BrokenField p c)) = refl
flow_codes ed f out (Err OtherBank) = refl
flow_codes ed f out (Err UnknownBody) = refl
flow_codes ed f out (Err ClosedYear) = refl
flow_codes ed f out (Err NoRoom) = refl
flow_codes ed f out (Ok (n, m, k)) = refl

pub flow_causes : (a : Result (ℕ × ℕ × ℕ) FlowRefusal) → one_of (causes_with (flow_code a)) (flow_reply a).cause ≡ true
flow_causes (Err InvalidTable) = refl
flow_causes (Err UnknownEdition) = refl
flow_causes (Err TooLong) = refl
flow_causes (Err BrokenMarkup) = refl
flow_causes (Err BrokenStructure) = refl
flow_causes (Err (BrokenField p Empty)) = refl
flow_causes (Err (BrokenField p Long)) = refl
flow_causes (Err (BrokenField p Misformed)) = refl
flow_causes (Err (BrokenField p OutOfRange)) = refl
flow_causes (Err OtherBank) = refl
flow_causes (Err UnknownBody) = refl
flow_causes (Err ClosedYear) = refl
flow_causes (Err NoRoom) = refl
flow_causes (Ok (n, m, k)) = refl

totals_codes : (t code : List ℕ) (b : Result (ℕ × ℕ × ℕ) NoBody) → one_of (call_codes (totals code)) (totals_by t b).code ≡ true
unfolding body_totals
totals_codes t code (Err Invalid) = refl
totals_codes t code (Err Unknown) = refl
totals_codes t code (Ok (e, base, n)) = refl

journal_codes : (t code s : List ℕ) (b : Result (ℕ × ℕ × ℕ) NoBody) → one_of (call_codes (journal code s)) (journal_by t s b) ≡ true
journal_codes t code s (Err Invalid) = refl
journal_codes t code s (Err Unknown) = refl
journal_codes t code s (Ok (e, base, n)) = checked_one (λ c. one_of (call_codes (journal code s)) c ≡ true) refl refl refl refl refl refl (records_at t base n) s

close_codes : (t code : List ℕ) (year : ℕ) (b : Result (ℕ × ℕ × ℕ) NoBody) → one_of (call_codes (close code year)) (close_code (close_by t year b)) ≡ true
unfolding close_by
close_codes t code year (Err Invalid) = refl
close_codes t code year (Err Unknown) = refl
close_codes t code year (Ok (e, base, n)) =
    close_one (λ a. one_of (call_codes (close code year)) (close_code a) ≡ true) (closed_of t e) year (records_at t base n) refl refl refl refl refl

pub call_codes_lem : (c : Call) (t : List ℕ) (a : Answer) (t' : List ℕ) → Step c t a t' → one_of (call_codes c) (answer_code a) ≡ true
unfolding totals_of journal_of
call_codes_lem (flow ed f out) t a t' s = ap (λ (x : Answer). one_of (call_codes (flow ed f out)) (answer_code x)) s.3 ∙ flow_codes ed f out s.0
call_codes_lem (execute code k line d) t a t' s =
    ap (λ (x : Answer). one_of (call_codes (execute code k line d)) (answer_code x)) s.2
    ∙ ap (λ (x : Result ℕ NoticeRefusal). one_of (call_codes (execute code k line d)) (notice_code_of x)) s.1.0
    ∙ dated_codes t true k line (addressed t code) (target_code d) (date_codes d)
call_codes_lem (reverse code k line d) t a t' s =
    ap (λ (x : Answer). one_of (call_codes (reverse code k line d)) (answer_code x)) s.2
    ∙ ap (λ (x : Result ℕ NoticeRefusal). one_of (call_codes (reverse code k line d)) (notice_code_of x)) s.1.0
    ∙ dated_codes t false k line (addressed t code) (target_code d) (date_codes d)
call_codes_lem (totals code) t a t' s =
    ap (λ (x : Answer). one_of (call_codes (totals code)) (answer_code x)) s.2
    ∙ ap (λ (x : TotalsAnswer). one_of (call_codes (totals code)) x.code) s.1
    ∙ totals_codes t code (addressed t code)
call_codes_lem (journal code m) t a t' s =
    ap (λ (x : Answer). one_of (call_codes (journal code m)) (answer_code x)) s.2
    ∙ ap (one_of (call_codes (journal code m))) s.1
    ∙ journal_codes t code m (addressed t code)
call_codes_lem (close code year) t a t' s =
    ap (λ (x : Answer). one_of (call_codes (close code year)) (answer_code x)) s.2
    ∙ ap (λ (x : Result ℕ CloseRefusal). one_of (call_codes (close code year)) (close_code x)) s.1.0
    ∙ close_codes t code year (addressed t code)
