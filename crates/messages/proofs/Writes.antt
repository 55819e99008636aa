-- What the promise of the call that writes comes to.
use Rattle.std.specs.Prelude.{Option, Result, Some, None, Ok, Err}
use mathlib.Core.Path.{◌≡◌, refl, sym, ap, subst, ◌∙◌}
use mathlib.Core.List.{List}
use mathlib.Core.Bool.{Bool, true, false, cond, ◌&&◌}
use Prim.Native.Nat.{ℕ, ◌+◌, ◌≤◌}
use native.Mathlib.Omega.{arith}
use native.Mathlib.Nat.{zero-add}
use lib.ListN.{length, take, drop}
use lib.Seq.{take_at, drop_at}
use lib.Dec.{leb}
use borrow.Author.Tests.{leb-true}
use Rattle.bounds.specs.Bounds.{max_flow}
use Rattle.scan.proofs.Laws.{both}
use Rattle.words.specs.Numbers.{put}
use Rattle.grammar.specs.XML.{WellFormedXML}
use Rattle.grammar.proofs.XML.{flow_well_formed}
use Rattle.editions.specs.declared.Edition.{Edition}
use Rattle.editions.specs.Editions.{edition_of}
use Rattle.flow.specs.declared.Breakage.{Breakage}
use Rattle.flow.specs.declared.Breakage.TheVariants.{MarkupBreaks, StructureBreaks, FieldBreaks}
use Rattle.flow.specs.Flow.{verdict_of, flow_orders}
use Rattle.message.specs.Message.{Message}
use Rattle.message.specs.Written.{message_bytes}
use Rattle.message.specs.Read.{MessageReading, read, MessageOf, too_long, no_tree, on_tree}
use Rattle.message.specs.From.{Caller, CallerOk, outcomes_fit, flow_message}
use Rattle.message.proofs.From.{written_ok, from_read}
use Rattle.message.proofs.Short.{message_short}
use Rattle.message_fit.specs.Fit.{caller_ok}
use Rattle.message_fit.proofs.Laws.{caller_told}
use Rattle.message_write.specs.declared.WriteRefusal.{WriteRefusal}
use Rattle.message_write.specs.declared.WriteRefusal.TheVariants as answer
use Rattle.message_write.specs.declared.WriteReply.{WriteReply}
use Rattle.message_write.specs.Write.{Writing, writing_of, write_in, write_by, write_reads, write_answer, write_buffer, write_reply}
use Rattle.message_write.specs.Write as write
use Rattle.messages.specs.Writes.{WrittenOut, WrittenSaid, RefusedKept, NoSecondWriting}

-- WHEN a message is to be written
record When (ed : ℕ) (f o : List ℕ) (c : Caller) (m : Message) : Type 0 where
  edition : Edition
  numbered : edition_of ed ≡ Some edition
  short : length f ≤ max_flow
  begins : ℕ
  stands : verdict_of edition f ≡ Ok begins
  fits : outcomes_fit (flow_orders edition f begins) o ≡ true
  caller : CallerOk c
  is : flow_message edition f begins o c ≡ m

never : {a : Result ℕ WriteRefusal} {m : Message} {A : Type 0} → write.refused a ≡ write.writes m → A
never e = let z : ◌≡◌ {A = ℕ} 0 1 = cc in absurd (omega arith)

when : (ed : ℕ) (f o : List ℕ) (c : Caller) (m : Message) → write_reads ed f o c ≡ write.writes m → When ed f o c m
unfolding write_in
when ed f o c m h = edition_by (edition_of ed) refl h
  where
    fit_by : (y : Edition) → edition_of ed ≡ Some y → (at : ℕ) → length f ≤ max_flow → verdict_of y f ≡ Ok at → (b : Bool) → (outcomes_fit (flow_orders y f at) o && caller_ok c) ≡ b
        → cond b (write.writes (flow_message y f at o c)) (write.refused (Err answer.Unfit)) ≡ write.writes m → When ed f o c m
    fit_by y i at l s true h e =
        let p = both (outcomes_fit (flow_orders y f at) o) (caller_ok c) h in
        record { edition = y; numbered = i; short = l; begins = at; stands = s; fits = p.0; caller = (caller_told c).sound p.1; is = cc }
    fit_by y i at l s false h e = never e

    verdict_by : (y : Edition) → edition_of ed ≡ Some y → (v : Result ℕ Breakage) → length f ≤ max_flow → verdict_of y f ≡ v → writing_of y f o c v ≡ write.writes m → When ed f o c m
    verdict_by y i (Err (MarkupBreaks p)) l s e = never e
    verdict_by y i (Err StructureBreaks) l s e = never e
    verdict_by y i (Err (FieldBreaks p x)) l s e = never e
    verdict_by y i (Ok at) l s e = fit_by y i at l s (outcomes_fit (flow_orders y f at) o && caller_ok c) refl e

    length_by : (y : Edition) → edition_of ed ≡ Some y → (b : Bool) → leb (length f) max_flow ≡ b → cond b (writing_of y f o c (verdict_of y f)) (write.refused (Err answer.TooLong)) ≡ write.writes m → When ed f o c m
    length_by y i true h e = verdict_by y i (verdict_of y f) (leb-true (length f) max_flow h) refl e
    length_by y i false h e = never e

    edition_by : (x : Option Edition) → edition_of ed ≡ x → write_by f o c x ≡ write.writes m → When ed f o c m
    edition_by (Some y) i e = length_by y i (leb (length f) max_flow) refl e
    edition_by None i e = never e

-- no refusal is Written
abbrev is_refusal : Result ℕ WriteRefusal → Bool
is_refusal (Err answer.UnknownEdition) = true
is_refusal (Err answer.TooLong) = true
is_refusal (Err answer.BrokenMarkup) = true
is_refusal (Err answer.BrokenStructure) = true
is_refusal (Err answer.BrokenField) = true
is_refusal (Err answer.Unfit) = true
is_refusal (Err answer.NoRoom) = true
is_refusal (Ok n) = false

abbrev refuses_well : Writing → Bool
refuses_well (write.refused a) = is_refusal a
refuses_well (write.writes m) = true

refuses_well_lem : (ed : ℕ) (f o : List ℕ) (c : Caller) → refuses_well (write_reads ed f o c) ≡ true
unfolding write_in
refuses_well_lem ed f o c = edition_by (edition_of ed)
  where
    fit_by : (y : Edition) (at : ℕ) (b : Bool) → refuses_well (cond b (write.writes (flow_message y f at o c)) (write.refused (Err answer.Unfit))) ≡ true
    fit_by y at true = refl
    fit_by y at false = refl

    verdict_by : (y : Edition) (v : Result ℕ Breakage) → refuses_well (writing_of y f o c v) ≡ true
    verdict_by y (Err (MarkupBreaks p)) = refl
    verdict_by y (Err StructureBreaks) = refl
    verdict_by y (Err (FieldBreaks p x)) = refl
    verdict_by y (Ok at) = fit_by y at (outcomes_fit (flow_orders y f at) o && caller_ok c)

    length_by : (y : Edition) (b : Bool) → refuses_well (cond b (writing_of y f o c (verdict_of y f)) (write.refused (Err answer.TooLong))) ≡ true
    length_by y true = verdict_by y (verdict_of y f)
    length_by y false = refl

    edition_by : (x : Option Edition) → refuses_well (write_by f o c x) ≡ true
    edition_by (Some y) = length_by y (leb (length f) max_flow)
    edition_by None = refl

-- a message that is read is well-formed
pub read_xml : {y : Edition} {s : List ℕ} {r : MessageReading} → MessageOf y s r → (m : Message) → r ≡ read m → WellFormedXML s
read_xml (too_long l) m e = let z : ◌≡◌ {A = ℕ} 0 1 = cc in absurd (omega arith)
read_xml (no_tree l n) m e = let z : ◌≡◌ {A = ℕ} 0 1 = cc in absurd (omega arith)
read_xml {y} {s} (on_tree l t h) m e = flow_well_formed s t.0

-- bytes put at the front, and those past them
pub front : (b v : List ℕ) → take (length v) (put b 0 v) ≡ v
unfolding put
front b v = take_at v (drop (0 + length v) b) (length v) refl

pub behind : (b v : List ℕ) → drop (length v) (put b 0 v) ≡ drop (length v) b
unfolding put
behind b v = drop_at v (drop (0 + length v) b) (length v) refl ∙ ap (λ (k : ℕ). drop k b) (zero-add (length v))

-- WRITTEN
module _ (ed : ℕ) (f o : List ℕ) (c : Caller) (b u : List ℕ) (n : ℕ) (m : Message) (w : When ed f o c m) (e : n ≡ length (message_bytes m)) (l : n ≤ length b) (p : u ≡ put b 0 (message_bytes m)) where
  out : WrittenOut ed f o c b u n
  out =
      let k = w.is in
      let ok = written_ok w.edition f w.begins w.stands o c w.fits w.caller in
      let s = message_short (flow_message w.edition f w.begins o c) ok in
      let r : (y : Edition) → MessageOf y (message_bytes (flow_message w.edition f w.begins o c)) (read (flow_message w.edition f w.begins o c)) = λ y. from_read w.edition y f w.begins w.stands o c w.fits w.caller in
      let z : n ≡ length (message_bytes (flow_message w.edition f w.begins o c)) = e ∙ ap (λ (x : Message). length (message_bytes x)) (sym k) in
      let t : take n u ≡ message_bytes (flow_message w.edition f w.begins o c) = ap (λ (x : ℕ). take x u) e ∙ ap (take (length (message_bytes m))) p ∙ front b (message_bytes m) ∙ ap message_bytes (sym k) in
      record {
        edition = w.edition;
        numbered = w.numbered;
        short = w.short;
        begins = w.begins;
        stands = w.stands;
        fits = w.fits;
        caller = w.caller;
        message = t;
        size = z;
        room = l;
        past = subst (λ (x : ℕ). drop x u ≡ drop x b) (sym e) (ap (drop (length (message_bytes m))) p ∙ behind b (message_bytes m));
        reads = λ y. subst (λ (x : List ℕ). MessageOf y x (read (flow_message w.edition f w.begins o c))) (sym t) (r y);
        readable = omega arith;
        xml = subst WellFormedXML (sym t) (read_xml (r w.edition) (flow_message w.edition f w.begins o c) refl);
      }

pub written : WrittenSaid
written ed f o c b u n (a, p) = go (write_reads ed f o c) refl a p
  where
    go : (w : Writing) → write_reads ed f o c ≡ w → Ok n ≡ write_answer (length b) w → u ≡ write_buffer b w → WrittenOut ed f o c b u n
    go (write.refused x) e a p =
        let r : is_refusal x ≡ true = rw e at (refuses_well_lem ed f o c) in
        let z : false ≡ true = rw (← a) at r in
        let y : ◌≡◌ {A = ℕ} 0 1 = cc in
        absurd (omega arith)
    go (write.writes m) e a p = room_by (leb (length (message_bytes m)) (length b)) refl a p
      where
        room_by : (g : Bool) → leb (length (message_bytes m)) (length b) ≡ g → Ok n ≡ cond g (Ok (length (message_bytes m))) (Err answer.NoRoom)
            → u ≡ cond g (put b 0 (message_bytes m)) b → WrittenOut ed f o c b u n
        room_by true h a p = let z : n ≡ length (message_bytes m) = cc in let l = leb-true (length (message_bytes m)) (length b) h in out ed f o c b u n m (when ed f o c m e) z (omega (arith, l)) p
        room_by false h a p = let y : ◌≡◌ {A = ℕ} 0 1 = cc in absurd (omega arith)

pub refused_kept : RefusedKept
refused_kept ed f o c b u x (a, p) k = go (write_reads ed f o c) a p
  where
    go : (w : Writing) → x ≡ write_answer (length b) w → u ≡ write_buffer b w → u ≡ b
    go (write.refused y) a p = p
    go (write.writes m) a p = room_by (leb (length (message_bytes m)) (length b)) a p
      where
        room_by : (g : Bool) → x ≡ cond g (Ok (length (message_bytes m))) (Err answer.NoRoom) → u ≡ cond g (put b 0 (message_bytes m)) b → u ≡ b
        room_by true a p = absurd (k (length (message_bytes m)) a)
        room_by false a p = p

reply_same : {m n : WriteReply} → m.code ≡ n.code → m.length ≡ n.length → m ≡ n
reply_same e h = λ i. record { code = e i; length = h i }

pub no_second : NoSecondWriting
no_second = record {
  write = λ ed f o c b x y u v (p, q) (r, s). (p ∙ sym r, q ∙ sym s);
  replies = λ ed f o c b m n u v (x, (p, q), i, j) (y, (r, s), k, l).
      let z : x ≡ y = p ∙ sym r in
      (reply_same (i ∙ ap (λ t. (write_reply t).code) z ∙ sym k) (j ∙ ap (λ t. (write_reply t).length) z ∙ sym l), q ∙ sym s);
}
