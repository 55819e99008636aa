-- THE TWO AGREE call by call, on a table that is fit and the room that it says: the same answer, and the room afterwards is what the table afterwards says.
use Rattle.std.specs.Prelude.{Option, Result, Some, None, Ok, Err}
use Prim.Native.Nat.{ℕ, zero, suc, ◌*◌, ◌≤◌, ◌<◌}
use lib.IntN.{pos, ◌-ℤ◌}
use mathlib.Core.Path.{◌≡◌, refl, sym, ap, ◌∙◌, subst}
use mathlib.Core.Bool.{Bool, true, false, cond}
use mathlib.Core.List.{List}
use native.Mathlib.Omega.{arith}
use lib.ListN.{length}
use lib.Dec.{leb}
use borrow.Author.Tests.{lt-leb}
use Rattle.bounds.specs.Bounds.{max_flow}
use Rattle.scan.specs.Bytes.{text_is}
use Rattle.words.specs.Numbers.{put}
use Rattle.record.specs.declared.Record.{Record}
use Rattle.record.specs.declared.Key.{Key}
use Rattle.slots.specs.Slots.{records_at}
use Rattle.slots.proofs.Index.{length_records}
use Rattle.body.specs.Body.{cents_of}
use Rattle.entries.specs.Entry.{closed_of, find_code}
use Rattle.table.specs.Table.{head_size, bodies, abi_of, body_of, entry_of}
use Rattle.table.proofs.Bodies.{found_body}
use Rattle.order.specs.Ordinativo.{Ordinativo}
use Rattle.editions.specs.declared.Edition.{Edition}
use Rattle.editions.specs.Editions.{edition_of}
use Rattle.header.specs.Header.{Header}
use Rattle.flow.specs.declared.Breakage.{Breakage}
use Rattle.flow.specs.declared.Breakage.TheVariants.{MarkupBreaks, StructureBreaks, FieldBreaks}
use Rattle.flow.specs.Flow.{verdict_of, header_of, flow_orders}
use Rattle.flow.proofs.Laws.{flow_stood}
use Rattle.flow.proofs.Values.{orders_ok, header_ok}
use Rattle.rules.specs.Rules.{judge_notice}
use Rattle.rules.specs.Effects.{all_records, records_moved}
use Rattle.rules.proofs.Kept.{Writables}
use Rattle.service.specs.Service.{outcome_size, notice_comes}
use Rattle.service.proofs.Kept.{all_kept, all_records_lem}
use Rattle.service.proofs.Moved.{notice_settled, notice_records}
use Rattle.service.proofs.Totals.{kept_settled}
use Rattle.one_list.specs.Lists.{list_outcomes, list_accepted, list_steps}
use Rattle.one_list.proofs.Same.{flow_agrees}
use Rattle.address.specs.Address.{body_at, body_named, addressed}
use Rattle.notices.specs.declared.NoticeRefusal.TheVariants.{WrongDay, InvalidTable}
use Rattle.notices.specs.Notices.{noticed, notice_by, notice_table_by, on_day, table_on_day, totalled, body_totals, totals_by, totals_of}
use Rattle.desk.specs.declared.FlowRefusal.{FlowRefusal}
use Rattle.desk.specs.declared.FlowRefusal.TheVariants.{UnknownEdition, TooLong, BrokenMarkup, BrokenStructure, BrokenField, OtherBank, UnknownBody, NoRoom}
use Rattle.desk.proofs.Written.{writables}
use Rattle.desk.specs.Desk.{Reading, served, for_body, for_flow, by_edition, flow_reads, flow_answer, flow_table, flow_outcomes}
use Rattle.desk.specs.Desk as desk
use Rattle.theorems.proofs.Good.{base, size}
use Rattle.plain.specs.Plain.{Listed, Plain, numbered, fits}
use Rattle.plain.specs.Flows.{Taught, refused, taught, on_body, of_verdict, of_edition, flow_teaches, taught_answer, taught_room, taught_outcomes}
use Rattle.plain.specs.Notices.{notice_on, list_on, notice_for, room_for, day_answer, day_room, list_totals, totals_for}
use Rattle.plain.specs.Says.{plain_of}
use Rattle.lessons.proofs.Fit.{Fit}
use Rattle.lessons.proofs.Listed.{codes_is}
use Rattle.lessons.proofs.Fits.{body_fits}
use Rattle.lessons.proofs.Image.{Leads, still, never_closed, listed_is, body_served, leads}

-- what a flow is in the room and on the table: refused with the same answer, or the same orders for the same body
pub data Matches (t : List ℕ) : Taught → Reading → Type 0 where
  refuses : (a : Result (ℕ × ℕ × ℕ) FlowRefusal) → Matches t (refused a) (desk.refused a)
  teaches : (b year : ℕ) (os : List Ordinativo) → b < bodies t → Writables os → (2000 ≤ year) × (year ≤ 2099)
      → Matches t (taught b year os) (served (base t b) (size t b) year os)

choose : {t : List ℕ} {g h : Taught} {x y : Reading} (u : Bool) → Matches t g x → Matches t h y → Matches t (cond u g h) (cond u x y)
choose true a b = a
choose false a b = b

module _ (t : List ℕ) (F : Fit t) where
  abbrev room : Plain
  room = plain_of t

  -- WHICH BODY
  numbered_is : (code : List ℕ) → body_of t code ≡ numbered (plain_of t) code
  numbered_is code = ap (λ (xs : List (List ℕ)). find_code xs 0 code) (sym (codes_is t head_size (bodies t)))

  addressed_is : (code : List ℕ) → addressed t code ≡ body_named t code
  unfolding addressed
  addressed_is code = rw F.valid

  -- A FLOW
  module _ (ed : ℕ) (f : List ℕ) (n : ℕ) where
    module _ (e : Edition) (at : ℕ) (stands : verdict_of e f ≡ Ok at) where
      abbrev h : Header
      h = header_of e f at

      abbrev os : List Ordinativo
      os = flow_orders e f at

      by_body : (x : Option ℕ) → body_of t h.ente ≡ x → Matches t (on_body n h.esercizio os x) (for_body t n h.esercizio os (body_at t x))
      by_body None q = refuses (Err UnknownBody)
      by_body (Some b) q =
          let l = found_body t F.valid h.ente b q in
          let d = flow_stood e f at stands in
          let y = (header_ok e f at d).0.esercizio in
          let z : leb h.esercizio (closed_of t (entry_of b)) ≡ false = ap (leb h.esercizio) (never_closed t F b l) ∙ lt-leb h.esercizio 0 (omega arith) in
          rw z (choose (leb (outcome_size * length os) n) (teaches b h.esercizio os l (writables os (orders_ok e f at d)) y) (refuses (Err NoRoom)))

      for_body_lem : Matches t (on_body n h.esercizio os (numbered (plain_of t) h.ente)) (for_body t n h.esercizio os (body_named t h.ente))
      for_body_lem =
          subst (λ (x : Option ℕ). Matches t (on_body n h.esercizio os x) (for_body t n h.esercizio os (body_named t h.ente))) (numbered_is h.ente)
          (by_body (body_of t h.ente) refl)

    by_verdict : (e : Edition) (v : Result ℕ Breakage) → verdict_of e f ≡ v → Matches t (of_verdict e room f n v) (for_flow e t f n v)
    by_verdict e (Err (MarkupBreaks p)) q = refuses (Err BrokenMarkup)
    by_verdict e (Err StructureBreaks) q = refuses (Err BrokenStructure)
    by_verdict e (Err (FieldBreaks p c)) q = refuses (Err (BrokenField p c))
    by_verdict e (Ok at) q = choose (text_is (abi_of t) (header_of e f at).abi) (for_body_lem e at q) (refuses (Err OtherBank))

    by_edition_lem : (x : Option Edition) → Matches t (of_edition room f n x) (by_edition t f n x)
    by_edition_lem (Some e) = choose (leb (length f) max_flow) (by_verdict e (verdict_of e f) refl) (refuses (Err TooLong))
    by_edition_lem None = refuses (Err UnknownEdition)

    pub flow_matches : Matches t (flow_teaches (plain_of t) ed f n) (flow_reads t ed f n)
    unfolding flow_teaches flow_reads
    flow_matches = rw F.valid (by_edition_lem (edition_of ed))

  pub flow_answers : (out : List ℕ) {g : Taught} {x : Reading} → Matches t g x
      → (taught_answer (plain_of t) g ≡ flow_answer t x) × (taught_outcomes (plain_of t) out g ≡ flow_outcomes t out x)
  flow_answers out (refuses a) = (refl, refl)
  flow_answers out (teaches b year os l w y) =
      let s = body_served t F b l in
      let e = listed_is t F b l in
      let a = flow_agrees t (base t b) (size t b) year os s.inside s.valid w y in (
        ap (λ (z : Listed). Ok ((length os), (list_accepted z.slots year os z.orders), (list_steps z.slots year os z.orders))) e
            ∙ (λ i. Ok ((length os), (a.accepted i), (a.steps i))),
        ap (λ (z : Listed). put out 0 (list_outcomes z.slots year os z.orders)) e ∙ ap (put out 0) a.outcomes,
      )

  pub flow_leads : {g : Taught} {x : Reading} → Matches t g x → Leads t (taught_room (plain_of t) g) (flow_table t x)
  flow_leads (refuses a) = still t F
  flow_leads (teaches b year os l w y) =
      let s = body_served t F b l in
      leads t F b l _ (kept_settled s.entry s.agreed (all_kept t (base t b) (size t b) year os s.inside s.valid w y))
      (λ z. all_records z.slots year os z.orders)
      (sym (all_records_lem t (base t b) (size t b) year os s.inside s.valid w y))

  -- A NOTICE
  module _ (executing : Bool) (code : List ℕ) (k : Key) (line : ℕ) where
    -- on a body's list that fits
    list_answer : (rs : List Record) → fits rs ≡ true → notice_on executing k line rs ≡ noticed (judge_notice executing k line rs)
    list_answer rs e = rw e

    list_left : (rs : List Record) → fits rs ≡ true → list_on executing k line rs ≡ records_moved executing line rs (judge_notice executing k line rs)
    list_left rs e = rw e

    found_answer : (x : Option ℕ) → body_of t code ≡ x → notice_for (plain_of t) executing k line x ≡ notice_by t executing k line (body_at t x)
    unfolding notice_by notice_comes
    found_answer None q = refl
    found_answer (Some b) q =
        let l = found_body t F.valid code b q in
        ap (λ (z : Listed). notice_on executing k line z.orders) (listed_is t F b l)
        ∙ list_answer _ (body_fits t (base t b) (size t b) (body_served t F b l).valid)

    found_leads : (x : Option ℕ) → body_of t code ≡ x → Leads t (room_for (plain_of t) executing k line x) (notice_table_by t executing k line (body_at t x))
    unfolding notice_table_by
    found_leads None q = still t F
    found_leads (Some b) q =
        let l = found_body t F.valid code b q in
        let s = body_served t F b l in
        leads t F b l _ (notice_settled t (entry_of b) (base t b) (size t b) executing k line s) (λ z. list_on executing k line z.orders)
        (list_left _ (body_fits t (base t b) (size t b) s.valid) ∙ sym (notice_records t (entry_of b) (base t b) (size t b) executing k line s))

    -- of a date with the code c
    pub notice_answers : (c : ℕ)
        → day_answer c (notice_for (plain_of t) executing k line (numbered (plain_of t) code)) ≡ on_day c t (notice_by t executing k line (addressed t code))
    notice_answers zero =
        ap (notice_for (plain_of t) executing k line) (sym (numbered_is code)) ∙ found_answer (body_of t code) refl
        ∙ sym (ap (notice_by t executing k line) (addressed_is code))
    notice_answers (suc c) = sym (ap (λ (u : Bool). cond u (Err (WrongDay (suc c))) (Err InvalidTable)) F.valid)

    pub notice_leads : (c : ℕ)
        → Leads t (day_room c (plain_of t) (room_for (plain_of t) executing k line (numbered (plain_of t) code))) (table_on_day c t (notice_table_by t executing k line (addressed t code)))
    notice_leads zero = rw (addressed_is code, ← numbered_is code) (found_leads (body_of t code) refl)
    notice_leads (suc c) = still t F

  -- TOTALS
  module _ (code : List ℕ) where
    list_totals_lem : (rs : List Record) → fits rs ≡ true
        → list_totals rs ≡ totalled 0 (length rs) (cents_of 1 rs) (cents_of 2 rs) (pos (cents_of 2 rs) -ℤ pos (cents_of 1 rs))
    list_totals_lem rs e = rw e

    found_totals : (x : Option ℕ) → body_of t code ≡ x → totals_for (plain_of t) x ≡ totals_by t (body_at t x)
    unfolding body_totals
    found_totals None q = refl
    found_totals (Some b) q =
        let l = found_body t F.valid code b q in
        let rs = records_at t (base t b) (size t b) in
        ap (λ (z : Listed). list_totals z.orders) (listed_is t F b l)
        ∙ list_totals_lem _ (body_fits t (base t b) (size t b) (body_served t F b l).valid)
        ∙ ap (λ (u : ℕ). totalled 0 u (cents_of 1 rs) (cents_of 2 rs) (pos (cents_of 2 rs) -ℤ pos (cents_of 1 rs))) (length_records t (base t b) (size t b))

    pub totals_answers : totals_for (plain_of t) (numbered (plain_of t) code) ≡ totals_of t code
    unfolding totals_of
    totals_answers = ap (totals_for (plain_of t)) (sym (numbered_is code)) ∙ found_totals (body_of t code) refl ∙ sym (ap (totals_by t) (addressed_is code))
