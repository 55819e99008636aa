-- EACH REFUSAL OF A FLOW IS GIVEN EXACTLY WHEN document 01's table says: what a flow reads, by the same cases.
use Rattle.std.specs.Prelude.{Option, Result, Some, None, Ok, Err}
use Prim.Native.Nat.{ℕ, ◌*◌}
use mathlib.Core.Path.{◌≡◌, refl}
use mathlib.Core.Bool.{Bool, true, false, not, cond}
use mathlib.Core.List.{List, [], ◌∷◌}
use native.Mathlib.Omega.{arith}
use lib.ListN.{length}
use lib.Dec.{eqb, leb}
use Rattle.bounds.specs.Bounds.{max_flow}
use Rattle.scan.specs.Bytes.{text_is}
use Rattle.ranges.specs.Ranges.{is_nothing}
use Rattle.entries.specs.Entry.{slots_of, place_of, closed_of}
use Rattle.table.specs.Table.{table_ok, abi_of, body_of, entry_of}
use Rattle.order.specs.Ordinativo.{Ordinativo}
use Rattle.editions.specs.declared.Edition.{Edition}
use Rattle.editions.specs.Editions.{edition_of}
use Rattle.header.specs.Header.{Header}
use Rattle.flow.specs.declared.Breakage.{Breakage}
use Rattle.flow.specs.declared.Breakage.TheVariants.{MarkupBreaks, StructureBreaks, FieldBreaks}
use Rattle.flow.specs.Flow.{verdict_of, header_of, flow_orders}
use Rattle.address.specs.Address.{body_at}
use Rattle.desk.specs.declared.FlowRefusal.{FlowRefusal}
use Rattle.desk.specs.declared.FlowRefusal.TheVariants.{InvalidTable, UnknownEdition, TooLong, OtherBank, ClosedYear, NoRoom}
use Rattle.desk.specs.Desk.{Reading, refused, served, for_body, for_flow, by_edition, flow_reads, flow_answer, FlowPromise, flow_reply, flow_code}
use Rattle.theorems.specs.Given.{broken_place, breaks_by, verdict_as, closed_by, flow_refusals, first_of}

-- a reading that refuses has a code other than 0
abbrev pub Coding : Reading → Type 0
Coding (refused a) = flow_code a ≡ 0 → ⊥
Coding (served base n year os) = Unit

module _ (t f : List ℕ) (room : ℕ) where
  -- a reading's code, its place and its cause
  pub record Given (c p x : ℕ) (g : Reading) : Type 0 where
    pub code : flow_code (flow_answer t g) ≡ c
    pub place : (flow_reply (flow_answer t g)).place ≡ cond (eqb (flow_code (flow_answer t g)) 5) p 0
    pub cause : (flow_reply (flow_answer t g)).cause ≡ cond (eqb (flow_code (flow_answer t g)) 5) x 0
    pub coding : Coding g

  by_room : (base n year : ℕ) (os : List Ordinativo) (u : Bool) → Given (first_of ((8, not u) ∷ [])) 0 0 (cond u (served base n year os) (refused (Err NoRoom)))
  by_room base n year os true = record { code = refl; place = refl; cause = refl; coding = tt }
  by_room base n year os false = record { code = refl; place = refl; cause = refl; coding = λ e. omega arith }

  by_year : (base n year : ℕ) (os : List Ordinativo) (c u : Bool)
      → Given (first_of ((36, c) ∷ (8, not u) ∷ [])) 0 0 (cond c (refused (Err ClosedYear)) (cond u (served base n year os) (refused (Err NoRoom))))
  by_year base n year os true u = record { code = refl; place = refl; cause = refl; coding = λ e. omega arith }
  by_year base n year os false u = by_room base n year os u

  by_body : (year : ℕ) (os : List Ordinativo) (x : Option ℕ)
      → Given (first_of ((7, is_nothing x) ∷ (36, leb year (closed_by t x)) ∷ (8, not (leb (16 * length os) room)) ∷ [])) 0 0 (for_body t room year os (body_at t x))
  by_body year os None = record { code = refl; place = refl; cause = refl; coding = λ e. omega arith }
  by_body year os (Some b) = by_year (place_of t (entry_of b)) (slots_of t (entry_of b)) year os (leb year (closed_of t (entry_of b))) (leb (16 * length os) room)

  by_bank : (h : Header) (os : List Ordinativo) (u : Bool)
      → Given (first_of ((6, not u) ∷ (7, is_nothing (body_of t h.ente)) ∷ (36, leb h.esercizio (closed_by t (body_of t h.ente))) ∷ (8, not (leb (16 * length os) room)) ∷ [])) 0 0
      (cond u (for_body t room h.esercizio os (body_at t (body_of t h.ente))) (refused (Err OtherBank)))
  by_bank h os true = by_body h.esercizio os (body_of t h.ente)
  by_bank h os false = record { code = refl; place = refl; cause = refl; coding = λ e. omega arith }

  -- on a table that is valid or not, of a flow that is short or not
  abbrev Read : Edition → Bool → Bool → Result ℕ Breakage → Type 0
  Read y u w v = table_ok t ≡ u → leb (length f) max_flow ≡ w
      → Given (first_of (flow_refusals t (Some y) f room v)) (broken_place v) (breaks_by v) (cond u (cond w (for_flow y t f room v) (refused (Err TooLong))) (refused (Err InvalidTable)))

  by_verdict : (y : Edition) (v : Result ℕ Breakage) → Read y true true v
  by_verdict y (Err (MarkupBreaks p)) e d = rw (e, d) (record { code = refl; place = refl; cause = refl; coding = λ z. omega arith })
  by_verdict y (Err StructureBreaks) e d = rw (e, d) (record { code = refl; place = refl; cause = refl; coding = λ z. omega arith })
  by_verdict y (Err (FieldBreaks p c)) e d = rw (e, d) (record { code = refl; place = refl; cause = refl; coding = λ z. omega arith })
  by_verdict y (Ok at) e d = rw (e, d) (by_bank (header_of y f at) (flow_orders y f at) (text_is (abi_of t) (header_of y f at).abi))

  by_table : (y : Edition) (u w : Bool) (v : Result ℕ Breakage) → Read y u w v
  by_table y false w v e d = rw e (record { code = refl; place = refl; cause = refl; coding = λ z. omega arith })
  by_table y true false v e d = rw (e, d) (record { code = refl; place = refl; cause = refl; coding = λ z. omega arith })
  by_table y true true v e d = by_verdict y v e d

  -- where the number names no edition
  unknown : (v : Result ℕ Breakage) (u : Bool) → table_ok t ≡ u → Given (first_of (flow_refusals t None f room v)) (broken_place v) (breaks_by v) (cond u (refused (Err UnknownEdition)) (refused (Err InvalidTable)))
  unknown v true e = rw e (record { code = refl; place = refl; cause = refl; coding = λ z. omega arith })
  unknown v false e = rw e (record { code = refl; place = refl; cause = refl; coding = λ z. omega arith })

  by_edition_lem : (x : Option Edition) → Given (first_of (flow_refusals t x f room (verdict_as x f))) (broken_place (verdict_as x f)) (breaks_by (verdict_as x f)) (cond (table_ok t) (by_edition t f room x) (refused (Err InvalidTable)))
  by_edition_lem (Some y) = by_table y (table_ok t) (leb (length f) max_flow) (verdict_of y f) refl refl
  by_edition_lem None = unknown (verdict_as None f) (table_ok t) refl

  pub read : (ed : ℕ) → let v = verdict_as (edition_of ed) f in Given (first_of (flow_refusals t (edition_of ed) f room v)) (broken_place v) (breaks_by v) (flow_reads t ed f room)
  unfolding flow_reads
  read ed = by_edition_lem (edition_of ed)

pub given_when : (t : List ℕ) (ed : ℕ) (f out : List ℕ) (a : Result (ℕ × ℕ × ℕ) FlowRefusal) (t' out' : List ℕ) → FlowPromise t ed f out a t' out'
    → let v = verdict_as (edition_of ed) f in
    (flow_code a ≡ first_of (flow_refusals t (edition_of ed) f (length out) v)) × ((flow_reply a).place ≡ cond (eqb (flow_code a) 5) (broken_place v) 0)
    × ((flow_reply a).cause ≡ cond (eqb (flow_code a) 5) (breaks_by v) 0)
given_when t ed f out a t' out' p = let g = read t f (length out) ed in rw p.0 (g.code, g.place, g.cause)
