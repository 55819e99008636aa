-- One law for each way out of a flow's call.
use Rattle.std.specs.Prelude.{Result, Some, None, Ok, Err}
use mathlib.Core.Path.{◌≡◌, refl, ap, subst, subst⁻¹, ◌∙◌}
use mathlib.Core.List.{List, map}
use mathlib.Core.Bool.{Bool, true, false}
use Prim.Native.Nat.{ℕ, ◌*◌, ◌≤◌, ◌<◌}
use native.Mathlib.Omega.{arith}
use lib.ListN.{length}
use borrow.Author.Tests.{le-leb, lt-leb}
use Rattle.bounds.specs.Bounds.{max_flow}
use Rattle.scan.specs.Bytes.{is_white, text_is}
use Rattle.scan.proofs.Laws.{run_within}
use Rattle.tokens.specs.Tokens.{white_at}
use Rattle.words.specs.Numbers.{put}
use Rattle.markup.specs.Noted.{Noted}
use Rattle.schema.specs.declared.Parent.{Parent}
use Rattle.editions.specs.declared.Edition.{Edition}
use Rattle.editions.specs.Editions.{edition_of}
use Rattle.order.specs.Ordinativo.{Ordinativo, ordinativo}
use Rattle.orders.specs.Shape.{Filled}
use Rattle.header.specs.Header.{Header, root_of}
use Rattle.header.specs.declared.Heading.{Heading}
use Rattle.header.specs.Heading.{root_rows, heading_from, header_by, Within}
use Rattle.header.proofs.Laws.{heading_header, heading_within, heading_orders}
use Rattle.structure.proofs.Laws.{fits_parts}
use Rattle.table.specs.Table.{table_ok, abi_of}
use Rattle.entries.specs.Entry.{closed_of}
use Rattle.address.specs.declared.NoBody.{NoBody}
use Rattle.address.specs.Address.{body_named}
use Rattle.flow.specs.declared.Breakage.{Breakage}
use Rattle.flow.specs.Flow.{verdict_of, header_of, flow_orders}
use Rattle.flow.proofs.Laws.{flow_stood}
use Rattle.flow.proofs.Values.{orders_ok, header_ok}
use Rattle.service.specs.Service.{all_leave, all_outcomes, all_accepted, all_steps}
use Rattle.desk.specs.declared.FlowRefusal.{FlowRefusal}
use Rattle.desk.specs.declared.FlowRefusal.TheVariants.{InvalidTable, UnknownEdition, TooLong, OtherBank, ClosedYear, NoRoom}
use Rattle.desk.specs.Desk.{with_room, for_body, for_bank, for_flow, flow_reads, Gives, FlowPromise}
use Rattle.serving.specs.Served.{orders_from, Rooted, Storable}
use Rattle.desk.specs.Steps.{body_for}
use Rattle.desk.proofs.Written.{writables}

-- THE WAYS OUT, from the last check to the first
module _ (t out : List ℕ) (os : List Ordinativo) where
  module _ (base n year : ℕ) {count : ℕ} (e : count ≡ length os) where
    pub room_none : length out < 16 * count → Gives t out (with_room (length out) base n year os) (Err NoRoom) t out
    room_none l = rw (lt-leb (16 * length os) (length out) (omega arith)) (refl, refl, refl)

    pub room_served : {accepted steps : ℕ} {t' out' : List ℕ} → 16 * count ≤ length out
        → accepted ≡ all_accepted t base n year os → steps ≡ all_steps t base n year os → t' ≡ all_leave t base n year os → out' ≡ put out 0 (all_outcomes t base n year os)
        → Gives t out (with_room (length out) base n year os) (Ok (count, accepted, steps)) t' out'
    room_served l a p u o = rw (le-leb (16 * length os) (length out) (omega arith), e, a, p, u, o) (refl, refl, refl)

module _ (t out : List ℕ) (h : Header) (os : List Ordinativo) where
  pub body_read : {code : List ℕ} {a b : Result (ℕ × ℕ × ℕ) NoBody} {r : Result (ℕ × ℕ × ℕ) FlowRefusal} {t' out' : List ℕ} → code ≡ h.ente → a ≡ body_named t code → a ≡ b
      → Gives t out (for_body t (length out) h.esercizio os b) r t' out' → Gives t out (body_for t (length out) h os) r t' out'
  body_read c e n k = rw (← c, ← e, n) k

  -- the body that was found, and the year that it closed last
  module _ {code : List ℕ} {a : Result (ℕ × ℕ × ℕ) NoBody} {at base n closed : ℕ} (c : code ≡ h.ente) (e : a ≡ body_named t code) (f : a ≡ Ok (at, base, n)) (g : closed ≡ closed_of t at) where
    pub year_closed : h.esercizio ≤ closed → Gives t out (body_for t (length out) h os) (Err ClosedYear) t out
    year_closed l = body_read c e f (rw (← g, le-leb h.esercizio closed l) (refl, refl, refl))

    pub year_open : {r : Result (ℕ × ℕ × ℕ) FlowRefusal} {t' out' : List ℕ} → closed < h.esercizio → Gives t out (with_room (length out) base n h.esercizio os) r t' out'
        → Gives t out (body_for t (length out) h os) r t' out'
    year_open l k = body_read c e f (rw (← g, lt-leb h.esercizio closed l) k)

  module _ {abi : List ℕ} {g : Bool} (c : abi ≡ h.abi) (e : g ≡ text_is (abi_of t) abi) where
    pub bank_other : g ≡ false → Gives t out (for_bank t (length out) h os) (Err OtherBank) t out
    bank_other n = rw (← c, ← e, n) (refl, refl, refl)

    pub bank_own : {r : Result (ℕ × ℕ × ℕ) FlowRefusal} {t' out' : List ℕ} → g ≡ true → Gives t out (body_for t (length out) h os) r t' out' → Gives t out (for_bank t (length out) h os) r t' out'
    bank_own n k = rw (← c, ← e, n) k

-- the root's children begin past the white space, and its orders past the header
module _ (e : Edition) (f : List ℕ) (at from : ℕ) (z : from ≡ white_at f at) (v : verdict_of e f ≡ Ok at) where
  pub bank_filled : Filled (root_rows e) 3 (root_of e) f 0 from
  bank_filled =
      let s = flow_stood e f at v in
      let b = fits_parts 3 (root_of e) f at s.fits in
      rw z (record { within = run_within is_white f at s.within; rows = b.0; each = b.1 })

  module _ (h : Heading) (y : h ≡ heading_from e f from) where
    pub bank_within : Within f h
    bank_within = rw y (heading_within e f from)

    bank_header : header_by f h ≡ header_of e f at
    bank_header = rw (y, z) (heading_header e f (white_at f at))

    module _ (root : Parent) (x : root ≡ root_of e) where
      pub bank_rooted : (past : List ℕ) → Noted f past → Rooted root f past h.orders
      bank_rooted past n = let b = heading_orders e f from bank_filled in rw (x, y) (record { within = b.within; holds = b.standing; noted = n })

      pub bank_orders : orders_from root f h.orders ≡ flow_orders e f at
      bank_orders = rw (x, y) (ap (map ordinativo) (heading_orders e f from bank_filled).same ∙ rw z)

      pub bank_storable : Storable h.esercizio (orders_from root f h.orders)
      bank_storable =
          let s = flow_stood e f at v in
          record { dated = subst⁻¹ (λ (x : Header). (2000 ≤ x.esercizio) × (x.esercizio ≤ 2099)) bank_header (header_ok e f at s).0.esercizio; written = rw bank_orders (writables (flow_orders e f at) (orders_ok e f at s)) }

    pub bank_from : (t out : List ℕ) (os : List Ordinativo) → os ≡ flow_orders e f at → {r : Result (ℕ × ℕ × ℕ) FlowRefusal} {t' out' : List ℕ} → Gives t out (for_bank t (length out) (header_by f h) os) r t' out'
        → Gives t out (for_bank t (length out) (header_of e f at) (flow_orders e f at)) r t' out'
    bank_from t out os b {r} {t'} {out'} g =
        subst (λ (os : List Ordinativo). Gives t out (for_bank t (length out) (header_of e f at) os) r t' out') b
        (subst (λ (x : Header). Gives t out (for_bank t (length out) x os) r t' out') bank_header g)

pub verdict_read : (e : Edition) (t f out : List ℕ) {v : Result ℕ Breakage} {r : Result (ℕ × ℕ × ℕ) FlowRefusal} {t' out' : List ℕ} → verdict_of e f ≡ v → Gives t out (for_flow e t f (length out) v) r t' out'
    → Gives t out (for_flow e t f (length out) (verdict_of e f)) r t' out'
verdict_read e t f out w g = rw w g

module _ (t : List ℕ) (ed : ℕ) (f out : List ℕ) where
  pub flow_invalid : table_ok t ≡ false → FlowPromise t ed f out (Err InvalidTable) t out
  unfolding flow_reads
  flow_invalid e = rw e (refl, refl, refl)

  module _ (e : table_ok t ≡ true) where
    pub flow_unknown : edition_of ed ≡ None → FlowPromise t ed f out (Err UnknownEdition) t out
    unfolding flow_reads
    flow_unknown n = rw (e, n) (refl, refl, refl)

    module _ (y : Edition) (n : edition_of ed ≡ Some y) where
      pub flow_long : max_flow < length f → FlowPromise t ed f out (Err TooLong) t out
      unfolding flow_reads
      flow_long l = rw (e, n, lt-leb (length f) max_flow l) (refl, refl, refl)

      pub flow_read : {r : Result (ℕ × ℕ × ℕ) FlowRefusal} {t' out' : List ℕ} → length f ≤ max_flow → Gives t out (for_flow y t f (length out) (verdict_of y f)) r t' out' → FlowPromise t ed f out r t' out'
      unfolding flow_reads
      flow_read l g = rw (e, n, le-leb (length f) max_flow l) g
