-- One law for each way out of a flow's call in the training room.
use Rattle.std.specs.Prelude.{Option, Result, Some, None, Ok, Err}
use mathlib.Core.Path.{◌≡◌, refl, subst}
use mathlib.Core.List.{List}
use mathlib.Core.Bool.{Bool, true, false}
use Prim.Native.Nat.{ℕ, ◌*◌, ◌≤◌, ◌<◌}
use native.Mathlib.Omega.{arith}
use lib.ListN.{length}
use borrow.Author.Tests.{le-leb, lt-leb}
use Rattle.bounds.specs.Bounds.{max_flow}
use Rattle.scan.specs.Bytes.{text_is}
use Rattle.tokens.specs.Tokens.{white_at}
use Rattle.editions.specs.declared.Edition.{Edition}
use Rattle.editions.specs.Editions.{edition_of}
use Rattle.record.specs.declared.Record.{Record}
use Rattle.order.specs.Ordinativo.{Ordinativo}
use Rattle.header.specs.Header.{Header}
use Rattle.header.specs.declared.Heading.{Heading}
use Rattle.header.specs.Heading.{heading_from, header_by}
use Rattle.header.proofs.Laws.{heading_header}
use Rattle.flow.specs.declared.Breakage.{Breakage}
use Rattle.flow.specs.Flow.{verdict_of, header_of, flow_orders}
use Rattle.desk.specs.declared.FlowRefusal.{FlowRefusal}
use Rattle.desk.specs.declared.FlowRefusal.TheVariants.{UnknownEdition, TooLong, OtherBank, NoRoom}
use Rattle.list_flow.specs.ListFlow.{ListTaken}
use Rattle.plain.specs.Plain.{Listed, Plain, body_in, numbered, with_orders}
use Rattle.plain.specs.Flows.{refused, with_space, on_body, at_bank, of_verdict, flow_teaches, Teaches, FlowLesson}

-- THE WAYS OUT, from the last check to the first
pub kept : (s : Plain) (out : List ℕ) {a r : Result (ℕ × ℕ × ℕ) FlowRefusal} {s' : Plain} → (r ≡ a) × (s' ≡ s) → Teaches s out (refused a) r s' out
kept s out p = (p.0, p.1, refl)

module _ (s : Plain) (out : List ℕ) (os : List Ordinativo) where
  module _ (b year : ℕ) {count : ℕ} (e : count ≡ length os) where
    pub room_none : length out < 16 * count → Teaches s out (with_space (length out) b year os) (Err NoRoom) s out
    room_none l = rw (lt-leb (16 * length os) (length out) (omega arith)) (refl, refl, refl)

    pub room_taken : {p : Listed} {slots accepted steps : ℕ} {rs' : List Record} {s' : Plain} {out' : List ℕ} → 16 * count ≤ length out
        → p ≡ body_in s b → slots ≡ p.slots → ListTaken slots year os p.orders out accepted steps rs' out' → s' ≡ with_orders s b rs'
        → Teaches s out (with_space (length out) b year os) (Ok (count, accepted, steps)) s' out'
    room_taken l q m k w = rw (le-leb (16 * length os) (length out) (omega arith), e, k.0, k.1, w, k.2, k.3, m, q) (refl, refl, refl)

module _ (s : Plain) (out : List ℕ) (h : Header) (os : List Ordinativo) where
  pub body_read : {code : List ℕ} {f x : Option ℕ} {r : Result (ℕ × ℕ × ℕ) FlowRefusal} {s' : Plain} {out' : List ℕ} → code ≡ h.ente → f ≡ numbered s code → f ≡ x
      → Teaches s out (on_body (length out) h.esercizio os x) r s' out' → Teaches s out (on_body (length out) h.esercizio os (numbered s h.ente)) r s' out'
  body_read c e n k = rw (← c, ← e, n) k

  module _ {abi : List ℕ} {g : Bool} (c : abi ≡ h.abi) (e : g ≡ text_is s.abi abi) where
    pub bank_other : g ≡ false → Teaches s out (at_bank s (length out) h os) (Err OtherBank) s out
    bank_other n = rw (← c, ← e, n) (refl, refl, refl)

    pub bank_own : {r : Result (ℕ × ℕ × ℕ) FlowRefusal} {s' : Plain} {out' : List ℕ} → g ≡ true
        → Teaches s out (on_body (length out) h.esercizio os (numbered s h.ente)) r s' out' → Teaches s out (at_bank s (length out) h os) r s' out'
    bank_own n k = rw (← c, ← e, n) k

-- the header is read past the white space, and the orders past the header
pub bank_from : (e : Edition) (f : List ℕ) (at from : ℕ) → from ≡ white_at f at → (h : Heading) → h ≡ heading_from e f from → (s : Plain) (out : List ℕ) (os : List Ordinativo)
    → os ≡ flow_orders e f at → {r : Result (ℕ × ℕ × ℕ) FlowRefusal} {s' : Plain} {out' : List ℕ} → Teaches s out (at_bank s (length out) (header_by f h) os) r s' out'
    → Teaches s out (at_bank s (length out) (header_of e f at) (flow_orders e f at)) r s' out'
bank_from e f at from z h y s out os b {r} {s'} {out'} g =
    let a : header_by f h ≡ header_of e f at = rw (y, z) (heading_header e f (white_at f at)) in
    subst (λ (os : List Ordinativo). Teaches s out (at_bank s (length out) (header_of e f at) os) r s' out') b
    (subst (λ (x : Header). Teaches s out (at_bank s (length out) x os) r s' out') a g)

pub verdict_read : (e : Edition) (s : Plain) (f out : List ℕ) {v : Result ℕ Breakage} {r : Result (ℕ × ℕ × ℕ) FlowRefusal} {s' : Plain} {out' : List ℕ} → verdict_of e f ≡ v
    → Teaches s out (of_verdict e s f (length out) v) r s' out' → Teaches s out (of_verdict e s f (length out) (verdict_of e f)) r s' out'
verdict_read e s f out w g = rw w g

module _ (s : Plain) (ed : ℕ) (f out : List ℕ) {r : Result (ℕ × ℕ × ℕ) FlowRefusal} {s' : Plain} where
  pub flow_unknown : edition_of ed ≡ None → (r ≡ Err UnknownEdition) × (s' ≡ s) → FlowLesson s ed f out r s' out
  unfolding flow_teaches
  flow_unknown n p = rw n (kept s out p)

  module _ (y : Edition) (n : edition_of ed ≡ Some y) where
    pub flow_long : max_flow < length f → (r ≡ Err TooLong) × (s' ≡ s) → FlowLesson s ed f out r s' out
    unfolding flow_teaches
    flow_long l p = rw (n, lt-leb (length f) max_flow l) (kept s out p)

    pub flow_read : {out' : List ℕ} → length f ≤ max_flow → Teaches s out (of_verdict y s f (length out) (verdict_of y f)) r s' out' → FlowLesson s ed f out r s' out'
    unfolding flow_teaches
    flow_read l g = rw (n, le-leb (length f) max_flow l) g
