-- WHAT A CALL ON ONE BODY LEAVES of a table that is fit: a fit one, with bodies as large as they were, that says the same room but for the orders of that body.
use Prim.Native.Nat.{ℕ, ◌+◌, ◌<◌}
use mathlib.Core.Path.{◌≡◌, refl, sym, ap, ◌∙◌}
use mathlib.Core.Bool.{Bool, true, false}
use mathlib.Core.List.{List}
use native.Mathlib.Omega.{arith}
use lib.ListN.{set}
use lib.Dec.{eqb, leb}
use borrow.Author.Tests.{eqb-true, eqb-false}
use Rattle.record.specs.declared.Record.{Record}
use Rattle.slots.specs.Slots.{records_at}
use Rattle.body.specs.Body.{all_later}
use Rattle.body.proofs.Same.{fewer, records_agree}
use Rattle.body.proofs.Later.{open_later}
use Rattle.entries.specs.Entry.{request_size, closed_place, code_at, slots_of, place_of, closed_of}
use Rattle.entries.proofs.Same.{code_agree, closed_agree}
use Rattle.table.specs.Table.{head_size, bodies, abi_of, entry_of}
use Rattle.table.proofs.Bodies.{body_at_lem}
use Rattle.service.specs.Inner.{Served}
use Rattle.service.proofs.Totals.{Settled}
use Rattle.training.specs.Training.{places}
use Rattle.theorems.proofs.Good.{Good, Left, base, size, fresh, served, tail_in, count_is, abi_is, place_is, slots_is, closed_alike, settled_wrote, wrote_left, left_good}
use Rattle.plain.specs.Plain.{Listed, Plain, no_body, body_in, relisted, with_orders}
use Rattle.plain.specs.Says.{listed_at, listed_from, plain_of, each_entry, small}
use Rattle.lessons.proofs.Fit.{Fit}
use Rattle.lessons.proofs.Listed.{listed_at_lem, set_listed, each_at, each_same}

-- a call left t' of the table t, and the room s of the one that t says
pub record Leads (t : List ℕ) (s : Plain) (t' : List ℕ) : Type 0 where
  pub says : s ≡ plain_of t'
  pub fit : Fit t'
  pub large : small t' ≡ small t

module _ (t : List ℕ) (F : Fit t) where
  pub still : Leads t (plain_of t) t
  still = record { says = refl; fit = F; large = refl }

  -- BODY b
  module _ (b : ℕ) (l : b < bodies t) where
    pub never_closed : closed_of t (entry_of b) ≡ 0
    never_closed = eqb-true _ _ (each_at (λ at. eqb (closed_of t at) 0) head_size (bodies t) b F.years_open l)

    pub listed_is : body_in (plain_of t) b ≡ listed_at t (entry_of b)
    listed_is = listed_at_lem t head_size (bodies t) b no_body l

    pub body_served : Served t (entry_of b) (base t b) (size t b)
    body_served = served t F.valid t (fresh t F.valid) b l

    -- what wrote its slots and settled its entry
    module _ (t' : List ℕ) (k : Settled t t' (entry_of b) (base t b) (size t b)) where
      abbrev g : Good t t
      g = fresh t F.valid

      open_still : all_later (closed_of t (entry_of b)) (records_at t' (base t b) (size t b)) ≡ true
      open_still = ap (λ (y : ℕ). all_later y (records_at t' (base t b) (size t b))) never_closed ∙ open_later t' (base t b) (size t b) 0 (omega arith) k.ok

      left : Left t t t' b
      left = wrote_left t F.valid t t' g b l (settled_wrote t F.valid t t' g b l k open_still)

      good : Good t t'
      good = left_good t F.valid t t' g b l left

      -- EVERY BODY c: its code, its closed year
      module _ (c : ℕ) (m : c < bodies t) where
        code_is : code_at t (entry_of c) ≡ code_at t' (entry_of c)
        code_is =
            let i = tail_in t F.valid t g c m in
            let j = left.contents.long in
            sym (code_agree (fewer (left.contents.entries c m) request_size (omega arith)) (omega arith) (omega arith) (body_at_lem t F.valid c m).own_form.short)

        number_is : slots_of t (entry_of c) ≡ slots_of t' (entry_of c)
        number_is = sym (slots_is t F.valid t' good c m)

        lies_at : place_of t (entry_of c) ≡ place_of t' (entry_of c)
        lies_at = sym (place_is t F.valid t' good c m)

        closed_is : closed_of t' (entry_of c) ≡ closed_of t (entry_of c)
        closed_is = go (eqb b c) refl
          where
            go : (x : Bool) → eqb b c ≡ x → closed_of t' (entry_of c) ≡ closed_of t (entry_of c)
            go true e = rw (← eqb-true b c e) (closed_agree (entry_of b) (entry_of b) (k.between (entry_of b + closed_place) 2 (omega arith) (omega (arith, body_served.entry))))
            go false e = closed_alike c (left.others c m (eqb-false b c e))

        -- with the orders rs
        orders_is : (rs : List Record) → rs ≡ records_at t' (base t c) (size t c) → relisted (listed_at t (entry_of c)) rs ≡ listed_at t' (entry_of c)
        orders_is rs e =
            let q = e ∙ (λ i. records_at t' (lies_at i) (number_is i)) in
            λ i. record { code = code_is i; slots = number_is i; orders = q i }

      -- the room: f tells body b's orders from what it was
      pub leads : (f : Listed → List Record) → f (listed_at t (entry_of b)) ≡ records_at t' (base t b) (size t b)
          → Leads t (with_orders (plain_of t) b (f (body_in (plain_of t) b))) t'
      leads f e =
          let n = count_is t F.valid t' good in
          let a = abi_is t F.valid t' good in
          let x : Listed = relisted (listed_at t (entry_of b)) (f (listed_at t (entry_of b))) in
          let z =
          set_listed t t' head_size (bodies t) b x l (orders_is b l _ e)
          (λ c m d. orders_is c m _ (sym (records_agree (size t c) (left.others c m d).slots))) in
          record {
            says =
                ap (λ (y : Listed). record { abi = abi_of t; bodies = set (listed_from t head_size (bodies t)) b (relisted y (f y)) }) listed_is
                ∙ (λ i. record { abi = sym a i; bodies = z i })
                ∙ ap (λ (m : ℕ). record { abi = abi_of t'; bodies = listed_from t' head_size m }) (sym n);
            fit = record {
              valid = good.ok;
              years_open =
                  ap (each_entry (λ at. eqb (closed_of t' at) 0) head_size) n
                  ∙ each_same (λ at. eqb (closed_of t' at) 0) (λ at. eqb (closed_of t at) 0) head_size (bodies t) (λ c m. ap (λ (y : ℕ). eqb y 0) (closed_is c m))
                  ∙ F.years_open;
            };
            large =
                ap (each_entry (λ at. leb (slots_of t' at) places) head_size) n
                ∙ each_same (λ at. leb (slots_of t' at) places) (λ at. leb (slots_of t at) places) head_size (bodies t) (λ c m. ap (λ (y : ℕ). leb y places) (sym (number_is c m)));
          }
