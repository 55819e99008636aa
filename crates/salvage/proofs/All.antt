-- THE REPAIRED TABLE: body after body, each is valid, its records are those kept of its own slots as they were, and its entry keeps their totals and the
-- closed year.
use Prim.Native.Nat.{ℕ, zero, suc, ◌+◌, ◌-◌, ◌*◌, ◌≤◌, ◌<◌}
use mathlib.Core.Bool.{Bool, true, false}
use mathlib.Core.List.{List, []}
use mathlib.Core.Path.{◌≡◌, refl, sym, ap, ◌∙◌, subst}
use native.Mathlib.Omega.{arith}
use lib.ListN.{length, length-append}
use lib.Dec.{ltb}
use borrow.Author.Tests.{ltb-true, ltb-false}
use Rattle.words.specs.Numbers.{put, bytes8}
use Rattle.words.proofs.Laws.{Agree, on, length_put}
use Rattle.record.specs.declared.Record.{Record}
use Rattle.record.specs.Slot.{slot_size}
use Rattle.record.proofs.Back.{agree_before, agree_after}
use Rattle.slots.specs.Slots.{records_at}
use Rattle.body.specs.Body.{body_ok, cents_of, all_later}
use Rattle.body.proofs.Laws.{cents_most}
use Rattle.body.proofs.Same.{records_agree, body_agree}
use Rattle.entries.specs.Entry.{entry_size, entry_fixed, closed_place, kept, kept_bytes, closed_of, slots_of, place_of}
use Rattle.entries.proofs.Same.{slots_agree, place_agree, closed_agree}
use Rattle.table.specs.Table.{table2, head_size, bodies, agrees, contents_ok, records_of, entry_of}
use Rattle.table.proofs.Laws.{known_2}
use Rattle.table.proofs.Bodies.{placed_of, placed_before}
use Rattle.table.proofs.Kept.{Contents, Rest, rest_agree, Own, number, bank, codes, same_contents, same_valid}
use Rattle.service.specs.Service.{settled}
use Rattle.service.proofs.Totals.{agrees_is, is_agrees, kept_same, put_paid, put_collected}
use Rattle.packing.specs.Packing.{packed}
use Rattle.packing.proofs.Packed.{joined as through, packed_long, packed_before, packed_after}
use Rattle.keeping.specs.Keeping.{kept_at}
use Rattle.keeping.proofs.Repaired.{keeps_length, repaired_ok, repaired_records, repaired_later, kept_agree}
use Rattle.salvage.specs.Salvage.{keeps_of, kept_of, body_repaired, repaired_from, repaired}
use Rattle.salvage.specs.Repaired.{Repairs}
use Rattle.salvage.specs.Inner.{Fits}

itself : (t : List ℕ) (p m : ℕ) → Agree t p t p m
itself t p m = record { same = λ i l. refl }

-- ONE BODY, whose entry is at `at`
module _ (t : List ℕ) (at : ℕ) (F : Fits t at) where
  abbrev base : ℕ
  base = place_of t at

  abbrev n : ℕ
  n = slots_of t at

  abbrev mid : List ℕ
  mid = packed t (place_of t at) (keeps_of t at)

  abbrev rs : List Record
  rs = kept_of t at

  room : base + slot_size * length (keeps_of t at) ≤ length t
  room = omega (arith, keeps_length (closed_of t at) t base n [], F.inside)

  pub mid_long : length (packed t (place_of t at) (keeps_of t at)) ≡ length t
  mid_long = packed_long t base (keeps_of t at) room

  mid_after : (p m : ℕ) → base + slot_size * n ≤ p → Agree mid p t p m
  mid_after p m h = packed_after t base (keeps_of t at) room p m (omega (arith, keeps_length (closed_of t at) t base n []))

  pub mid_before : (p m : ℕ) → p + m ≤ place_of t at → Agree (packed t (place_of t at) (keeps_of t at)) p t p m
  mid_before = packed_before t base (keeps_of t at) room

  pub mid_ok : body_ok (packed t (place_of t at) (keeps_of t at)) (place_of t at) (slots_of t at) ≡ true
  mid_ok = repaired_ok (closed_of t at) t base n F.inside

  pub mid_records : records_at (packed t (place_of t at) (keeps_of t at)) (place_of t at) (slots_of t at) ≡ kept_of t at
  mid_records = repaired_records (closed_of t at) t base n F.inside

  -- its entry there, and what the totals set anew make of it
  fixed : Agree mid at t at entry_fixed
  fixed = mid_before at entry_fixed (omega (arith, F.past))

  mid_place : place_of mid at ≡ place_of t at
  mid_place = place_agree fixed (omega arith)

  mid_slots : slots_of mid at ≡ slots_of t at
  mid_slots = slots_agree fixed (omega arith)

  pub mid_fits : Fits (packed t (place_of t at) (keeps_of t at)) at
  mid_fits = record {
    past = omega (arith, mid_place, F.past);
    inside = omega (arith, mid_place, mid_slots, mid_long, F.inside);
    few = omega (arith, mid_slots, F.few);
  }

  pub mid_holds : body_ok (packed t (place_of t at) (keeps_of t at)) (place_of (packed t (place_of t at) (keeps_of t at)) at) (slots_of (packed t (place_of t at) (keeps_of t at)) at) ≡ true
  mid_holds = (λ i. body_ok mid (mid_place i) (mid_slots i)) ∙ mid_ok

  pub repaired_by : settled (packed t (place_of t at) (keeps_of t at)) at (records_of (packed t (place_of t at) (keeps_of t at)) at) ≡ body_repaired t at
  unfolding body_repaired
  repaired_by = ap (settled mid at) ((λ i. records_at mid (mid_place i) (mid_slots i)) ∙ mid_records)

  abbrev sums : List ℕ
  sums = kept_bytes (cents_of 1 rs) (cents_of 2 rs)

  sixteen : length sums ≡ 16
  unfolding kept_bytes
  sixteen = length-append (bytes8 (cents_of 1 rs)) (bytes8 (cents_of 2 rs))

  is : body_repaired t at ≡ put mid (at + entry_fixed) sums
  unfolding body_repaired settled
  is = refl

  room_there : at + entry_fixed + length sums ≤ length mid
  room_there = omega (arith, sixteen, mid_long, F.past, F.inside)

  pub next_long : length (body_repaired t at) ≡ length t
  next_long = ap length is ∙ length_put mid (at + entry_fixed) sums room_there ∙ mid_long

  pub next_before : (p m : ℕ) → p + m ≤ at + entry_fixed → Agree (body_repaired t at) p t p m
  next_before p m h =
      rw is (through (agree_before mid (at + entry_fixed) sums p (omega (arith, room_there)) m h) (mid_before p m (omega (arith, F.past))))

  past_sums : (p m : ℕ) → at + closed_place ≤ p → Agree (body_repaired t at) p mid p m
  past_sums p m h = rw is (agree_after mid (at + entry_fixed) sums p (omega (arith, room_there)) m (omega (arith, sixteen)))

  pub next_between : (p m : ℕ) → at + closed_place ≤ p → p + m ≤ place_of t at → Agree (body_repaired t at) p t p m
  next_between p m h l = through (past_sums p m h) (mid_before p m l)

  pub next_after : (p m : ℕ) → place_of t at + slot_size * slots_of t at ≤ p → Agree (body_repaired t at) p t p m
  next_after p m h = through (past_sums p m (omega (arith, F.past))) (mid_after p m h)

  pub next_closed : closed_of (body_repaired t at) at ≡ closed_of t at
  next_closed = closed_agree at at (next_between (at + closed_place) 2 (omega arith) (omega (arith, F.past)))

  slots_are : Agree (body_repaired t at) base mid base (slot_size * n)
  slots_are = past_sums base (slot_size * n) (omega (arith, F.past))

  pub next_ok : body_ok (body_repaired t at) (place_of t at) (slots_of t at) ≡ true
  next_ok = body_agree n slots_are ∙ mid_ok

  pub next_records : records_at (body_repaired t at) (place_of t at) (slots_of t at) ≡ kept_of t at
  next_records = records_agree n slots_are ∙ mid_records

  small : (kind : ℕ) → cents_of kind rs ≤ 18446744073709551615
  small kind = omega (arith, cents_most mid base n kind mid_ok, ap (cents_of kind) mid_records, F.few)

  pub next_agrees : agrees (body_repaired t at) at (records_at (body_repaired t at) (place_of t at) (slots_of t at)) ≡ true
  next_agrees =
      let l : at + entry_size ≤ length mid = omega (arith, mid_long, F.past, F.inside) in
      is_agrees (body_repaired t at) at (records_at (body_repaired t at) base n)
      (ap (λ (s : List ℕ). kept 1 s at) is ∙ put_paid mid at (cents_of 1 rs) (cents_of 2 rs) l (small 1) ∙ ap (cents_of 1) (sym next_records))
      (ap (λ (s : List ℕ). kept 2 s at) is ∙ put_collected mid at (cents_of 1 rs) (cents_of 2 rs) l (small 2) ∙ ap (cents_of 2) (sym next_records))

-- body c of u is as in t: its entry and its slots
record Untouched (u t : List ℕ) (c : ℕ) : Type 0 where
  entry : Agree u (entry_of c) t (entry_of c) entry_size
  slots : Agree u (place_of t (entry_of c)) t (place_of t (entry_of c)) (slot_size * slots_of t (entry_of c))

-- body c of u is the repaired one of t
record Mended (u t : List ℕ) (c : ℕ) : Type 0 where
  body : body_ok u (place_of t (entry_of c)) (slots_of t (entry_of c)) ≡ true
  records : records_at u (place_of t (entry_of c)) (slots_of t (entry_of c)) ≡ kept_of t (entry_of c)
  agreed : agrees u (entry_of c) (records_at u (place_of t (entry_of c)) (slots_of t (entry_of c))) ≡ true
  closed : closed_of u (entry_of c) ≡ closed_of t (entry_of c)

pub fits_of : (t : List ℕ) → contents_ok table2 t ≡ true → (b : ℕ) → b < bodies t → Fits t (entry_of b)
fits_of t ok b h =
    let w = placed_of known_2 t ok b h in
    record { past = omega (arith, w.entry_in, w.past); inside = w.inside; few = w.own_form.most_slots }

-- an entry past its totals
rest_of : (t : List ℕ) → contents_ok table2 t ≡ true → (b : ℕ) → b < bodies t → Rest t (entry_of b)
rest_of t ok b h = let e = (placed_of known_2 t ok b h).own_entry in record { year = e.closed; zero = e.padded }

side : {A : Type 0} (b c : ℕ) → (c ≤ b → A) → (b < c → A) → A
side {A} b c f g = go (ltb b c) refl
  where
    go : (x : Bool) → ltb b c ≡ x → A
    go true e = g (ltb-true b c e)
    go false e = f (ltb-false b c e)

-- ONE STEP: body b is repaired, and nothing else changes
module _ (t : List ℕ) (ok : contents_ok table2 t ≡ true) (b : ℕ) (h : b < bodies t) where
  abbrev at : ℕ
  at = entry_of b

  abbrev next : List ℕ
  next = body_repaired t (entry_of b)

  F : Fits t at
  F = fits_of t ok b h

  -- entries lie before the slots of every body
  low : (c d : ℕ) → c < bodies t → d < bodies t → entry_of c + entry_size ≤ place_of t (entry_of d)
  low c d k l = omega (arith, (placed_of known_2 t ok d l).past)

  pub step_contents : Contents (body_repaired t (entry_of b)) t
  step_contents = record {
    long = next_long t at F;
    top = next_before t at F 0 head_size (omega arith);
    entries = λ c k.
        side b c (λ l. next_before t at F (entry_of c) entry_fixed (omega arith))
        (λ l. next_between t at F (entry_of c) entry_fixed (omega arith) (omega (arith, low c b k h)));
  }

  step_rest : (c : ℕ) → c < bodies t → Rest next (entry_of c)
  step_rest c k =
      let a : Agree next (entry_of c + closed_place) t (entry_of c + closed_place) (entry_size - closed_place) =
      side c b (λ l. next_between t at F (entry_of c + closed_place) (entry_size - closed_place) (omega arith) (omega (arith, low c b k h)))
      (λ l. next_before t at F (entry_of c + closed_place) (entry_size - closed_place) (omega arith)) in
      let i = low c b k h in
      let m = F.inside in
      let g = next_long t at F in
      rest_agree (entry_of c) a (omega arith) (omega arith) (rest_of t ok c k)

  pub step_right : contents_ok table2 (body_repaired t (entry_of b)) ≡ true
  step_right = same_contents step_contents ok step_rest

  step_before : (c : ℕ) → c < b → Untouched next t c
  step_before c l =
      let k : c < bodies t = omega arith in
      record {
        entry = next_before t at F (entry_of c) entry_size (omega arith);
        slots = next_between t at F (place_of t (entry_of c)) (slot_size * slots_of t (entry_of c)) (omega (arith, low b c h k)) (placed_before t ok c b l h);
      }

  step_after : (c : ℕ) → b < c → c < bodies t → Untouched next t c
  step_after c l k = record {
    entry = next_between t at F (entry_of c) entry_size (omega arith) (low c b k h);
    slots = next_after t at F (place_of t (entry_of c)) (slot_size * slots_of t (entry_of c)) (placed_before t ok b c l k);
  }

  module _ (c : ℕ) (k : c < bodies t) where
    place_is : place_of next (entry_of c) ≡ place_of t (entry_of c)
    place_is = place_agree (step_contents.entries c k) (omega arith)

    slots_is : slots_of next (entry_of c) ≡ slots_of t (entry_of c)
    slots_is = slots_agree (step_contents.entries c k) (omega arith)

    -- what agrees with the slots of `next` agrees with those of its place in t
    moved_slots : {u : List ℕ} → Untouched u next c → Agree u (place_of t (entry_of c)) next (place_of t (entry_of c)) (slot_size * slots_of t (entry_of c))
    moved_slots x = rw (← place_is, ← slots_is) x.slots

-- ALL BODIES from b on are repaired, and those before it are as they were
record All (t u : List ℕ) (b : ℕ) : Type 0 where
  contents : Contents u t
  right : contents_ok table2 u ≡ true
  same : (c : ℕ) → c < b → Untouched u t c
  mended : (c : ℕ) → b ≤ c → c < bodies t → Mended u t c

module _ (t : List ℕ) (ok : contents_ok table2 t ≡ true) (b : ℕ) (h : b < bodies t) (u : List ℕ) (ih : All (body_repaired t (entry_of b)) u (suc b)) where
  abbrev then : List ℕ
  then = body_repaired t (entry_of b)

  S : Contents then t
  S = step_contents t ok b h

  count : bodies then ≡ bodies t
  count = number S ok

  own_mended : Mended u t b
  own_mended =
      let e : ℕ = entry_of b in
      let G = fits_of t ok b h in
      let x = ih.same b (omega arith) in
      let a = moved_slots t ok b h b h x in
      let r = records_agree (slots_of t e) a in
      let w = agrees_is then e (records_at then (place_of t e) (slots_of t e)) (next_agrees t e G) in
      let s = kept_same e (on x.entry entry_fixed 16 (omega arith)) in
      record {
        body = body_agree (slots_of t e) a ∙ next_ok t e G;
        records = r ∙ next_records t e G;
        agreed = is_agrees u e (records_at u (place_of t e) (slots_of t e)) (s.0 ∙ w.0 ∙ ap (cents_of 1) (sym r)) (s.1 ∙ w.1 ∙ ap (cents_of 2) (sym r));
        closed = closed_agree e e (on x.entry closed_place 2 (omega arith)) ∙ next_closed t e G;
      }

  later_mended : (c : ℕ) → b < c → c < bodies t → Mended u t c
  later_mended c l k =
      let e : ℕ = entry_of c in
      let x = ih.mended c l (omega (arith, count)) in
      let y = step_after t ok b h c l k in
      let p = place_is t ok b h c k in
      let q = slots_is t ok b h c k in
      let g : closed_of then e ≡ closed_of t e = closed_agree e e (on y.entry closed_place 2 (omega arith)) in
      record {
        body = (λ i. body_ok u (sym p i) (sym q i)) ∙ x.body;
        records = (λ i. records_at u (sym p i) (sym q i)) ∙ x.records ∙ (λ i. kept_at (g i) then (p i) (q i)) ∙ kept_agree (closed_of t e) (slots_of t e) y.slots;
        agreed = (λ i. agrees u e (records_at u (sym p i) (sym q i))) ∙ x.agreed;
        closed = x.closed ∙ g;
      }

  joined : All t u b
  joined = record {
    contents = record {
      long = ih.contents.long ∙ S.long;
      top = through ih.contents.top S.top;
      entries = λ c k. through (ih.contents.entries c (omega (arith, count))) (S.entries c k);
    };
    right = ih.right;
    same = λ c l.
        let k : c < bodies t = omega arith in
        let x = ih.same c (omega arith) in
        let y = step_before t ok b h c l in
        record { entry = through x.entry y.entry; slots = through (moved_slots t ok b h c k x) y.slots };
    mended = λ c l k. side b c (λ m. let z : b ≡ c = omega arith in subst (Mended u t) z own_mended) (λ m. later_mended c m k);
  }

all : (n : ℕ) (t : List ℕ) → contents_ok table2 t ≡ true → (b : ℕ) → b + n ≡ bodies t → All t (repaired_from t (entry_of b) n) b
unfolding repaired_from
all zero t ok b e = record {
  contents = record { long = refl; top = itself t 0 head_size; entries = λ c k. itself t (entry_of c) entry_fixed };
  right = ok;
  same = λ c l. record { entry = itself t (entry_of c) entry_size; slots = itself t (place_of t (entry_of c)) (slot_size * slots_of t (entry_of c)) };
  mended = λ c l k. absurd (omega arith);
}
all (suc n) t ok b e =
    let h : b < bodies t = omega arith in
    let q : entry_of (suc b) ≡ entry_of b + entry_size = omega arith in
    let then : List ℕ = body_repaired t (entry_of b) in
    let m = number (step_contents t ok b h) ok in
    joined t ok b h (repaired_from then (entry_of b + entry_size) n)
    (subst (λ (p : ℕ). All then (repaired_from then p n) (suc b)) q (all n then (step_right t ok b h) (suc b) (omega arith)))

-- THE THEOREM
pub repairs : (t : List ℕ) → contents_ok table2 t ≡ true → Repairs t (repaired t)
repairs t ok = record {
  valid = same_valid C ok own;
  long = C.long;
  bank = bank C ok;
  number = count;
  codes = codes C ok;
  slots = size;
  records = λ b h. (λ i. records_at u (place b h i) (size b h i)) ∙ (A.mended b (omega arith) h).records;
  paid = λ b h. let m = A.mended b (omega arith) h in (agrees_is u (entry_of b) (records_at u (place_of t (entry_of b)) (slots_of t (entry_of b))) m.agreed).0 ∙ ap (cents_of 1) m.records;
  collected = λ b h. let m = A.mended b (omega arith) h in (agrees_is u (entry_of b) (records_at u (place_of t (entry_of b)) (slots_of t (entry_of b))) m.agreed).1 ∙ ap (cents_of 2) m.records;
  closed = λ b h. (A.mended b (omega arith) h).closed;
}
  where
    u : List ℕ
    u = repaired t

    A : All t u 0
    A = all (bodies t) t ok 0 (omega arith)

    C : Contents u t
    C = A.contents

    count : bodies u ≡ bodies t
    count = number C ok

    place : (b : ℕ) → b < bodies t → place_of u (entry_of b) ≡ place_of t (entry_of b)
    place b h = place_agree (C.entries b h) (omega arith)

    size : (b : ℕ) → b < bodies t → slots_of u (entry_of b) ≡ slots_of t (entry_of b)
    size b h = slots_agree (C.entries b h) (omega arith)

    own : (b : ℕ) → b < bodies t → Own u t (entry_of b)
    own b h =
        let e : ℕ = entry_of b in
        let m = A.mended b (omega arith) h in
        record {
          body = m.body;
          kept = m.agreed;
          later = (λ i. all_later (m.closed i) (m.records i)) ∙ repaired_later (closed_of t e) t (place_of t e) (slots_of t e) (fits_of t ok b h).inside;
          rest = rest_of u A.right b (omega (arith, count));
        }
