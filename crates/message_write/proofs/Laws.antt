-- The writer of a flow's message: entries while the orders are walked, the whole, and one law for each way out of the call.
use Rattle.std.specs.Prelude.{Option, Result, Some, None, Ok, Err}
use mathlib.Core.Path.{◌≡◌, refl, sym, ap, subst, ◌∙◌}
use mathlib.Core.List.{List, [], ◌∷◌}
use mathlib.Core.Bool.{Bool, true, false, cond, ◌&&◌, and-false}
use Prim.Native.Nat.{ℕ, ◌+◌, ◌≤◌, ◌<◌}
use Prim.Native.String.{String}
use native.Mathlib.Omega.{arith}
use lib.ListN.{length, drop, length-drop}
use lib.Seq.{drop-drop}
use lib.Dec.{eqb, leb}
use borrow.Author.Tests.{eq-eqb, ne_eqb, eqb-true, le-leb, lt-leb, leb-true}
use Rattle.bounds.specs.Bounds.{max_flow}
use Rattle.scan.specs.Bytes.{bytes, byte_at, part, is_white}
use Rattle.scan.proofs.Laws.{both, run_within}
use Rattle.tokens.specs.Tokens.{white_at}
use Rattle.markup.specs.Noted.{Noted}
use Rattle.schema.specs.declared.Parent.{Parent}
use Rattle.rows.specs.declared.Kept.{Kept}
use Rattle.rows.specs.Kept.{kept_from, next_of}
use Rattle.structure.proofs.Laws.{fits_parts}
use Rattle.order.specs.declared.Order.{Order}
use Rattle.order.specs.Ordinativo.{Ordinativo, ordinativo}
use Rattle.orders.specs.Shape.{Filled}
use Rattle.orders.specs.Orders.{those, is_order, order_of}
use Rattle.editions.specs.declared.Edition.{Edition}
use Rattle.editions.specs.Editions.{edition_of}
use Rattle.header.specs.Header.{root_of, header_in}
use Rattle.orders.proofs.Laws.{OrderAt, order_at, orders_end, standing}
use Rattle.header.specs.declared.Span.{Span}
use Rattle.header.specs.declared.Heading.{Heading}
use Rattle.header.specs.Heading.{root_rows, heading_from, header_by, Within}
use Rattle.header.proofs.Laws.{heading_header, heading_within}
use Rattle.flow.specs.declared.Breakage.{Breakage}
use Rattle.flow.specs.declared.Breakage.TheVariants.{MarkupBreaks, StructureBreaks, FieldBreaks}
use Rattle.flow.specs.Flow.{verdict_of, flow_orders}
use Rattle.flow.proofs.Laws.{flow_stood}
use Rattle.grammar.specs.Grammar.{start_tag, end_tag}
use Rattle.tree.specs.Tree.{Tree, Trees, none, more}
use Rattle.tree.specs.Orders.{Words}
use Rattle.tree.specs.Written.{node}
use Rattle.pen.specs.Pen.{Wrote, Room}
use Rattle.message.specs.Message.{Entry, Message}
use Rattle.message.specs.Written.{entry_out, entries_out, message_tree, message_bytes}
use Rattle.message.specs.From.{Caller, outcome_fits, outcomes_fit, entries_from, message_from}
use Rattle.message.proofs.From.{written_ok}
use Rattle.message.proofs.Short.{message_short}
use Rattle.message_pen.specs.Parts.{RoomFor, WroteAll, RoomOf, WroteTree, join, words_for, entry_name, text_at, beginning_in}
use Rattle.message_pen.proofs.Laws.{wrote_none, first_room, wrote_first, node_in, node_close, wrote_node, join_room, join_rest, wrote_join}
use Rattle.message_fit.specs.declared.Held.{Held}
use Rattle.message_fit.specs.Fit.{caller_ok}
use Rattle.message_fit.specs.Holding.{caller_in, HeldIn, Holds}
use Rattle.message_fit.specs.Walk.{orders_from, Rooted}
use Rattle.message_fit.proofs.Laws.{drop_byte, drop_first, caller_told}
use Rattle.message_write.specs.declared.WriteRefusal.{WriteRefusal}
use Rattle.message_write.specs.declared.WriteRefusal.TheVariants.{UnknownEdition, TooLong, Unfit, NoRoom}
use Rattle.message_write.specs.Write.{writes, writing_of, write_in, write_by, Leaves, WritePromise}
use Rattle.message_write.specs.Parts.{entry_if, kind_out, entry_here, kind_from, header_with, flow_name, message_at, message_by, Written as Made}

-- ENTRIES OF A KIND: the first order's, if it has one, and the others'
one_then : (kind : ℕ) (flow : List ℕ) (year : ℕ) (time : List ℕ) (q : Ordinativo) (qs : List Ordinativo) (o : List ℕ)
    → kind_out kind (entries_from kind flow year time (q ∷ qs) o) ≡ join (kind_out kind (entry_if kind flow year time q (byte_at o 2))) (kind_out kind (entries_from kind flow year time qs (drop 16 o)))
unfolding entries_from
one_then kind flow year time q qs o = go (eqb q.kind kind)
  where
    go : (b : Bool) → kind_out kind (cond b (record { operation = q.operation; code = byte_at o 2; flow = flow; esercizio = year; number = q.number; date = q.date; total = q.total; time = time } ∷ entries_from kind flow year time qs (drop 16 o)) (entries_from kind flow year time qs (drop 16 o)))
        ≡ join (kind_out kind (cond b (record { operation = q.operation; code = byte_at o 2; flow = flow; esercizio = year; number = q.number; date = q.date; total = q.total; time = time } ∷ []) [])) (kind_out kind (entries_from kind flow year time qs (drop 16 o)))
    go true = refl
    go false = refl

-- while the orders are walked: those from i on are to come, their outcome bytes from k on; whatever is written of their entries from `to` on
-- makes the whole
pub record Entering (root : Parent) (f past out : List ℕ) (kind : ℕ) (name : List ℕ) (year : ℕ) (time : List ℕ) (from at : ℕ) (m₀ m : List ℕ) (i k to : ℕ) : Type 0 where
  pub rooted : Rooted root f past i
  pub within : k ≤ length out
  pub fits : outcomes_fit (orders_from root f i) (drop k out) ≡ true
  pub room : RoomFor to (kind_from kind name year time root f i (drop k out))
  pub size : length m ≡ length m₀
  pub on : (u : List ℕ) (r : ℕ) → WroteAll m u to (kind_from kind name year time root f i (drop k out)) r → WroteAll m₀ u at (kind_from kind name year time root f from out) r

module _ (root : Parent) (f past out : List ℕ) (kind : ℕ) (name : List ℕ) (year : ℕ) (time : List ℕ) (from at : ℕ) (m₀ : List ℕ) where
  pub entering_start : Rooted root f past from → outcomes_fit (orders_from root f from) out ≡ true → RoomFor at (kind_from kind name year time root f from out)
      → Entering root f past out kind name year time from at m₀ m₀ from 0 at
  entering_start r e h = record { rooted = r; within = omega arith; fits = e; room = h; size = refl; on = λ u q w. w }

  module _ {m : List ℕ} {i k to : ℕ} (s : Entering root f past out kind name year time from at m₀ m i k to) where
    pub entering_end : next_of (those is_order (kept_from root f i)) ≡ None → WroteAll m₀ m at (kind_from kind name year time root f from out) to
    unfolding entries_from
    entering_end e = s.on m to (rw (orders_end root f i e) (wrote_none m to))

    module _ (n : Kept) (e : next_of (those is_order (kept_from root f i)) ≡ Some n) where
      pub entering_order : OrderAt root f i n
      entering_order = order_at root f i n s.rooted.holds e

      -- its outcome bytes are there, and those of the others fit
      fitted : ((leb 16 (length (drop k out)) && outcome_fits (ordinativo (order_of f n)) (drop k out)) && outcomes_fit (orders_from root f n.child.after) (drop (k + 16) out)) ≡ true
      unfolding outcomes_fit
      fitted = rw (entering_order.rest, drop-drop 16 k out) at s.fits

      pub entering_long : k + 16 ≤ length out
      entering_long =
          let a = both (leb 16 (length (drop k out)) && outcome_fits (ordinativo (order_of f n)) (drop k out)) (outcomes_fit (orders_from root f n.child.after) (drop (k + 16) out)) fitted in
          let b = both (leb 16 (length (drop k out))) (outcome_fits (ordinativo (order_of f n)) (drop k out)) a.0 in
          let l = leb-true 16 (length (drop k out)) b.0 in
          let d = length-drop k out in
          omega arith

      -- its kind is the one that its outcome bytes say
      pub entering_kind : byte_at out k ≡ (order_of f n).kind
      entering_kind =
          let q = ordinativo (order_of f n) in
          let a = both (leb 16 (length (drop k out)) && outcome_fits q (drop k out)) (outcomes_fit (orders_from root f n.child.after) (drop (k + 16) out)) fitted in
          let b = both (leb 16 (length (drop k out))) (outcome_fits q (drop k out)) a.0 in
          sym (drop_first out k) ∙ eqb-true _ _ (both (eqb (byte_at (drop k out) 0) q.kind) _ b.1).0

      rest : kind_from kind name year time root f i (drop k out) ≡ join (entry_here kind name year time f n out k) (kind_from kind name year time root f n.child.after (drop (k + 16) out))
      rest =
          rw (entering_order.rest, ← drop-drop 16 k out, ← drop_byte out k 2)
          (one_then kind name year time (ordinativo (order_of f n)) (orders_from root f n.child.after) (drop k out))

      pub entering_room : RoomFor to (entry_here kind name year time f n out k)
      entering_room = join_room _ _ (subst (RoomFor to) rest s.room)

      pub entering_step : {m' : List ℕ} {q : ℕ} → WroteAll m m' to (entry_here kind name year time f n out k) q
          → Entering root f past out kind name year time from at m₀ m' n.child.after (k + 16) q
      entering_step {m'} {q} w =
          let p = entering_order in
          let l = entering_long in
          let a = both (leb 16 (length (drop k out)) && outcome_fits (ordinativo (order_of f n)) (drop k out)) (outcomes_fit (orders_from root f n.child.after) (drop (k + 16) out)) fitted in
          record {
            rooted = record { within = p.lies.within; holds = p.on; noted = s.rooted.noted };
            within = l;
            fits = a.1;
            room = join_rest _ _ (subst (RoomFor to) rest s.room) w;
            size = w.wrote.size ∙ s.size;
            on = λ u r x. s.on u r (subst (λ (ts : Trees). WroteAll m u to ts r) (sym rest) (wrote_join _ _ w x));
          }

-- the entry of an order of this kind, from the values that were read
module _ (kind : ℕ) (name : List ℕ) (year : ℕ) (time f : List ℕ) (n : Kept) (out : List ℕ) (k : ℕ) {x : ℕ} (e : x ≡ byte_at out k) (d : byte_at out k ≡ (order_of f n).kind) where
  pub entry_other : (x ≡ kind → ⊥) → entry_here kind name year time f n out k ≡ none
  entry_other h = rw (← d, ← e, ne_eqb x kind h)

  abbrev pub entry_by : Order → ℕ → Entry
  entry_by o code = record { operation = o.operation; code = code; flow = name; esercizio = year; number = o.number; date = o.date; total = o.total; time = time }

  module _ (h : x ≡ kind) {o : Order} {code : ℕ} (eo : o ≡ order_of f n) (ec : code ≡ byte_at out (k + 2)) where
    same : entry_here kind name year time f n out k ≡ more (node (entry_name kind) (entry_out (words_for kind) (entry_by o code))) none
    same = rw (← d, ← e, eq-eqb x kind h, eo, ec)

    pub entry_room : {at : ℕ} → RoomFor at (entry_here kind name year time f n out k) → RoomOf at (node (entry_name kind) (entry_out (words_for kind) (entry_by o code)))
    entry_room {at} r = first_room (subst (RoomFor at) same r)

    pub entry_wrote : {s u : List ℕ} {at r : ℕ} → WroteTree s u at (node (entry_name kind) (entry_out (words_for kind) (entry_by o code))) r → WroteAll s u at (entry_here kind name year time f n out k) r
    entry_wrote {s} {u} {at} {r} w = subst (λ (ts : Trees). WroteAll s u at ts r) (sym same) (wrote_first w (wrote_none u r))

-- THE WHOLE
entries_join : (x : String) (w : Words) (es : List Entry) (ts : Trees) → entries_out x w es ts ≡ join (entries_out x w es none) ts
entries_join x w [] ts = refl
entries_join x w (e ∷ es) ts = ap (more (node x (entry_out w e))) (entries_join x w es ts)

-- what stands before the entries, and the entries of either kind, "reversali" first
module _ (abi body : List ℕ) (year : ℕ) (name : List ℕ) (root : Parent) (f : List ℕ) (from : ℕ) (o : List ℕ) (c : Held) (t : List ℕ) {time : List ℕ} (q : time ≡ text_at t c.outcome) where
  abbrev Whole : Tree
  Whole = message_tree (message_from (header_with abi body year) name (orders_from root f from) o (caller_in c t))

  abbrev Before : Trees
  Before = beginning_in abi t c.given body

  abbrev Kind : ℕ → Trees
  Kind k = kind_from k name year time root f from o

  abbrev Entries : List ℕ → Trees
  Entries x = join (kind_from 2 name year x root f from o) (kind_from 1 name year x root f from o)

  parts : Whole ≡ node "messaggi_esito_applicativo" (join Before (Entries time))
  parts =
      ap (λ (ts : Trees). node "messaggi_esito_applicativo" (join Before ts)) (entries_join (entry_name 2) (words_for 2) (entries_from 2 name year (text_at t c.outcome) (orders_from root f from) o) (kind_from 1 name year (text_at t c.outcome) root f from o))
      ∙ ap (λ (x : List ℕ). node "messaggi_esito_applicativo" (join Before (Entries x))) (sym q)

  module _ (h : RoomOf 0 Whole) where
    room : RoomOf 0 (node "messaggi_esito_applicativo" (join Before (Entries time)))
    room = subst (RoomOf 0) parts h

    module _ {s u : List ℕ} {i : ℕ} (x : Wrote s u 0 (start_tag (bytes "messaggi_esito_applicativo")) i) where
      pub framed_before : RoomFor i Before
      framed_before = join_room Before (Entries time) (node_in room x)

      module _ {v : List ℕ} {j : ℕ} (y : WroteAll u v i Before j) where
        entries_room : RoomFor j (Entries time)
        entries_room = join_rest Before (Entries time) (node_in room x) y

        pub framed_reversali : RoomFor j (Kind 2)
        framed_reversali = join_room (Kind 2) (Kind 1) entries_room

        module _ {w : List ℕ} {k : ℕ} (z : WroteAll v w j (Kind 2) k) where
          pub framed_mandati : RoomFor k (Kind 1)
          framed_mandati = join_rest (Kind 2) (Kind 1) entries_room z

          module _ {p : List ℕ} {l : ℕ} (e : WroteAll w p k (Kind 1) l) where
            inside : WroteAll u p i (join Before (Entries time)) l
            inside = wrote_join Before (Entries time) y (wrote_join (Kind 2) (Kind 1) z e)

            pub framed_close : Room l (end_tag (bytes "messaggi_esito_applicativo"))
            framed_close = node_close room x inside

            pub framed_wrote : {n : List ℕ} {r : ℕ} → Wrote p n l (end_tag (bytes "messaggi_esito_applicativo")) r → WroteTree s n 0 Whole r
            framed_wrote {n} {r} g = subst (λ (b : Tree). WroteTree s n 0 b r) (sym parts) (wrote_node x inside g)

-- its texts are those at these places of the flow
module _ (abi body : List ℕ) (year : ℕ) (name : List ℕ) (root : Parent) (f : List ℕ) (from : ℕ) (o : List ℕ) (c : Caller) (h : Heading) (w : Span) (a : abi ≡ part f h.abi.from h.abi.to)
    (b : body ≡ part f h.ente.from h.ente.to) (y : year ≡ h.esercizio) (n : name ≡ part f w.from w.to) where
  own : message_from (header_with abi body year) name (orders_from root f from) o c ≡ message_by f from root h w o c
  own = λ i. message_from (header_with (a i) (b i) (y i)) (n i) (orders_from root f from) o c

  pub own_room : RoomOf 0 (message_tree (message_by f from root h w o c)) → RoomOf 0 (message_tree (message_from (header_with abi body year) name (orders_from root f from) o c))
  own_room r = subst (λ (m : Message). RoomOf 0 (message_tree m)) (sym own) r

  pub own_wrote : {s u : List ℕ} {r : ℕ} → WroteTree s u 0 (message_tree (message_from (header_with abi body year) name (orders_from root f from) o c)) r → WroteTree s u 0 (message_tree (message_by f from root h w o c)) r
  own_wrote {s} {u} {r} v = subst (λ (m : Message). WroteTree s u 0 (message_tree m) r) own v

-- COUNTED, then refused or written
module _ (m : List ℕ) (x : Message) {s u : List ℕ} {n : ℕ} (w : WroteTree s u 0 (message_tree x) n) where
  pub counted_none : length m < n → Leaves m (writes x) (Err NoRoom) m
  counted_none l = let t = w.wrote.to in rw (lt-leb (length (message_bytes x)) (length m) (omega arith)) (refl, refl)

  pub counted_some : {m' : List ℕ} {r : ℕ} → n ≤ length m → WroteTree m m' 0 (message_tree x) r → Leaves m (writes x) (Ok r) m'
  counted_some {m'} {r} l v =
      let t = w.wrote.to in
      let q = v.wrote.to in
      let z : r ≡ length (message_bytes x) = omega arith in
      rw (le-leb (length (message_bytes x)) (length m) (omega arith)) (ap Ok z, v.wrote.wrote (omega arith))

-- A FLOW THAT STANDS, its root's children from a place on
module _ (e : Edition) (f : List ℕ) (at from : ℕ) (z : from ≡ white_at f at) where
  pub flow_filled : verdict_of e f ≡ Ok at → Filled (root_rows e) 3 (root_of e) f 0 from
  flow_filled v =
      let s = flow_stood e f at v in
      let b = fits_parts 3 (root_of e) f at s.fits in
      subst (λ (x : ℕ). Filled (root_rows e) 3 (root_of e) f 0 x) (sym z) (record { within = run_within is_white f at s.within; rows = b.0; each = b.1 })

  module _ (root : Parent) (q : root ≡ root_of e) where
    pub flow_rooted : (past : List ℕ) → verdict_of e f ≡ Ok at → Noted f past → Rooted root f past from
    flow_rooted past v n =
        let s = flow_stood e f at v in
        let r : Rooted (root_of e) f past (white_at f at) = record { within = run_within is_white f at s.within; holds = standing (root_of e) f at s.fits; noted = n } in
        subst (λ (x : ℕ). Rooted root f past x) (sym z) (subst (λ (p : Parent). Rooted p f past (white_at f at)) (sym q) r)

    module _ (m o : List ℕ) (c : Caller) {g : Bool} (eg : g ≡ outcomes_fit (orders_from root f from) o) where
      fit_is : outcomes_fit (orders_from (root_of e) f (white_at f at)) o ≡ g
      fit_is = ap (λ (x : ℕ). outcomes_fit (orders_from (root_of e) f x) o) (sym z) ∙ ap (λ (p : Parent). outcomes_fit (orders_from p f from) o) (sym q) ∙ sym eg

      pub unfit_outcomes : g ≡ false → Leaves m (writing_of e f o c (Ok at)) (Err Unfit) m
      unfit_outcomes n = rw (fit_is, n) (refl, refl)

      module _ (y : g ≡ true) {k : Bool} (ek : k ≡ caller_ok c) where
        pub unfit_caller : k ≡ false → Leaves m (writing_of e f o c (Ok at)) (Err Unfit) m
        unfit_caller n = rw (fit_is, y, ← ek, n) (refl, refl)

        -- its header's values and identificativo_flusso where they stand
        module _ (v : k ≡ true) (h : Heading) (w : Span) (d : h ≡ heading_from e f from) (n : part f w.from w.to ≡ flow_name e f from) where
          same_message : message_by f from root h w o c ≡ message_at e f (white_at f at) o c
          same_message =
              let a : header_by f h ≡ header_in e f (kept_from (root_of e) f from) = ap (header_by f) d ∙ heading_header e f from in
              (λ i. message_from (a i) (n i) (orders_from (q i) f from) o c) ∙ ap (λ (x : ℕ). message_at e f x o c) z

          pub fit_written : {a : Result ℕ WriteRefusal} {m' : List ℕ} → Leaves m (writes (message_by f from root h w o c)) a m' → Leaves m (writing_of e f o c (Ok at)) a m'
          fit_written {a} {m'} x = rw (fit_is, y, ← ek, v) (subst (λ (i : Message). Leaves m (writes i) a m') same_message x)

          -- the longest message is far below what a count can hold
          pub fit_room : verdict_of e f ≡ Ok at → RoomOf 0 (message_tree (message_by f from root h w o c))
          fit_room x =
              let ok = written_ok e f at x o c (fit_is ∙ y) ((caller_told c).sound (sym ek ∙ v)) in
              let l = message_short (message_at e f (white_at f at) o c) ok in
              subst (λ (i : Message). RoomOf 0 (message_tree i)) (sym same_message) (record { room = record { fits = omega arith } })

heading_there : (e : Edition) (f : List ℕ) (from : ℕ) (h : Heading) → h ≡ heading_from e f from → Within f h
heading_there e f from h d = subst (Within f) (sym d) (heading_within e f from)

-- what its writer is given
module _ (e : Edition) (f past : List ℕ) (at from : ℕ) (z : from ≡ white_at f at) (root : Parent) (q : root ≡ root_of e) (m o : List ℕ) {c : Held} {t : List ℕ} {g : Bool} (eg : g ≡ outcomes_fit (orders_from root f from) o) (y : g ≡ true)
    (k : HeldIn c t) (v : c.right ≡ true) (h : Heading) (w : Span) (d : h ≡ heading_from e f from) (n : (part f w.from w.to ≡ flow_name e f from) × (w.from ≤ w.to) × (w.to ≤ length f)) where
  pub fit_made : verdict_of e f ≡ Ok at → Noted f past → Made f past from root h w o c t
  fit_made x i = record {
    rooted = flow_rooted e f at from z root q past x i;
    fits = sym eg ∙ y;
    heading = heading_there e f from h d;
    name = (n.1, n.2);
    held = k;
    room = fit_room e f at from z root q m o (caller_in c t) eg y k.right v h w d n.0 x;
  }

-- WHAT IS HELD is written as what the caller gave: where they differ, both are wrong
module _ (e : Edition) (f o : List ℕ) {h : Held} {t : List ℕ} {c : Caller} (k : Holds h t c) where
  alike : (v : Result ℕ Breakage) (x : Bool) → h.right ≡ x → writing_of e f o (caller_in h t) v ≡ writing_of e f o c v
  alike v true y = ap (λ (d : Caller). writing_of e f o d v) (k.same y)
  alike (Err (MarkupBreaks p)) false y = refl
  alike (Err StructureBreaks) false y = refl
  alike (Err (FieldBreaks p w)) false y = refl
  alike (Ok at) false y = rw (← k.held.right, ← k.right, y, and-false (outcomes_fit (flow_orders e f at) o))

  pub write_held : (m : List ℕ) {m' : List ℕ} {a : Result ℕ WriteRefusal} → Leaves m (write_in e f o (caller_in h t)) a m' → Leaves m (write_in e f o c) a m'
  unfolding write_in
  write_held m w = rw (alike (verdict_of e f) h.right refl) at w

-- THE CALL
module _ (f o : List ℕ) (c : Caller) (m : List ℕ) where
  module _ (e : Edition) where
    pub write_long : max_flow < length f → Leaves m (write_in e f o c) (Err TooLong) m
    unfolding write_in
    write_long l = rw (lt-leb (length f) max_flow l) (refl, refl)

    pub write_read : {v : Result ℕ Breakage} {a : Result ℕ WriteRefusal} {m' : List ℕ} → length f ≤ max_flow → verdict_of e f ≡ v → Leaves m (writing_of e f o c v) a m' → Leaves m (write_in e f o c) a m'
    unfolding write_in
    write_read {v} {a} {m'} l x w = rw (le-leb (length f) max_flow l) (subst (λ (i : Result ℕ Breakage). Leaves m (writing_of e f o c i) a m') (sym x) w)

  module _ (ed : ℕ) where
    pub write_unknown : edition_of ed ≡ None → WritePromise ed f o c m (Err UnknownEdition) m
    write_unknown x = subst (λ (i : Option Edition). Leaves m (write_by f o c i) (Err UnknownEdition) m) (sym x) (refl, refl)

    pub write_known : {e : Edition} {a : Result ℕ WriteRefusal} {m' : List ℕ} → edition_of ed ≡ Some e → Leaves m (write_in e f o c) a m' → WritePromise ed f o c m a m'
    write_known {e} {a} {m'} x w = subst (λ (i : Option Edition). Leaves m (write_by f o c i) a m') (sym x) w
