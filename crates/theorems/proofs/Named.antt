-- WHICH BODY A CALL NAMES, AND WHAT IT THEN READS: the same on every good table, for a call that gives a body's code and for a flow. What a call
-- answers and leaves (Calls), and what it does to its body's records (History), go by these cases.
use Rattle.std.specs.Prelude.{Option as Maybe, Result, Some, None, Ok, Err}
use Prim.Native.Nat.{ℕ, ◌*◌, ◌≤◌, ◌<◌}
use mathlib.Core.Path.{◌≡◌, refl, ap, ◌∙◌}
use mathlib.Core.Bool.{Bool, true, false, cond}
use mathlib.Core.Option.{Option, none, some}
use mathlib.Core.List.{List}
use lib.ListN.{length}
use lib.Dec.{leb}
use Rattle.bounds.specs.Bounds.{max_flow}
use Rattle.scan.specs.Bytes.{text_is}
use Rattle.entries.specs.Entry.{closed_of}
use Rattle.table.specs.Table.{bodies, abi_of, table_ok, body_of, entry_of}
use Rattle.table.proofs.Bodies.{found_body}
use Rattle.order.specs.Ordinativo.{Ordinativo}
use Rattle.editions.specs.declared.Edition.{Edition}
use Rattle.editions.specs.Editions.{edition_of}
use Rattle.header.specs.Header.{Header}
use Rattle.flow.specs.declared.Breakage.{Breakage}
use Rattle.flow.specs.declared.Breakage.TheVariants.{MarkupBreaks, StructureBreaks, FieldBreaks}
use Rattle.flow.specs.Flow.{verdict_of, header_of, flow_orders}
use Rattle.flow.proofs.Laws.{flow_stood}
use Rattle.flow.proofs.Values.{orders_ok, header_ok}
use Rattle.rules.proofs.Kept.{Writables}
use Rattle.address.specs.declared.NoBody.TheVariants.{Unknown}
use Rattle.address.specs.Address.{body_at, body_named, addressed}
use Rattle.desk.specs.declared.FlowRefusal.{FlowRefusal}
use Rattle.desk.specs.declared.FlowRefusal.TheVariants.{UnknownEdition, TooLong, BrokenMarkup, BrokenStructure, BrokenField, OtherBank, UnknownBody, ClosedYear, NoRoom}
use Rattle.desk.proofs.Written.{writables}
use Rattle.desk.specs.Desk.{Reading, refused, served, for_body, for_flow, flow_reads, flow_code}
use Rattle.theorems.specs.Engine.{flow, names_in, names_by, which_body, position, who}
use Rattle.theorems.specs.Codes.{one_of, stray_codes}
use Rattle.theorems.proofs.Good.{Good, base, size, abi_is, find_is, place_is, slots_is}

-- a body's code, on every good table
pub data Names (t₀ code : List ℕ) : Option ℕ → Type 0 where
  stray : ((t : List ℕ) → Good t₀ t → addressed t code ≡ Err Unknown) → Names t₀ code none
  body : (b : ℕ) → b < bodies t₀ → ((t : List ℕ) → Good t₀ t → addressed t code ≡ Ok ((entry_of b), (base t₀ b), (size t₀ b))) → Names t₀ code (some b)

-- what a flow reads, on every good table
abbrev pub Always : List ℕ → ℕ → List ℕ → List ℕ → Reading → Type 0
Always t₀ ed f out x = (t : List ℕ) → Good t₀ t → flow_reads t ed f (length out) ≡ x

-- what it reads for a body: whether there is room, and whether the year is closed
abbrev pub for_year : ℕ → ℕ → ℕ → List Ordinativo → Bool → Bool → Reading
for_year base n year os room closed = cond closed (refused (Err ClosedYear)) (cond room (served base n year os) (refused (Err NoRoom)))

pub data Reads (t₀ : List ℕ) (ed : ℕ) (f out : List ℕ) : Option ℕ → Type 0 where
  -- refused before a body is found
  refuses : (a : Result (ℕ × ℕ × ℕ) FlowRefusal) → one_of (stray_codes (flow ed f out)) (flow_code a) ≡ true → Always t₀ ed f out (refused a) → Reads t₀ ed f out none
  -- body b's: refused where it has closed the year, or where there is no room for the outcomes; else served
  serves : (b : ℕ) → b < bodies t₀ → (year : ℕ) (os : List Ordinativo) → Writables os → (2000 ≤ year) × (year ≤ 2099) → (room : Bool)
      → ((t : List ℕ) → Good t₀ t → flow_reads t ed f (length out) ≡ for_year (base t₀ b) (size t₀ b) year os room (leb year (closed_of t (entry_of b))))
      → Reads t₀ ed f out (some b)

module _ (t₀ : List ℕ) (r : table_ok t₀ ≡ true) where
  -- A CODE
  module _ (t : List ℕ) (g : Good t₀ t) (code : List ℕ) where
    body_none : body_of t₀ code ≡ None → body_named t code ≡ Err Unknown
    body_none e = ap (body_at t) (find_is t₀ r t g code ∙ e)

    body_some : (b : ℕ) → body_of t₀ code ≡ Some b → b < bodies t₀ → body_named t code ≡ Ok ((entry_of b), (base t₀ b), (size t₀ b))
    body_some b e h = ap (body_at t) (find_is t₀ r t g code ∙ e) ∙ (λ i. Ok ((entry_of b), (place_is t₀ r t g b h i), (slots_is t₀ r t g b h i)))

    addressed_is : addressed t code ≡ body_named t code
    unfolding addressed
    addressed_is = rw g.ok

  low : (code : List ℕ) (b : ℕ) → body_of t₀ code ≡ Some b → b < bodies t₀
  low code b e = found_body t₀ r code b e

  pub names : (code : List ℕ) → Names t₀ code (position t₀ (some code))
  names code = go (body_of t₀ code) refl
    where
      go : (x : Maybe ℕ) → body_of t₀ code ≡ x → Names t₀ code (which_body x)
      go None e = stray (λ t g. addressed_is t g code ∙ body_none t g code e)
      go (Some b) e = let l = low code b e in body b l (λ t g. addressed_is t g code ∙ body_some t g code b e l)

  -- A FLOW
  module _ (ed : ℕ) (f out : List ℕ) where
    -- what the call reads on a good table, as far as it goes
    unknown_reads : edition_of ed ≡ None → Always t₀ ed f out (refused (Err UnknownEdition))
    unfolding flow_reads
    unknown_reads n t g = rw (g.ok, n)

    module _ (y : Edition) (n : edition_of ed ≡ Some y) where
      long_reads : leb (length f) max_flow ≡ false → Always t₀ ed f out (refused (Err TooLong))
      unfolding flow_reads
      long_reads e t g = rw (g.ok, n, e)

      module _ (short : leb (length f) max_flow ≡ true) where
        verdict_reads : (v : Result ℕ Breakage) → verdict_of y f ≡ v → (t : List ℕ) → Good t₀ t → flow_reads t ed f (length out) ≡ for_flow y t f (length out) v
        unfolding flow_reads
        verdict_reads v e t g = rw (g.ok, n, short, e)

        module _ (at : ℕ) (stands : verdict_of y f ≡ Ok at) where
          abbrev h : Header
          h = header_of y f at

          abbrev os : List Ordinativo
          os = flow_orders y f at

          bank_reads : (u : Bool) → text_is (abi_of t₀) h.abi ≡ u → (t : List ℕ) → Good t₀ t
              → flow_reads t ed f (length out) ≡ cond u (for_body t (length out) h.esercizio os (body_named t h.ente)) (refused (Err OtherBank))
          bank_reads u e t g =
              verdict_reads (Ok at) stands t g
              ∙ ap (λ (y : Bool). cond y (for_body t (length out) h.esercizio os (body_named t h.ente)) (refused (Err OtherBank)))
              (ap (λ (a : List ℕ). text_is a h.abi) (abi_is t₀ r t g) ∙ e)

          module _ (bank : text_is (abi_of t₀) h.abi ≡ true) where
            its_body : (b : ℕ) → body_of t₀ h.ente ≡ Some b → Reads t₀ ed f out (some b)
            its_body b e =
                let l = low h.ente b e in
                let d = flow_stood y f at stands in
                serves b l h.esercizio os (writables os (orders_ok y f at d)) (header_ok y f at d).0.esercizio (leb (16 * length os) (length out))
                (λ t g. bank_reads true bank t g ∙ ap (for_body t (length out) h.esercizio os) (body_some t g h.ente b e l))

            by_body : (x : Maybe ℕ) → body_of t₀ h.ente ≡ x → Reads t₀ ed f out (which_body x)
            by_body None e =
                refuses (Err UnknownBody) refl (λ t g. bank_reads true bank t g ∙ ap (for_body t (length out) h.esercizio os) (body_none t g h.ente e))
            by_body (Some b) e = its_body b e

          by_bank : (u : Bool) → text_is (abi_of t₀) h.abi ≡ u → Reads t₀ ed f out (position t₀ (cond u (some h.ente) none))
          by_bank false e = refuses (Err OtherBank) refl (bank_reads false e)
          by_bank true e = by_body e (body_of t₀ h.ente) refl

        by_verdict : (v : Result ℕ Breakage) → verdict_of y f ≡ v → Reads t₀ ed f out (position t₀ (names_in y t₀ f v))
        by_verdict (Err (MarkupBreaks p)) e = refuses (Err BrokenMarkup) refl (verdict_reads (Err (MarkupBreaks p)) e)
        by_verdict (Err StructureBreaks) e = refuses (Err BrokenStructure) refl (verdict_reads (Err StructureBreaks) e)
        by_verdict (Err (FieldBreaks p c)) e = refuses (Err (BrokenField p c)) refl (verdict_reads (Err (FieldBreaks p c)) e)
        by_verdict (Ok at) e = by_bank at e (text_is (abi_of t₀) (header_of y f at).abi) refl

      by_length : (u : Bool) → leb (length f) max_flow ≡ u → Reads t₀ ed f out (position t₀ (cond u (names_in y t₀ f (verdict_of y f)) none))
      by_length false e = refuses (Err TooLong) refl (long_reads e)
      by_length true e = by_verdict e (verdict_of y f) refl

    by_edition_lem : (x : Maybe Edition) → edition_of ed ≡ x → Reads t₀ ed f out (position t₀ (names_by t₀ f x))
    by_edition_lem (Some y) n = by_length y n (leb (length f) max_flow) refl
    by_edition_lem None n = refuses (Err UnknownEdition) refl (unknown_reads n)

    pub reads : Reads t₀ ed f out (who t₀ (flow ed f out))
    reads = by_edition_lem (edition_of ed) refl
