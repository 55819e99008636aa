-- WHEN A FLOW IS REFUSED: document 01's table of codes, "given exactly when", line by line.
use Rattle.std.specs.Prelude.{ℕ, ◌*◌, Bool, true, false, not, cond, List, [], ◌∷◌, length, leb, Option, Result, Some, None, Ok, Err}
use Rattle.bounds.specs.Bounds.{max_flow}
use Rattle.scan.specs.Bytes.{text_is}
use Rattle.ranges.specs.Ranges.{is_nothing}
use Rattle.fields.specs.Causes.{cause_number}
use Rattle.entries.specs.Entry.{closed_of}
use Rattle.table.specs.Table.{table_ok, abi_of, body_of, entry_of}
use Rattle.editions.specs.declared.Edition.{Edition}
use Rattle.editions.specs.declared.Edition.TheVariants.{Oil}
use Rattle.flow.specs.declared.Breakage.{Breakage}
use Rattle.flow.specs.declared.Breakage.TheVariants.{MarkupBreaks, StructureBreaks, FieldBreaks}
use Rattle.flow.specs.Flow.{verdict_of, header_of, flow_orders}
use Rattle.service.specs.Service.{outcome_size}

-- what of the flow breaks
abbrev pub is_markup : Result ℕ Breakage → Bool
is_markup (Err (MarkupBreaks p)) = true
is_markup (Err StructureBreaks) = false
is_markup (Err (FieldBreaks p c)) = false
is_markup (Ok at) = false

abbrev pub is_structure : Result ℕ Breakage → Bool
is_structure (Err (MarkupBreaks p)) = false
is_structure (Err StructureBreaks) = true
is_structure (Err (FieldBreaks p c)) = false
is_structure (Ok at) = false

abbrev pub is_field : Result ℕ Breakage → Bool
is_field (Err (MarkupBreaks p)) = false
is_field (Err StructureBreaks) = false
is_field (Err (FieldBreaks p c)) = true
is_field (Ok at) = false

-- where a field breaks and why, and where the content of a flow that stands begins
abbrev pub broken_place : Result ℕ Breakage → ℕ
broken_place (Err (MarkupBreaks p)) = 0
broken_place (Err StructureBreaks) = 0
broken_place (Err (FieldBreaks p c)) = p
broken_place (Ok at) = 0

abbrev pub breaks_by : Result ℕ Breakage → ℕ
breaks_by (Err (MarkupBreaks p)) = 0
breaks_by (Err StructureBreaks) = 0
breaks_by (Err (FieldBreaks p c)) = cause_number c
breaks_by (Ok at) = 0

abbrev pub stands_at : Result ℕ Breakage → ℕ
stands_at (Err (MarkupBreaks p)) = 0
stands_at (Err StructureBreaks) = 0
stands_at (Err (FieldBreaks p c)) = 0
stands_at (Ok at) = at

-- the edition that a flow is read by. (Where its number names none it isn't read)
abbrev pub edition_read : Option Edition → Edition
edition_read (Some e) = e
edition_read None = Oil

abbrev pub is_unknown : Option Edition → Bool
is_unknown (Some e) = false
is_unknown None = true

abbrev pub verdict_as : Option Edition → List ℕ → Result ℕ Breakage
verdict_as x f = verdict_of (edition_read x) f

-- the last year that a body closed; 0 before the first close, and where there is no body
abbrev pub closed_by : List ℕ → Option ℕ → ℕ
closed_by t (Some b) = closed_of t (entry_of b)
closed_by t None = 0

-- of the flow f, whose number names the edition x or none and whose verdict is v, on the table t with an outcome buffer of so many bytes
abbrev pub flow_refusals : List ℕ → Option Edition → List ℕ → ℕ → Result ℕ Breakage → List (ℕ × Bool)
flow_refusals t x f room v =
    -- "the table isn't valid"
    (1, not (table_ok t))
    -- "23, no such edition, after 1 and before 2" (document 02, Req 05)
    ∷ (23, is_unknown x)
    -- "the flow is longer than 32,768 bytes"
    ∷ (2, not (leb (length f) max_flow))
    -- "the markup breaks", "the structure breaks", "a field breaks"
    ∷ (3, is_markup v)
    ∷ (4, is_structure v)
    ∷ (5, is_field v)
    -- "codice_ABI_BT isn't the table's"
    ∷ (6, not (text_is (abi_of t) (header_of (edition_read x) f (stands_at v)).abi))
    -- "no body has this code"
    ∷ (7, is_nothing (body_of t (header_of (edition_read x) f (stands_at v)).ente))
    -- "36 year closed, after 7" (document 02, Req 14)
    ∷ (36, leb (header_of (edition_read x) f (stands_at v)).esercizio (closed_by t (body_of t (header_of (edition_read x) f (stands_at v)).ente)))
    -- "the outcome buffer has under 16 bytes per order"
    ∷ (8, not (leb (outcome_size * length (flow_orders (edition_read x) f (stands_at v))) room))
    ∷ []

-- "Checked in that order .. Otherwise the code is 0"
abbrev pub first_of : List (ℕ × Bool) → ℕ
first_of [] = 0
first_of (r ∷ rs) = cond r.1 r.0 (first_of rs)
