-- THE FLOWS, READ: computed from the written rules, once for each flow; a table comes in afterwards (`reads`).
use Rattle.std.specs.Prelude.{Ok}
use Prim.Native.Nat.{ℕ}
use mathlib.Core.Path.{◌≡◌, refl}
use mathlib.Core.Bool.{true}
use mathlib.Core.List.{List, [], ◌∷◌}
use lib.ListN.{length}
use lib.Dec.{leb}
use Rattle.bounds.specs.Bounds.{max_flow}
use Rattle.order.specs.Ordinativo.{Ordinativo}
use Rattle.orders.specs.Orders.{those, text_in as orders_text_in, inside, line_of, lines_of, eight, lines_in, order_of, orders_of, named_of, named_in}
use Rattle.editions.specs.declared.Edition.TheVariants.{Oil}
use Rattle.header.specs.Header.{Header}
use Rattle.flow.specs.Flow.{header_of, flow_orders, verdict_by, verdict_of}
use Rattle.table.specs.Table.{table_ok}
use Rattle.desk.specs.Desk.{for_bank, flow_reads}
use Rattle.marked.specs.Flows.{single}
use Rattle.witness.specs.Flows.{two, header_for, order}
use Rattle.scan.specs.Bytes.{is_letter, is_digit, is_alnum, is_name_byte, is_white, all, run, run_end, starts_with, has_at, text_is}
use Rattle.scan.specs.Characters.{is_char, sized, is_tail, char_size, past_or, char_at}
use Rattle.scan.specs.References.{which_at}
use Rattle.calendar.specs.Calendar.{leap, month_length, is_date}
use Rattle.ranges.specs.Ranges.{is_identifying}
use Rattle.codes.specs.Codes.{codice_abi, identificativo, codice_ente, tipo_operazione}
use Rattle.digits.specs.Digits.{digits_after, digits, esercizio, numero, zero_in_front, importo, progressivo}
use Rattle.dates.specs.Dates.{data_of, clock, signs, data_ora_written, data_ora_within, data_ora}
use Rattle.names.specs.Names.{replaced_after, characters_after, anagrafica}
use Rattle.fields.specs.Fields.{field_stands}
use Rattle.tokens.specs.Tokens.{repeat, until, name_at, tag_end_at, piece_at, text_at, end_tag_at, optional_at}
use Rattle.markup.specs.Markup.{element_by, child_by, children_by, content_by, element_at, content_at, root_at, root_from, markup_of}
use Rattle.children.specs.Child.{child_at, children_up_to, children_from}
use Rattle.rows.specs.Kept.{keep, kept_from}
use Rattle.rows.specs.Replaces.{replaces, rows_for}
use Rattle.schema.specs.Table.{name_is}
use Rattle.structure.specs.Structure.{all_kept, rows_of, in_order, text_only, fit_by, fits_at}
use Rattle.standing.specs.Readings.{fields_by, fields_at, first_bad}

-- a flow of edition 1 that stands, with its header and its orders
pub record ReadAs (f : List ℕ) (h : Header) (os : List Ordinativo) : Type 0 where
  pub at : ℕ
  pub short : leb (length f) max_flow ≡ true
  pub stands : verdict_of Oil f ≡ Ok at
  pub header : header_of Oil f at ≡ h
  pub orders : flow_orders Oil f at ≡ os

pub record Flows : Type 0 where
  pub own : ReadAs (single "471") (header_for "471") (order 1 ∷ [])
  pub other : ReadAs (single "000471") (header_for "000471") (order 1 ∷ [])
  pub more : ReadAs two (header_for "471") (order 1 ∷ order 2 ∷ [])

pub flows : Flows
unfolding is_letter is_digit is_alnum is_name_byte is_white all run run_end starts_with has_at text_is is_char sized is_tail char_size past_or char_at leap month_length is_date is_identifying codice_abi identificativo codice_ente tipo_operazione digits_after digits esercizio numero zero_in_front importo progressivo data_of clock signs data_ora_written data_ora_within data_ora which_at replaced_after characters_after anagrafica field_stands repeat until name_at tag_end_at piece_at text_at end_tag_at optional_at element_by child_by children_by content_by element_at content_at root_at root_from markup_of child_at children_up_to children_from keep kept_from replaces rows_for name_is all_kept rows_of in_order text_only fit_by fits_at fields_by fields_at first_bad those orders_text_in inside named_of named_in line_of lines_of eight lines_in order_of orders_of verdict_by
flows = record {
  own = record { at = 19; short = refl; stands = refl; header = refl; orders = refl };
  other = record { at = 19; short = refl; stands = refl; header = refl; orders = refl };
  more = record { at = 19; short = refl; stands = refl; header = refl; orders = refl };
}

-- what such a flow comes to on a valid table
pub reads : {f : List ℕ} {h : Header} {os : List Ordinativo} (t : List ℕ) (room : ℕ) → ReadAs f h os → table_ok t ≡ true → flow_reads t 1 f room ≡ for_bank t room h os
unfolding flow_reads
reads t room r e = rw (e, r.short, r.stands) (λ i. for_bank t room (r.header i) (r.orders i))
