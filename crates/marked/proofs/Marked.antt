-- The marked cases hold: computed from the written rules.
use mathlib.Core.Path.{◌≡◌, refl}
use mathlib.Core.Bool.{true}
use Rattle.scan.specs.Bytes.{is_letter, is_digit, is_alnum, is_name_byte, is_white, all as all_bytes, run, run_end, starts_with, has_at, text_is}
use Rattle.scan.specs.Characters.{is_char, sized, is_tail, char_size, past_or, char_at}
use Rattle.scan.specs.References.{which_at}
use Rattle.words.specs.Numbers.{be2, be4, be8, put}
use Rattle.calendar.specs.Calendar.{leap, month_length, is_date}
use Rattle.ranges.specs.Ranges.{zeros, is_identifying}
use Rattle.codes.specs.Codes.{codice_abi, identificativo, codice_ente, tipo_operazione}
use Rattle.digits.specs.Digits.{digits_after, digits, esercizio, numero, zero_in_front, importo, progressivo}
use Rattle.dates.specs.Dates.{data_of, clock, signs, data_ora_written, data_ora_within, data_ora}
use Rattle.names.specs.Names.{replaced_after, characters_after, anagrafica}
use Rattle.fields.specs.Fields.{field_stands}
use Rattle.tokens.specs.Tokens.{repeat, until, name_at, tag_end_at, piece_at, text_at, end_tag_at, optional_at}
use Rattle.markup.specs.Markup.{element_by, child_by, children_by, content_by, element_at, content_at, root_at, root_from, markup_of}
use Rattle.children.specs.Child.{child_at, children_up_to, children_from}
use Rattle.rows.specs.Kept.{keep, kept_from}
use Rattle.rows.specs.Replaces.{replaces, rows_for}
use Rattle.schema.specs.Table.{name_is}
use Rattle.structure.specs.Structure.{all_kept, rows_of, in_order, text_only, fit_by, fits_at}
use Rattle.standing.specs.Readings.{fields_by, fields_at, first_bad}
use Rattle.orders.specs.Orders.{those, text_in as orders_text_in, inside, line_of, lines_of, eight, lines_in, order_of, orders_of, named_of, named_in}
use Rattle.flow.specs.Flow.{verdict_by}
use Rattle.record.specs.Slot.{record_at, rest_zero, flat8, record_bytes, key_is}
use Rattle.valid.specs.Valid.{line_there, line_absent, line_ok, all_from, sum, ranges_ok, record_ok, executed_in}
use Rattle.slots.specs.Slots.{used_at, slots_at, find_in, distinct}
use Rattle.body.specs.Body.{slot_ok, slots_ok, body_ok, cents_of, all_later}
use Rattle.entries.specs.Entry.{kept_bytes, slots_from, code_at, slots_of, place_of, closed_of, form_ok, codes_from, find_code, distinct_codes}
use Rattle.table.specs.Table.{head_ok, entry_ok, layout_ok, agrees, body_holds, bodies_ok, valid_as}
use Rattle.request.specs.Request.{asked, needed}
use Rattle.contents.specs.Contents.{head_bytes as head_asked, entry_bytes, entries_bytes}
use Rattle.opening.specs.Opening.{opened}
use Rattle.lines.specs.Lines.{numbered_from, sum_of, line_code}
use Rattle.rules.specs.Rules.{amounts_of, any_executed, situation_in, situation_of, placed, stepped, judge_order, written, line_moves, notice_in, notice_at, judge_notice}
use Rattle.service.specs.Service.{order_comes, order_stored, outcome_bytes, all_leave, all_outcomes, notice_comes}
use Rattle.address.specs.Address.{addressed}
use Rattle.days.specs.Days.{length_at, month_start, month_of, day_number, weekday, served}
use Rattle.target_days.specs.Easter.{paschal, full_moon, sunday_after, easter}
use Rattle.target_days.specs.Target.{weekend, fixed_closing, march_day, closes_on, closing, target_code}
use Rattle.notices.specs.Notices.{notice_by}
use Rattle.desk.specs.Desk.{flow_reads}
use Rattle.marked.specs.Marked.{all_hold, marked}

pub all_hold_lem : all_hold marked ≡ true
unfolding is_letter is_digit is_alnum is_name_byte is_white all_bytes run run_end starts_with has_at text_is is_char sized is_tail char_size past_or char_at be2 be4 be8 put leap month_length is_date zeros is_identifying codice_abi identificativo codice_ente tipo_operazione digits_after digits esercizio numero zero_in_front importo progressivo data_of clock signs data_ora_written data_ora_within data_ora which_at replaced_after characters_after anagrafica field_stands repeat until name_at tag_end_at piece_at text_at end_tag_at optional_at element_by child_by children_by content_by element_at content_at root_at root_from markup_of child_at children_up_to children_from keep kept_from replaces rows_for name_is all_kept rows_of in_order text_only fit_by fits_at fields_by fields_at first_bad those orders_text_in inside named_of named_in line_of lines_of eight lines_in order_of orders_of verdict_by record_at rest_zero flat8 record_bytes key_is line_there line_absent line_ok all_from sum ranges_ok record_ok used_at slots_at find_in distinct slot_ok slots_ok body_ok code_at slots_of place_of closed_of form_ok codes_from find_code distinct_codes head_ok entry_ok layout_ok agrees body_holds bodies_ok valid_as cents_of all_later executed_in kept_bytes slots_from asked needed head_asked entry_bytes entries_bytes opened numbered_from sum_of line_code amounts_of any_executed situation_in situation_of placed stepped judge_order written line_moves notice_in notice_at judge_notice order_comes order_stored outcome_bytes all_leave all_outcomes notice_comes addressed notice_by target_code served closing closes_on weekend fixed_closing march_day easter sunday_after full_moon paschal weekday day_number month_of month_start length_at flow_reads
all_hold_lem = refl
