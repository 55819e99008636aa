-- WHAT THE RULES GIVE for the witnesses on document 01's table of 880 bytes and on those that orders leave: all that is computed, in one place.
use Rattle.std.specs.Prelude.{Ok, Err}
use mathlib.Core.Path.{◌≡◌, refl, ◌∙◌}
use mathlib.Core.Bool.{true}
use mathlib.Core.List.{List, [], ◌∷◌}
use lib.ListN.{get_or}
use Rattle.scan.specs.Bytes.{bytes, is_letter, is_digit, is_alnum, all, starts_with, has_at, text_is}
use Rattle.words.specs.Numbers.{put, be2, be4, be8}
use Rattle.table.specs.Table.{head_ok, entry_ok, layout_ok, agrees, body_holds, bodies_ok, valid_as, table_ok}
use Rattle.order.specs.Ordinativo.{Ordinativo}
use Rattle.service.specs.Service.{order_comes, order_stored, order_leaves, outcome_bytes, all_leave, all_outcomes, all_accepted, all_steps, notice_comes}
use Rattle.notices.specs.declared.NoticeRefusal.TheVariants.{Declined}
use Rattle.address.specs.Address.{addressed}
use Rattle.calendar.specs.declared.Date.{Date}
use Rattle.days.specs.Days.{length_at, month_start, month_of, day_number, weekday, served as days_served}
use Rattle.target_days.specs.Easter.{paschal, full_moon, sunday_after, easter}
use Rattle.target_days.specs.Target.{weekend, fixed_closing, march_day, closes_on, closing, target_code}
use Rattle.notices.specs.Notices.{notice_by, notice_answer, body_totals, totals_of}
use Rattle.record.specs.declared.Key.{Key}
use Rattle.desk.specs.Desk.{served, for_bank, flow_reads, flow_answer, flow_table, flow_outcomes}
use Rattle.marked.specs.Flows.{request_of, sample_table, single, room}
use Rattle.witness.specs.Flows.{two, header_for, order, first, second}
use Rattle.witness.specs.Takers.{SameValue, Mixed, code_asked}
use Rattle.witness.proofs.Computed.{flows, reads}
use Rattle.calendar.specs.Calendar.{leap, month_length, is_date}
use Rattle.ranges.specs.Ranges.{zeros}
use Rattle.digits.specs.Digits.{digits_after, digits}
use Rattle.record.specs.Slot.{record_at, rest_zero, flat8, record_bytes, key_is}
use Rattle.valid.specs.Valid.{line_there, line_absent, line_ok, all_from, sum, ranges_ok, record_ok, executed_in}
use Rattle.slots.specs.Slots.{used_at, slots_at, find_in, distinct}
use Rattle.body.specs.Body.{slot_ok, slots_ok, body_ok, cents_of, all_later}
use Rattle.entries.specs.Entry.{kept_bytes, slots_from, code_at, slots_of, place_of, closed_of, form_ok, forms_ok, codes_from, find_code, distinct_codes}
use Rattle.request.specs.Request.{asked, needed, bodies_asked_ok, request_ok}
use Rattle.contents.specs.Contents.{head_bytes, entry_bytes, entries_bytes}
use Rattle.opening.specs.Opening.{opened, open_of}
use Rattle.lines.specs.Lines.{numbered_from, sum_of, line_code}
use Rattle.rules.specs.Rules.{amounts_of, any_executed, situation_in, situation_of, same_list, same_order, placed, stepped, judge_order, written, line_moves, notice_in, notice_at, judge_notice}
use Rattle.rules.specs.Searches.{steps_of}

-- THE ORDERS, as they are served: 000471's slots begin at byte 112, 471's at 496, four of 96 bytes each; at 112 and 208 where each has one slot
abbrev pub one : List Ordinativo
one = order 1 ∷ []

abbrev pub both : List Ordinativo
both = order 1 ∷ order 2 ∷ []

-- mandato 1 of 2021
abbrev pub key : Key
key = record { kind = 1; esercizio = 2021; number = 1 }

-- a TARGET day
abbrev pub wednesday : Date
wednesday = record { year = 2021; month = 6; day = 2 }

pub record Facts : Type 0 where
  -- the tables are valid
  pub valid : table_ok sample_table ≡ true
  pub valid_first : table_ok first ≡ true
  pub valid_second : table_ok second ≡ true
  -- the flows are for the bank and for a body with room
  pub own : for_bank sample_table 16 (header_for "471") one ≡ served 496 4 2021 one
  pub again : for_bank second 16 (header_for "471") one ≡ served 496 4 2021 one
  pub more : for_bank second 32 (header_for "471") both ≡ served 496 4 2021 both
  pub other_first : for_bank first 16 (header_for "000471") one ≡ served 112 4 2021 one
  pub own_first : for_bank first 16 (header_for "471") one ≡ served 496 4 2021 one
  -- the answers
  pub answer : flow_answer sample_table (served 496 4 2021 one) ≡ Ok (1, 1, 0)
  pub answer_again : flow_answer second (served 496 4 2021 one) ≡ Ok (1, 0, 1)
  pub answer_more : flow_answer second (served 496 4 2021 both) ≡ Ok (2, 1, 2)
  pub answer_other : flow_answer first (served 112 4 2021 one) ≡ Ok (1, 0, 1)
  pub answer_first : flow_answer first (served 496 4 2021 one) ≡ Ok (1, 1, 0)
  -- outcome codes
  pub code_0 : get_or (flow_outcomes second (room 2) (served 496 4 2021 both)) 2 0 ≡ 14
  pub code_1 : get_or (flow_outcomes second (room 2) (served 496 4 2021 both)) 18 0 ≡ 0
  -- the first bytes of 471's first and second slot: 0 empty, 1 a mandato
  pub slot : get_or (flow_table sample_table (served 496 4 2021 one)) 496 0 ≡ 1
  pub slot_empty : get_or sample_table 496 0 ≡ 0
  pub next : get_or (flow_table second (served 496 4 2021 both)) 592 0 ≡ 1
  pub next_empty : get_or (order_leaves second 496 4 2021 (order 1)) 592 0 ≡ 0
  -- two bodies whose codes have one value, and what each is told of 000471's mandato 1
  pub mixed : Mixed first (bytes "000471") (bytes "471")
  pub notice_other : notice_answer first true (bytes "000471") key 1 wednesday ≡ Ok 100
  pub notice_own : notice_answer first true (bytes "471") key 1 wednesday ≡ Err (Declined 16)
  pub used_other : (totals_of first (bytes "000471")).used ≡ 1
  pub used_own : (totals_of first (bytes "471")).used ≡ 0
  pub used_before : (totals_of sample_table (bytes "000471")).used ≡ 0
  -- and a request for both
  pub asked_two : asked (request_of 4) ≡ 2
  pub value_asked : SameValue (code_asked (request_of 4) 0) (code_asked (request_of 4) 1)
  pub opens : open_of (request_of 4) 880 ≡ Ok tt

pub facts : Facts
unfolding is_letter is_digit is_alnum all starts_with has_at text_is be2 be4 be8 put leap month_length is_date zeros digits_after digits record_at rest_zero flat8 record_bytes key_is line_there line_absent line_ok all_from sum ranges_ok record_ok used_at slots_at find_in distinct slot_ok slots_ok body_ok code_at slots_of place_of closed_of form_ok forms_ok codes_from find_code distinct_codes head_ok entry_ok layout_ok agrees body_holds bodies_ok valid_as cents_of all_later executed_in kept_bytes slots_from asked needed bodies_asked_ok request_ok head_bytes entry_bytes entries_bytes opened open_of numbered_from sum_of line_code amounts_of any_executed situation_in situation_of same_list same_order placed stepped judge_order written line_moves notice_in notice_at judge_notice order_comes order_stored outcome_bytes all_leave all_outcomes all_accepted all_steps steps_of notice_comes addressed notice_by target_code days_served closing closes_on weekend fixed_closing march_day easter sunday_after full_moon paschal weekday month_of length_at body_totals totals_of day_number month_start
facts = record {
  valid = refl;
  valid_first = refl;
  valid_second = refl;
  own = refl;
  again = refl;
  more = refl;
  other_first = refl;
  own_first = refl;
  answer = refl;
  answer_again = refl;
  answer_more = refl;
  answer_other = refl;
  answer_first = refl;
  code_0 = refl;
  code_1 = refl;
  slot = refl;
  slot_empty = refl;
  next = refl;
  next_empty = refl;
  mixed = record { one = 0; other = 1; left = refl; right = refl; value = record { value = 471; left = refl; right = refl } };
  notice_other = refl;
  notice_own = refl;
  used_other = refl;
  used_own = refl;
  used_before = refl;
  asked_two = refl;
  value_asked = record { value = 471; left = refl; right = refl };
  opens = refl;
}

-- THE READINGS
pub own_reads : flow_reads sample_table 1 (single "471") 16 ≡ served 496 4 2021 one
own_reads = reads sample_table 16 flows.own facts.valid ∙ facts.own

pub again_reads : flow_reads second 1 (single "471") 16 ≡ served 496 4 2021 one
again_reads = reads second 16 flows.own facts.valid_second ∙ facts.again

pub more_reads : flow_reads second 1 two 32 ≡ served 496 4 2021 both
more_reads = reads second 32 flows.more facts.valid_second ∙ facts.more

pub other_first_reads : flow_reads first 1 (single "000471") 16 ≡ served 112 4 2021 one
other_first_reads = reads first 16 flows.other facts.valid_first ∙ facts.other_first

pub own_first_reads : flow_reads first 1 (single "471") 16 ≡ served 496 4 2021 one
own_first_reads = reads first 16 flows.own facts.valid_first ∙ facts.own_first
