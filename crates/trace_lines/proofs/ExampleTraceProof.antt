-- The examples' traces, by computation. Assumes nothing.
use mathlib.Core.Path.{refl}
use Rattle.fields.specs.Digits.{digits, number, is_digit, numeric}
use Rattle.fields.specs.Put.{part, filled, same_list}
use Rattle.fields.specs.Field.{field_of}
use Rattle.units.specs.Calendar.{is_leap, month_days, is_date}
use Rattle.ledger.specs.Bills.{is_rate_code}
use Rattle.ledger.specs.Sound.{terms_tests, balanced, sound_amounts, sound_bill, distinct, book_tests}
use Rattle.records.specs.Layout.{records_from}
use Rattle.notices.specs.Notices.{alike_fields, spaces_from}
use Rattle.file.specs.File.{records, printable, is_header, is_detail, good_record, headed, good_file, leading, groups, file_groups, unfit, line1, line2, passes, alike, line3}
use Rattle.records.specs.Tiers.{tier_consumptions, tier_charges}
use Rattle.verdict.specs.Lines.{line4, line5, line6, line7, line8, line9, line10, amounts_of}
use Rattle.group.specs.Groups.{lines_by, verdict_on, verdict_by, settled, taken, verdicts}
use Rattle.causes.specs.Causes.{start_tests, request_tests, fresh_causes, bill_causes, request_causes, file_causes, cancel_causes, close_causes, causes}
use Rattle.calls.specs.Machine.{cause, next, next_verdicts, next_closed, outcome, step, after, answer_by}
use Rattle.history.specs.Cases.{sent_header, sent_detail, sent}
use Rattle.table.specs.Table.{cell, ended, stop_line}
use Rattle.journal.specs.Entries.{fresh_body, request_body, cancel_body, close_body, body_of, good_length, head_by, head_of}
use Rattle.journal.specs.Journal.{parse_up_to, parse, ends_bad, is_bad}
use Rattle.trace_lines.specs.Lines.{call_name, change_text, figure_cells, call_line, group_line, group_lines}
use Rattle.trace_lines.specs.Trace.{entry_answer, lines_under, entry_lines, trace_lines, trace_of}
use Rattle.trace_lines.specs.Example.{ExampleTrace, Mixed, EmptyTrace}

pub example-holds : ExampleTrace
unfolding digits number is_digit numeric part filled same_list field_of is_leap month_days is_date is_rate_code terms_tests balanced sound_amounts sound_bill distinct book_tests records_from alike_fields spaces_from records printable is_header is_detail good_record headed good_file leading groups file_groups unfit line1 line2 passes alike line3 line4 line5 line6 line7 line8 tier_consumptions tier_charges line9 line10 amounts_of lines_by verdict_on verdict_by settled taken verdicts start_tests request_tests fresh_causes bill_causes request_causes file_causes cancel_causes close_causes causes cause next next_verdicts next_closed outcome step after answer_by sent_header sent_detail sent cell ended stop_line fresh_body request_body cancel_body close_body body_of good_length head_by head_of parse_up_to parse ends_bad is_bad call_name change_text figure_cells call_line group_line group_lines entry_answer lines_under entry_lines trace_lines trace_of
example-holds = refl

pub mixed-holds : Mixed
unfolding digits number is_digit numeric part filled same_list field_of is_leap month_days is_date is_rate_code terms_tests balanced sound_amounts sound_bill distinct book_tests records_from alike_fields spaces_from records printable is_header is_detail good_record headed good_file leading groups file_groups unfit line1 line2 passes alike line3 line4 line5 line6 line7 line8 tier_consumptions tier_charges line9 line10 amounts_of lines_by verdict_on verdict_by settled taken verdicts start_tests request_tests fresh_causes bill_causes request_causes file_causes cancel_causes close_causes causes cause next next_verdicts next_closed outcome step after answer_by sent_header sent_detail sent cell ended stop_line fresh_body request_body cancel_body close_body body_of good_length head_by head_of parse_up_to parse ends_bad is_bad call_name change_text figure_cells call_line group_line group_lines entry_answer lines_under entry_lines trace_lines trace_of
mixed-holds = refl

pub empty_holds : EmptyTrace
unfolding digits number is_digit numeric part filled same_list field_of is_leap month_days is_date is_rate_code terms_tests balanced sound_amounts sound_bill distinct book_tests records_from alike_fields spaces_from records printable is_header is_detail good_record headed good_file leading groups file_groups unfit line1 line2 passes alike line3 line4 line5 line6 line7 line8 tier_consumptions tier_charges line9 line10 amounts_of lines_by verdict_on verdict_by settled taken verdicts start_tests request_tests fresh_causes bill_causes request_causes file_causes cancel_causes close_causes causes cause next next_verdicts next_closed outcome step after answer_by sent_header sent_detail sent cell ended stop_line fresh_body request_body cancel_body close_body body_of good_length head_by head_of parse_up_to parse ends_bad is_bad call_name change_text figure_cells call_line group_line group_lines entry_answer lines_under entry_lines trace_lines trace_of
empty_holds = (refl, refl)
