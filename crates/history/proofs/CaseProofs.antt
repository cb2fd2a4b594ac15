-- Cases (a) to (l), and the borders of paper 2: every row of the tables holds, by computation. Assumes nothing.
use mathlib.Core.Path.{refl}
use Rattle.fields.specs.Digits.{digits, number, is_digit, numeric}
use Rattle.fields.specs.Put.{part, filled, same_list}
use Rattle.fields.specs.Field.{field_of}
use Rattle.units.specs.Calendar.{is_leap, month_days, is_date}
use Rattle.units.specs.Days.{year_on, days_of_years, days_of_months, day_number, days_past}
use Rattle.ledger.specs.Bills.{is_rate_code}
use Rattle.ledger.specs.Sound.{terms_tests, balanced, sound_amounts, sound_bill, distinct, book_tests}
use Rattle.records.specs.Layout.{records_from}
use Rattle.notices.specs.Notices.{alike_fields, spaces_from, header, detail_to_key, bil_to_tiers, bil_to_owed, bil_header, bil_detail, bil, cxl_header, cxl_detail, cxl}
use Rattle.notices.specs.Answers.{acf_alike, acf, rej_alike, rej_header, is_blank, from_back, rej_detail, rej_details, rej}
use Rattle.file.specs.File.{records, printable, is_header, is_detail, good_record, headed, good_file, leading, groups, file_groups, unfit, line1, line2, passes, alike, line3}
use Rattle.records.specs.Tiers.{tier_consumptions, tier_charges}
use Rattle.verdict.specs.Lines.{line4, line5, line6, line7, line8, line9, line10, amounts_of}
use Rattle.group.specs.Groups.{lines_by, verdict_on, verdict_by, settled, answer, taken, answers, verdicts}
use Rattle.causes.specs.Causes.{request_tests, bill_causes, request_causes, file_causes, cancel_causes, close_causes, removal_causes, causes}
use Rattle.calls.specs.Machine.{cause, next, next_written, next_verdicts, outcome, step, after, outcomes}
use Rattle.history.specs.Written.{assigns, assigned_in}
use Rattle.history.specs.Claim.{All, assigned}
use Rattle.history.specs.RemovalCases.{removal_table}
use Rattle.history.specs.Cases.{sent_header, sent_detail, sent, result_of, table, Holds}

pub cases-hold : All Holds table
unfolding digits number is_digit numeric part filled same_list field_of is_leap month_days is_date year_on is_rate_code terms_tests balanced sound_amounts sound_bill distinct book_tests records_from alike_fields spaces_from header detail_to_key bil_to_tiers bil_to_owed bil_header bil_detail bil cxl_header cxl_detail cxl acf_alike acf rej_alike rej_header is_blank from_back rej_detail rej_details rej records printable is_header is_detail good_record headed good_file leading groups file_groups unfit line1 line2 passes alike line3 line4 line5 line6 line7 line8 tier_consumptions tier_charges line9 line10 amounts_of lines_by verdict_on verdict_by settled answer taken answers verdicts request_tests bill_causes request_causes file_causes cancel_causes close_causes causes cause next next_written next_verdicts outcome step after outcomes assigns assigned_in assigned sent_header sent_detail sent result_of table
cases-hold = (refl, (refl, (refl, (refl, (refl, (refl, (refl, (refl, (refl, (refl, (refl, tt)))))))))))

pub removals-hold : All Holds removal_table
unfolding digits number is_digit numeric part filled same_list field_of is_leap month_days is_date year_on days_of_years days_of_months day_number days_past is_rate_code terms_tests balanced sound_amounts sound_bill distinct book_tests records_from alike_fields spaces_from header detail_to_key bil_to_tiers bil_to_owed bil_header bil_detail bil cxl_header cxl_detail cxl acf_alike acf rej_alike rej_header is_blank from_back rej_detail rej_details rej records printable is_header is_detail good_record headed good_file leading groups file_groups unfit line1 line2 passes alike line3 line4 line5 line6 line7 line8 tier_consumptions tier_charges line9 line10 amounts_of lines_by verdict_on verdict_by settled answer taken answers verdicts request_tests bill_causes request_causes file_causes cancel_causes close_causes removal_causes causes cause next next_written next_verdicts outcome step after outcomes assigns assigned_in assigned sent_header sent_detail sent result_of removal_table
removals-hold =
    (refl, (refl, (refl, (refl, (refl, (refl, (refl, (refl, (refl, (refl, (refl, (refl, (refl, (refl, tt))))))))))))))
