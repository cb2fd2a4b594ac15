-- Document 01's example from a journal's bytes to the table's, by computation. Assumes nothing.
use mathlib.Core.Path.{refl, ap, ◌∙◌}
use lib.ListN.{length}
use borrow.Author.Tests.{le-ltb}
use Rattle.fields.specs.Digits.{digits, number, is_digit, numeric}
use Rattle.fields.specs.Put.{part, put, filled, same_list}
use Rattle.fields.specs.Field.{field_of}
use Rattle.units.specs.Calendar.{is_leap, month_days, is_date}
use Rattle.ledger.specs.Bills.{is_rate_code, state_of}
use Rattle.ledger.specs.Sound.{terms_tests, balanced, sound_amounts, sound_bill, distinct, book_tests}
use Rattle.records.specs.Layout.{records_from}
use Rattle.file.specs.File.{records, printable, is_header, is_detail, good_record, headed, good_file, leading, groups, file_groups, unfit, line1, line2, passes, alike, line3}
use Rattle.records.specs.Tiers.{tier_consumptions, tier_charges}
use Rattle.verdict.specs.Lines.{line4, line5, line6, line7, line8, line9, line10, amounts_of}
use Rattle.group.specs.Groups.{lines_by, verdict_on, verdict_by, settled, taken}
use Rattle.causes.specs.Causes.{start_tests, request_tests, fresh_causes, bill_causes, request_causes, file_causes, causes}
use Rattle.calls.specs.Machine.{cause, next, outcome, step, after}
use Rattle.table.specs.Table.{cell, ended, heading, terms_cells, amount_cells, state_cell, line_of, total_line, stop_line, table_of}
use Rattle.journal.specs.Entries.{fresh_body, request_body, cancel_body, close_body, body_of, good_length, head_by, head_of}
use Rattle.journal.specs.Journal.{parse_up_to, parse, after_entries, ends_bad, journal_ledger, is_bad}
use Rattle.report.specs.Report.{posted_of, reported}
use Rattle.statements.specs.Example.{example_journal, refused_journal, ExamplePosted, ExampleWritten}

pub example-posted : ExamplePosted
unfolding digits number is_digit numeric part filled same_list field_of is_leap month_days is_date is_rate_code state_of terms_tests balanced sound_amounts sound_bill distinct book_tests records_from records printable is_header is_detail good_record headed good_file leading groups file_groups unfit line1 line2 passes alike line3 line4 line5 line6 line7 line8 tier_consumptions tier_charges line9 line10 amounts_of lines_by verdict_on verdict_by settled taken start_tests request_tests fresh_causes bill_causes request_causes file_causes causes cause next outcome step after cell ended heading terms_cells amount_cells state_cell line_of total_line stop_line table_of fresh_body request_body cancel_body close_body body_of good_length head_by head_of parse_up_to parse after_entries ends_bad journal_ledger is_bad posted_of example_journal refused_journal
example-posted = record { size = refl; table = refl; stopped = refl; empty = refl; refused = refl }

pub example-written : ExampleWritten
unfolding reported
example-written out₀ out r room w =
    w.bytes ∙ rw (le-ltb (length out₀) 10970 room) (ap (put out₀ 0) example-posted.table)
