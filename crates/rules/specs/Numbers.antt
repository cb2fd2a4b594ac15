-- The numbers that the documents give: each cause against a call, and each error code of a REJ. Assumes nothing.
use Rattle.std.specs.Prelude.{ℕ}
use Rattle.rules.specs.declared.Cause.{Cause}
use Rattle.rules.specs.declared.Cause.TheVariants.{OutputTooSmall, BadArgument, LedgerFull, NoSuchBill, BillCancelled, OtherCodeOrProduct, ConsumptionUnchanged, SequenceUsedUp, ScheduledBeforeToday, NotAfterToday, BadFile, TooFewNumbers, BadEntry, BadHolidays, NoSuchDay}
use Rattle.rules.specs.declared.ErrorCode.{ErrorCode}
use Rattle.rules.specs.declared.ErrorCode.TheVariants.{Br01, Br05, Br06, Br07, Br08, Br09, Br10, Br11, Br12, Br13, Br14, Br16, Br17, Br19, Br20, Br21, Br22, Br23, Br24, Br25, Br26}

abbrev pub cause_number : Cause → ℕ
-- "file, request or cancel: output under the file's length, or under 642"
cause_number OutputTooSmall = 1
-- "a ledger that isn't sound (fresh reads none), a field too wide or not digits, no date, a bad rate code, a product neither B nor P, at fresh a next number 0
-- or over 999,999,999"
cause_number BadArgument = 2
-- "new identity, 128 bills held"
cause_number LedgerFull = 3
-- "no such bill"
cause_number NoSuchBill = 4
-- "bill cancelled"
cause_number BillCancelled = 5
-- "rate code or product not the bill's"
cause_number OtherCodeOrProduct = 6
-- "consumption unchanged"
cause_number ConsumptionUnchanged = 7
-- "sequence 999 at a request"
cause_number SequenceUsedUp = 8
-- "Scheduled Date before today"
cause_number ScheduledBeforeToday = 9
-- "close: date not after today"
cause_number NotAfterToday = 10
-- "file: length no multiple of 321 or over 64,200, a byte or type not as above, first record no header"
cause_number BadFile = 11
-- "fewer numbers left than the request, cancel or file (each group a Confirmation, each SUP header a Tracking) needs"
cause_number TooFewNumbers = 12
-- "journal entry bad"
cause_number BadEntry = 13
-- paper 1 of document 02: "14, the holidays don't strictly rise, are over 64 or one is no date"
cause_number BadHolidays = 14
-- paper 1 of document 02: "15, no such day up to 29991231"
cause_number NoSuchDay = 15

-- "error code at 260-263": BR and two digits
abbrev pub code_number : ErrorCode → ℕ
code_number Br01 = 1
code_number Br05 = 5
code_number Br06 = 6
code_number Br07 = 7
code_number Br08 = 8
code_number Br09 = 9
code_number Br10 = 10
code_number Br11 = 11
code_number Br12 = 12
code_number Br13 = 13
code_number Br14 = 14
code_number Br16 = 16
code_number Br17 = 17
code_number Br19 = 19
code_number Br20 = 20
code_number Br21 = 21
code_number Br22 = 22
code_number Br23 = 23
code_number Br24 = 24
code_number Br25 = 25
code_number Br26 = 26
