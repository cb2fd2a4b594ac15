-- "Causes": the calls with their arguments, and the causes of each in its order, without the ledger part of 2. Assumes nothing.
use Rattle.std.specs.Prelude.{ℕ, ◌+◌, Bool, not, ◌&&◌, ◌||◌, List, [], ◌∷◌, ◌++◌, eqb, leb, ltb, length, get_or, Option, Some, None}
use Rattle.fields.specs.Digits.{fits}
use Rattle.fields.specs.Put.{same_list}
use Rattle.units.specs.declared.Date.{Date}
use Rattle.units.specs.Units.{fits_ccf}
use Rattle.units.specs.Calendar.{is_date, date_of}
use Rattle.calendar.specs.BusinessDays.{business_day, further_causes, number_in}
use Rattle.ledger.specs.declared.Identity.{Identity}
use Rattle.ledger.specs.declared.Product.TheVariants as product
use Rattle.rules.specs.Lists.{has, count, all}
use Rattle.ledger.specs.Bills.{is_of_account, is_rate_code, code_bytes, product_byte}
use Rattle.ledger.specs.Books.{View}
use Rattle.file.specs.File.{good_file, file_groups, asks_id}
use Rattle.rules.specs.Rules.{Rule, rule}
use Rattle.verdict.specs.Lines.{is_nothing, terms_of}
use Rattle.group.specs.Groups.{sought_in}
use Rattle.causes.specs.declared.Start.{Start}
use Rattle.causes.specs.declared.CodeField.{CodeField}
use Rattle.causes.specs.declared.Request.{Request}
use Rattle.causes.specs.declared.CalendarRequest.{CalendarRequest}
use Rattle.causes.specs.declared.AccountRemoval.{AccountRemoval}
use Rattle.ledger.specs.Limits.{ledger_places, last_sequence, last_number, used_up}
use Rattle.records.specs.Limits.{notice_size}
use Rattle.ledger.specs.declared.Terms.{Terms}
use Rattle.rules.specs.declared.Cause.TheVariants.{OutputTooSmall, BadArgument, LedgerFull, NoSuchBill, BillCancelled, OtherCodeOrProduct, ConsumptionUnchanged, SequenceUsedUp, ScheduledBeforeToday, NotAfterToday, BadFile, TooFewNumbers}
use Rattle.rules.specs.declared.Cause.{Cause}

-- "The list holds each call with its arguments, file bytes and the length of the output lent to it": room is that length. Paper 1 of document 02 adds the
-- request that leaves its Scheduled Date to the calendar, with the holidays lent to it; paper 2, "Demand 3's list and its history take in removals", the removal of an account
pub data Call : Type 0 where
  request : Request → ℕ → Call
  calendar : CalendarRequest → List ℕ → ℕ → Call
  file : List ℕ → ℕ → Call
  cancel : Identity → ℕ → Call
  close : Date → Call
  removal : AccountRemoval → Call

-- ---- 2: "a field too wide or not digits, no date, a bad rate code, a product neither B nor P, at fresh a next number 0 or over 999,999,999"
abbrev pub is_number : ℕ → Bool
is_number n = leb 1 n && leb n last_number

unfoldable pub start_tests : Start → List Bool
start_tests s = is_date s.today.0 ∷ is_number s.tracking ∷ is_number s.confirmation ∷ []

abbrev pub good_identity : Identity → Bool
good_identity id = fits 12 id.account && fits 4 id.key

abbrev pub is_product : ℕ → Bool
is_product x = eqb x (product_byte product.BillReady) || eqb x (product_byte product.Prepay)

-- the field that the first five bytes of a list are
abbrev pub code_field : List ℕ → CodeField
code_field xs = record { first = get_or xs 0 0; second = get_or xs 1 0; third = get_or xs 2 0; tens = get_or xs 3 0; ones = get_or xs 4 0 }

-- the five bytes of a rate code's field
abbrev pub five_of : CodeField → List ℕ
five_of x = x.first ∷ x.second ∷ x.third ∷ x.tens ∷ x.ones ∷ []

-- a request's fields but for its Scheduled Date, and all of them
abbrev pub undated_tests : Request → List Bool
undated_tests r =
    is_rate_code (five_of r.code)
    ∷ good_identity r.identity
    ∷ is_product r.product
    ∷ is_date r.billing.0
    ∷ is_date r.from.0
    ∷ fits_ccf r.consumption
    ∷ []

unfoldable pub request_tests : Request → List Bool
request_tests r = undated_tests r ++ (is_date r.scheduled.0 ∷ [])

-- ---- 12: "fewer numbers left than the request, cancel or file .. needs": t Tracking IDs and c Confirmation Numbers
abbrev pub lacks : ℕ → ℕ → ℕ → ℕ → Bool
lacks tracking confirmation t c = ltb used_up (tracking + t) || ltb used_up (confirmation + c)

-- ---- the causes of each call in their order
-- "Fresh: 2."
unfoldable pub fresh_causes : Start → List (Rule Cause)
fresh_causes s = rule (not (all (start_tests s))) BadArgument ∷ []

-- "5, 6, 7, 8 for a known bill or 3 for a new one", where so many bills are held
unfoldable pub bill_causes : Request → ℕ → Option Terms → List (Rule Cause)
bill_causes r held (Some t) =
    rule t.cancelled BillCancelled
    ∷ rule (not (same_list (five_of r.code) (code_bytes t.code) && eqb r.product (product_byte t.product))) OtherCodeOrProduct
    ∷ rule (eqb r.consumption.0 t.latest.consumption.0) ConsumptionUnchanged
    ∷ rule (eqb t.sequence last_sequence) SequenceUsedUp
    ∷ []
bill_causes r held None = rule (leb ledger_places held) LedgerFull ∷ []

-- "Request: 2, 1, 9, then 5, 6, 7, 8 for a known bill or 3 for a new one, 12."
abbrev pub causes_after2 : Request → ℕ → Date → ℕ → ℕ → ℕ → Option Terms → List (Rule Cause)
causes_after2 r room today tracking confirmation held b =
    rule (ltb room notice_size) OutputTooSmall
    ∷ rule (ltb r.scheduled.0 today.0) ScheduledBeforeToday
    ∷ (bill_causes r held b ++ (rule (lacks tracking confirmation 1 1) TooFewNumbers ∷ []))

unfoldable pub request_causes : Request → ℕ → Date → ℕ → ℕ → ℕ → Option Terms → List (Rule Cause)
request_causes r room today tracking confirmation held b =
    rule (not (all (request_tests r))) BadArgument ∷ causes_after2 r room today tracking confirmation held b

-- ---- paper 1 of document 02: the request by calendar
-- "A request may then leave its Scheduled Date to the calendar, counted from today": the request with the date worked out
abbrev pub on_date : Request → Date → Request
on_date r d =
    record {
      code = r.code;
      identity = r.identity;
      product = r.product;
      billing = r.billing;
      from = r.from;
      consumption = r.consumption;
      scheduled = d;
    }

abbrev pub worked_out : CalendarRequest → List ℕ → Date → Request
worked_out q hs today = on_date q.request (date_of (number_in (business_day hs today.0 q.number)))

-- "14, .. after 2 of the same call; 15, .. after 14; both before 1": 2, 14 and 15 of the request and of the business day counted from today
unfoldable pub schedule_causes : CalendarRequest → List ℕ → Date → List (Rule Cause)
schedule_causes q hs today = rule (not (all (undated_tests q.request))) BadArgument ∷ further_causes hs today.0 q.number

unfoldable pub calendar_causes : CalendarRequest → List ℕ → ℕ → Date → ℕ → ℕ → ℕ → Option Terms → List (Rule Cause)
calendar_causes q hs room today tracking confirmation held b =
    schedule_causes q hs today ++ causes_after2 (worked_out q hs today) room today tracking confirmation held b

-- ---- the other calls

-- "File: 2, 11, 1, 12.": "each group a Confirmation, each SUP header a Tracking"
unfoldable pub file_causes : List ℕ → ℕ → ℕ → ℕ → List (Rule Cause)
file_causes s room tracking confirmation =
    rule (not (good_file s)) BadFile
    ∷ rule (ltb room (length s)) OutputTooSmall
    ∷ rule (lacks tracking confirmation (count asks_id (file_groups s)) (length (file_groups s))) TooFewNumbers
    ∷ []

-- "Cancel: 2, 1, 4, 5, 12."
unfoldable pub cancel_causes : Identity → ℕ → ℕ → ℕ → Option Terms → List (Rule Cause)
cancel_causes id room tracking confirmation b =
    rule (not (good_identity id)) BadArgument
    ∷ rule (ltb room notice_size) OutputTooSmall
    ∷ rule (is_nothing b) NoSuchBill
    ∷ rule (terms_of b).cancelled BillCancelled
    ∷ rule (lacks tracking confirmation 1 1) TooFewNumbers
    ∷ []

-- "Close: 2, 10.": "date not after today"
unfoldable pub close_causes : Date → Date → List (Rule Cause)
close_causes d today = rule (not (is_date d.0)) BadArgument ∷ rule (not (ltb today.0 d.0)) NotAfterToday ∷ []

-- paper 2 of document 02: "The call gives 2, or 4 for an account without bills." held says that there is one
abbrev pub good_removal : AccountRemoval → Bool
good_removal a = fits 12 a.account && is_date a.date.0

unfoldable pub removal_causes : AccountRemoval → Bool → List (Rule Cause)
removal_causes a held = rule (not (good_removal a)) BadArgument ∷ rule (not held) NoSuchBill ∷ []

-- the causes of a call, read on a view
unfoldable pub causes : View → Call → List (Rule Cause)
causes v (request r room) =
    request_causes r room v.today v.tracking v.confirmation (length v.bills) (sought_in r.identity v.bills)
causes v (calendar q hs room) =
    calendar_causes q hs room v.today v.tracking v.confirmation (length v.bills) (sought_in q.request.identity v.bills)
causes v (file s room) = file_causes s room v.tracking v.confirmation
causes v (cancel id room) = cancel_causes id room v.tracking v.confirmation (sought_in id v.bills)
causes v (close d) = close_causes d v.today
causes v (removal a) = removal_causes a (has (is_of_account a.account) v.bills)
