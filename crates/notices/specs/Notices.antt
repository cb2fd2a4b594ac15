-- "Notices": BIL and CXL, field by field in the order of positions. Assumes nothing.
use Rattle.std.specs.Prelude.{ℕ, ◌-◌, Bool, cond, List, [], ◌∷◌, ◌++◌}
use Rattle.fields.specs.Text.{text}
use Rattle.fields.specs.Digits.{digits}
use Rattle.fields.specs.Put.{filled}
use Rattle.units.specs.declared.Date.{Date}
use Rattle.ledger.specs.declared.Terms.{Terms}
use Rattle.ledger.specs.Bills.{code_bytes, charge_of, is_prepay}
use Rattle.records.specs.Limits.{record_size}
use Rattle.notices.specs.declared.Alike.{Alike}
use Rattle.notices.specs.declared.bil.Bil.{Bil}
use Rattle.notices.specs.declared.cxl.Cxl.{Cxl}

-- n spaces, n zeros
abbrev pub spaces : ℕ → List ℕ
spaces n = filled n 32

abbrev pub zeros : ℕ → List ℕ
zeros n = filled n 48

-- "spaces from 61", and "Each record ends in byte 13": what stands from position a of a record to its end
unfoldable pub spaces_from : ℕ → List ℕ
spaces_from a = spaces (record_size - a) ++ (13 ∷ [])

-- ---- our own records
-- "1-41 alike": Company, rate code, account, Tracking ID, type, Notification Code, and "Transmission Date is today"
unfoldable pub alike_fields : Alike → List ℕ → List ℕ → List ℕ
alike_fields l type notice =
    text "34"
    ++ code_bytes l.code
    ++ digits 12 l.account
    ++ digits 9 l.tracking
    ++ type
    ++ notice
    ++ digits 8 l.today.0

-- those of a record about a bill with these terms, under this Tracking ID
abbrev pub alike_for : Terms → ℕ → Date → Alike
alike_for t id day = record { code = t.code; account = t.identity.account; tracking = id; today = day }

-- a header: Confirmation Number, Scheduled Date, "Record Count 01, spaces from 61"
unfoldable pub header : Alike → List ℕ → ℕ → ℕ → List ℕ
header l notice confirmation scheduled =
    alike_fields l (text "01") notice ++ digits 9 confirmation ++ digits 8 scheduled ++ text "01" ++ spaces_from 61

-- "detail to position 45": the Bill Key
unfoldable pub detail_to_key : Alike → List ℕ → ℕ → List ℕ
detail_to_key l notice key = alike_fields l (text "02") notice ++ digits 4 key

-- ---- BIL
abbrev pub bil_alike : Bil → Alike
bil_alike b = alike_for b.bill.terms b.bill.terms.latest.tracking b.today

unfoldable pub bil_header : Bil → List ℕ
bil_header b = header (bil_alike b) (text "BIL") b.confirmation b.bill.terms.latest.scheduled.0

-- the detail to position 207: Billing Date, sequence, consumption, "charge .. zeros", From Date, "88-207 zeros"
unfoldable pub bil_to_tiers : Bil → List ℕ
bil_to_tiers b =
    detail_to_key (bil_alike b) (text "BIL") b.bill.terms.identity.key
    ++ digits 8 b.bill.terms.latest.billing.0
    ++ digits 3 b.bill.terms.sequence
    ++ digits 10 b.bill.terms.latest.consumption.0
    ++ zeros 13
    ++ digits 8 b.bill.terms.latest.from.0
    ++ zeros 120

-- "234-259 zeros for Prepay and spaces for Bill Ready"
abbrev pub product_fill : Bool → ℕ
product_fill prepay = cond prepay 48 32

-- the detail to position 259: "previous sequence the count of requests, previous consumption the former one (0 on the first),
-- previous charge the posted one"
unfoldable pub bil_to_owed : Bil → List ℕ
bil_to_owed b =
    bil_to_tiers b
    ++ digits 3 b.bill.terms.requests
    ++ digits 10 b.previous.0
    ++ digits 13 (charge_of b.bill.posted).0
    ++ filled 26 (product_fill (is_prepay b.bill.terms.product))

-- "spaces from 260"
unfoldable pub bil_detail : Bil → List ℕ
bil_detail b = bil_to_owed b ++ spaces_from 260

unfoldable pub bil : Bil → List ℕ
bil b = bil_header b ++ bil_detail b

-- ---- CXL: "header with Scheduled Date 00000000, Record Count 01; detail to position 45; all else spaces"
abbrev pub cxl_alike : Cxl → Alike
cxl_alike x = alike_for x.terms x.tracking x.today

unfoldable pub cxl_header : Cxl → List ℕ
cxl_header x = header (cxl_alike x) (text "CXL") x.confirmation 0

unfoldable pub cxl_detail : Cxl → List ℕ
cxl_detail x = detail_to_key (cxl_alike x) (text "CXL") x.terms.identity.key ++ spaces_from 46

unfoldable pub cxl : Cxl → List ℕ
cxl x = cxl_header x ++ cxl_detail x
