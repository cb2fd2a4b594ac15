-- What a request gives a bill, and what requests and cancels leave and write, on small values: b stands at the place that was found. Assumes nothing.
use Rattle.std.specs.Prelude.{ℕ, Bool, not, ◌&&◌}
use Rattle.units.specs.declared.Date.{Date}
use Rattle.ledger.specs.declared.RateCode.{RateCode}
use Rattle.ledger.specs.declared.Latest.{Latest}
use Rattle.ledger.specs.declared.Bill.{Bill}
use Rattle.ledger.specs.Bills.{is_open, first_bill, product_of}
use Rattle.causes.specs.declared.CodeField.{CodeField}
use Rattle.causes.specs.declared.Request.{Request}

-- ---- what a request gives a bill
-- the rate code that five bytes hold, and the product that a byte holds
abbrev pub code_of : CodeField → RateCode
code_of x = record { first = x.first; second = x.second; tens = x.tens; ones = x.ones }

-- the five bytes of a rate code, the third a C
abbrev pub field_of_code : RateCode → CodeField
field_of_code c = record { first = c.first; second = c.second; third = 67; tens = c.tens; ones = c.ones }

-- "from its latest request the Tracking ID, consumption, Billing Date, From Date and Scheduled Date"
abbrev pub latest_of : Request → ℕ → Latest
latest_of r tracking =
    record {
      tracking = tracking;
      consumption = r.consumption;
      billing = r.billing;
      from = r.from;
      scheduled = r.scheduled;
    }

-- the bill of a new identity
abbrev pub new_bill : Request → ℕ → Bill
new_bill r tracking = first_bill r.identity (code_of r.code) (product_of r.product) (latest_of r tracking)

-- "how many bills were open before and are not after"
abbrev pub closes : Date → Date → Bill → Bool
closes old new b = is_open old b.terms && not (is_open new b.terms)
