-- What requests and cancels leave and write on small values: b stands at the place that was found. Assumes nothing.
use Rattle.std.specs.Prelude.{ℕ, ◌+◌, ◌≤◌, ◌<◌, ◌^◌, List, ℤ, pos, ◌-ℤ◌, Option, Some, None, Result, Ok, Err, ⊤}
use Rattle.units.specs.declared.Ccf.{Ccf}
use Rattle.ledger.specs.declared.Identity.{Identity}
use Rattle.ledger.specs.declared.Bill.{Bill}
use Rattle.ledger.specs.declared.LedgerHeader.{LedgerHeader}
use Rattle.ledger.specs.declared.Update.{Update}
use Rattle.ledger.specs.Bills.{renewed, cancelled_bill, blank_bill}
use Rattle.ledger.specs.Books.{bill_charge}
use Rattle.notices.specs.Notices.{bil, cxl}
use Rattle.rules.specs.Rules.{Rule}
use Rattle.group.specs.parts.Turns.{sought_by}
use Rattle.causes.specs.declared.Request.{Request}
use Rattle.causes.specs.declared.BillCall.{BillCall}
use Rattle.causes.specs.declared.BillCall.TheVariants as bill_call
use Rattle.causes.specs.Causes.{Call, request, cancel, request_causes, cancel_causes}
use Rattle.causes.specs.Requests.{latest_of, new_bill}
use Rattle.ledger.specs.Limits.{last_sequence}
use Rattle.rules.specs.declared.Cause.{Cause}

-- a bill held is as a sound ledger has it
abbrev pub SoundAt : Option ℕ → Bill → Type 0
SoundAt (Some p) b = (b.terms.requests ≤ b.terms.sequence) × (b.terms.sequence ≤ last_sequence)
SoundAt None b = Unit {0}

-- the same, with room for one request more
abbrev pub CanRenew : Option ℕ → Bill → Type 0
CanRenew (Some p) b = (b.terms.requests ≤ b.terms.sequence) × (b.terms.sequence ≤ 998)
CanRenew None b = Unit {0}

-- the bill as a request leaves it: "A new identity is added .. A known one takes the new values"
abbrev pub requested_by : Request → ℕ → Option ℕ → Bill → Bill
requested_by r tracking None b = new_bill r tracking
requested_by r tracking (Some p) b = renewed (latest_of r tracking) b

-- one bill more, where none was found
abbrev pub grown : Option ℕ → ℕ → ℕ
grown None n = n + 1
grown (Some p) n = n

-- "uses one of each number"
abbrev pub used_by : LedgerHeader → ℕ → LedgerHeader
used_by h n = record { today = h.today; tracking = h.tracking + 1; confirmation = h.confirmation + 1; count = n }

-- the consumption before a request, 0 on the first
abbrev pub previous_by : Option ℕ → Bill → Ccf
previous_by None b = blank_bill.terms.latest.consumption
previous_by (Some p) b = b.terms.latest.consumption

-- the BIL of a request: c is the bill as it is left
abbrev pub bil_by : LedgerHeader → Option ℕ → Bill → Bill → List ℕ
bil_by h f b c = bil (record { bill = c; previous = previous_by f b; today = h.today; confirmation = h.confirmation })

-- the CXL of a cancel
abbrev pub cxl_by : LedgerHeader → Bill → List ℕ
cxl_by h b = cxl (record { terms = b.terms; tracking = h.tracking; today = h.today; confirmation = h.confirmation })

-- ---- a request or a cancel, c
-- the call that it is, with so much room for its notice
abbrev pub as_call : BillCall → ℕ → Call
as_call (bill_call.Request r) room = request r room
as_call (bill_call.Cancel id) room = cancel id room

-- whose bill it is about
abbrev pub call_identity : BillCall → Identity
call_identity (bill_call.Request r) = r.identity
call_identity (bill_call.Cancel id) = id

-- its causes, by the header and the bill
abbrev pub causes_by : BillCall → ℕ → LedgerHeader → Option ℕ → Bill → List (Rule Cause)
causes_by (bill_call.Request r) room h f b = request_causes r room h.today h.tracking h.confirmation h.count (sought_by f b)
causes_by (bill_call.Cancel id) room h f b = cancel_causes id room h.tracking h.confirmation (sought_by f b)

-- the header and the bill that it leaves, where there is no cause
abbrev pub update_by : BillCall → LedgerHeader → Option ℕ → Bill → Update
update_by (bill_call.Request r) h f b = record { header = used_by h (grown f h.count); bill = requested_by r h.tracking f b }
update_by (bill_call.Cancel id) h f b = record { header = used_by h h.count; bill = cancelled_bill b }

-- the header and the bill that are left, or the cause
abbrev pub decided_by : Result ⊤ Cause → BillCall → LedgerHeader → Option ℕ → Bill → Result Update Cause
decided_by (Ok tt) c h f b = Ok (update_by c h f b)
decided_by (Err n) c h f b = Err n

-- the signed change: a cancel takes away what was posted
abbrev pub change_by : BillCall → Bill → ℤ
change_by (bill_call.Request r) b = pos 0
change_by (bill_call.Cancel id) b = pos 0 -ℤ pos (bill_charge b)

-- it can be told with a sign
abbrev pub ChangeFits : BillCall → Bill → Type 0
ChangeFits (bill_call.Request r) b = Unit {0}
ChangeFits (bill_call.Cancel id) b = bill_charge b < 2 ^ 63

-- its notice: k is the bill as it is left
abbrev pub notice_by : BillCall → LedgerHeader → Option ℕ → Bill → Bill → List ℕ
notice_by (bill_call.Request r) h f b k = bil_by h f b k
notice_by (bill_call.Cancel id) h f b k = cxl_by h b
