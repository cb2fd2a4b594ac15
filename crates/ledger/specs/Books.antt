-- The ledger as a book: "today, the next Tracking ID, the next Confirmation Number .. and up to 128 bills in order of first request".
-- Assumes nothing.
use Rattle.std.specs.Prelude.{ℕ, Bool, cond, List, map, ◌++◌, length, take, drop, replicate, Option}
use Rattle.units.specs.declared.Date.{Date}
use Rattle.units.specs.Units.{fits_cents}
use Rattle.ledger.specs.declared.Identity.{Identity}
use Rattle.ledger.specs.declared.Terms.{Terms}
use Rattle.ledger.specs.declared.Bill.{Bill}
use Rattle.ledger.specs.declared.Ledger.{Ledger}
use Rattle.ledger.specs.declared.LedgerHeader.{LedgerHeader}
use Rattle.rules.specs.Lists.{sum, find}
use Rattle.ledger.specs.Bills.{is_of, is_of_account, charge_of, removed_bill, blank_bill}
use Rattle.ledger.specs.Limits.{ledger_places}

-- what document 01 calls a ledger
pub record Book : Type 0 where
  pub today : Date
  pub tracking : ℕ
  pub confirmation : ℕ
  pub bills : List Bill

-- the bills that the struct holds: the first `count` of its places
abbrev pub live : Ledger → List Bill
live l = take l.count l.bills

-- the book that the struct holds
abbrev pub book : Ledger → Book
book l = record { today = l.today; tracking = l.next_tracking; confirmation = l.next_confirmation; bills = live l }

-- the struct with this header and these bills
abbrev pub with_bills : LedgerHeader → List Bill → Ledger
with_bills h bs =
    record {
      today = h.today;
      next_tracking = h.tracking;
      next_confirmation = h.confirmation;
      count = h.count;
      bills = bs;
    }

-- a ledger without the posted amounts: what the rules read
pub record View : Type 0 where
  pub today : Date
  pub tracking : ℕ
  pub confirmation : ℕ
  pub bills : List Terms

abbrev pub bill_terms : Bill → Terms
bill_terms b = b.terms

abbrev pub view : Book → View
view l = record { today = l.today; tracking = l.tracking; confirmation = l.confirmation; bills = map bill_terms l.bills }

-- the struct that holds the book k and, past its bills, what l held
abbrev pub stored : Ledger → Book → Ledger
stored l k =
    with_bills (record { today = k.today; tracking = k.tracking; confirmation = k.confirmation; count = length k.bills })
    (k.bills ++ drop (length k.bills) l.bills)

-- a bill has this identity
abbrev pub of_id : Identity → Bill → Bool
of_id id b = is_of id b.terms

-- a bill is of this account
abbrev pub of_account : ℕ → Bill → Bool
of_account account b = is_of_account account b.terms

-- paper 2 of document 02: "a removal call sets it on all bills of an account, replacing any earlier one"
abbrev pub removed_of : ℕ → Date → Bill → Bill
removed_of account date b = cond (of_account account b) (removed_bill date b) b

-- the place of the bill with this identity
abbrev pub place_of : Identity → List Bill → Option ℕ
place_of id bs = find (of_id id) 0 bs

-- the charge that a bill counts for, and whether it is in its width
abbrev pub bill_charge : Bill → ℕ
bill_charge b = (charge_of b.posted).0

abbrev pub small_charge : Bill → Bool
small_charge b = fits_cents (charge_of b.posted)

-- "total sums the charges"
abbrev pub total_of : List Bill → ℕ
total_of bs = sum bill_charge bs

-- ---- the struct after a change
-- with no bills
abbrev pub empty_ledger : Date → ℕ → ℕ → Ledger
empty_ledger today tracking confirmation =
    with_bills (record { today = today; tracking = tracking; confirmation = confirmation; count = 0 }) (replicate ledger_places blank_bill)
