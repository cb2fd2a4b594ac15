-- A bill: what it holds, what its amounts count for, its state, and how it changes. Assumes nothing.
use Rattle.std.specs.Prelude.{ℕ, ◌+◌, Bool, true, false, cond, not, ◌&&◌, ◌||◌, List, [], ◌∷◌, leb, eqb, length, get_or, Option, Some, None}
use Rattle.fields.specs.Digits.{is_digit}
use Rattle.units.specs.declared.Cents.{Cents}
use Rattle.units.specs.declared.Date.{Date}
use Rattle.ledger.specs.declared.Identity.{Identity}
use Rattle.ledger.specs.declared.RateCode.{RateCode}
use Rattle.ledger.specs.declared.Product.{Product}
use Rattle.ledger.specs.declared.Product.TheVariants as product
use Rattle.ledger.specs.declared.Posted.{Posted}
use Rattle.ledger.specs.declared.Posted.TheVariants as posted
use Rattle.ledger.specs.declared.Latest.{Latest}
use Rattle.ledger.specs.declared.Terms.{Terms}
use Rattle.ledger.specs.declared.Bill.{Bill}
use Rattle.ledger.specs.declared.State.{State}
use Rattle.ledger.specs.declared.State.TheVariants.{Open, Issued, Cancelled}

-- ---- what a bill holds
-- "A bill is identified by Customer Account Number (12 digits) and Bill Key (4).": the bill has this identity
abbrev pub is_of : Identity → Terms → Bool
is_of id t = eqb t.identity.account id.account && eqb t.identity.key id.key

-- the bill is of this account
abbrev pub is_of_account : ℕ → Terms → Bool
is_of_account account t = eqb t.identity.account account

abbrev pub is_letter : ℕ → Bool
is_letter x = leb 65 x && leb x 90

-- "its rate code (two of A-Z or 0-9, then C, then two digits)", as bytes
unfoldable pub is_rate_code : List ℕ → Bool
is_rate_code r =
    eqb (length r) 5
    && (is_letter (get_or r 0 0) || is_digit (get_or r 0 0))
    && (is_letter (get_or r 1 0) || is_digit (get_or r 1 0))
    && eqb (get_or r 2 0) 67
    && is_digit (get_or r 3 0)
    && is_digit (get_or r 4 0)

-- the bytes of a rate code
abbrev pub code_bytes : RateCode → List ℕ
code_bytes c = c.first ∷ c.second ∷ 67 ∷ c.tens ∷ c.ones ∷ []

abbrev pub is_prepay : Product → Bool
is_prepay product.BillReady = false
is_prepay product.Prepay = true

-- "B or P"
abbrev pub product_byte : Product → ℕ
product_byte product.BillReady = 66
product_byte product.Prepay = 80

-- the product that a byte holds
abbrev pub product_of : ℕ → Product
product_of x = cond (eqb x (product_byte product.Prepay)) product.Prepay product.BillReady

-- ---- its state
-- "open while today is at or before the Scheduled Date", if it is not cancelled
abbrev pub is_open : Date → Terms → Bool
is_open today t = not t.cancelled && leb today.0 t.latest.scheduled.0

-- "It is cancelled if marked; else open while today is at or before the Scheduled Date; else issued."
unfoldable pub state_of : Date → Terms → State
state_of today t = cond t.cancelled Cancelled (cond (is_open today t) Open Issued)

-- ---- its posted amounts
abbrev pub cents : ℕ → Cents
cents n = record { 0 = n }

-- "None counts as zeros; for Bill Ready applied is 0 and owed is the charge."
abbrev pub charge_of : Posted → Cents
charge_of posted.None = cents 0
charge_of (posted.BillReady charge) = charge
charge_of (posted.Prepay charge applied owed) = charge

abbrev pub applied_of : Posted → Cents
applied_of posted.None = cents 0
applied_of (posted.BillReady charge) = cents 0
applied_of (posted.Prepay charge applied owed) = applied

abbrev pub owed_of : Posted → Cents
owed_of posted.None = cents 0
owed_of (posted.BillReady charge) = charge
owed_of (posted.Prepay charge applied owed) = owed

-- ---- how it changes
-- terms with this sequence, count of requests, mark, latest request and removal date: whatever changes a bill's terms says so by this
abbrev pub moved : ℕ → ℕ → Bool → Latest → Option Date → Terms → Terms
moved sequence requests cancelled latest removal t =
    record {
      identity = t.identity;
      code = t.code;
      product = t.product;
      sequence = sequence;
      requests = requests;
      cancelled = cancelled;
      latest = latest;
      removal = removal;
    }

-- "A new identity is added with sequence and count 1." Paper 2 of document 02: "A bill record gains a removal date, empty until a removal call sets it"
abbrev pub first_bill : Identity → RateCode → Product → Latest → Bill
first_bill id code p latest =
    record {
      terms =
          record {
            identity = id;
            code = code;
            product = p;
            sequence = 1;
            requests = 1;
            cancelled = false;
            latest = latest;
            removal = None;
          };
      posted = posted.None;
    }

-- "A known one takes the new values, sequence and count each rising by 1; posted amounts stay."
abbrev pub renewed : Latest → Bill → Bill
renewed latest b =
    record {
      terms = moved (b.terms.sequence + 1) (b.terms.requests + 1) b.terms.cancelled latest b.terms.removal b.terms;
      posted = b.posted;
    }

-- "The group's amounts replace the posted ones; a SUP also raises the sequence by 1"
abbrev pub posting : Posted → Bool → Bill → Bill
posting amounts sup b =
    record {
      terms =
          moved (cond sup (b.terms.sequence + 1) b.terms.sequence) b.terms.requests b.terms.cancelled b.terms.latest
          b.terms.removal b.terms;
      posted = amounts;
    }

-- Cancel: "marks the bill, its posted amounts become none"
abbrev pub cancelled_bill : Bill → Bill
cancelled_bill b =
    record {
      terms = moved b.terms.sequence b.terms.requests true b.terms.latest b.terms.removal b.terms;
      posted = posted.None;
    }

-- paper 2 of document 02: "a removal call sets it .., replacing any earlier one"
abbrev pub removed_terms : Date → Terms → Terms
removed_terms date t = moved t.sequence t.requests t.cancelled t.latest (Some date) t

abbrev pub removed_bill : Date → Bill → Bill
removed_bill date b = record { terms = removed_terms date b.terms; posted = b.posted }

-- what stands in a place that no bill was put in yet
abbrev pub blank_bill : Bill
blank_bill =
    record {
      terms =
          record {
            identity = record { account = 0; key = 0 };
            code = record { first = 0; second = 0; tens = 0; ones = 0 };
            product = product.BillReady;
            sequence = 0;
            requests = 0;
            cancelled = false;
            latest =
                record {
                  tracking = 0;
                  consumption = record { 0 = 0 };
                  billing = record { 0 = 0 };
                  from = record { 0 = 0 };
                  scheduled = record { 0 = 0 };
                };
            removal = None;
          };
      posted = posted.None;
    }
