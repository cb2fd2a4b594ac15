-- "Lookups, journal and table": the open bill of an account that is due first, and the amounts of one bill. A lookup changes nothing. Assumes nothing.
use Rattle.std.specs.Prelude.{ℕ, Bool, not, ◌&&◌, List, [], ◌∷◌, eqb, ltb, Option, Some, None, Result, Ok, Err, ⊤}
use Rattle.fields.specs.Digits.{fits}
use Rattle.units.specs.declared.Date.{Date}
use Rattle.ledger.specs.declared.Identity.{Identity}
use Rattle.ledger.specs.declared.Posted.{Posted}
use Rattle.ledger.specs.declared.Bill.{Bill}
use Rattle.ledger.specs.declared.Ledger.{Ledger}
use Rattle.rules.specs.Lists.{has, find}
use Rattle.ledger.specs.Bills.{is_open, charge_of, applied_of, owed_of}
use Rattle.ledger.specs.Books.{live}
use Rattle.ledger.specs.Sound.{holds_id, sound_ledger}
use Rattle.rules.specs.Rules.{Rule, rule, first}
use Rattle.lookups.specs.declared.Amounts.{Amounts}
use Rattle.causes.specs.Causes.{good_identity}
use Rattle.calls.specs.Machine.{bill_of}
use Rattle.rules.specs.declared.Cause.{Cause}
use Rattle.rules.specs.declared.Cause.TheVariants.{BadArgument, NoSuchBill}

-- ---- "Open bill of an account: returns the place (from 0) of an open bill of it; .. 4 if there is none."
abbrev pub is_open_of : ℕ → Date → Bill → Bool
is_open_of account today b = eqb b.terms.identity.account account && is_open today b.terms

-- "Lookups: 2, 4."
unfoldable pub open_causes : Ledger → ℕ → List (Rule Cause)
open_causes l account =
    rule (not (sound_ledger l)) BadArgument
    ∷ rule (not (fits 12 account)) BadArgument
    ∷ rule (not (has (is_open_of account l.today) (live l))) NoSuchBill
    ∷ []

-- a bill's Scheduled Date
abbrev pub due : Bill → ℕ
due b = b.terms.latest.scheduled.0

-- o is an open bill of the account and due before b
abbrev pub is_due_before : ℕ → Date → Bill → Bill → Bool
is_due_before account today b o = is_open_of account today o && ltb (due o) (due b)

-- paper 3 of document 02, "It shall be the one with the earliest Scheduled Date": b is an open bill of the account, and none of bs is due before it
abbrev pub is_earliest : ℕ → Date → List Bill → Bill → Bool
is_earliest account today bs b = is_open_of account today b && not (has (is_due_before account today b) bs)

-- the cause's number, else the place that was found; that one is found where there is no cause is a theorem (`none_found`, proofs/EarliestLaws)
abbrev pub place_by : Result ⊤ Cause → Option ℕ → Result ℕ Cause
place_by (Err n) f = Err n
place_by (Ok tt) (Some p) = Ok p
place_by (Ok tt) None = Err NoSuchBill

-- ".. and of equals the one first requested": the bills stand "in order of first request", so it is the first of equals
unfoldable pub open_in : Ledger → ℕ → Result ℕ Cause
open_in l account = place_by (first (open_causes l account)) (find (is_earliest account l.today (live l)) 0 (live l))

-- ---- "Amounts of one bill: charge, applied and owed, zeros for none; 4 if unknown."
-- "Lookups: 2, 4."
unfoldable pub amount_causes : Ledger → Identity → List (Rule Cause)
amount_causes l id =
    rule (not (sound_ledger l)) BadArgument
    ∷ rule (not (good_identity id)) BadArgument
    ∷ rule (not (holds_id id (live l))) NoSuchBill
    ∷ []

abbrev pub counted_by : Posted → Amounts
counted_by p = record { charge = charge_of p; applied = applied_of p; owed = owed_of p }

abbrev pub amounts_by : Result ⊤ Cause → Posted → Result Amounts Cause
amounts_by (Ok tt) p = Ok (counted_by p)
amounts_by (Err n) p = Err n

unfoldable pub amounts_in : Ledger → Identity → Result Amounts Cause
amounts_in l id = amounts_by (first (amount_causes l id)) (bill_of id (live l)).posted
