-- "The ledger and its calls": what each call returns, writes and leaves. Assumes nothing.
use Rattle.std.specs.Prelude.{ℕ, ◌+◌, ◌≡◌, true, cond, List, [], ◌∷◌, ◌++◌, map, length, ℤ, pos, ◌-ℤ◌, Result, Ok, Err, ⊤}
use Rattle.ledger.specs.declared.Identity.{Identity}
use Rattle.ledger.specs.declared.Bill.{Bill}
use Rattle.ledger.specs.declared.Ledger.{Ledger}
use Rattle.rules.specs.Lists.{count, update}
use Rattle.ledger.specs.Bills.{renewed, cancelled_bill, blank_bill}
use Rattle.ledger.specs.Books.{Book, book, view, stored, of_id, removed_of, total_of}
use Rattle.ledger.specs.Sound.{holds_id, sound, sound_ledger}
use Rattle.notices.specs.Notices.{bil, cxl}
use Rattle.file.specs.File.{file_groups}
use Rattle.rules.specs.Rules.{first}
use Rattle.group.specs.Groups.{taken, answers, verdicts, is_accepted, is_rejected}
use Rattle.causes.specs.declared.Start.{Start}
use Rattle.causes.specs.declared.Request.{Request}
use Rattle.calls.specs.declared.Called.{Called}
use Rattle.causes.specs.Causes.{Call, request, calendar, file, cancel, close, removal, causes, worked_out}
use Rattle.causes.specs.Requests.{latest_of, new_bill, closes}
use Rattle.ledger.specs.declared.Posted.{Posted}
use Rattle.rules.specs.declared.Cause.{Cause}
use Rattle.rules.specs.declared.ErrorCode.{ErrorCode}
use Rattle.calls.specs.declared.Returned.{Returned}
use Rattle.rules.specs.declared.Cause.TheVariants.{BadArgument}

-- "a ledger that isn't sound" is 2; then the causes of the call in their order
unfoldable pub cause : Book → Call → Result ⊤ Cause
cause l c = cond (sound l) (first (causes (view l) c)) (Err BadArgument)

-- ---- the bill of an identity
-- the bill with this identity; a blank one stands where there is none
abbrev pub bill_of : Identity → List Bill → Bill
bill_of id [] = blank_bill
bill_of id (b ∷ bs) = cond (of_id id b) b (bill_of id bs)

-- the bill as a request leaves it: "A new identity is added .. A known one takes the new values"
abbrev pub requested : Request → Book → Bill
requested r l =
    cond (holds_id r.identity l.bills) (renewed (latest_of r l.tracking) (bill_of r.identity l.bills)) (new_bill r l.tracking)

-- ---- what a call does that has no cause against it
-- it "uses one of each number"
abbrev pub numbered : Book → List Bill → Book
numbered l bills = record { today = l.today; tracking = l.tracking + 1; confirmation = l.confirmation + 1; bills = bills }

-- the ledger that a request leaves
abbrev pub next_requested : Book → Request → Book
next_requested l r =
    numbered l
    (cond (holds_id r.identity l.bills)
    (update (of_id r.identity) (renewed (latest_of r l.tracking)) l.bills)
    (l.bills ++ (new_bill r l.tracking ∷ [])))

-- the ledger that a call leaves: a request by calendar that of the request with the date worked out; a removal sets its date "on all bills of an account,
-- replacing any earlier one"
unfoldable pub next : Book → Call → Book
next l (request r room) = next_requested l r
next l (calendar q hs room) = next_requested l (worked_out q hs l.today)
next l (file s room) = taken [] l (file_groups s)
next l (cancel id room) = numbered l (update (of_id id) cancelled_bill l.bills)
next l (close d) = record { today = d; tracking = l.tracking; confirmation = l.confirmation; bills = l.bills }
next l (removal a) =
    record {
      today = l.today;
      tracking = l.tracking;
      confirmation = l.confirmation;
      bills = map (removed_of a.account a.date) l.bills;
    }

-- the bytes that it writes: a request "writes a BIL", a file the answers to its groups, a cancel "writes a CXL"
abbrev pub bil_requested : Book → Request → List ℕ
bil_requested l r =
    bil
    (record {
      bill = requested r l;
      previous = (bill_of r.identity l.bills).terms.latest.consumption;
      today = l.today;
      confirmation = l.confirmation;
    })

unfoldable pub next_written : Book → Call → List ℕ
next_written l (request r room) = bil_requested l r
next_written l (calendar q hs room) = bil_requested l (worked_out q hs l.today)
next_written l (file s room) = answers [] l (file_groups s)
next_written l (cancel id room) =
    cxl
    (record {
      terms = (bill_of id l.bills).terms;
      tracking = l.tracking;
      today = l.today;
      confirmation = l.confirmation;
    })
next_written l (close d) = []
next_written l (removal a) = []

-- the length of the output lent to it; a close and a removal are lent none
abbrev pub room_of : Call → ℕ
room_of (request r room) = room
room_of (calendar q hs room) = room
room_of (file s room) = room
room_of (cancel id room) = room
room_of (close d) = 0
room_of (removal a) = 0

-- the verdicts of a file's groups
unfoldable pub next_verdicts : Book → Call → List (Result Posted ErrorCode)
next_verdicts l (request r room) = []
next_verdicts l (calendar q hs room) = []
next_verdicts l (file s room) = verdicts [] l (file_groups s)
next_verdicts l (cancel id room) = []
next_verdicts l (close d) = []
next_verdicts l (removal a) = []

unfoldable pub next_closed : Book → Call → ℕ
next_closed l (request r room) = 0
next_closed l (calendar q hs room) = 0
next_closed l (file s room) = 0
next_closed l (cancel id room) = 0
next_closed l (close d) = count (closes l.today d) l.bills
next_closed l (removal a) = 0

-- ---- a call
-- the total of the posted table
abbrev pub total : Book → ℕ
total l = total_of l.bills

-- what a call comes to: whether it was carried out (Clear) or refused with a number (Stop), the ledger, "the signed change: new posted total
-- minus old", the bytes written, the verdicts of a file's groups with how many it accepted and rejected, how many bills a close closed
pub record Outcome : Type 0 where
  pub result : Result ⊤ Cause
  pub ledger : Book
  pub change : ℤ
  pub written : List ℕ
  pub verdicts : List (Result Posted ErrorCode)
  pub accepted : ℕ
  pub rejected : ℕ
  pub closed : ℕ

-- "Returned is the number alone; ledger and output stay as they were."
unfoldable pub outcome : Book → Call → Result ⊤ Cause → Outcome
outcome l c (Ok tt) =
    record {
      result = Ok tt;
      ledger = next l c;
      change = pos (total (next l c)) -ℤ pos (total l);
      written = next_written l c;
      verdicts = next_verdicts l c;
      accepted = count is_accepted (next_verdicts l c);
      rejected = count is_rejected (next_verdicts l c);
      closed = next_closed l c;
    }
outcome l c (Err n) =
    record { result = Err n; ledger = l; change = pos 0; written = []; verdicts = []; accepted = 0; rejected = 0; closed = 0 }

unfoldable pub step : Book → Call → Outcome
step l c = outcome l c (cause l c)

-- Fresh: "takes today and the two next numbers; whatever the ledger held is gone"
abbrev pub fresh : Start → Book
fresh s = record { today = s.today; tracking = s.tracking; confirmation = s.confirmation; bills = [] }

-- ---- a list of calls, "each on the ledger that the one before left"
-- the ledger after them
unfoldable pub after : Book → List Call → Book
after l [] = l
after l (c ∷ cs) = after (step l c).ledger cs

-- what they came to
unfoldable pub outcomes : Book → List Call → List Outcome
outcomes l [] = []
outcomes l (c ∷ cs) = step l c ∷ outcomes (step l c).ledger cs

-- ---- the same on the struct, whose count may be past its places: then it is not sound
unfoldable pub cause_in : Ledger → Call → Result ⊤ Cause
cause_in l c = cond (sound_ledger l) (first (causes (view (book l)) c)) (Err BadArgument)

unfoldable pub step_in : Ledger → Call → Outcome
step_in l c = outcome (book l) c (cause_in l c)

-- the struct that it leaves: past its bills it holds what it held
unfoldable pub left_by : Ledger → Call → Result ⊤ Cause → Ledger
left_by l c (Ok tt) = stored l (next (book l) c)
left_by l c (Err n) = l

-- document 01's number and values for each case of the answer
unfoldable pub answer_by : Outcome → Result ⊤ Cause → Result Returned Cause
answer_by o (Ok tt) =
    Ok
    (record {
      change = o.change;
      written = length o.written;
      accepted = o.accepted;
      rejected = o.rejected;
      closed = o.closed;
    })
answer_by o (Err n) = Err n

-- what a call by value gives back
unfoldable pub called : Ledger → Call → Called
called l c = record { ledger = left_by l c (cause_in l c); answer = answer_by (step_in l c) (cause_in l c) }

-- ---- a list of calls by value, each on the struct that the one before left
-- the struct after them
unfoldable pub ran : Ledger → List Call → Ledger
ran l [] = l
ran l (c ∷ cs) = ran (called l c).ledger cs

-- what is read off each of them
unfoldable pub each_called : {A : Type 0} → (Ledger → Call → A) → Ledger → List Call → List A
each_called read l [] = []
each_called read l (c ∷ cs) = read l c ∷ each_called read (called l c).ledger cs

-- they do what the machine does to the book that the struct holds
pub record Runs (l : Ledger) (cs : List Call) : Type 0 where
  pub ledger : book (ran l cs) ≡ after (book l) cs
  pub answers : each_called (λ k c. (called k c).answer) l cs ≡ map (λ (o : Outcome). answer_by o o.result) (outcomes (book l) cs)
  pub written : each_called (λ k c. (step_in k c).written) l cs ≡ map (λ (o : Outcome). o.written) (outcomes (book l) cs)
  pub kept : sound_ledger (ran l cs) ≡ true
