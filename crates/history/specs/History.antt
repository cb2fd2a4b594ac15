-- "From fresh's arguments and that list alone the history works out today, the next numbers, the bills with every field but the posted
-- amounts, and a list of postings": it reads causes and verdicts on its own bills, with the machine's words for a bill's fields, and moves by its own
-- definitions. Assumes nothing.
use Rattle.std.specs.Prelude.{ℕ, ◌+◌, Bool, true, false, cond, List, [], ◌∷◌, ◌++◌, eqb, Some, None, Result, Ok, Err, ⊤}
use Rattle.units.specs.Calendar.{date_of}
use Rattle.calendar.specs.BusinessDays.{business_day, number_in}
use Rattle.ledger.specs.declared.Identity.{Identity}
use Rattle.ledger.specs.declared.Latest.{Latest}
use Rattle.ledger.specs.declared.Terms.{Terms}
use Rattle.rules.specs.Lists.{has, sum, update}
use Rattle.ledger.specs.Bills.{is_of, moved, product_of}
use Rattle.ledger.specs.Books.{View}
use Rattle.file.specs.File.{Group, file_groups, detail_of, asks_id}
use Rattle.rules.specs.Rules.{first}
use Rattle.verdict.specs.Lines.{sent_charge}
use Rattle.group.specs.Groups.{identity_of, verdict}
use Rattle.causes.specs.declared.Start.{Start}
use Rattle.causes.specs.declared.Request.{Request}
use Rattle.causes.specs.declared.CalendarRequest.{CalendarRequest}
use Rattle.causes.specs.declared.AccountRemoval.{AccountRemoval}
use Rattle.causes.specs.Causes.{Call, request, calendar, file, cancel, close, removal, causes}
use Rattle.causes.specs.Requests.{code_of}
use Rattle.ledger.specs.declared.Posted.{Posted}
use Rattle.rules.specs.declared.Cause.{Cause}
use Rattle.rules.specs.declared.ErrorCode.{ErrorCode}

-- "postings, each a bill and a charge"
pub record Posting : Type 0 where
  pub identity : Identity
  pub charge : ℕ

-- the postings stand with the latest first
pub record History : Type 0 where
  pub now : View
  pub postings : List Posting

-- "bills and postings are empty at first"
abbrev pub begun : Start → History
begun s =
    record { now = record { today = s.today; tracking = s.tracking; confirmation = s.confirmation; bills = [] }; postings = [] }

-- ---- "The history's sum takes for each bill the charge of its last posting, or 0 if there is none or the bill is cancelled."
abbrev pub last_charge : Terms → List Posting → ℕ
last_charge t [] = 0
last_charge t (p ∷ ps) = cond (is_of p.identity t) p.charge (last_charge t ps)

abbrev pub counted_charge : List Posting → Terms → ℕ
counted_charge ps t = cond t.cancelled 0 (last_charge t ps)

unfoldable pub history_sum : History → ℕ
history_sum h = sum (counted_charge h.postings) h.now.bills

-- ---- "a request adds or renews its bill, a cancel marks it, a close sets today, .. numbers and sequences move as above"; a new bill's removal date is empty
-- what a request asks, under its Tracking ID: said here again, so that the machine's way of renewing a bill is held to it
abbrev pub asks : Request → ℕ → Latest
asks r tracking =
    record {
      tracking = tracking;
      consumption = r.consumption;
      billing = r.billing;
      from = r.from;
      scheduled = r.scheduled;
    }

abbrev pub added : Request → ℕ → Terms
added r tracking =
    record {
      identity = r.identity;
      code = code_of r.code;
      product = product_of r.product;
      sequence = 1;
      requests = 1;
      cancelled = false;
      latest = asks r tracking;
      removal = None;
    }

abbrev pub renews : Request → ℕ → Terms → Terms
renews r tracking t = moved (t.sequence + 1) (t.requests + 1) t.cancelled (asks r tracking) t.removal t

abbrev pub marked : Terms → Terms
marked t = moved t.sequence t.requests true t.latest t.removal t

-- a SUP raises the sequence
abbrev pub raised : Bool → Terms → Terms
raised sup t = moved (cond sup (t.sequence + 1) t.sequence) t.requests t.cancelled t.latest t.removal t

-- paper 2 of document 02, "a removal call sets it on all bills of an account, replacing any earlier one": said here again, bill after bill
abbrev pub with_removal : AccountRemoval → List Terms → List Terms
with_removal a [] = []
with_removal a (t ∷ ts) =
    cond (eqb t.identity.account a.account)
    (moved t.sequence t.requests t.cancelled t.latest (Some a.date) t ∷ with_removal a ts)
    (t ∷ with_removal a ts)

-- a view with other numbers and bills
abbrev pub onward : View → ℕ → ℕ → List Terms → View
onward v tracking confirmation bills =
    record { today = v.today; tracking = v.tracking + tracking; confirmation = v.confirmation + confirmation; bills = bills }

-- ---- "a file decides its groups in order, each accepted one adding a posting"
unfoldable pub decided : History → Group → Result Posted ErrorCode → History
decided h g (Ok amounts) =
    record {
      now = onward h.now (cond (asks_id g) 1 0) 1 (update (is_of (identity_of g)) (raised (asks_id g)) h.now.bills);
      postings = record { identity = identity_of g; charge = sent_charge (detail_of g) } ∷ h.postings;
    }
decided h g (Err n) = record { now = onward h.now 0 1 h.now.bills; postings = h.postings }

-- a group as the history decides it, with the history's view when it is decided
pub record Decided : Type 0 where
  pub now : View
  pub group : Group
  pub verdict : Result Posted ErrorCode

-- before were decided, and gs are to come
abbrev pub verdict_now : List Group → History → Group → List Group → Result Posted ErrorCode
verdict_now before h g gs = verdict h.now (before ++ gs) g

unfoldable pub decided_all : List Group → History → List Group → History
decided_all before h [] = h
decided_all before h (g ∷ gs) = decided_all (before ++ (g ∷ [])) (decided h g (verdict_now before h g gs)) gs

unfoldable pub decisions : List Group → History → List Group → List Decided
decisions before h [] = []
decisions before h (g ∷ gs) =
    record { now = h.now; group = g; verdict = verdict_now before h g gs }
    ∷ decisions (before ++ (g ∷ [])) (decided h g (verdict_now before h g gs)) gs

-- ---- the calls
-- "a request adds or renews its bill"
abbrev pub h_requested : History → Request → History
h_requested h r =
    record {
      now =
          onward h.now 1 1
          (cond (has (is_of r.identity) h.now.bills)
          (update (is_of r.identity) (renews r h.now.tracking) h.now.bills)
          (h.now.bills ++ (added r h.now.tracking ∷ [])));
      postings = h.postings;
    }

-- paper 1 of document 02, "A request may then leave its Scheduled Date to the calendar, counted from today": what such a request asks of the history, said
-- here again, so that the machine's way of working out the date is held to it
abbrev pub left_to_calendar : View → CalendarRequest → List ℕ → Request
left_to_calendar v q hs =
    record {
      code = q.request.code;
      identity = q.request.identity;
      product = q.request.product;
      billing = q.request.billing;
      from = q.request.from;
      consumption = q.request.consumption;
      scheduled = date_of (number_in (business_day hs v.today.0 q.number));
    }

unfoldable pub h_next : History → Call → History
h_next h (request r room) = h_requested h r
h_next h (calendar q hs room) = h_requested h (left_to_calendar h.now q hs)
h_next h (file s room) = decided_all [] h (file_groups s)
h_next h (cancel id room) =
    record { now = onward h.now 1 1 (update (is_of id) marked h.now.bills); postings = h.postings }
h_next h (close d) =
    record {
      now = record { today = d; tracking = h.now.tracking; confirmation = h.now.confirmation; bills = h.now.bills };
      postings = h.postings;
    }
h_next h (removal a) =
    record {
      now =
          record {
            today = h.now.today;
            tracking = h.now.tracking;
            confirmation = h.now.confirmation;
            bills = with_removal a h.now.bills;
          };
      postings = h.postings;
    }

-- what "Causes, read on these and without the ledger part of 2", say of a call
abbrev pub h_cause : History → Call → Result ⊤ Cause
h_cause h c = first (causes h.now c)

-- "A call to which Causes .. gives a number changes nothing."
unfoldable pub h_move : History → Call → Result ⊤ Cause → History
h_move h c (Ok tt) = h_next h c
h_move h c (Err n) = h

unfoldable pub h_step : History → Call → History
h_step h c = h_move h c (h_cause h c)

-- the groups that a call decides: those of a file to which the causes give no number
unfoldable pub call_decisions : History → Call → Result ⊤ Cause → List Decided
call_decisions h (request r room) v = []
call_decisions h (calendar q hs room) v = []
call_decisions h (file s room) (Ok tt) = decisions [] h (file_groups s)
call_decisions h (file s room) (Err n) = []
call_decisions h (cancel id room) v = []
call_decisions h (close d) v = []
call_decisions h (removal a) v = []

-- ---- a list of calls
-- the history after them
unfoldable pub h_after : History → List Call → History
h_after h [] = h
h_after h (c ∷ cs) = h_after (h_step h c) cs

-- what the causes say of each
unfoldable pub h_causes : History → List Call → List (Result ⊤ Cause)
h_causes h [] = []
h_causes h (c ∷ cs) = h_cause h c ∷ h_causes (h_step h c) cs

-- the groups that each decides
unfoldable pub h_decisions : History → List Call → List (List Decided)
h_decisions h [] = []
h_decisions h (c ∷ cs) = call_decisions h c (h_cause h c) ∷ h_decisions (h_step h c) cs
