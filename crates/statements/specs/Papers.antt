-- What document 02 claims beside the demands, paper by paper, each with its words. Every field is a theorem: `paper-1`, `paper-2` and `paper-3`
-- (proofs/PapersHold, PaperTwo, PaperThree) fill them in. Assumes nothing.
use Rattle.std.specs.Prelude.{ℕ, ◌≤◌, ◌<◌, ◌+◌, ◌%◌, ◌≡◌, Bool, true, false, cond, List, [], eqb, length, get_or, Option, Some, None, Ok, Err}
use Rattle.fields.specs.Digits.{fits}
use Rattle.rules.specs.Rules.{first}
use Rattle.rules.specs.Lists.{every, has}
use Rattle.units.specs.Calendar.{is_date, year, month, day}
use Rattle.units.specs.declared.Date.{Date}
use Rattle.units.specs.Days.{day_number, year_on}
use Rattle.calendar.specs.BusinessDays.{is_further, business_day, next_business_day}
use Rattle.calendar.specs.Example.{ExampleDays}
use Rattle.ledger.specs.declared.Ledger.{Ledger}
use Rattle.ledger.specs.declared.Identity.{Identity}
use Rattle.ledger.specs.declared.RateCode.{RateCode}
use Rattle.ledger.specs.declared.Product.{Product}
use Rattle.ledger.specs.declared.Latest.{Latest}
use Rattle.ledger.specs.declared.Terms.{Terms}
use Rattle.ledger.specs.declared.Bill.{Bill}
use Rattle.ledger.specs.Bills.{is_open, blank_bill, first_bill, removed_bill}
use Rattle.ledger.specs.Books.{Book, live, of_account}
use Rattle.ledger.specs.Sound.{sound_ledger}
use Rattle.ledger.specs.Limits.{ledger_places}
use Rattle.records.specs.declared.Notification.TheVariants.{Response, Supplement}
use Rattle.verdict.specs.Lines.{removal_days, line6}
use Rattle.causes.specs.declared.CalendarRequest.{CalendarRequest}
use Rattle.causes.specs.declared.Start.{Start}
use Rattle.causes.specs.Causes.{Call, request, calendar, file, cancel, close, removal, worked_out, schedule_causes, removal_causes}
use Rattle.causes.specs.declared.AccountRemoval.{AccountRemoval}
use Rattle.calls.specs.Machine.{fresh, after, cause_in, step_in, called}
use Rattle.calls.specs.Days.{quiet_answer}
use Rattle.lookups.specs.Lookups.{is_open_of, due, open_in}
use Rattle.history.specs.Claim.{All}
use Rattle.history.specs.Cases.{Holds}
use Rattle.history.specs.RemovalCases.{removal_table}
use Rattle.rules.specs.declared.Cause.TheVariants.{BadArgument, NoSuchBill, ScheduledBeforeToday}
use Rattle.rules.specs.declared.ErrorCode.{ErrorCode}
use Rattle.rules.specs.declared.ErrorCode.TheVariants.{Br12, Br13}

-- two calls that leave, answer and write the same on l
pub record SameCall (l : Ledger) (c d : Call) : Type 0 where
  pub called : called l c ≡ called l d
  pub step : step_in l c ≡ step_in l d

-- ---- Paper 1. Business-day calendar
pub record Paper1 : Type 0 where
  -- "The date is the least one from the start on, with exactly that many business days after the start up to it, so 0 gives the start itself."
  pub such : (hs : List ℕ) (start number d : ℕ) → business_day hs start number ≡ Some d → is_further hs start number d ≡ true
  pub least : (hs : List ℕ) (start number d e : ℕ) → business_day hs start number ≡ Some d → start ≤ e → e < d → is_further hs start number e ≡ false
  pub none : (hs : List ℕ) (start : ℕ) → is_date start ≡ true → business_day hs start 0 ≡ Some start
  -- "the next business day (the first one after the date)" is the one 1 further on
  pub next : (hs : List ℕ) (d : ℕ) → is_date d ≡ true → next_business_day hs d ≡ business_day hs d 1
  -- "A request may then leave its Scheduled Date to the calendar, counted from today; a journal holds the date worked out.": where neither 2, 14 nor 15
  -- is against it, it is the request with that date; and 9 never is
  pub dated : (l : Ledger) (q : CalendarRequest) (hs : List ℕ) (room : ℕ) → first (schedule_causes q hs l.today) ≡ Ok tt
      → SameCall l (calendar q hs room) (request (worked_out q hs l.today) room)
  pub due : (l : Ledger) (q : CalendarRequest) (hs : List ℕ) (room : ℕ) → (called l (calendar q hs room)).answer ≡ Err ScheduledBeforeToday → ⊥
  -- the examples: three business days on, as document 002 has it ("the following third business day"); holidays between; the last date
  pub days : ExampleDays

-- ---- Paper 2. Twelve months and sixty days
-- e is the same day one year past d: "29 February goes to 28"
pub record OneYearOn (d e : ℕ) : Type 0 where
  pub date : is_date e ≡ true
  pub year : year e ≡ year d + 1
  pub month : month e ≡ month d
  pub day : day e ≡ cond (eqb (d % 10000) 229) 28 (day d)

-- a removal of the account a, carried out on l
pub record RemovalMade (l : Ledger) (a : AccountRemoval) : Type 0 where
  -- "sets it on all bills of an account, replacing any earlier one": each bill stands where it stood, and one of another account is as it was
  pub sets : (i : ℕ) → i < l.count → of_account a.account (get_or l.bills i blank_bill) ≡ true
      → get_or (called l (removal a)).ledger.bills i blank_bill ≡ removed_bill a.date (get_or l.bills i blank_bill)
  pub others : (i : ℕ) → i < l.count → of_account a.account (get_or l.bills i blank_bill) ≡ false
      → get_or (called l (removal a)).ledger.bills i blank_bill ≡ get_or l.bills i blank_bill
  pub count : (called l (removal a)).ledger.count ≡ l.count
  -- the change is 0, nothing is written, and today and the next numbers stay
  pub quiet : (called l (removal a)).answer ≡ quiet_answer 0
  pub written : (step_in l (removal a)).written ≡ []
  pub today : (called l (removal a)).ledger.today ≡ l.today
  pub tracking : (called l (removal a)).ledger.next_tracking ≡ l.next_tracking
  pub confirmation : (called l (removal a)).ledger.next_confirmation ≡ l.next_confirmation

-- what line 6 says of a SUP, and of an RSP, for a bill with these terms: h is the group's header and d its detail
pub record SupDates (today : Date) (h d : List ℕ) (t : Terms) : Type 0 where
  -- "A SUP gets BR12 if today is after the same day one year past the Billing Date": BR09 and BR11 stand before it
  pub year : t.cancelled ≡ false → is_open today t ≡ false → year_on t.latest.billing.0 < today.0 → first (line6 Supplement today h d t) ≡ Err Br12
  -- "the anniversary still pass[es]"
  pub in_year : today.0 ≤ year_on t.latest.billing.0 → first (line6 Supplement today h d t) ≡ Err Br12 → ⊥
  -- "It gets BR13 if today is more than 60 days past the removal date", after BR12 and before BR05
  pub removed : (r : Date) → t.removal ≡ Some r → t.cancelled ≡ false → is_open today t ≡ false → today.0 ≤ year_on t.latest.billing.0
      → day_number r.0 + removal_days < day_number today.0 → first (line6 Supplement today h d t) ≡ Err Br13
  -- "Day 60 .. still pass[es]", an empty removal date always, and so does one in the future
  pub in_days : (r : Date) → t.removal ≡ Some r → day_number today.0 ≤ day_number r.0 + removal_days → first (line6 Supplement today h d t) ≡ Err Br13 → ⊥
  pub never : t.removal ≡ None → first (line6 Supplement today h d t) ≡ Err Br13 → ⊥
  pub future : (r : Date) → t.removal ≡ Some r → is_date today.0 ≡ true → is_date r.0 ≡ true → today.0 ≤ r.0
      → first (line6 Supplement today h d t) ≡ Err Br13 → ⊥
  -- an RSP gets neither
  pub response : (n : ErrorCode) → first (line6 Response today h d t) ≡ Err n → (n ≡ Br12 → ⊥) × (n ≡ Br13 → ⊥)

-- a removal, and a bill without a removal date
abbrev pub is_removal : Call → Bool
is_removal (request r room) = false
is_removal (calendar q hs room) = false
is_removal (file s room) = false
is_removal (cancel id room) = false
is_removal (close d) = false
is_removal (removal a) = true

abbrev pub is_empty : Option Date → Bool
is_empty None = true
is_empty (Some d) = false

abbrev pub no_removal : Bill → Bool
no_removal b = is_empty b.terms.removal

pub record Paper2 : Type 0 where
  -- "A bill record gains a removal date, empty until a removal call sets it"
  pub empty : (id : Identity) (code : RateCode) (p : Product) (latest : Latest) → (first_bill id code p latest).terms.removal ≡ None
  -- "until": where no removal stands among the calls, as in a journal without tag 5, no bill has a removal date, so that no SUP gets BR13 (`SupDates`)
  pub until_then : (s : Start) (cs : List Call) → has is_removal cs ≡ false → every no_removal (after (fresh s) cs).bills ≡ true
  pub made : (l : Ledger) (a : AccountRemoval) → length l.bills ≡ ledger_places → cause_in l (removal a) ≡ Ok tt → RemovalMade l a
  -- "The call gives 2, or 4 for an account without bills."
  pub refused : (l : Ledger) (a : AccountRemoval) → sound_ledger l ≡ true
      → cause_in l (removal a) ≡ first (removal_causes a (has (of_account a.account) (live l)))
  pub dates : (today : Date) (h d : List ℕ) (t : Terms) → SupDates today h d t
  -- "the same day one year past .. (29 February goes to 28)": a date, up to 2998; past that no date of ours is after it
  pub one_year_on : (d : ℕ) → is_date d ≡ true → year d ≤ 2998 → OneYearOn d (year_on d)
  pub last : (d e : ℕ) → is_date d ≡ true → year d ≡ 2999 → is_date e ≡ true → e ≤ year_on d
  -- the borders, call by call
  pub cases : All Holds removal_table

-- ---- Paper 3. Earliest due first
-- whether the bill at place q is open and of the account, and its Scheduled Date
abbrev pub open_at : Ledger → ℕ → ℕ → Bool
open_at l account q = is_open_of account l.today (get_or (live l) q blank_bill)

abbrev pub due_at : Ledger → ℕ → ℕ
due_at l q = due (get_or (live l) q blank_bill)

-- the bill at place p is the one that paper 3 asks for
pub record DueFirstAt (l : Ledger) (account p : ℕ) : Type 0 where
  pub held : p < length (live l)
  pub opens : open_at l account p ≡ true
  -- "the one with the earliest Scheduled Date"
  pub earliest : (q : ℕ) → q < length (live l) → open_at l account q ≡ true → due_at l p ≤ due_at l q
  -- "and of equals the one first requested": it stands before them
  pub equals : (q : ℕ) → q < length (live l) → open_at l account q ≡ true → due_at l q ≡ due_at l p → p ≤ q

-- the identity of the bill at place i
abbrev pub identity_at : Book → ℕ → Identity
identity_at l i = (get_or l.bills i blank_bill).terms.identity

pub record Paper3 : Type 0 where
  -- "It shall be the one with the earliest Scheduled Date, and of equals the one first requested.": it and no other
  pub such : (l : Ledger) (account p : ℕ) → open_in l account ≡ Ok p → DueFirstAt l account p
  pub only : (l : Ledger) (account p : ℕ) → sound_ledger l ≡ true → fits 12 account ≡ true → DueFirstAt l account p → open_in l account ≡ Ok p
  -- document 01: "4 if there is none", and only then; "Lookups: 2, 4."
  pub none : (l : Ledger) (account : ℕ) → sound_ledger l ≡ true → fits 12 account ≡ true
      → ((q : ℕ) → q < length (live l) → open_at l account q ≡ false) → open_in l account ≡ Err NoSuchBill
  pub four : (l : Ledger) (account q : ℕ) → open_in l account ≡ Err NoSuchBill → q < length (live l) → open_at l account q ≡ false
  pub unsound : (l : Ledger) (account : ℕ) → sound_ledger l ≡ false → open_in l account ≡ Err BadArgument
  pub wide : (l : Ledger) (account : ℕ) → fits 12 account ≡ false → open_in l account ≡ Err BadArgument
  -- "first requested": whatever calls follow, a bill keeps its place, so one that is requested for the first time later stands behind it
  pub kept : (l : Book) (cs : List Call) (i : ℕ) → i < length l.bills
      → (i < length (after l cs).bills) × (identity_at (after l cs) i ≡ identity_at l i)
