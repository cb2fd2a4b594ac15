-- The boundary to C and Rust: the calls on a ledger that is lent as words (words/specs/Layout), answered by numbers. Assumes nothing.
use Rattle.std.specs.Prelude.{ℕ, ◌-◌, ◌≡◌, false, cond, List, [], ◌∷◌, eqb, length, ℤ, Result, Ok, Err}
use Rattle.fields.specs.Put.{put, part}
use Rattle.units.specs.Calendar.{date_of}
use Rattle.ledger.specs.declared.Identity.{Identity}
use Rattle.ledger.specs.declared.Ledger.{Ledger}
use Rattle.words.specs.Layout.{ledger_of, ledger_size, ledger_words}
use Rattle.causes.specs.declared.Start.{Start}
use Rattle.causes.specs.declared.Request.{Request}
use Rattle.causes.specs.declared.CalendarRequest.{CalendarRequest}
use Rattle.causes.specs.declared.AccountRemoval.{AccountRemoval}
use Rattle.causes.specs.Causes.{code_field}
use Rattle.calls.specs.declared.Called.{Called}
use Rattle.lookups.specs.declared.Amounts.{Amounts}
use Rattle.calls.specs.Days.{fresh_called}
use Rattle.journal.specs.declared.Body.{Body}
use Rattle.journal.specs.declared.Body.TheVariants as body
use Rattle.journal.specs.declared.Head.{Head}
use Rattle.journal.specs.declared.Head.TheVariants.{Cut, Bad, Whole}
use Rattle.journal.specs.Entries.{head_cause}
use Rattle.journal.specs.EntryCalls.{entry_called, entry_written}
use Rattle.table.specs.Table.{printed_by, printed}
use Rattle.units.specs.declared.Date.{Date}
use Rattle.rules.specs.declared.Cause.{Cause}
use Rattle.rules.specs.Numbers.{cause_number}
use Rattle.calls.specs.declared.Returned.{Returned}
use Rattle.rules.specs.declared.Cause.TheVariants.{BadArgument}

-- ---- the calls' arguments from numbers
abbrev pub start_of : ℕ → ℕ → ℕ → Start
start_of today tracking confirmation = record { today = date_of today; tracking = tracking; confirmation = confirmation }

abbrev pub identity_from : ℕ → ℕ → Identity
identity_from account key = record { account = account; key = key }

abbrev pub removal_from : ℕ → ℕ → AccountRemoval
removal_from account date = record { account = account; date = date_of date }

abbrev pub request_of : List ℕ → Identity → ℕ → ℕ → ℕ → ℕ → ℕ → Request
request_of code id product billing from consumption scheduled =
    record {
      code = code_field code;
      identity = id;
      product = product;
      billing = date_of billing;
      from = date_of from;
      consumption = record { 0 = consumption };
      scheduled = date_of scheduled;
    }

-- a request that leaves its Scheduled Date to the calendar holds none
abbrev pub calendar_of : List ℕ → Identity → ℕ → ℕ → ℕ → ℕ → ℕ → CalendarRequest
calendar_of code id product billing from consumption number =
    record { request = request_of code id product billing from consumption 0; number = number }

-- ---- what a call gives back
-- 0 for a call that was carried out, else the number of its cause
abbrev pub number_of : {A : Type 0} → Result A Cause → ℕ
number_of (Ok x) = 0
number_of (Err c) = cause_number c

-- what a lent number holds after: what was found, else what it held
abbrev pub number_left : ℕ → Result ℕ Cause → ℕ
number_left x (Ok n) = n
number_left x (Err c) = x

-- "changed only by a call that succeeds": the words of the ledger that it leaves (words_left), the signed change, and the counts: bytes written,
-- groups accepted and rejected, bills closed; else each lent buffer holds what it held
abbrev pub words_left : List ℕ → Ledger → Result Returned Cause → List ℕ
words_left ws l (Ok r) = ledger_words l
words_left ws l (Err n) = ws

abbrev pub change_left : ℤ → Result Returned Cause → ℤ
change_left x (Ok r) = r.change
change_left x (Err n) = x

abbrev pub counts_left : List ℕ → Result Returned Cause → List ℕ
counts_left xs (Ok r) = r.written ∷ r.accepted ∷ r.rejected ∷ r.closed ∷ []
counts_left xs (Err n) = xs

-- the number answered, the change and the counts after an answer; they held x and ks before
pub record Stores (a : Result Returned Cause) (x : ℤ) (ks : List ℕ) (x₁ : ℤ) (ks₁ : List ℕ) (n : ℕ) : Type 0 where
  pub number : n ≡ number_of a
  pub change : x₁ ≡ change_left x a
  pub counts : ks₁ ≡ counts_left ks a

-- the number answered, and the words, the change and the counts after a call that by value gives c; they held ws, x and ks before. The words
-- after hold the ledger that the call leaves
pub record Gives (c : Called) (ws : List ℕ) (x : ℤ) (ks ws₁ : List ℕ) (x₁ : ℤ) (ks₁ : List ℕ) (n : ℕ) : Type 0 where
  pub number : n ≡ number_of c.answer
  pub words : ws₁ ≡ words_left ws c.ledger c.answer
  pub ledger : ledger_of ws₁ ≡ c.ledger
  pub change : x₁ ≡ change_left x c.answer
  pub counts : ks₁ ≡ counts_left ks c.answer

-- "fresh reads none", but words of another length can hold no ledger: 2
unfoldable pub fresh_in : List ℕ → Start → Called
fresh_in ws s = cond (eqb (length ws) ledger_size) (fresh_called (ledger_of ws) s) (record { ledger = ledger_of ws; answer = Err BadArgument })

-- the call of an entry on any words, with so much room: a fresh as above; any other refuses a ledger that isn't sound (2)
abbrev pub entry_in : ℕ → List ℕ → Body → List ℕ → Called
entry_in room ws (body.Fresh s) bytes = fresh_in ws s
entry_in room ws (body.Request r) bytes = entry_called room (ledger_of ws) (body.Request r) bytes
entry_in room ws body.File bytes = entry_called room (ledger_of ws) body.File bytes
entry_in room ws (body.Cancel id) bytes = entry_called room (ledger_of ws) (body.Cancel id) bytes
entry_in room ws (body.Close d) bytes = entry_called room (ledger_of ws) (body.Close d) bytes
entry_in room ws (body.Removal a) bytes = entry_called room (ledger_of ws) (body.Removal a) bytes
entry_in room ws body.Unread bytes = entry_called room (ledger_of ws) body.Unread bytes

-- what is answered, the words and the output after a call that by value gives c and writes ys
pub record Leaves (c : Called) (ys ws out₀ ws₁ out : List ℕ) (a : Result Returned Cause) : Type 0 where
  pub answer : a ≡ c.answer
  pub words : ws₁ ≡ words_left ws c.ledger c.answer
  pub ledger : ledger_of ws₁ ≡ c.ledger
  pub bytes : out ≡ put out₀ 0 ys

-- ---- the entry at the start of a journal
-- its call; no whole good entry stands there: 13
abbrev pub head_called : ℕ → List ℕ → List ℕ → Head → Called
head_called room ws src Cut = record { ledger = ledger_of ws; answer = Err (head_cause Cut) }
head_called room ws src Bad = record { ledger = ledger_of ws; answer = Err (head_cause Bad) }
head_called room ws src (Whole b n) = entry_in room ws b (part src 3 (n - 3))

-- the bytes that it writes
abbrev pub head_written : ℕ → List ℕ → List ℕ → Head → List ℕ
head_written room ws src Cut = []
head_written room ws src Bad = []
head_written room ws src (Whole b n) = entry_written room (ledger_of ws) b (part src 3 (n - 3))

-- what was found: the bytes of the entry, 0 if no whole good one stands there; and 1 if it is cut short, else 0
abbrev pub head_found : Head → List ℕ
head_found Cut = 0 ∷ 1 ∷ []
head_found Bad = 0 ∷ 0 ∷ []
head_found (Whole b n) = n ∷ 0 ∷ []

-- ---- the lookups
-- charge, applied and owed
abbrev pub amounts_left : List ℕ → Result Amounts Cause → List ℕ
amounts_left xs (Ok a) = a.charge.0 ∷ a.applied.0 ∷ a.owed.0 ∷ []
amounts_left xs (Err n) = xs

-- ---- the calendar
abbrev pub date_left : ℕ → Result Date Cause → ℕ
date_left x (Ok d) = d.0
date_left x (Err n) = x

-- ---- the table of a ledger
-- the number answered, the output and the bytes written after the table of l was asked for
pub record Prints (l : Ledger) (out₀ : List ℕ) (x : ℕ) (out : List ℕ) (x₁ n : ℕ) : Type 0 where
  pub number : n ≡ number_of (printed_by l false (length out₀))
  pub written : x₁ ≡ number_left x (printed_by l false (length out₀))
  pub bytes : out ≡ put out₀ 0 (printed l false (length out₀))
