-- The three demands side by side, each with its words (docs/CLAIMS.md). Every field is a theorem: `demands-hold` (proofs/DemandsHold) fills them in.
-- Assumes nothing.
use Rattle.std.specs.Prelude.{ℕ, ◌≤◌, ◌<◌, ◌≡◌, List, [], ◌∷◌, length, get_or, ℤ, Err}
use Rattle.fields.specs.Put.{put}
use Rattle.ledger.specs.declared.Ledger.{Ledger}
use Rattle.ledger.specs.Bills.{is_prepay}
use Rattle.ledger.specs.Books.{Book, View}
use Rattle.notices.specs.declared.bil.Bil.{Bil}
use Rattle.notices.specs.declared.cxl.Cxl.{Cxl}
use Rattle.notices.specs.Notices.{bil, cxl}
use Rattle.notices.specs.declared.acf.Acf.{Acf}
use Rattle.notices.specs.declared.rej.Rej.{Rej}
use Rattle.notices.specs.Answers.{acf, rej}
use Rattle.notices.specs.Positions.{BilAt, CxlAt, AcfAt, RejAt}
use Rattle.records.specs.Limits.{record_size}
use Rattle.file.specs.File.{Group, detail_of}
use Rattle.rules.specs.Rules.{first}
use Rattle.verdict.specs.Lines.{terms_of, amounts_of, settle}
use Rattle.group.specs.Groups.{sought, lines, verdict}
use Rattle.group.specs.Forms.{FormCoded}
use Rattle.group.specs.Reads.{NoLineReads}
use Rattle.causes.specs.declared.Start.{Start}
use Rattle.causes.specs.Causes.{Call}
use Rattle.calls.specs.declared.Called.{Called}
use Rattle.calls.specs.Machine.{room_of, step, fresh, outcomes, cause_in, step_in, called}
use Rattle.calls.specs.Counts.{GroupsReturned}
use Rattle.journal.specs.declared.Body.TheVariants.{Fresh}
use Rattle.journal.specs.Journal.{Entry, parse, calls_of, Stops}
use Rattle.journal.specs.EntryCalls.{written_by, brn_of}
use Rattle.history.specs.Written.{assigned_in}
use Rattle.history.specs.Claim.{All, NoneTwice, SumFromHistory, SumByValue}
use Rattle.history.specs.Cases.{table, Holds}
use Rattle.table.specs.Table.{table_room}
use Rattle.room.specs.Room.{most_in}
use Rattle.report.specs.Report.{posted_of, Claimed}
use Rattle.boundary.specs.Boundary.{Gives}
use Rattle.clearing_c.specs.InWords.{SumInWords}
use Rattle.statements.specs.Example.{ExamplePosted, ExampleWritten}
use Rattle.rules.specs.Numbers.{cause_number}
use Rattle.rules.specs.declared.Cause.{Cause}

-- ---- Demand 1: "The whole engine, journal reader to table writer, takes every input there can be, within its memory, and ends. A call it can't carry
-- out answers document 01's number, and the ledger and each lent buffer then hold what they held before."
-- That each function ends, is safe and meets its contract is what the check of its crate proves; the calls, the lookups and the calendar (engine,
-- by_value, lookups, calendar, clearing, clearing_c) and a journal's table and notices (report `Reports`, `ReportsNotices`) take every argument there
-- can be. Of the programs, for some bytes: what is left and asked for of standard input is that of reading them whole (replay `Reads`), and `posted`
-- prints their table, with demand 3 for their calls (posted `Posts`).

-- a call that a cause is against answers its number; the ledger, and the output, are as they were
pub record Refuses (l : Ledger) (c : Call) (n : Cause) : Type 0 where
  pub answer : (called l c).answer ≡ Err n
  pub ledger : (called l c).ledger ≡ l
  pub output : (out : List ℕ) → put out 0 (step_in l c).written ≡ out

pub record Demand1 : Type 0 where
  pub refuses : (l : Ledger) (c : Call) (n : Cause) → cause_in l c ≡ Err n → Refuses l c n
  pub numbers : (l : Ledger) (c : Call) (n : Cause) → (called l c).answer ≡ Err n → (1 ≤ cause_number n) × (cause_number n ≤ 15)
  -- for C: where a number but 0 is answered, the words, the change and the counts are as they were
  pub buffers : (c : Called) (ws : List ℕ) (x : ℤ) (ks ws₁ : List ℕ) (x₁ : ℤ) (ks₁ : List ℕ) (n : ℕ)
      → Gives c ws x ks ws₁ x₁ ks₁ n → 1 ≤ n → (ws₁ ≡ ws) × (x₁ ≡ x) × (ks₁ ≡ ks)
  -- within its memory: no call writes past the output lent to it; a table has at most 10,970 bytes, and a journal's notices at most 642 for each
  -- request and cancel and the length of each file
  pub within : (l : Book) (c : Call) → length (step l c).written ≤ room_of c
  pub table_within : (s : List ℕ) → length (posted_of s) ≤ table_room
  pub notices_within : (s : List ℕ) → length (brn_of s) ≤ most_in s
  -- a journal is read to its end, or to an entry that is cut or bad (13)
  pub stops : (s : List ℕ) → Stops s

-- ---- Demand 2: "Each supplier group is accepted or rejected as document 01 lays down; each BIL, ACF, REJ and CXL has every one of its 321 bytes as
-- laid down."
-- Lines 1 to 10 stand in file/specs/File and verdict/specs/Lines. The bytes are the definitions `bil`, `cxl`, `acf` and `rej` (notices/specs/Notices,
-- notices/specs/Answers), to which the contracts of what writes them are equations.

-- the notices of a journal are the bytes that its calls wrote, in order
abbrev pub NoticesOfCalls : List ℕ → Type 0
NoticesOfCalls s =
    (start : Start) (bytes : List ℕ) (es : List Entry) → (parse 0 s).entries ≡ record { body = Fresh start; bytes = bytes } ∷ es
    → brn_of s ≡ written_by (outcomes (fresh start) (calls_of es))

pub record Demand2 : Type 0 where
  -- "The first true condition, as written, gives the code"; "No line true: accepted."
  pub decided : (v : View) (others : List Group) (g : Group)
      → verdict v others g ≡ settle (first (lines v others g)) (amounts_of (is_prepay (terms_of (sought v g)).product) (detail_of g))
  -- lines 1 and 2 are a group's form: 17 or 19, or its Notification Code
  pub forms : (g : Group) → FormCoded g
  -- "No line reads a group's dates, Confirmation Number or previous fields (H)."
  pub unread : NoLineReads
  -- "accepted, rejected (together the number of groups)"
  pub counted : GroupsReturned
  -- at each position of a notice what "Notices" says (notices/specs/Positions); h is the sender's header, ds are its details
  pub bil_bytes : (b : Bil) → BilAt b (bil b)
  pub cxl_bytes : (x : Cxl) → CxlAt x (cxl x)
  pub acf_bytes : (h : List ℕ) (a : Acf) → record_size ≤ length h → AcfAt h a (acf h a)
  pub rej_bytes : (h : List ℕ) (ds : List (List ℕ)) (x : Rej) → length h ≡ record_size
      → ((j : ℕ) → j < length ds → length (get_or ds j []) ≡ record_size) → RejAt h ds x (rej h ds x)
  pub notices : (s : List ℕ) → NoticesOfCalls s

-- ---- Demand 3: "Over every list of calls on a fresh ledger, refused ones included: total of the table = sum of the returned signed changes = the
-- history's sum worked out from the calls alone; no Tracking ID twice; no group accepted for a cancelled bill, no RSP after its Scheduled Date. One
-- theorem over the list."
pub record Demand3 : Type 0 where
  -- of the machine, of the calls by value, of the calls for C, of the calls of any journal
  pub sum : SumFromHistory
  pub by_value : SumByValue
  pub in_words : SumInWords
  pub journals : (s : List ℕ) → Claimed s
  -- no Tracking ID twice, read off a journal's notices
  pub ids : (s : List ℕ) → NoneTwice (assigned_in (brn_of s))
  -- cases (a) to (l), and the example
  pub cases : All Holds table
  pub example : ExamplePosted
  pub written : ExampleWritten

pub record Demands : Type 0 where
  pub first : Demand1
  pub second : Demand2
  pub third : Demand3
