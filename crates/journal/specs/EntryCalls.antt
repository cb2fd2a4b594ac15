-- The calls of a journal's entries on the struct, and the notices that they write. Assumes nothing.
use Rattle.std.specs.Prelude.{ℕ, List, [], ◌∷◌, ◌++◌, Result, Ok, Err}
use Rattle.ledger.specs.declared.Ledger.{Ledger}
use Rattle.ledger.specs.Books.{Book, empty_ledger}
use Rattle.calls.specs.declared.Called.{Called}
use Rattle.causes.specs.Causes.{request, file, cancel, close, removal}
use Rattle.calls.specs.Machine.{Outcome, outcomes, called, step_in}
use Rattle.calls.specs.Days.{fresh_called}
use Rattle.journal.specs.declared.Body.{Body}
use Rattle.journal.specs.declared.Body.TheVariants as body
use Rattle.journal.specs.Journal.{Entry, after_entry, call_of, parse, first_book}
use Rattle.records.specs.Limits.{file_size}
use Rattle.rules.specs.declared.Cause.{Cause}
use Rattle.calls.specs.declared.Returned.{Returned}
use Rattle.rules.specs.declared.Cause.TheVariants.{BadArgument}

-- what an entry's call gives back, where its output has so much room
abbrev pub entry_called : ℕ → Ledger → Body → List ℕ → Called
entry_called room l (body.Fresh s) bytes = fresh_called l s
entry_called room l (body.Request r) bytes = called l (request r room)
entry_called room l body.File bytes = called l (file bytes room)
entry_called room l (body.Cancel id) bytes = called l (cancel id room)
entry_called room l (body.Close d) bytes = called l (close d)
entry_called room l (body.Removal a) bytes = called l (removal a)
entry_called room l body.Unread bytes = record { ledger = l; answer = Err BadArgument }

-- and the bytes that it writes
abbrev pub entry_written : ℕ → Ledger → Body → List ℕ → List ℕ
entry_written room l (body.Fresh s) bytes = []
entry_written room l (body.Request r) bytes = (step_in l (request r room)).written
entry_written room l body.File bytes = (step_in l (file bytes room)).written
entry_written room l (body.Cancel id) bytes = (step_in l (cancel id room)).written
entry_written room l (body.Close d) bytes = []
entry_written room l (body.Removal a) bytes = []
entry_written room l body.Unread bytes = []

-- how many bytes an answer says were written
abbrev pub length_of : Result Returned Cause → ℕ
length_of (Ok r) = r.written
length_of (Err n) = 0

-- the struct that entries leave, each on the one that the entry before left: "Each call's output there is 64,200 bytes"
unfoldable pub ledger_after_entries : Ledger → List Entry → Ledger
ledger_after_entries l [] = l
ledger_after_entries l (e ∷ es) = ledger_after_entries (entry_called file_size l e.body e.bytes).ledger es

-- ---- a BRN file: the notices of every call carried out, in order
-- the bytes that calls wrote
abbrev pub written_by : List Outcome → List ℕ
written_by [] = []
written_by (o ∷ os) = o.written ++ written_by os

unfoldable pub notices_of : Book → List Entry → List ℕ
notices_of k [] = []
notices_of k (e ∷ es) = written_by (outcomes k (call_of e.body e.bytes)) ++ notices_of (after_entry e.body e.bytes k) es

-- the bytes of the BRN file of a journal
unfoldable pub brn_of : List ℕ → List ℕ
brn_of s = notices_of first_book (parse 0 s).entries

-- the ledger before the first entry
abbrev pub first_ledger : Ledger
first_ledger = empty_ledger (record { 0 = 19000101 }) 1 1
