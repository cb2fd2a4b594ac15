-- The trace of a journal: the lines of its entries in order, each on the ledger that the one before left. Assumes nothing.
use Rattle.std.specs.Prelude.{ℕ, ◌+◌, List, [], ◌∷◌, ◌++◌, Result, Err}
use Rattle.ledger.specs.Books.{Book}
use Rattle.file.specs.File.{file_groups}
use Rattle.table.specs.Table.{stop_line}
use Rattle.causes.specs.Causes.{Call, request, file, cancel, close, removal}
use Rattle.calls.specs.Machine.{step, answer_by}
use Rattle.calls.specs.Days.{quiet_answer}
use Rattle.journal.specs.declared.Body.{Body}
use Rattle.journal.specs.declared.Body.TheVariants as body
use Rattle.journal.specs.Journal.{Entry, parse, after_entry, first_book, is_bad}
use Rattle.trace_lines.specs.Lines.{entry_line, group_lines}
use Rattle.records.specs.Limits.{file_size}
use Rattle.rules.specs.declared.Cause.{Cause}
use Rattle.calls.specs.declared.Returned.{Returned}
use Rattle.rules.specs.declared.Cause.TheVariants.{BadArgument}

-- what a call answers on a ledger, by the machine
abbrev pub answer_to : Book → Call → Result Returned Cause
answer_to k c = answer_by (step k c) (step k c).result

-- what an entry's call answers: a fresh that is a bad entry is no entry, and "a body whose fields are not digits" is "a refused call, cause 02"
unfoldable pub entry_answer : Book → Body → List ℕ → Result Returned Cause
entry_answer k (body.Fresh s) bytes = quiet_answer 0
entry_answer k (body.Request r) bytes = answer_to k (request r file_size)
entry_answer k body.File bytes = answer_to k (file bytes file_size)
entry_answer k (body.Cancel id) bytes = answer_to k (cancel id file_size)
entry_answer k (body.Close d) bytes = answer_to k (close d)
entry_answer k (body.Removal a) bytes = answer_to k (removal a)
entry_answer k body.Unread bytes = Err BadArgument

-- "Under the line of a file that was carried out, a line for each of its groups, in order": a refused file has no verdicts
unfoldable pub lines_under : Book → Body → List ℕ → List ℕ
lines_under k (body.Fresh s) bytes = []
lines_under k (body.Request r) bytes = []
lines_under k body.File bytes = group_lines k.confirmation (file_groups bytes) (step k (file bytes file_size)).verdicts
lines_under k (body.Cancel id) bytes = []
lines_under k (body.Close d) bytes = []
lines_under k (body.Removal a) bytes = []
lines_under k body.Unread bytes = []

-- the lines of an entry on a ledger
unfoldable pub entry_lines : Book → ℕ → Entry → List ℕ
entry_lines k number e =
    entry_line number e.body e.bytes (entry_answer k e.body e.bytes) ++ lines_under k e.body e.bytes

-- those of entries in order
unfoldable pub trace_lines : ℕ → Book → List Entry → List ℕ
trace_lines number k [] = []
trace_lines number k (e ∷ es) = entry_lines k number e ++ trace_lines (number + 1) (after_entry e.body e.bytes k) es

-- the trace of a journal: "A bad entry (or an entry cut short, or an empty journal, or a refused fresh) ends the lines with `stopped,13`."
unfoldable pub trace_of : List ℕ → List ℕ
trace_of s = trace_lines 1 first_book (parse 0 s).entries ++ stop_line (is_bad s)
