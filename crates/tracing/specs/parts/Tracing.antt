-- What a run over the entries at the start of some bytes leaves, and the lines that it writes. Assumes nothing.
use Rattle.std.specs.Prelude.{ℕ, ◌+◌, ◌-◌, ◌≤◌, ◌≡◌, Bool, true, false, List, ◌++◌, ltb, length, Result, Ok, Err}
use Rattle.fields.specs.Put.{put, part}
use Rattle.ledger.specs.declared.Ledger.{Ledger}
use Rattle.ledger.specs.Books.{book}
use Rattle.ledger.specs.Sound.{sound_ledger}
use Rattle.words.specs.Layout.{ledger_of}
use Rattle.journal.specs.declared.Body.{Body}
use Rattle.journal.specs.declared.Head.TheVariants.{Whole}
use Rattle.journal.specs.Entries.{head_of}
use Rattle.journal.specs.Journal.{Entry}
use Rattle.journal.specs.EntryCalls.{entry_called, entry_written}
use Rattle.entries.specs.declared.run.Ran.{Ran}
use Rattle.entries.specs.parts.Running.{entry_at, had_no_room, FirstMade, NoneLeft}
use Rattle.trace_lines.specs.Trace.{entry_lines, trace_lines}
use Rattle.records.specs.Limits.{file_size}
use Rattle.rules.specs.declared.Cause.{Cause}
use Rattle.calls.specs.declared.Returned.{Returned}

-- a call was carried out
abbrev pub is_done : Result Returned Cause → Bool
is_done (Ok r) = true
is_done (Err n) = false

-- an entry's line has at most 52 bytes, and each line of its at most 200 groups at most 43
abbrev pub entry_room : ℕ
entry_room = 8652

-- on whatever ledger the call of the entry answered a and wrote what sent begins with: the lines of the entry were put at `at` and end at r
pub record LinesOf (number : ℕ) (src : List ℕ) (n : ℕ) (a : Result Returned Cause) (sent out₀ : List ℕ) (at : ℕ) (out : List ℕ) (r : ℕ) : Type 0 where
  pub lines :
      (seen : ℕ) (l : Ledger) (b : Body) (rest : List ℕ) → head_of seen src ≡ Whole b n → sound_ledger l ≡ true
      → a ≡ (entry_called file_size l b (part src 3 (n - 3))).answer → sent ≡ entry_written file_size l b (part src 3 (n - 3)) ++ rest
      → (out ≡ put out₀ at (entry_lines (book l) number (entry_at src b n))) × (r ≡ at + length (entry_lines (book l) number (entry_at src b n)))
  pub within : r ≤ at + entry_room

-- ---- entries one after another
-- the first entries of src were made, after so many entries: they have `at` bytes, `k` entries came by now, and their lines stand at the start of the
-- output, `n` bytes
pub record Traces (seen : ℕ) (src ws₀ out₀ ws out : List ℕ) (at k n : ℕ) : Type 0 where
  pub done : List Entry
  pub made : FirstMade seen src ws₀ ws at k done
  pub kept : length out ≡ length out₀
  pub bytes : out ≡ put out₀ 0 (trace_lines (seen + 1) (book (ledger_of ws₀)) done)
  pub written : n ≡ length (trace_lines (seen + 1) (book (ledger_of ws₀)) done)
  pub within : n ≤ length out₀

-- and none is left unless the output has no room for another entry's lines
pub record TracesIn (seen : ℕ) (src ws₀ out₀ ws out : List ℕ) (r : Ran) : Type 0 where
  pub traces : Traces seen src ws₀ out₀ ws out r.used r.seen r.written
  pub full : had_no_room r.end ≡ ltb (length out₀ - r.written) entry_room
  pub rest : NoneLeft src r
