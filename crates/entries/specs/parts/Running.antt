-- What a run over the entries at the start of some bytes leaves. Assumes nothing.
use Rattle.std.specs.Prelude.{ℕ, ◌+◌, ◌-◌, ◌≤◌, ◌≡◌, Bool, true, false, ◌&&◌, List, [], ◌++◌, ltb, length, drop}
use Rattle.fields.specs.Put.{put, part}
use Rattle.ledger.specs.Books.{book}
use Rattle.ledger.specs.Sound.{sound_ledger}
use Rattle.words.specs.Layout.{ledger_of}
use Rattle.group.specs.parts.Turns.{if_written}
use Rattle.journal.specs.Journal.{Entry, Parsed, parse, after_entries}
use Rattle.journal.specs.EntryCalls.{ledger_after_entries, notices_of}
use Rattle.journal.specs.declared.Body.{Body}
use Rattle.entries.specs.declared.entry.Ended.{Ended}
use Rattle.entries.specs.declared.entry.Ended.TheVariants.{Cut, Bad, Full}
use Rattle.entries.specs.declared.run.Ran.{Ran}
use Rattle.records.specs.Limits.{file_size}

-- the entries es, and what is parsed behind them
abbrev pub behind : List Entry → Parsed → Parsed
behind es p = record { entries = es ++ p.entries; stopped = p.stopped; rest = p.rest }

-- a run that ended met a bad entry
abbrev pub met_bad : Ended → Bool
met_bad Cut = false
met_bad Bad = true
met_bad Full = false

-- or its output had no room for another entry's
abbrev pub had_no_room : Ended → Bool
had_no_room Cut = false
had_no_room Bad = false
had_no_room Full = true

abbrev pub ran_to : ℕ → ℕ → ℕ → Ended → Ran
ran_to used seen written end = record { used = used; seen = seen; written = written; end = end }

-- the entry of n bytes at the start of src, whose body is b
abbrev pub entry_at : List ℕ → Body → ℕ → Entry
entry_at src b n = record { body = b; bytes = part src 3 (n - 3) }

-- the entries `done`, the first of src, were made, after so many entries: they have `at` bytes, and `k` entries came by now
pub record FirstMade (seen : ℕ) (src ws₀ ws : List ℕ) (at k : ℕ) (done : List Entry) : Type 0 where
  pub sound : sound_ledger (ledger_of ws) ≡ true
  pub used : at ≤ length src
  pub parsed : parse seen src ≡ behind done (parse k (drop at src))
  pub ledger : ledger_of ws ≡ ledger_after_entries (ledger_of ws₀) done
  pub books : book (ledger_of ws) ≡ after_entries (book (ledger_of ws₀)) done
  pub count : k ≡ seen + length done

-- no entry is left unless the output is full
pub record NoneLeft (src : List ℕ) (r : Ran) : Type 0 where
  pub left :
      had_no_room r.end ≡ false → parse r.seen (drop r.used src) ≡ record { entries = []; stopped = met_bad r.end; rest = drop r.used src }

-- the first entries of src were made, after so many entries, and their notices, if such are written, stand at the start of the output; none is left unless the
-- output has no room for another entry's
pub record RanIn (seen : ℕ) (writes : Bool) (src ws₀ out₀ ws out : List ℕ) (r : Ran) : Type 0 where
  pub done : List Entry
  pub made : FirstMade seen src ws₀ ws r.used r.seen done
  pub kept : length out ≡ length out₀
  pub bytes : out ≡ put out₀ 0 (if_written writes (notices_of (book (ledger_of ws₀)) done))
  pub written : r.written ≡ length (notices_of (book (ledger_of ws₀)) done)
  pub within : writes ≡ true → r.written ≤ length out₀
  pub full : had_no_room r.end ≡ (writes && ltb (length out₀ - r.written) file_size)
  pub rest : NoneLeft src r
