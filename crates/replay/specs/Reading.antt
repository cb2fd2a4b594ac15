-- What comes of a journal that is read in pieces. The claim is of the bytes that came; where it is known which bytes a reader has, they are its first ones.
-- Assumes nothing.
use Rattle.std.specs.Prelude.{ℕ, ◌+◌, ◌≤◌, ◌≡◌, true, false, List, [], Option, length, take}
use Rattle.std.specs.Io.KnownBytes.{Consumes, Appends, IsAtEnd}
use Rattle.ledger.specs.Books.{Book, book}
use Rattle.ledger.specs.Sound.{sound_ledger}
use Rattle.words.specs.Layout as layout
use Rattle.journal.specs.Journal.{Entry, parse, first_book, ends_bad, journal_ledger, is_bad}
use Rattle.journal.specs.EntryCalls.{ledger_after_entries, notices_of, first_ledger}
use Rattle.trace_lines.specs.Trace.{trace_lines}
use Rattle.replay.specs.declared.Wanted.{Wanted}
use Rattle.replay.specs.declared.Wanted.TheVariants.{Nothing, Notices, Lines}
use Rattle.streams.specs.declared.pieces.End.{End}

-- ---- what is written
-- of entries that are made on a ledger after so many entries: nothing, their notices, or their lines
abbrev pub written_of : Wanted → ℕ → Book → List Entry → List ℕ
written_of Nothing seen k es = []
written_of Notices seen k es = notices_of k es
written_of Lines seen k es = trace_lines (seen + 1) k es

-- ---- the whole
-- some bytes came in pieces: the ledger, the count of entries, whether a bad one stopped the reading and the bytes left in the buffer are those of reading
-- them whole, so it ends bad where they do; and as many bytes were written as are asked for of their entries
pub record Reads (t : Wanted) (ws buf : List ℕ) (e : End) : Type 0 where
  pub bytes : List ℕ
  pub sound : sound_ledger (layout.ledger_of ws) ≡ true
  pub ledger : layout.ledger_of ws ≡ ledger_after_entries first_ledger (parse 0 bytes).entries
  pub books : book (layout.ledger_of ws) ≡ journal_ledger bytes
  pub seen : e.seen ≡ length (parse 0 bytes).entries
  pub stopped : e.stopped ≡ (parse 0 bytes).stopped
  pub rest : take e.left buf ≡ (parse 0 bytes).rest
  pub within : e.left ≤ length buf
  pub bad : ends_bad e.stopped e.left e.seen ≡ is_bad bytes
  pub total : e.total ≡ length (written_of t 0 first_book (parse 0 bytes).entries)

-- the same of the bytes that a reader had left before and has after, and of those that a writer held before and holds after, where they are known: the bytes
-- that came are the reader's first ones, and what is asked for of their entries stands behind what the writer held. Where no bad entry stopped the reading none
-- is left.
pub record ReadsFrom (t : Wanted) (had left held holds : Option (List ℕ)) (ws buf : List ℕ) (e : End) : Type 0 where
  pub reads : Reads t ws buf e
  pub came : Consumes had left reads.bytes
  pub ended : e.stopped ≡ false → IsAtEnd left
  pub written : Appends held holds (written_of t 0 first_book (parse 0 reads.bytes).entries)
