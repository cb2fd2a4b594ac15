-- What is written at the end of the input, behind what is written of the entries. The claim is of the bytes that came, and
-- where it is known which bytes a reader has, of those. Assumes nothing.
use Rattle.std.specs.Prelude.{ℕ, ◌≤◌, ◌≡◌, Bool, not, ◌&&◌, List, [], ◌++◌, Option, Result, Ok, Err, is_ok, false, length, take}
use Rattle.fields.specs.Put.{put}
use Rattle.table.specs.Table.{stop_line}
use Rattle.journal.specs.Journal.{parse, first_book, ends_bad, is_bad}
use Rattle.streams.specs.declared.pieces.End.{End}
use Rattle.streams.specs.declared.pieces.Unfinished.{Unfinished}
use Rattle.streams.specs.declared.output.Failed.{Failed}
use Rattle.streams.specs.declared.output.Stream.{Stream}
use Rattle.streams.specs.declared.output.Stream.TheVariants.{Stdout, Stderr}
use Rattle.streams.specs.Written.{Writes}
use Rattle.replay.specs.Reading.{written_of}
use Rattle.replay.specs.declared.Wanted.{Wanted}
use Rattle.replay.specs.declared.Wanted.TheVariants.{Nothing, Notices, Lines}

-- the line `stopped,13` where the reading ended bad and nothing failed
abbrev pub stop_by : Result End Unfinished → List ℕ
stop_by (Ok e) = stop_line (ends_bad e.stopped e.left e.seen)
stop_by (Err x) = stop_line false

-- it is put at the start of the output, n bytes
pub record StopLine (e : Result End Unfinished) (before after : List ℕ) (n : ℕ) : Type 0 where
  pub bytes : after ≡ put before 0 (stop_by e)
  pub size : n ≡ length (stop_by e)
  pub within : n ≤ length after

-- the stream that the line goes to: a BRN file has no such line, so where notices are written it is standard error; else standard output
abbrev pub last_to : Wanted → Stream
last_to Nothing = Stdout
last_to Notices = Stderr
last_to Lines = Stdout

-- a read or a write failed, or some bytes came, and the line stands at the start of the output where they end bad; nothing does where a read or a write failed
pub record StopLineWritten (out : List ℕ) (n : ℕ) : Type 0 where
  pub failed : Bool
  pub bytes : List ℕ
  pub line : take n out ≡ stop_line (not failed && is_bad bytes)
  pub within : n ≤ length out

-- of all bytes that a reader had, and of those that a writer holds before and after: what is asked for of their entries was written, and the line stands at the
-- start of the output where they end bad; or a read or a write failed, the first of it was written, and no line stands there
pub record EndsAll (t : Wanted) (input : List ℕ) (before after : Option (List ℕ)) (out : List ℕ) (n : ℕ) : Type 0 where
  pub went : Result (Unit {0}) Failed
  pub written : Writes went (written_of t 0 first_book (parse 0 input).entries) before after
  pub line : take n out ≡ stop_line (is_ok went && is_bad input)

-- what stands on standard output at the end: what is asked for of the entries of some bytes, and the line behind it, where it goes there
abbrev pub line_of : Wanted → List ℕ → List ℕ
line_of Nothing input = stop_line (is_bad input)
line_of Notices input = []
line_of Lines input = stop_line (is_bad input)

abbrev pub all_of : Wanted → List ℕ → List ℕ
all_of t input = written_of t 0 first_book (parse 0 input).entries ++ line_of t input

-- all that was written, or the first of it where a read or a write failed
abbrev pub WritesWanted : Wanted → List ℕ → Option (List ℕ) → Option (List ℕ) → Type 0
WritesWanted t input before after = (went : Result (Unit {0}) Failed) × Writes went (all_of t input) before after

-- the bytes that are left to write are those of that line
pub record StopLineSize (n : ℕ) : Type 0 where
  pub failed : Bool
  pub bytes : List ℕ
  pub size : n ≡ length (stop_line (not failed && is_bad bytes))
