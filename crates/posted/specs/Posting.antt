-- What program `posted` writes at the end of its input. The claim is of the bytes that came; where it is known which bytes a reader has, it is of those.
-- Assumes nothing.
use Rattle.std.specs.Prelude.{ℕ, ◌≤◌, ◌≡◌, Bool, cond, List, [], Result, Ok, Err, length, take}
use Rattle.fields.specs.Put.{put}
use Rattle.ledger.specs.Books.{book}
use Rattle.words.specs.Layout.{ledger_of}
use Rattle.table.specs.Table.{table_of}
use Rattle.journal.specs.Journal.{ends_bad}
use Rattle.report.specs.Report.{posted_of, Claimed}
use Rattle.streams.specs.declared.pieces.End.{End}
use Rattle.streams.specs.declared.pieces.Unfinished.{Unfinished}
use Rattle.streams.specs.declared.output.Output.{Output}
use Rattle.streams.specs.declared.output.Stream.TheVariants.{Stdout}

-- the table of the ledger in words, or nothing where a read failed
abbrev pub table_by : Result End Unfinished → List ℕ → List ℕ
table_by (Ok e) ws = table_of (book (ledger_of ws)) (ends_bad e.stopped e.left e.seen)
table_by (Err x) ws = []

-- it goes to standard output
pub record TableWritten (e : Result End Unfinished) (ws before after : List ℕ) (o : Output) : Type 0 where
  pub stream : o.stream ≡ Stdout
  pub bytes : after ≡ put before 0 (table_by e ws)
  pub size : o.length ≡ length (table_by e ws)
  pub within : o.length ≤ length after

-- a read failed and nothing is written; or some bytes came, their posted table is written to standard output, and of these bytes the claim holds
pub record Posts (out : List ℕ) (o : Output) : Type 0 where
  pub failed : Bool
  pub bytes : List ℕ
  pub stream : o.stream ≡ Stdout
  pub table : take o.length out ≡ cond failed [] (posted_of bytes)
  pub size : o.length ≡ length (cond failed [] (posted_of bytes))
  pub within : o.length ≤ length out
  pub claimed : Claimed bytes

-- of all bytes that a reader had: a read failed and nothing is written; or their posted table is written, and of these bytes the claim holds
pub record PostsAll (input out : List ℕ) (o : Output) : Type 0 where
  pub failed : Bool
  pub table : take o.length out ≡ cond failed [] (posted_of input)
  pub claimed : Claimed input
