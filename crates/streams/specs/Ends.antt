-- Where the bytes of a piece go, and how the reading of standard input ends. Assumes nothing.
use Rattle.std.specs.Prelude.{ℕ, false, cond, Result, Ok, Err}
use Rattle.input.specs.Filled.{Filled, not_ended}
use Rattle.streams.specs.declared.pieces.End.{End}
use Rattle.streams.specs.declared.pieces.Unfinished.{Unfinished}
use Rattle.streams.specs.declared.output.Failed.{Failed}
use Rattle.streams.specs.declared.output.Failed.TheVariants as failed
use Rattle.streams.specs.declared.output.Output.{Output}
use Rattle.streams.specs.declared.output.Stream.TheVariants.{Stdout}

-- so many bytes go to standard output
abbrev pub printed : ℕ → Output
printed n = record { stream = Stdout; length = n }

-- where the reading has come to, and no bad entry stopped it
abbrev pub end_at : ℕ → ℕ → ℕ → End
end_at seen left total = record { seen = seen; stopped = false; left = left; total = total }

-- a read that brought no bytes: the end of the input is no failure, and a failed read not the end; where the reading came to, both say
abbrev pub end_of_input : Filled → ℕ → ℕ → ℕ → Result End Unfinished
end_of_input f seen left total = cond (not_ended f) (Err (record { end = end_at seen left total; failed = failed.Read })) (Ok (end_at seen left total))

-- after a piece: a bad entry is no failure; where the reading came to, it says whether the piece was written or not
abbrev pub end_of_piece : End → Result (Unit {0}) Failed → Result End Unfinished
end_of_piece end (Ok u) = Ok end
end_of_piece end (Err e) = Err (record { end = end; failed = e })

-- how many bytes of standard input are read at a time at most, and how many are written
abbrev pub piece_size : ℕ
piece_size = 262144
