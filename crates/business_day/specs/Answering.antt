-- What program `business_day` prints for its arguments and its input. The claim is of the bytes that came; where it is known which bytes a reader has, it is
-- of those. Assumes nothing.
use Rattle.std.specs.Prelude.{ℕ, ◌≤◌, ◌<◌, ◌≡◌, Bool, true, false, cond, List, [], ◌++◌, Option, None, Some, Result, Ok, Err, length, take}
use Rattle.std.specs.Io.KnownBytes.{Consumes, IsAtEnd}
use Rattle.input.specs.Filled.{Filled}
use Rattle.streams.specs.declared.output.Failed.{Failed}
use Rattle.streams.specs.Written.{Writes}
use Rattle.holidays.specs.DayLine.{day_line, day_of}

-- one byte more than 64 lines of 9 bytes
abbrev pub input_room : ℕ
input_room = 577

-- the reading stops where the input ends or a read fails, and else only where the buffer, of so many bytes, is full
abbrev pub StopsAt : ℕ → ℕ → Filled → Type 0
StopsAt room n (Ok (Some k)) = n ≡ room
StopsAt room n (Ok None) = n < room
StopsAt room n (Err e) = n < room

-- of the bytes that a reader had, where they are known: these came and the others are left, none where the input ended
abbrev pub Took : List ℕ → Option (List ℕ) → Option (List ℕ) → Filled → Type 0
Took bytes before rest (Ok (Some n)) = Consumes before rest bytes
Took bytes before rest (Ok None) = Consumes before rest bytes × IsAtEnd rest
Took bytes before rest (Err e) = Consumes before rest bytes

-- a failed read
abbrev pub is_failed : Filled → Bool
is_failed (Ok (Some n)) = false
is_failed (Ok None) = false
is_failed (Err e) = true

-- where the last read came to bytes, there may be more: they change nothing
abbrev pub RestUnread : List ℕ → List ℕ → List ℕ → Filled → Type 0
RestUnread date number s (Ok (Some n)) = (more : List ℕ) → day_of date number (s ++ more) ≡ day_of date number s
RestUnread date number s (Ok None) = Unit {0}
RestUnread date number s (Err e) = Unit {0}

-- a read failed and nothing is printed; or these bytes came, and the line for them and the arguments stands at the start of the output. It has n bytes.
pub record Answers (date number buf out : List ℕ) (n : ℕ) : Type 0 where
  -- what the last read came to
  pub last : Filled
  pub bytes : List ℕ
  pub held : bytes ≡ take (length bytes) buf
  pub stops : StopsAt input_room (length bytes) last
  pub rest : RestUnread date number bytes last
  pub line : take n out ≡ cond (is_failed last) [] (day_line (day_of date number bytes))
  pub size : n ≡ length (cond (is_failed last) [] (day_line (day_of date number bytes)))
  pub within : n ≤ length out

-- of all bytes that a reader had: nothing is printed, as where a read fails, which no contract can tell; or the line for all of them and the arguments stands
-- at the start of the output
pub record AnswersAll (date number input out : List ℕ) (n : ℕ) : Type 0 where
  pub failed : Bool
  pub line : take n out ≡ cond failed [] (day_line (day_of date number input))

-- of all bytes that a reader had, and of those that a writer holds before and after: nothing is written, as where a read fails; or the line for all of them and
-- the arguments is, or only its first bytes where a write failed (then `written` is an `Err`)
abbrev pub WritesAll : List ℕ → List ℕ → List ℕ → Option (List ℕ) → Option (List ℕ) → Result (Unit {0}) Failed → Type 0
WritesAll date number input before after written =
    (failed : Bool) × Writes written (cond failed [] (day_line (day_of date number input))) before after
