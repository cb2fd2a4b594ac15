-- What a read into a buffer comes to. Assumes nothing.
use Rattle.std.specs.Prelude.{ℕ, zero, suc, ◌+◌, ◌-◌, ◌^◌, ◌≤◌, ◌<◌, ◌≡◌, Bool, true, false, List, Option, None, Some, Result, Ok, Err, length, take, drop}
use Rattle.std.specs.Io.KnownBytes.{Keeps, Consumes, IsAtEnd}
use Rattle.std.specs.declared.io.Error.{Error}

-- what a read comes to: how many bytes the buffer holds then, none where the input has ended, or why the read failed
abbrev pub Filled : Type 0
Filled = Result (Option ℕ) Error

-- what a read that is handed n bytes may answer: an error, or how many bytes it moved, at most n
abbrev pub Moved : ℕ → Result ℕ Error → Type 0
Moved n (Ok k) = k ≤ n
Moved n (Err e) = Unit {0}

-- A read answers an error, or how many bytes it put at the start of buf, 0 at the end of the input: what an answer comes to where so many bytes were held
-- before. A failed read is never the end, and the end never a failed read.
abbrev pub filled_by : Result ℕ Error → ℕ → Filled
filled_by (Err e) have = Err e
filled_by (Ok zero) have = Ok None
filled_by (Ok (suc k)) have = Ok (Some (have + suc k))

-- the bytes held and those read have a count in 64 bits
abbrev pub RoomFor : ℕ → Result ℕ Error → Type 0
RoomFor have (Err e) = Unit {0}
RoomFor have (Ok k) = have + k < 2 ^ 64

-- a buffer of so many bytes, of which some were held before, holds more than before, and no more than it has
abbrev pub HoldsRead : ℕ → ℕ → Filled → Type 0
HoldsRead have room (Ok (Some n)) = (have < n) × (n ≤ room)
HoldsRead have room (Ok None) = Unit {0}
HoldsRead have room (Err e) = Unit {0}

-- the bytes held before stay, whatever the read came to; which bytes were read behind them, `Comes` says where the reader's are known
pub record Fills (have : ℕ) (before after : List ℕ) (r : Filled) : Type 0 where
  pub stay : take have after ≡ take have before
  pub holds : HoldsRead have (length after) r
  -- what the read answered
  pub got : Result ℕ Error
  pub moved : Moved (length before - have) got
  pub came : r ≡ filled_by got have

-- where it is known which bytes a reader has left: those behind the bytes held before are its next ones, and it lost no other. Where a read that had room
-- came to the end of the input, none was left; a failed one took none.
abbrev pub Comes : ℕ → List ℕ → Option (List ℕ) → Option (List ℕ) → Filled → Type 0
Comes have after before rest (Ok (Some n)) = Consumes before rest (drop have (take n after))
Comes have after before rest (Ok None) = Keeps before rest × (have < length after → IsAtEnd rest)
Comes have after before rest (Err e) = Keeps before rest

-- a read came to something else than the end of the input
abbrev pub not_ended : Filled → Bool
not_ended (Ok (Some n)) = true
not_ended (Ok None) = false
not_ended (Err e) = true
