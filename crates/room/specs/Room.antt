-- How many bytes the notices of a journal have at most, by the tags and lengths of its entries alone. Only `room::has_room_for_any` cites it. Assumes nothing.
use Rattle.std.specs.Prelude.{ℕ, zero, suc, ◌+◌, cond, List, Option, Some, None, eqb, length, drop}
use Rattle.journal.specs.declared.Frame.{Frame}
use Rattle.journal.specs.Entries.{frame_of}
use Rattle.records.specs.Limits.{notice_size}

-- what an entry with this tag and a body of n bytes writes at most: a request or a cancel one notice, a file no more than it has
unfoldable pub most_of : ℕ → ℕ → ℕ
most_of tag n = cond (eqb tag 1) notice_size (cond (eqb tag 2) n (cond (eqb tag 3) notice_size 0))

-- by what stands at the start of some bytes; next goes on after an entry of so many bytes
abbrev pub most_on : Option Frame → (ℕ → ℕ) → ℕ
most_on None next = 0
most_on (Some f) next = most_of f.tag f.length + next (f.length + 3)

-- of so many entries
unfoldable pub most_up_to : ℕ → List ℕ → ℕ
most_up_to zero s = 0
most_up_to (suc fuel) s = most_on (frame_of s) (λ n. most_up_to fuel (drop n s))

-- of all of them: each has a byte at least, so there are no more entries than bytes
unfoldable pub most_in : List ℕ → ℕ
most_in s = most_up_to (length s) s
