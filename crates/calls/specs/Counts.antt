-- What a file returns of its groups. Assumes nothing.
use Rattle.std.specs.Prelude.{ℕ, ◌+◌, ◌≡◌, List, length, Ok}
use Rattle.ledger.specs.declared.Ledger.{Ledger}
use Rattle.ledger.specs.Books.{Book}
use Rattle.file.specs.File.{file_groups}
use Rattle.causes.specs.Causes.{file}
use Rattle.calls.specs.declared.Returned.{Returned}
use Rattle.calls.specs.Machine.{step, called}

-- "Returned: accepted, rejected (together the number of groups)": of every file that is carried out
abbrev pub GroupsCounted : Type 0
GroupsCounted =
    (l : Book) (s : List ℕ) (room : ℕ) → (step l (file s room)).result ≡ Ok tt
    → (step l (file s room)).accepted + (step l (file s room)).rejected ≡ length (file_groups s)

-- the same of what the call by value returns, on any ledger
abbrev pub GroupsReturned : Type 0
GroupsReturned =
    (l : Ledger) (s : List ℕ) (room : ℕ) (r : Returned) → (called l (file s room)).answer ≡ Ok r
    → r.accepted + r.rejected ≡ length (file_groups s)
