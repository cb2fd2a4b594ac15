-- What a write does to the bytes that a writer holds, as far as they are known. Assumes nothing.
use Rattle.std.specs.Prelude.{ℕ, ◌≤◌, List, Option, Result, MatchResult, length, take}
use Rattle.std.specs.Io.KnownBytes.{Appends}

-- it took so many first bytes
abbrev pub AppendsFirst : List ℕ → Option (List ℕ) → Option (List ℕ) → Type 0
AppendsFirst bytes before after = (n : ℕ) × (n ≤ length bytes) × Appends before after (take n bytes)

-- it took all bytes, or a write failed and it took so many first ones
abbrev pub Writes : {T E : Type 0} → Result T E → List ℕ → Option (List ℕ) → Option (List ℕ) → Type 0
Writes r bytes before after = MatchResult r (λ _. Appends before after bytes) (λ _. AppendsFirst bytes before after)
