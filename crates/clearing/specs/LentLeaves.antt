-- What a call on a lent ledger leaves and answers. Assumes nothing.
use Rattle.std.specs.Prelude.{ℕ, ◌≡◌, List, Result}
use Rattle.fields.specs.Put.{put}
use Rattle.ledger.specs.declared.Ledger.{Ledger}
use Rattle.causes.specs.Causes.{Call}
use Rattle.calls.specs.Machine.{step_in, called}
use Rattle.rules.specs.declared.Cause.{Cause}
use Rattle.calls.specs.declared.Returned.{Returned}

-- "The ledger is lent to each call and changed only by a call that succeeds": l₀ and out₀ as lent, l and out as they come back, and the answer
abbrev pub LentLeaves : Ledger → Call → List ℕ → Ledger → List ℕ → Result Returned Cause → Type 0
LentLeaves l₀ c out₀ l out a =
    (l ≡ (called l₀ c).ledger) × ((a ≡ (called l₀ c).answer) × (out ≡ put out₀ 0 (step_in l₀ c).written))
