-- What a call leaves of a lent ledger. Assumes nothing.
use Rattle.std.specs.Prelude.{ℕ, ℤ, ◌≡◌, Bool, true, List, Result, Ok, Err}
use Rattle.fields.specs.Put.{put}
use Rattle.group.specs.parts.Turns.{if_written}
use Rattle.causes.specs.Causes.{Call}
use Rattle.calls.specs.Machine.{called, step_in}
use Rattle.calls.specs.parts.Answers.{noticed}
use Rattle.ledger.specs.declared.Ledger.{Ledger}
use Rattle.rules.specs.declared.Cause.{Cause}
use Rattle.calls.specs.declared.Returned.{Returned}

-- what is lent holds the ledger that the call leaves by value, places past the count too; its answer is that of the call by value; and its notices are
-- written, if such are
pub record CalledIn {A : Type 0} (fits : List A → Bool) (held : List A → Ledger) (writes : Bool) (c : Call) (xs₀ : List A) (out₀ : List ℕ) (xs : List A)
    (out : List ℕ) (a : Result Returned Cause) : Type 0 where
  pub holds : fits xs ≡ true
  pub ledger : held xs ≡ (called (held xs₀) c).ledger
  pub answer : a ≡ (called (held xs₀) c).answer
  pub bytes : out ≡ put out₀ 0 (if_written writes (step_in (held xs₀) c).written)

-- "changed only by a call that succeeds": after a fresh that succeeds a ledger is held, and one that is refused leaves everything as it was
abbrev pub FreshLeaves : {A : Type 0} → (List A → Bool) → List A → List A → Result Returned Cause → Type 0
FreshLeaves holds xs₀ xs (Ok r) = holds xs ≡ true
FreshLeaves holds xs₀ xs (Err n) = xs ≡ xs₀

-- the answer of a request or a cancel, by the change that it makes or the cause against it
abbrev pub answered : Result ℤ Cause → Result Returned Cause
answered (Ok change) = noticed change
answered (Err n) = Err n
