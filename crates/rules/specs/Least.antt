-- The least number that passes a test. Assumes nothing.
use Rattle.std.specs.Prelude.{ℕ, zero, suc, ◌-◌, Bool, true, false, Option, Some, None}

-- the first of the n numbers from k on that passes
unfoldable pub least : (ℕ → Bool) → ℕ → ℕ → Option ℕ
least p k zero = None
least p k (suc n) = elim (p k) [ true ↦ Some k | false ↦ least p (suc k) n ]

-- the least number that passes, of those from a to b
unfoldable pub least_up_to : (ℕ → Bool) → ℕ → ℕ → Option ℕ
least_up_to p a b = least p a (suc b - a)
