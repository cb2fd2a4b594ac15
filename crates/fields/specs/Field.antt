-- What a field holds: its number where it holds digits only. Assumes nothing.
use Rattle.std.specs.Prelude.{ℕ, Bool, true, false, cond, List, Option, Some, None, unwrap_or}
use Rattle.fields.specs.Digits.{number, numeric}

unfoldable pub field_of : List ℕ → Option ℕ
field_of xs = cond (numeric xs) (Some (number xs)) None

-- a field that is not numeric
abbrev pub bad : Option ℕ → Bool
bad (Some n) = false
bad None = true

-- its number, 0 where it is not numeric
abbrev pub value : Option ℕ → ℕ
value f = unwrap_or f 0
