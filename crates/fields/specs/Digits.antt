-- Numbers as ASCII digits, at every width. Assumes nothing.
use Rattle.std.specs.Prelude.{ℕ, zero, suc, ◌+◌, ◌-◌, ◌*◌, ◌/◌, ◌%◌, ◌^◌, Bool, true, ◌&&◌, List, [], ◌∷◌, length, leb, ltb}

-- n has at most w digits
abbrev pub fits : ℕ → ℕ → Bool
fits w n = ltb n (10 ^ w)

-- "numbers are zero-filled": the w lowest digits of n in base ten, the highest first
unfoldable pub digits : ℕ → ℕ → List ℕ
digits zero n = []
digits (suc w) n = (48 + n / 10 ^ w % 10) ∷ digits w n

-- the number that a list of digits stands for
unfoldable pub number : List ℕ → ℕ
number [] = 0
number (x ∷ xs) = (x - 48) * 10 ^ length xs + number xs

-- a code is that of a digit, 0 to 9
unfoldable pub is_digit : ℕ → Bool
is_digit x = leb 48 x && leb x 57

-- "a numeric field holds digits only"
unfoldable pub numeric : List ℕ → Bool
numeric [] = true
numeric (x ∷ xs) = is_digit x && numeric xs
