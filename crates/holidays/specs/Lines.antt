-- What the bytes that program `business_day` is given hold: a date, a digit, and holidays, one date a line. Assumes nothing.
use Rattle.std.specs.Prelude.{ℕ, ◌-◌, cond, List, [], ◌∷◌, map, eqb, length}
use Rattle.fields.specs.Digits.{is_digit}
use Rattle.fields.specs.Field.{field_of, value}

-- the number of 8 digits; 0, which is no date, where the bytes are anything else
unfoldable pub date_in : List ℕ → ℕ
date_in s = cond (eqb (length s) 8) (value (field_of s)) 0

-- the number of one digit; 10, which is over 9, where the bytes are anything else
abbrev pub digit_in : List ℕ → ℕ
digit_in [] = 10
digit_in (x ∷ []) = cond (is_digit x) (x - 48) 10
digit_in (x ∷ y ∷ s) = 10

-- a byte that stands first in the line that follows, or that is a line without byte 10
abbrev pub on_first : ℕ → List (List ℕ) → List (List ℕ)
on_first b [] = (b ∷ []) ∷ []
on_first b (line ∷ ls) = (b ∷ line) ∷ ls

-- the lines of some bytes: each ends before a byte 10, and the last one may lack it
abbrev pub lines : List ℕ → List (List ℕ)
lines [] = []
lines (b ∷ s) = cond (eqb b 10) ([] ∷ lines s) (on_first b (lines s))

-- one date a line: 0 stands for a line that is not 8 digits
unfoldable pub holidays_of : List ℕ → List ℕ
holidays_of s = map date_in (lines s)
