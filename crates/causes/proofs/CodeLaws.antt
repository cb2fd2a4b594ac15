-- Five bytes as a rate code. Assumes nothing.
use mathlib.Core.Path.{◌≡◌, refl}
use mathlib.Core.Bool.{Bool, true, false, ◌&&◌, ◌||◌, and-true, and-false}
use lib.Dec.{eqb}
use Rattle.fields.specs.Digits.{is_digit}
use Rattle.fields.specs.Put.{same_list}
use Rattle.ledger.specs.declared.RateCode.{RateCode}
use Rattle.ledger.specs.Bills.{is_letter, is_rate_code, code_bytes}
use Rattle.causes.specs.declared.CodeField.{CodeField}
use Rattle.causes.specs.Causes.{five_of}
use Rattle.causes.specs.Requests.{code_of}

-- they are this code, compared byte by byte
pub same-five : (x : CodeField) (c : RateCode)
    → (eqb x.first c.first && (eqb x.second c.second && (eqb x.third 67 && (eqb x.tens c.tens && eqb x.ones c.ones))))
    ≡ same_list (five_of x) (code_bytes c)
unfolding same_list
same-five x c = rw (and-true (eqb x.ones c.ones))

third_last : (a b c d e : Bool) → (a && b && true && d && e && c) ≡ (a && b && c && d && e)
third_last true true true d e = go d e
  where
    go : (d e : Bool) → (d && e && true) ≡ (d && e)
    go true true = refl
    go true false = refl
    go false e = refl
third_last true true false d e = and-false (d && e)
third_last true false c d e = refl
third_last false b c d e = refl

-- they hold a code where their four that are kept do, and the third is C
pub good-five : (x : CodeField) → (is_rate_code (code_bytes (code_of x)) && eqb x.third 67) ≡ is_rate_code (five_of x)
unfolding is_rate_code
good-five x =
    third_last (is_letter x.first || is_digit x.first) (is_letter x.second || is_digit x.second)
    (eqb x.third 67) (is_digit x.tens) (is_digit x.ones)
