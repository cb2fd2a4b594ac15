-- `fields::is_digit` meets its contract: std's test is that of `is_digit`.
use Rattle.fields.specs.Digits.{is_digit}
use Rattle.fields.proofs.is_digit.Goals as goal

pub returns : goal.returns
unfolding is_digit
returns c = c.is_ascii_digit.ensures.value
