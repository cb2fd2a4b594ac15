-- `holidays::digit_in` meets its contract.
use mathlib.Core.Path.{sym, ◌∙◌}
use Rattle.fields.proofs.DigitLaws.{is_digit-range}
use Rattle.holidays.proofs.digit_in.Goals as goal

pub overflow_sub-x : goal.overflow_sub-x
overflow_sub-x c = (is_digit-range _ (sym c.is_digit.ensures ∙ c.if-not-is_digit.false)).0
