-- `holidays::date_in` meets its contract.
use mathlib.Core.Path.{ap, ◌∙◌}
use Rattle.fields.specs.Field.{value}
use Rattle.holidays.proofs.LineLaws.{date-not, date-is}
use Rattle.holidays.proofs.date_in.Goals as goal

pub returns-then-line-ne8 : goal.returns-then-line-ne8
returns-then-line-ne8 c = date-not _ c.if-line-ne8.true

pub returns : goal.returns
returns c = date-is _ _ c.if-line-ne8.false (c.unwrap_or.ensures ∙ ap value c.read_digits.ensures)
