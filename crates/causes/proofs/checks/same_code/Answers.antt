-- `causes::checks::same_code` meets its contract: five bytes compared one by one.
use mathlib.Core.Path.{◌∙◌}
use Rattle.causes.proofs.CodeLaws.{same-five}
use Rattle.causes.proofs.checks.same_code.Goals as goal

pub returns : goal.returns
returns c = rw c.from.ensures at c.eq.ensures ∙ same-five _ _
