-- `pairs::number_at` meets its contract.
use mathlib.Core.Path.{sym, ◌∙◌}
use Rattle.pairs.specs.parts.GroupNumbers.{number_at}
use Rattle.pairs.proofs.number_at.Goals as goal

pub returns-then-header_at : goal.returns-then-header_at
unfolding number_at
returns-then-header_at c = rw (sym c.header_at.ensures ∙ c.if-header_at.true) c.group_number.ensures

pub returns : goal.returns
unfolding number_at
returns c = rw (sym c.header_at.ensures ∙ c.if-header_at.false)
