-- `causes::checks::close_check` meets its contract: each test is a rule's condition.
use mathlib.Core.Path.{sym, ◌∙◌}
use Rattle.units.proofs.DateOrder.{date-le-lt}
use Rattle.causes.specs.Causes.{close_causes}
use Rattle.causes.proofs.checks.close_check.Goals as goal

pub returns-then-not-valid : goal.returns-then-not-valid
unfolding close_causes
returns-then-not-valid c = rw (sym c.valid.ensures ∙ c.if-not-valid.true)

pub returns-then-le : goal.returns-then-le
unfolding close_causes
returns-then-le c = rw (sym c.valid.ensures ∙ c.if-not-valid.false, sym (date-le-lt c.args.d.0 c.args.today.0) ∙ sym c.le.ensures ∙ c.if-le.true)

pub returns : goal.returns
unfolding close_causes
returns c = rw (sym c.valid.ensures ∙ c.if-not-valid.false, sym (date-le-lt c.args.d.0 c.args.today.0) ∙ sym c.le.ensures ∙ c.if-le.false)
