-- `causes::checks::removal_check` meets its contract: each test is a rule's condition.
use mathlib.Core.Path.{sym, ◌∙◌}
use Rattle.causes.specs.Causes.{removal_causes}
use Rattle.causes.proofs.checks.removal_check.Goals as goal

pub returns-then-not-good_removal : goal.returns-then-not-good_removal
unfolding removal_causes
returns-then-not-good_removal c = rw (sym c.good_removal.ensures ∙ c.if-not-good_removal.true)

pub returns-then-held : goal.returns-then-held
unfolding removal_causes
returns-then-held c =
    rw (sym c.good_removal.ensures ∙ c.if-not-good_removal.false, c.if-held.true)

pub returns : goal.returns
unfolding removal_causes
returns c =
    rw (sym c.good_removal.ensures ∙ c.if-not-good_removal.false, c.if-held.false)
