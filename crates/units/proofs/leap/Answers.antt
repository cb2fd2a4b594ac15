-- `units::leap` meets its contract: each return rewrites with the tests that led there.
use borrow.Author.Tests.{eq-eqb, ne_eqb}
use Rattle.units.specs.Calendar.{is_leap}
use Rattle.units.proofs.leap.Goals as goal

pub returns-then-y-eq0 : goal.returns-then-y-eq0
unfolding is_leap
returns-then-y-eq0 c = simp (eq-eqb _ _ c.if-y-eq0.true)

pub returns-then-y-eq0-2 : goal.returns-then-y-eq0-2
unfolding is_leap
returns-then-y-eq0-2 c = simp (ne_eqb _ _ c.if-y-eq0.false, eq-eqb _ _ c.if-y-eq0-2.true)

pub returns : goal.returns
unfolding is_leap
returns c = simp (ne_eqb _ _ c.if-y-eq0.false, ne_eqb _ _ c.if-y-eq0-2.false)
