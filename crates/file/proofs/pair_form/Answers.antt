-- `file::pair_form` meets its contract: each return rewrites with the tests that led there.
use mathlib.Core.Path.{sym, ◌∙◌}
use Rattle.file.specs.parts.Walk.{pair_form}
use Rattle.file.proofs.pair_form.Goals as goal

pub returns-then-unfit_pair : goal.returns-then-unfit_pair
unfolding pair_form
returns-then-unfit_pair c = rw (sym c.unfit_pair.ensures ∙ c.if-unfit_pair.true)

pub returns-then-holds : goal.returns-then-holds
unfolding pair_form
returns-then-holds c = rw (sym c.unfit_pair.ensures ∙ c.if-unfit_pair.false, sym c.holds.ensures ∙ c.if-holds.true)

pub returns-then-holds-2 : goal.returns-then-holds-2
unfolding pair_form
returns-then-holds-2 c = rw (sym c.unfit_pair.ensures ∙ c.if-unfit_pair.false, sym c.holds.ensures ∙ c.if-holds.false, sym c.holds-2.ensures ∙ c.if-holds-2.true)

pub returns : goal.returns
unfolding pair_form
returns c = rw (sym c.unfit_pair.ensures ∙ c.if-unfit_pair.false, sym c.holds.ensures ∙ c.if-holds.false, sym c.holds-2.ensures ∙ c.if-holds-2.false)
