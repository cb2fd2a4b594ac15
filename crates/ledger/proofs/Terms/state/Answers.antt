-- `ledger::Terms::state` meets its contract: each return rewrites with the tests that led there.
use mathlib.Core.Path.{sym, ◌∙◌}
use Rattle.ledger.specs.Bills.{state_of}
use Rattle.ledger.proofs.Terms.state.Goals as goal

pub returns-then-self : goal.returns-then-self
unfolding state_of
returns-then-self c = rw c.if-self.true

pub returns-then-is_open : goal.returns-then-is_open
unfolding state_of
returns-then-is_open c = rw (sym c.is_open.ensures ∙ c.if-is_open.true, c.if-self.false)

pub returns : goal.returns
unfolding state_of
returns c = rw (sym c.is_open.ensures ∙ c.if-is_open.false, c.if-self.false)
