-- `journal::in_turn` meets its contract.
use borrow.Author.Tests.{eq-eqb, ne_eqb}
use Rattle.journal.proofs.in_turn.Goals as goal

pub returns-then-seen-eq0 : goal.returns-then-seen-eq0
returns-then-seen-eq0 c = rw (eq-eqb _ _ c.if-seen-eq0.true)

pub returns : goal.returns
returns c = rw (ne_eqb _ _ c.if-seen-eq0.false)
