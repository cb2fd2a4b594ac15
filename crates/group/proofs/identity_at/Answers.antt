-- `group::identity_at` meets its contract.
use borrow.Author.Tests.{le-leb, lt-leb}
use Rattle.group.specs.parts.Turns.{identity_at}
use Rattle.group.proofs.identity_at.Goals as goal

pub returns-then-g : goal.returns-then-g
unfolding identity_at
returns-then-g c = rw (le-leb _ _ c.if-g.true)

pub returns : goal.returns
unfolding identity_at
returns c = rw (lt-leb _ _ c.if-g.false, ← c.group_records.ensures.0, ← c.group_records.ensures.1) c.identity_of.ensures
