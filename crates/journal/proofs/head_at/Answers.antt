-- `journal::head_at` meets its contract.
use borrow.Author.Tests.{lt-ltb, le-ltb}
use Rattle.journal.specs.Entries.{head_of}
use Rattle.journal.proofs.head_at.Goals as goal

pub returns-then-s-lt3 : goal.returns-then-s-lt3
unfolding head_of
returns-then-s-lt3 c = rw (lt-ltb _ _ c.if-s-lt3.true)

pub returns : goal.returns
unfolding head_of
returns c = rw (le-ltb _ _ c.if-s-lt3.false) (rw c.length_at.ensures.0 at c.head_by.ensures)
