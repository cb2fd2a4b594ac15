-- `entries::run::is_full` meets its contract.
use native.Mathlib.Omega.{arith}
use Rattle.entries.proofs.run.is_full.Goals as goal

pub overflow_sub-result : goal.overflow_sub-result
overflow_sub-result c = omega (arith, c.requires c.if-writes.true)

pub returns-then-writes : goal.returns-then-writes
returns-then-writes c = rw c.if-writes.true

pub returns-else-writes : goal.returns-else-writes
returns-else-writes c = rw c.if-writes.false
