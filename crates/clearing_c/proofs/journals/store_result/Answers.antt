-- `clearing_c::journals::store_result` meets its contract.
use mathlib.Core.Path.{refl}
use Rattle.clearing_c.proofs.journals.store_result.Goals as goal

pub returns-then-r : goal.returns-then-r
returns-then-r c = rw (c.in-Ok.is, c.if-r.true) (refl, refl)

pub returns-else-r : goal.returns-else-r
returns-else-r c = rw (c.in-Ok.is, c.if-r.false) (refl, refl)
