-- `boundary::call` meets its contract.
use Rattle.boundary.proofs.GiveLaws.{gives}
use Rattle.boundary.proofs.call.Goals as goal

pub returns : goal.returns
returns c = record { gives = gives _ _ _ _ _ _ _ c.make-a.ensures _ _ _ _ _ c.give.ensures; written = c.make-a.ensures.bytes }
