-- `places::checks::slot` meets its contract.
use Rattle.places.specs.parts.Slots.{identity_slot}
use Rattle.std.proofs.Common.{rules}
use Rattle.places.proofs.checks.slot.Goals as goal

pub returns : goal.returns
unfolding identity_slot
returns c = search rules
