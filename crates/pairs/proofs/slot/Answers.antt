-- `pairs::slot` meets its contract.
use Rattle.std.proofs.Common.{rules}
use Rattle.pairs.specs.parts.GroupNumbers.{number_slot}
use Rattle.pairs.proofs.slot.Goals as goal

pub returns : goal.returns
unfolding number_slot
returns c = search rules
