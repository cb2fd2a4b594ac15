-- `records::tier_charges` meets its contract: the four fields are those of the tiers.
use Rattle.std.proofs.Common.{rules}
use Rattle.records.specs.Tiers.{tier_charges}
use Rattle.records.proofs.tier_charges.Goals as goal

pub returns : goal.returns
unfolding tier_charges
returns c = search rules
