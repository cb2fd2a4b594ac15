-- `records::tier_consumptions` meets its contract: the four fields are those of the tiers.
use Rattle.std.proofs.Common.{rules}
use Rattle.records.specs.Tiers.{tier_consumptions}
use Rattle.records.proofs.tier_consumptions.Goals as goal

pub returns : goal.returns
unfolding tier_consumptions
returns c = search rules
