-- `lookups::is_open_of` meets its contract.
use Rattle.lookups.proofs.is_open_of.Goals as goal

pub returns : goal.returns
returns c = rw c.is_open.ensures
