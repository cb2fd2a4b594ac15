-- `table::put_heading` meets its contract.
use Rattle.table.specs.Table.{ended, heading}
use Rattle.table.proofs.put_heading.Goals as goal

pub returns : goal.returns
unfolding heading ended
returns c = c.put_bytes.ensures
