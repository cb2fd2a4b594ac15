-- `table::put_kind` meets its contract: one write of two bytes.
use Rattle.table.specs.Table.{cell}
use Rattle.table.proofs.put_kind.Goals as goal

pub returns : goal.returns
unfolding cell
returns c = rw c.from.ensures at c.put_bytes.ensures
