-- `table::put_state` meets its contract: one write of two bytes.
use Rattle.table.specs.Table.{ended, state_cell}
use Rattle.table.proofs.put_state.Goals as goal

pub returns : goal.returns
unfolding state_cell ended
returns c = rw (c.state_byte.ensures, c.state-state.ensures) at c.put_bytes.ensures
