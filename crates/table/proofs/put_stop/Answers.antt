-- `table::put_stop` meets its contract: one write, where a bad entry stopped the journal.
use native.Mathlib.Omega.{arith}
use Rattle.fields.proofs.PutLaws.{put-nil}
use Rattle.table.specs.Table.{ended, stop_line}
use Rattle.table.proofs.put_stop.Goals as goal

pub returns-then-stopped : goal.returns-then-stopped
unfolding stop_line ended
returns-then-stopped c = record { answer = rw c.if-stopped.true; written = rw c.if-stopped.true c.put_bytes.ensures }

pub returns : goal.returns
unfolding stop_line
returns c = record { answer = rw c.if-stopped.false (omega arith); written = rw c.if-stopped.false (put-nil _ _) }
