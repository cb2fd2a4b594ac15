-- `decisions::notice::put` meets its contract.
use Rattle.fields.proofs.PutLaws.{put-nil}
use Rattle.decisions.proofs.notice.put.Goals as goal

pub returns-then-not-writes : goal.returns-then-not-writes
returns-then-not-writes c = rw c.if-not-writes.true (put-nil _ _)
