-- `group::answer::write_acf` meets its contract: the header is that record.
use Rattle.group.proofs.answer.write_acf.Goals as goal

pub returns : goal.returns
returns c = rw c.record_at.ensures.0 at c.write.ensures
