-- `answers::rej::put_detail_at` meets its contract: the detail is that record.
use Rattle.answers.proofs.rej.put_detail_at.Goals as goal

pub returns : goal.returns
returns c = rw c.record_at.ensures.0 at c.put_detail.ensures
