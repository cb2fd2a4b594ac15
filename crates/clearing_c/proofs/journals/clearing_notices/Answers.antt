-- `clearing_c::journals::clearing_notices` meets its contract.
use Rattle.clearing_c.proofs.WholeJournalLaws.{notices}
use Rattle.clearing_c.proofs.journals.clearing_notices.Goals as goal

pub returns : goal.returns
returns c = notices _ _ _ _ _ _ _ c.store_result.ensures.0 c.store_result.ensures.1 c.post_notices-r.ensures
