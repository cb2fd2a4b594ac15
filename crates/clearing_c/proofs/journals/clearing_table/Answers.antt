-- `clearing_c::journals::clearing_table` meets its contract.
use Rattle.clearing_c.proofs.WholeJournalLaws.{tables}
use Rattle.clearing_c.proofs.journals.clearing_table.Goals as goal

pub returns : goal.returns
returns c = tables _ _ _ _ _ _ _ c.store_result.ensures.0 c.store_result.ensures.1 c.post_table-r.ensures
