-- `file::good_record` meets its contract: the strict tests are those of `good_record`.
use Rattle.file.specs.File.{good_record, is_detail}
use Rattle.file.proofs.good_record.Goals as goal

pub returns : goal.returns
unfolding good_record is_detail
returns c = rw (c.all_printable.ensures, c.is_header.ensures, c.holds.ensures)
