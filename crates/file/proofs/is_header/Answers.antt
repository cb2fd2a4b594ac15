-- `file::is_header` meets its contract.
use Rattle.file.specs.File.{is_header}
use Rattle.file.proofs.is_header.Goals as goal

pub returns : goal.returns
unfolding is_header
returns c = c.holds.ensures
