-- `file::unfit_pair` meets its contract: the strict tests are those of `unfit`.
use Rattle.file.specs.File.{unfit}
use Rattle.file.proofs.unfit_pair.Goals as goal

pub returns : goal.returns
unfolding unfit
returns c =
    rw (c.holds.ensures, c.holds-2.ensures, c.is_same.ensures, c.is_same-2.ensures, c.is_numeric.ensures, c.is_numeric-2.ensures)
