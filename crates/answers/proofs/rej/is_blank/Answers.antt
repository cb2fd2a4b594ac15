-- `answers::rej::is_blank` meets its contract: the two tests are those of `is_blank`.
use Rattle.fields.specs.Put.{part, filled}
use Rattle.notices.specs.Answers.{is_blank}
use Rattle.answers.proofs.rej.is_blank.Goals as goal

pub returns : goal.returns
unfolding is_blank part filled
returns c = rw (c.holds.ensures, c.holds-2.ensures)
