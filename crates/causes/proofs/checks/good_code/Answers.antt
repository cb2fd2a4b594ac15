-- `causes::checks::good_code` meets its contract: the four bytes that are kept, and the C.
use Rattle.causes.proofs.CodeLaws.{good-five}
use Rattle.causes.proofs.checks.good_code.Goals as goal

pub returns : goal.returns
returns c = rw (c.valid.ensures, c.from.ensures) (good-five _)
