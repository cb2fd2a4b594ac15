-- `verdict::verdict_of` meets its contract, by whether there is a bill.
use Rattle.verdict.specs.Lines.{line4, verdict_of}
use Rattle.verdict.proofs.verdict_of.Goals as goal

pub returns-in_default : goal.returns-in_default
unfolding verdict_of line4
returns-in_default c = rw c.in_default.is

pub returns : goal.returns
unfolding verdict_of line4
returns c = rw c.in-Some.is c.known.ensures
