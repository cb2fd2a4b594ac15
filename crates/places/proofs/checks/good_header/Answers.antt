-- `places::checks::good_header` meets its contract.
use Rattle.places.proofs.checks.good_header.Goals as goal

pub returns : goal.returns
returns c = rw (c.valid.ensures, c.is_next.ensures, c.is_next-2.ensures)
