-- `ledger::Posted::sound` meets its contract, case by case.
use Rattle.ledger.specs.Sound.{sound_amounts}
use Rattle.ledger.proofs.Posted.sound.Goals as goal

pub returns-in-None : goal.returns-in-None
unfolding sound_amounts
returns-in-None c = rw c.in-None.is

pub returns-in-BillReady : goal.returns-in-BillReady
unfolding sound_amounts
returns-in-BillReady c = rw (c.in-BillReady.is, c.is_prepay.ensures, c.fits.ensures)

pub returns-in-Prepay : goal.returns-in-Prepay
unfolding sound_amounts
returns-in-Prepay c = rw (c.in-Prepay.is, c.is_prepay-in-Prepay.ensures, c.is_balanced.ensures)
