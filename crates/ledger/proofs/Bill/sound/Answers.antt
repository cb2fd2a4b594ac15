-- `ledger::Bill::sound` meets its contract.
use Rattle.ledger.specs.Sound.{sound_bill}
use Rattle.ledger.proofs.Bill.sound.Goals as goal

pub returns : goal.returns
unfolding sound_bill
returns c = rw (c.sound.ensures, c.sound-2.ensures)
