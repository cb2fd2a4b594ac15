-- `words::fits_in` meets its contract.
use mathlib.Core.Path.{ap}
use Rattle.words.specs.Layout.{holds_bill}
use Rattle.words.proofs.WordPlaceLaws.{rest}
use Rattle.words.proofs.fits_in.Goals as goal

pub returns : goal.returns
unfolding holds_bill
returns c =
    rw (c.fits_code-code.ensures, c.fits_posted-posted.ensures) (ap holds_bill (rest c.args.words.now c.args.at))
