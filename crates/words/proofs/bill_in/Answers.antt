-- `words::bill_in` meets its contract.
use mathlib.Core.Path.{ap}
use Rattle.words.specs.Layout.{bill_in}
use Rattle.words.proofs.WordPlaceLaws.{rest}
use Rattle.words.proofs.bill_in.Goals as goal

pub returns : goal.returns
unfolding bill_in
returns c =
    rw (c.terms_in-terms.ensures, c.posted_in-posted.ensures) (ap bill_in (rest c.args.words.now c.args.at))
