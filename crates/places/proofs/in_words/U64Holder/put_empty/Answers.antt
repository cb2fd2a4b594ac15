-- `places::in_words::U64Holder::put_empty` meets its contract.
use mathlib.Core.Path.{refl}
use Rattle.ledger.specs.Books.{empty_ledger}
use Rattle.words.proofs.EmptyLaws.{blank-holds}
use Rattle.places.proofs.in_words.U64Holder.put_empty.Goals as goal

pub returns : goal.returns
returns c =
    let w = c.write_empty.ensures in
    (blank-holds (empty_ledger c.args.today c.args.tracking c.args.confirmation) refl _ w.written, w.read_back)
