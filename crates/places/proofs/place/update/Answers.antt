-- `places::place::update` meets its contract.
use mathlib.Core.Path.{ap, ◌∙◌}
use Rattle.ledger.specs.declared.Ledger.{Ledger}
use Rattle.ledger.specs.parts.Places.{with_header}
use Rattle.places.proofs.place.update.Goals as goal

pub returns : goal.returns
returns g c =
    (c.put_header.ensures.0, c.put_header.ensures.1 ∙ ap (λ (l : Ledger). with_header l c.args.u.header) c.put_bill.ensures.1)
