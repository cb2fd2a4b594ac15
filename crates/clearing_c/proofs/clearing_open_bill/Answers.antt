-- `clearing_c::clearing_open_bill` meets its contract: the place that was found is stored.
use mathlib.Core.Path.{◌≡◌, ap, ◌∙◌}
use Rattle.std.proofs.Common.{rules}
use Rattle.boundary.specs.Boundary.{number_of, number_left}
use Rattle.clearing_c.proofs.clearing_open_bill.Goals as goal

pub returns : goal.returns
returns c =
    let e : c.map.result ≡ c.open_bill_of-found.result = search rules in record { answer = c.store_number.ensures.answer ∙ ap number_of (e ∙ c.open_bill_of-found.ensures); stored = c.store_number.ensures.stored ∙ ap (number_left _) (e ∙ c.open_bill_of-found.ensures) }
