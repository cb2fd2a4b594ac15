-- `clearing_c::days::clearing_weekday` meets its contract.
use mathlib.Core.Path.{ap, ◌∙◌}
use Rattle.boundary.specs.Boundary.{number_of, number_left}
use Rattle.clearing_c.proofs.days.clearing_weekday.Goals as goal

pub returns : goal.returns
returns c =
    let e = c.weekday_of-found.ensures in record { answer = c.store_number.ensures.answer ∙ ap number_of e; stored = c.store_number.ensures.stored ∙ ap (number_left _) e }
