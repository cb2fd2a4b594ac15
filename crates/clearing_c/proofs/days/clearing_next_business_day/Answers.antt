-- `clearing_c::days::clearing_next_business_day` meets its contract: the day that was found is stored.
use mathlib.Core.Path.{ap, ◌∙◌}
use Rattle.boundary.specs.Boundary.{number_of, date_left}
use Rattle.clearing_c.proofs.days.clearing_next_business_day.Goals as goal

pub returns : goal.returns
returns c =
    let e = c.next_business_day-found.ensures in record { answer = c.store_day.ensures.answer ∙ ap number_of e; stored = c.store_day.ensures.stored ∙ ap (date_left _) e }
