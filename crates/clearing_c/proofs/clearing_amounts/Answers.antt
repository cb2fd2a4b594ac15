-- `clearing_c::clearing_amounts` meets its contract.
use mathlib.Core.Path.{sym, ap, ◌∙◌}
use Rattle.boundary.specs.Boundary.{number_of, amounts_left}
use Rattle.clearing_c.proofs.clearing_amounts.Goals as goal

pub returns-in-Ok : goal.returns-in-Ok
returns-in-Ok c = let e = sym c.amounts_of-found.ensures ∙ c.in-Ok.is in record { answer = sym (ap number_of e); stored = sym (ap (amounts_left _) e) }

pub returns-in-Err : goal.returns-in-Err
returns-in-Err c = let e = sym c.amounts_of-found.ensures ∙ c.in-Err.is in record { answer = c.from.ensures ∙ sym (ap number_of e); stored = sym (ap (amounts_left _) e) }
