-- `by_value::fresh` meets its contract, by the cause that was told.
use mathlib.Core.Path.{sym, ◌∙◌}
use Rattle.calls.specs.Days.{fresh_by, fresh_called}
use Rattle.by_value.proofs.fresh.Goals as goal

pub returns-in-Err : goal.returns-in-Err
unfolding fresh_by fresh_called
returns-in-Err c = rw (sym c.fresh_check.ensures ∙ c.in-Err.is, c.refused.ensures)

pub returns-in-Ok : goal.returns-in-Ok
unfolding fresh_by fresh_called
returns-in-Ok c = rw (sym c.fresh_check.ensures ∙ c.in-Ok.is, c.empty.ensures, c.quiet.ensures)
