-- `calendar::next_business_day` meets its contract: the next business day is one further on.
use mathlib.Core.Path.{sym, ◌∙◌}
use Rattle.calendar.proofs.FurtherLaws.{next-as-further}
use Rattle.calendar.proofs.next_business_day.Goals as goal

pub returns : goal.returns
returns c = c.business_day.ensures ∙ sym (next-as-further _ _)
