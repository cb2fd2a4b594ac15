-- `by_value::close_day` meets its contract: a ledger that is not sound is refused with 2.
use mathlib.Core.Path.{sym, ◌∙◌}
use mathlib.Core.List.{[]}
use Rattle.causes.specs.Causes.{close}
use Rattle.by_value.proofs.LentLaws.{unsound-called}
use Rattle.by_value.proofs.close_day.Goals as goal

pub returns-then-not-sound : goal.returns-then-not-sound
returns-then-not-sound c = (unsound-called (close c.args.d) c.args.l _ c.lend-lent.ensures.1 (sym c.sound.ensures ∙ c.if-not-sound.true) _ c.refused.ensures []).0
