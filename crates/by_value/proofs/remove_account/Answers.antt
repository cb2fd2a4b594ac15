-- `by_value::remove_account` meets its contract: a ledger that is not sound is refused with 2.
use mathlib.Core.Path.{sym, ◌∙◌}
use mathlib.Core.List.{[]}
use Rattle.causes.specs.Causes.{removal}
use Rattle.by_value.proofs.LentLaws.{unsound-called}
use Rattle.by_value.proofs.remove_account.Goals as goal

pub returns-then-not-sound : goal.returns-then-not-sound
returns-then-not-sound c = (unsound-called (removal c.args.a) c.args.l _ c.lend-lent.ensures.1 (sym c.sound.ensures ∙ c.if-not-sound.true) _ c.refused.ensures []).0
