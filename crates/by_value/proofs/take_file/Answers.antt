-- `by_value::take_file` meets its contract: a ledger that is not sound is refused with 2.
use mathlib.Core.Path.{sym, ◌∙◌}
use Rattle.by_value.proofs.LentLaws.{unsound-called}
use Rattle.by_value.proofs.take_file.Goals as goal

pub returns-then-not-sound : goal.returns-then-not-sound
returns-then-not-sound c = unsound-called _ c.args.l _ c.lend-lent.ensures.1 (sym c.sound.ensures ∙ c.if-not-sound.true) _ c.refused.ensures _
