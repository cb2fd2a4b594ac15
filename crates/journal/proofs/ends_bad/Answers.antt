-- `journal::ends_bad` meets its contract.
use mathlib.Core.Path.{refl}
use Rattle.journal.specs.Journal.{ends_bad}
use Rattle.journal.proofs.ends_bad.Goals as goal

pub returns : goal.returns
unfolding ends_bad
returns c = refl
