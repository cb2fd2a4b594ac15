-- `file::all_printable` meets its contract. The invariant: the test so far is that of the bytes passed.
use mathlib.Core.Path.{◌≡◌}
use lib.ListN.{take}
use Rattle.rules.specs.Lists.{every}
use Rattle.file.specs.File.{printable}
use Rattle.file.proofs.all_printable.Given as goal

abbrev pub invariant-loop-x : goal.invariant-loop-x
invariant-loop-x l = l.good ≡ every printable (take l.x-index l.x-items)
