-- `file::good_file` meets its contract. The invariant: the records passed are good, and the check of those left is that of the whole.
use mathlib.Core.Path.{◌≡◌}
use Rattle.rules.specs.Lists.{every}
use Rattle.file.specs.File.{records, good_record}
use Rattle.file.proofs.good_file.Given as goal

abbrev pub invariant-loop-r : goal.invariant-loop-r
invariant-loop-r l = (l.r-iterator.size ≡ 321) × (every good_record (records l.r-iterator.rest.now) ≡ every good_record (records l.s))
