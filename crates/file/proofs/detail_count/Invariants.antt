-- `file::detail_count` meets its contract. The invariant: the records passed are details, and the rest is counted from j on.
use Prim.Native.Nat.{◌+◌, ◌-◌}
use mathlib.Core.Path.{◌≡◌}
use Rattle.records.specs.Layout.{records_from}
use Rattle.file.specs.File.{leading}
use Rattle.file.specs.parts.Walk.{records_after}
use Rattle.file.proofs.detail_count.Given as goal

abbrev pub invariant-loop-j : goal.invariant-loop-j
invariant-loop-j l = leading (records_after l.g.file.now l.g.header l.g.records) ≡ l.j - l.first + leading (records_from l.g.file.now l.j (l.g.records - l.j))
