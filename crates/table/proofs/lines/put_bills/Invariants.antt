-- After each turn the output holds the lines of the bills so far.
use Prim.Native.Nat.{◌+◌, ◌*◌}
use mathlib.Core.Path.{◌≡◌}
use lib.ListN.{length, take}
use Rattle.fields.specs.Put.{put}
use Rattle.table.specs.Table.{lines_of, line_size}
use Rattle.table.proofs.lines.put_bills.Given as goal

abbrev pub invariant-loop-b : goal.invariant-loop-b
invariant-loop-b l =
    (l.end ≡ l.at + line_size * l.b-index) × (length l.out ≡ length l.initial.out) × (l.out ≡ put l.initial.out l.at (lines_of l.today (take l.b-index l.bills)))
