-- `table::lines::U64Lines::put_lines` meets its contract. The invariant: the lines of the first i bills are written.
use mathlib.Core.Path.{◌≡◌}
use lib.ListN.{length, take}
use Rattle.fields.specs.Put.{put}
use Rattle.words.specs.Layout.{ledger_of}
use Rattle.table.specs.Table.{lines_of}
use Rattle.table.proofs.lines.U64Lines.put_lines.Given as goal

abbrev pub invariant-loop-i : goal.invariant-loop-i
invariant-loop-i l = (length l.out ≡ length l.initial.out) × (l.out ≡ put l.initial.out l.at (lines_of l.today (take l.i (take l.n (ledger_of l.lent).bills))))
