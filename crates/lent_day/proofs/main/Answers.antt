-- `lent_day::main` is safe: the ledger's table may be written, and fits its output.
use Rattle.std.proofs.Common.{arith}
use Rattle.lent_day.proofs.TableAfterLaws.{ran-table, example-clear}
use Rattle.lent_day.proofs.main.Goals as goal

pub write-n-requires : goal.write-n-requires
write-n-requires c =
    let t = ran-table _ _ _ _ example-clear c.day-l.ensures.0 in
    let lent = c.lend.ensures in
    (lent.0, rw lent.1 t.0, rw lent.1 t.1, omega arith)
