-- `trace_lines::group_lines::put_group_lines` meets its contract.
use Rattle.trace_lines.proofs.LinesWalk.{Walk}
use Rattle.trace_lines.proofs.group_lines.put_group_lines.Given as goal

abbrev pub invariant-loop-i : goal.invariant-loop-i
invariant-loop-i l = Walk l.s l.sent l.n l.initial.out l.at l.out l.r.end l.r.from l.i
