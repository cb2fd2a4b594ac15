-- `trace_lines::put_entry_line` meets its contract.
use native.Mathlib.Omega.{arith}
use Rattle.trace_lines.proofs.LineLaws.{short-name, line-put}
use Rattle.trace_lines.proofs.put_entry_line.Goals as goal

pub put_answer-requires : goal.put_answer-requires
put_answer-requires c =
    omega (arith, short-name c.args.tag, c.put_call-end.ensures.1, c.requires)

pub overflow_add-result : goal.overflow_add-result
overflow_add-result c =
    omega (arith, short-name c.args.tag, c.put_call-end.ensures.1, c.requires, c.well_formed)

pub returns : goal.returns
returns c =
    let a = c.args in
    line-put _ _ _ _ a.at a.number a.tag _ a.answer (omega (arith, c.requires)) c.put_cell.ensures c.put_call-end.ensures.0 c.put_call-end.ensures.1 c.put_answer.ensures
