-- `trace_lines::group_lines::put_field` meets its contract.
use native.Mathlib.Omega.{arith}
use Rattle.trace_lines.proofs.GroupLineLaws.{field_put}
use Rattle.trace_lines.proofs.group_lines.put_field.Goals as goal

pub returns : goal.returns
returns c =
    let a = c.args in
    field_put _ _ _ _ a.at a.from a.n (omega (arith, c.requires)) c.requires.whole c.put_part.ensures c.put_bytes.ensures
