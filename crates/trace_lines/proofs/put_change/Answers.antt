-- `trace_lines::put_change` meets its contract.
use native.Mathlib.Omega.{arith}
use mir.Syntax.{w64}
use mir.ValLaws.{to_z-of_z}
use Rattle.trace_lines.proofs.LineLaws.{change-put}
use Rattle.trace_lines.proofs.put_change.Goals as goal

pub returns : goal.returns
returns c =
    let a = c.args in
    change-put _ _ _ _ a.at _ _ a.x (to_z-of_z w64 a.x c.ranges.x) (omega (arith, c.requires)) c.put_sign.ensures c.put_digits.ensures c.unsigned_abs.ensures.value c.put_bytes.ensures
