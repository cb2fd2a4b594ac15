-- `trace_lines::put_last` meets its contract.
use native.Mathlib.Omega.{arith}
use mathlib.Core.Path.{refl}
use Rattle.fields.proofs.PutLaws.{first, next}
use Rattle.fields.proofs.DigitLaws.{length_digits}
use Rattle.table.specs.Table.{ended}
use Rattle.trace_lines.proofs.put_last.Goals as goal

pub returns : goal.returns
unfolding ended
returns c =
    let a = c.args in
    let w1 = first a.out.now a.at _ (omega (arith, c.requires)) c.put_digits.ensures (length_digits 3 a.n) in
    (next w1 _ c.put_bytes.ensures refl).same
