-- `table::put_total` meets its contract: three writes, one after the other.
use native.Mathlib.Omega.{arith}
use mathlib.Core.Path.{refl}
use Rattle.fields.proofs.PutLaws.{first, next}
use Rattle.fields.proofs.DigitLaws.{length_digits}
use Rattle.table.specs.Table.{ended, total_line}
use Rattle.table.proofs.put_total.Goals as goal

pub returns : goal.returns
unfolding total_line ended
returns c =
    let a = c.args in
    let w1 = first a.out.now a.at _ (omega (arith, c.requires)) c.put_bytes.ensures refl in
    let w2 = next w1 _ c.put_digits.ensures (length_digits 16 a.total.0) in
    (next w2 _ c.put_bytes-2.ensures refl).same
