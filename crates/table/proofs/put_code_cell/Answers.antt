-- `table::put_code_cell` meets its contract: two writes, one after the other.
use native.Mathlib.Omega.{arith}
use mathlib.Core.Path.{refl}
use Rattle.fields.proofs.PutLaws.{first, next}
use Rattle.table.specs.Table.{cell}
use Rattle.table.proofs.put_code_cell.Goals as goal

pub returns : goal.returns
unfolding cell
returns c =
    let a = c.args in
    let w1 = first a.out.now a.at _ (omega (arith, c.requires)) c.put_code.ensures refl in
    (next w1 _ c.put_bytes.ensures refl).same
