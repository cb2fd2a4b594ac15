-- `table::put_amounts` meets its contract: three writes, one after the other.
use native.Mathlib.Omega.{arith}
use mathlib.Core.Path.{sym}
use Rattle.fields.proofs.PutLaws.{first, next}
use Rattle.table.specs.Table.{amount_cells}
use Rattle.table.proofs.TableLaws.{length-number}
use Rattle.table.proofs.put_amounts.Goals as goal

pub returns : goal.returns
unfolding amount_cells
returns c =
    rw (sym c.charge-charge.ensures, sym c.applied-applied.ensures, sym c.owed-owed.ensures)
    (let a = c.args in
    let w1 = first a.out.now a.at _ (omega (arith, c.requires)) c.put_cell.ensures (length-number 13 _) in
    let w2 = next w1 _ c.put_cell-2.ensures (length-number 13 _) in
    (next w2 _ c.put_cell-3.ensures (length-number 13 _)).same)
