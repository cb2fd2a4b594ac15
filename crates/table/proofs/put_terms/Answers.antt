-- `table::put_terms` meets its contract: five writes, one after the other.
use native.Mathlib.Omega.{arith}
use Rattle.fields.proofs.PutLaws.{first, next}
use Rattle.table.specs.Table.{terms_cells}
use Rattle.table.proofs.TableLaws.{length-number, length-cell}
use Rattle.table.proofs.put_terms.Goals as goal

pub returns : goal.returns
unfolding terms_cells
returns c =
    let a = c.args in
    let w1 = first a.out.now a.at _ (omega (arith, c.requires)) c.put_cell.ensures (length-number 12 _) in
    let w2 = next w1 _ c.put_cell-2.ensures (length-number 4 _) in
    let w3 = next w2 _ c.put_code_cell.ensures (length-cell _) in
    let w4 = next w3 _ c.put_kind.ensures (length-cell _) in
    (next w4 _ c.put_cell-3.ensures (length-number 3 _)).same
