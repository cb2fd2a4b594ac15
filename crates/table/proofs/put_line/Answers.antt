-- `table::put_line` meets its contract: four writes, one after the other.
use native.Mathlib.Omega.{arith}
use Rattle.fields.proofs.PutLaws.{first, next}
use Rattle.table.specs.Table.{line_of}
use Rattle.table.proofs.TableLaws.{length-terms, length-number, length-amounts, length-state}
use Rattle.table.proofs.put_line.Goals as goal

pub returns : goal.returns
unfolding line_of
returns c =
    let a = c.args in
    let w1 = first a.out.now a.at _ (omega (arith, c.requires)) c.put_terms.ensures (length-terms _) in
    let w2 = next w1 _ c.put_cell.ensures (length-number 10 _) in
    let w3 = next w2 _ c.put_amounts.ensures (length-amounts _) in
    (next w3 _ c.put_state.ensures (length-state _ _)).same
