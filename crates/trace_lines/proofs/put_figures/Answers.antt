-- `trace_lines::put_figures` meets its contract.
use borrow.Author.Rules.{sfits_of}
use native.Mathlib.Omega.{arith}
use mir.Syntax.{w64}
use mir.ValLaws.{to_z-of_z}
use Rattle.trace_lines.proofs.LineLaws.{figures-put}
use Rattle.trace_lines.proofs.put_figures.Goals as goal

pub returns : goal.returns
returns c =
    let a = c.args in
    figures-put _ _ _ _ _ _ a.at a.cause _ a.r.change a.r.accepted a.r.rejected a.r.closed (to_z-of_z w64 a.r.change (sfits_of c.struct_told-1.given.0.1)) (omega (arith, c.requires)) c.put_cell.ensures c.put_change.ensures c.put_cell-2.ensures c.put_cell-3.ensures c.put_last.ensures
