-- `boundary::give` meets its contract.
use mir.Syntax.{w64}
use mir.ValLaws.{to_z-of_z}
use borrow.Author.Rules.{sfits_of}
use Rattle.boundary.proofs.GiveLaws.{stores-done}
use Rattle.boundary.proofs.give.Goals as goal

pub returns-in-Ok : goal.returns-in-Ok
returns-in-Ok c = stores-done _ _ c.in-Ok.is _ _ _ (to_z-of_z w64 _ (sfits_of c.struct_told-1.given.0.1))
