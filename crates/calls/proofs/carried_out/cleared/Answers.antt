-- `calls::carried_out::cleared` meets its contract.
use mir.Syntax.{w64}
use mir.ValLaws.{to_z-of_z}
use borrow.Author.Rules.{sfits_of}
use Rattle.calls.proofs.carried_out.cleared.Goals as goal

pub returns : goal.returns
returns c = rw (to_z-of_z w64 c.signed_change-change.result (sfits_of c.signed_change-change.type_inv), c.signed_change-change.ensures)
