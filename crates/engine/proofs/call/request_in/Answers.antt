-- `engine::call::request_in` meets its contract, by the change that was told.
use mathlib.Core.Path.{◌≡◌}
use Rattle.std.proofs.Common.{rules, Err}
use mir.Syntax.{w64}
use mir.ValLaws.{to_z-of_z}
use borrow.Author.Rules.{sfits_of}
use Rattle.engine.proofs.call.request_in.Goals as goal

pub returns-in_err-change : goal.returns-in_err-change
returns-in_err-change g c =
    let e : c.from_residual.result ≡ Err c.in_err-change.field-0.0 = search rules in
    rw e (rw c.in_err-change.was at c.changed_in.ensures)

pub returns : goal.returns
returns g c =
    let t = rw c.in_ok-change.was at c.changed_in.type_inv in
    rw (c.noticed.ensures, to_z-of_z w64 c.in_ok-change.change (sfits_of t.1.1.1.1.0.1)) (rw c.in_ok-change.was at c.changed_in.ensures)
