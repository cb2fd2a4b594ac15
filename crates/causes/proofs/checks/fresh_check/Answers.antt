-- `causes::checks::fresh_check` meets its contract: the code joins the tests of the definition.
use mathlib.Core.Path.{sym}
use Rattle.causes.proofs.FileFreshLaws.{fresh-tested}
use Rattle.causes.proofs.checks.fresh_check.Goals as goal

pub returns-then-valid-is_number : goal.returns-then-valid-is_number
returns-then-valid-is_number c = sym (fresh-tested c.args.s _ _ _ c.valid.ensures c.is_number.ensures c.is_number-2.ensures _ c.if-valid-is_number.true)

pub returns : goal.returns
returns c = sym (fresh-tested c.args.s _ _ _ c.valid.ensures c.is_number.ensures c.is_number-2.ensures _ c.if-valid-is_number.false)
