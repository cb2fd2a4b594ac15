-- `journal::close_body` meets its contract: the field is digits or the body is not read.
use mathlib.Core.Path.{sym, ◌∙◌}
use Rattle.std.proofs.Common.{rules}
use Rattle.fields.proofs.HoldLaws.{field_is}
use Rattle.journal.specs.Entries.{close_body}
use Rattle.journal.proofs.BodyLaws.{field-refused}
use Rattle.journal.proofs.close_body.Goals as goal

pub returns-in_err-today : goal.returns-in_err-today
unfolding close_body
returns-in_err-today c = rw (field-refused _ c.read_field.ensures c.in_err-today.was) (search rules)

pub returns : goal.returns
unfolding close_body
returns c =
    let today = field_is _ _ (sym c.read_field.ensures ∙ c.in_ok-today.was) in
    rw (today.0, ← today.1)
