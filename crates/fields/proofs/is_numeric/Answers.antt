-- `fields::is_numeric` meets its contract, by what the field was told to hold.
use mathlib.Core.Path.{ap, ◌∙◌}
use Rattle.std.specs.Prelude.{is_some}
use Rattle.fields.proofs.HoldLaws.{holds-number}
use Rattle.fields.proofs.is_numeric.Goals as goal

pub returns : goal.returns
returns c = c.is_some.ensures ∙ ap is_some c.read_field.ensures ∙ holds-number _
