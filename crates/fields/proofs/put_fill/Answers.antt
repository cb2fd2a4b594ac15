-- `fields::put_fill` meets its contract: the part that was lent came back filled.
use mathlib.Core.Path.{ap, ◌∙◌}
use native.Mathlib.Omega.{arith}
use lib.ListN.{replicate}
use Rattle.fields.specs.Put.{put, filled}
use Rattle.fields.proofs.PutLaws.{put-mid}
use Rattle.std.proofs.lemmas.Grind.{common_steps}
use Rattle.fields.proofs.put_fill.Goals as goal

pub returns : goal.returns
unfolding filled
returns c =
    put-mid _ _ _ _ (grind (arith, common_steps)) ∙ ap (put _ _) (c.fill.ensures.after (λ y e. e) ∙ ap (λ n. replicate n c.args.b) (grind (arith, common_steps)))
