-- `decisions::requests::decide` meets its contract.
use mathlib.Core.Path.{sym, ◌∙◌}
use Rattle.causes.proofs.CauseLaws.{renews}
use Rattle.decisions.proofs.requests.decide.Goals as goal

pub requested-requires : goal.requested-requires
requested-requires c =
    renews _ _ _ _ _ _ c.args.f c.args.b c.requires.sound_at (rw c.in-Request.is at (sym c.first_cause.ensures ∙ c.in_ok-first_cause.was))
