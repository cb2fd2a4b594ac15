-- `boundary::make_by_calendar` meets its contract: on words that hold no sound ledger, and on words that do.
use mathlib.Core.Path.{sym, ◌∙◌}
use mathlib.Core.List.{[]}
use native.Mathlib.Omega.{arith}
use Rattle.boundary.proofs.GiveLaws.{stopped-leaves, carried-leaves}
use Rattle.boundary.proofs.make_by_calendar.Goals as goal

pub returns-then-not-sound : goal.returns-then-not-sound
returns-then-not-sound c =
    stopped-leaves 0 c.args.ledger.now c.args.out.now [] _ (sym c.sound.ensures ∙ c.if-not-sound.true)

pub calendar_in-requires : goal.calendar_in-requires
calendar_in-requires c =
    (sym c.sound.ensures ∙ c.if-not-sound.false, λ _. omega arith)

pub returns : goal.returns
returns c =
    carried-leaves 0 c.args.ledger.now c.args.out.now [] _
    (sym c.sound.ensures ∙ c.if-not-sound.false) _ _ _
    c.calendar_in.ensures
