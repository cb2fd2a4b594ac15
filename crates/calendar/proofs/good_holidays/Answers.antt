-- `calendar::good_holidays` meets its contract. The invariant: the holidays from this one on follow the one before where all are good.
use mathlib.Core.Path.{ap, ◌∙◌}
use native.Mathlib.Omega.{arith}
use lib.Seq.{take-length}
use Rattle.calendar.proofs.HolidayLaws.{follow, follow-good}
use Rattle.calendar.proofs.good_holidays.Goals as goal

pub loop-h-init : goal.loop-h-init
loop-h-init c =
    let hs = c.args.holidays.now in
    ap (follow 0) (take-length hs) ∙ follow-good hs (omega arith)
