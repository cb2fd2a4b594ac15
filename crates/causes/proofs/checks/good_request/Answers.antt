-- `causes::checks::good_request` meets its contract: the Scheduled Date's test is the last.
use mathlib.Core.Path.{sym}
use Rattle.units.specs.Calendar.{is_date}
use Rattle.rules.proofs.ListLaws.{all_append}
use Rattle.causes.specs.Causes.{undated_tests, request_tests}
use Rattle.causes.proofs.checks.good_request.Goals as goal

pub returns : goal.returns
unfolding request_tests
returns c =
    let r = c.args.r in
    rw (c.good_undated.ensures, c.valid.ensures) (sym (all_append (undated_tests r) (is_date r.scheduled.0)))
