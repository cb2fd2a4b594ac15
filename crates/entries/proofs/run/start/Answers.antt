-- `entries::run::start` meets its contract.
use mathlib.Core.Path.{refl, ap}
use Rattle.units.specs.Calendar.{is_date, month_days}
use Rattle.ledger.specs.Books.{book}
use Rattle.causes.specs.Causes.{start_tests, fresh_causes}
use Rattle.calls.proofs.FreshCloseLaws.{fresh-sound}
use Rattle.entries.proofs.run.start.Goals as goal

pub returns : goal.returns
unfolding fresh_causes start_tests is_date month_days
returns c = let e = c.write_empty.ensures.read_back in
    (rw e (fresh-sound (record { today = record { 0 = 19000101 }; tracking = 1; confirmation = 1 }) refl), e, ap book e)
