-- `ledger::RateCode::valid` meets its contract: the strict tests are those of `is_rate_code`.
use mathlib.Core.Bool.{and-true}
use Rattle.ledger.specs.Bills.{is_rate_code}
use Rattle.ledger.proofs.RateCode.valid.Goals as goal

pub returns : goal.returns
unfolding is_rate_code
returns c = rw and-true (cc)
