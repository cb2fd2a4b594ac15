-- `places::checks::stands` meets its contract: a search says whether some bill passes.
use lib.ListN.{take}
use Rattle.ledger.specs.Books.{of_id}
use Rattle.places.proofs.DistinctLaws.{found-some}
use Rattle.places.proofs.checks.stands.Goals as goal

pub returns : goal.returns
returns g c = rw (c.is_some.ensures, c.find.ensures) (found-some (of_id c.args.id) 0 (take c.args.n (g.T.Holder.held c.args.lent.now).bills))
