-- `places::accounts::remove` meets its contract. The invariant: the date is set on the first i places.
use mathlib.Core.Path.{◌≡◌}
use mathlib.Core.Bool.{true}
use Rattle.ledger.specs.parts.Places.{removed_first}
use Rattle.places.proofs.accounts.remove.Given as goal

abbrev pub invariant-loop-i : goal.invariant-loop-i
invariant-loop-i g l = (g.T.Holder.holds l.lent ≡ true) × (g.T.Holder.held l.lent ≡ removed_first l.i l.account l.date (g.T.Holder.held l.initial.lent))
