-- `entries::run::run` meets its contract. The invariant is `Running`.
use Prim.Native.Nat.{◌-◌}
use lib.ListN.{length}
use Rattle.entries.proofs.RunNotices.{Running}
use Rattle.entries.proofs.run.run.Given as goal

abbrev pub invariant-loop-to : goal.invariant-loop-to
invariant-loop-to l = Running l.src l.initial.ws l.seen l.writes l.initial.out l.ws l.out l.at l.k l.n

abbrev pub decreases-loop-to : goal.decreases-loop-to
decreases-loop-to l = length l.src - l.at
