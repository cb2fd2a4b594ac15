-- `tracing::run` meets its contract: each entry's lines come after those of the entries before.
use Prim.Native.Nat.{◌-◌}
use lib.ListN.{length}
use Rattle.tracing.specs.parts.Tracing.{Traces}
use Rattle.tracing.proofs.run.Given as goal

abbrev pub invariant-loop-out : goal.invariant-loop-out
invariant-loop-out l = Traces l.seen l.src l.initial.ws l.initial.out l.ws l.out l.used l.k l.n

abbrev pub decreases-loop-out : goal.decreases-loop-out
decreases-loop-out l = length l.src - l.used
