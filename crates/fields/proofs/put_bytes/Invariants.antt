-- `fields::put_bytes` meets its contract: the first k pieces of src stand in out from index `at` on.
use Prim.Native.Nat.{◌*◌}
use Rattle.fields.proofs.PutLaws.{Copied}
use Rattle.fields.proofs.put_bytes.Given as goal

abbrev pub invariant-loop-k : goal.invariant-loop-k
invariant-loop-k l = Copied l.initial.out l.at l.src l.out (l.k * 32)
