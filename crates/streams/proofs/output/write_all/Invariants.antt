-- `streams::output::write_all`: the writer took the bytes before those that are left, and each write that takes a byte leaves fewer.
use Rattle.std.specs.Prelude.{length}
use Rattle.streams.proofs.WrittenLaws.{Wrote}
use Rattle.streams.proofs.output.write_all.Given as goal

abbrev pub invariant-loop-bytes : goal.invariant-loop-bytes
invariant-loop-bytes g l = Wrote (g.W.Write.contents l.initial.writer) (g.W.Write.contents l.writer) l.fn.bytes l.bytes

abbrev pub decreases-loop-bytes : goal.decreases-loop-bytes
decreases-loop-bytes g l = length l.bytes
