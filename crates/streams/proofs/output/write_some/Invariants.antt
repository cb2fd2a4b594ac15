-- `streams::output::write_some`: a failed write gives the writer nothing.
use Rattle.std.specs.Io.KnownBytes.{Keeps}
use Rattle.streams.proofs.output.write_some.Given as goal

abbrev pub invariant-loop : goal.invariant-loop
invariant-loop g l = Keeps (g.W.Write.contents l.initial.writer) (g.W.Write.contents l.writer)
