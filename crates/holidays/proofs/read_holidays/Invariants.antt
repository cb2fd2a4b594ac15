-- `holidays::read_holidays` meets its contract: one date a turn.
use Rattle.holidays.proofs.LineLaws.{ReadTo}
use Rattle.holidays.proofs.read_holidays.Given as goal

abbrev pub invariant-loop-n : goal.invariant-loop-n
invariant-loop-n l = ReadTo l.s l.initial.holidays l.holidays l.at l.n
