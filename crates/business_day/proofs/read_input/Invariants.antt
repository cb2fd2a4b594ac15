-- `business_day::read_input`: the bytes held are those that came, and each read that is no last one holds more.
use Rattle.std.specs.Prelude.{◌-◌, ◌≤◌, ◌≡◌, length, take}
use Rattle.std.specs.Io.KnownBytes.{Consumes}
use Rattle.business_day.proofs.read_input.Given as goal

abbrev pub invariant-loop-have : goal.invariant-loop-have
invariant-loop-have g l =
    (l.have ≤ length l.buf) × (length l.buf ≡ length l.initial.buf) × Consumes (g.R.Read.remaining l.initial.reader) (g.R.Read.remaining l.reader) (take l.have l.buf)

abbrev pub decreases-loop-have : goal.decreases-loop-have
decreases-loop-have g l = length l.initial.buf - l.have
