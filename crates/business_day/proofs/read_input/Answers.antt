-- `business_day::read_input`: a read that brought bytes holds more.
use Rattle.std.proofs.Common.{arith, ◌∙◌}
use Rattle.business_day.proofs.AnswerLaws.{came_more}
use Rattle.business_day.proofs.read_input.Goals as goal

pub loop-have-preserved : goal.loop-have-preserved
loop-have-preserved g c =
    let brought = rw c.in-Ok-Some.field-0-is at c.in-Ok-Some.ensures in
    let have = c.loop-have.invariant in
    (brought.held.holds.1, c.fill.auto.buf ∙ have.1, came_more _ _ _ _ _ _ _ (omega (arith, brought.held.holds.0)) brought.held.stay have.2 brought.bytes)
