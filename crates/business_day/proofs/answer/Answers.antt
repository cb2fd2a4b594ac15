-- `business_day::answer`: the line is sent to standard output.
use Rattle.std.proofs.Common.{refl}
use Rattle.business_day.proofs.AnswerLaws.{writes_all}
use Rattle.business_day.proofs.answer.Goals as goal

pub returns : goal.returns
returns g c =
    let line = c.line_of_input-length in
    let sent = rw c.printed.ensures at c.send.ensures.to_output in
    rw (← line.ensures.output) (writes_all _ _ _ _ _ _ _ c.send.result line.ensures.all (sent refl))
