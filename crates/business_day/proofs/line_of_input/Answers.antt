-- `business_day::line_of_input` meets its contract, whether a read failed or none did.
use Rattle.std.proofs.Common.{◌∙◌}
use Rattle.business_day.proofs.AnswerLaws.{answers, answers-all}
use Rattle.business_day.proofs.line_of_input.Goals as goal

pub returns-clause-answer : goal.returns-clause-answer
returns-clause-answer g c =
    let read = c.read_input-length in
    answers _ _ _ read.result (read.auto.buf ∙ c.requires.0) read.ensures.stops _ _ _ _ c.in_default.is c.print_day.ensures.answer c.print_day.ensures.written

pub returns-clause-all : goal.returns-clause-all
returns-clause-all g c =
    let read = c.read_input-length in
    answers-all _ _ _ read.result (read.auto.buf ∙ c.requires.0) read.ensures.stops _ _ _ _ c.in_default.is c.print_day.ensures.answer c.print_day.ensures.written
    _ _ read.ensures.bytes
