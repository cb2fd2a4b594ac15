-- `answers::rej::put_from` meets its contract, by the test.
use Rattle.notices.specs.Answers.{from_back}
use Rattle.answers.proofs.rej.put_from.Goals as goal

pub returns-then-sup-is_blank : goal.returns-then-sup-is_blank
unfolding from_back
returns-then-sup-is_blank c = rw (rw c.is_blank.ensures at c.if-sup-is_blank.true) c.put_text.ensures

pub returns-else-sup-is_blank : goal.returns-else-sup-is_blank
unfolding from_back
returns-else-sup-is_blank c = rw (rw c.is_blank.ensures at c.if-sup-is_blank.false) c.copy.ensures
