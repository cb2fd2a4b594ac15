-- `verdict::line_6_response` meets its contract: each test is a rule's condition.
use mathlib.Core.Path.{sym, ◌∙◌}
use Rattle.verdict.specs.Lines.{line6}
use Rattle.verdict.proofs.line_6_response.Goals as goal

pub returns-then-not-is_open : goal.returns-then-not-is_open
unfolding line6
returns-then-not-is_open c = rw (sym c.is_open.ensures ∙ c.if-not-is_open.true)

pub returns-then-not-holds_number : goal.returns-then-not-holds_number
unfolding line6
returns-then-not-holds_number c = rw (sym c.is_open.ensures ∙ c.if-not-is_open.false, sym c.holds_number.ensures ∙ c.if-not-holds_number.true)

pub returns-then-not-holds_number-2 : goal.returns-then-not-holds_number-2
unfolding line6
returns-then-not-holds_number-2 c = rw (sym c.is_open.ensures ∙ c.if-not-is_open.false, sym c.holds_number.ensures ∙ c.if-not-holds_number.false, sym c.holds_number-2.ensures ∙ c.if-not-holds_number-2.true)

pub returns : goal.returns
unfolding line6
returns c = rw (sym c.is_open.ensures ∙ c.if-not-is_open.false, sym c.holds_number.ensures ∙ c.if-not-holds_number.false, sym c.holds_number-2.ensures ∙ c.if-not-holds_number-2.false)
