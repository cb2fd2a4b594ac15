-- `verdict::known` meets its contract: line 5, then line 6, then lines 7 to 10.
use mathlib.Core.Path.{sym, ◌∙◌}
use Rattle.verdict.specs.Lines.{line5}
use Rattle.rules.proofs.RuleLaws.{first-stop, first-clear}
use Rattle.verdict.proofs.known.Goals as goal
use Rattle.std.proofs.Common.{rules}

pub returns-then-not-has_code : goal.returns-then-not-has_code
unfolding line5
returns-then-not-has_code c = rw (sym c.has_code.ensures ∙ c.if-not-has_code.true)

pub returns-in_err-line_6 : goal.returns-in_err-line_6
unfolding line5
returns-in_err-line_6 c = rw (sym c.has_code.ensures ∙ c.if-not-has_code.false, first-stop _ _ (sym c.line_6.ensures ∙ c.in_err-line_6.was)) (search rules)

pub returns : goal.returns
unfolding line5
returns c = rw (sym c.has_code.ensures ∙ c.if-not-has_code.false, first-clear _ _ (sym c.line_6.ensures ∙ c.in_ok-line_6.was)) c.amounts.ensures
