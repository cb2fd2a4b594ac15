-- `trace_lines::group_lines::answer_long` meets its contract.
use mathlib.Core.Path.{sym, ◌∙◌}
use Rattle.trace_lines.proofs.GroupLineLaws.{long-acf, long-rej}
use Rattle.trace_lines.proofs.group_lines.answer_long.Goals as goal

pub returns-then-is_text : goal.returns-then-is_text
returns-then-is_text c = sym (long-acf c.args.answer.now c.args.k (sym c.is_text.ensures ∙ c.if-is_text.true))

pub returns : goal.returns
returns c = sym (long-rej c.args.answer.now c.args.k (sym c.is_text.ensures ∙ c.if-is_text.false))
