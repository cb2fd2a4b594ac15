-- `trace_lines::group_lines::put_verdict` meets its contract.
use mathlib.Core.Path.{refl, sym, ◌∙◌}
use native.Mathlib.Omega.{arith}
use Rattle.fields.specs.Text.{text}
use Rattle.table.specs.Table.{ended}
use Rattle.trace_lines.proofs.GroupLineLaws.{verdict-put, verdict-acf, verdict-none, verdict-code, code_put, length-code}
use Rattle.trace_lines.proofs.group_lines.put_verdict.Goals as goal

pub returns-then-is_text : goal.returns-then-is_text
unfolding ended
returns-then-is_text c =
    let a = c.args in
    verdict-put a.answer.now a.k _ _ a.at 4 (text "ACF") (verdict-acf a.answer.now a.k (sym c.is_text.ensures ∙ c.if-is_text.true)) refl c.put_bytes.ensures

pub returns-then-k-eq0 : goal.returns-then-k-eq0
unfolding ended
returns-then-k-eq0 c =
    let a = c.args in
    verdict-put a.answer.now a.k _ _ a.at 5 (text "BR17") (verdict-none a.answer.now a.k (sym c.is_text.ensures ∙ c.if-is_text.false) c.if-k-eq0.true) refl c.put_bytes-then-k-eq0.ensures

pub returns : goal.returns
returns c =
    let a = c.args in
    verdict-put a.answer.now a.k _ _ a.at 5 _ (verdict-code a.answer.now a.k (sym c.is_text.ensures ∙ c.if-is_text.false) c.if-k-eq0.false) (length-code a.answer.now 580 4 (omega (arith, c.requires, c.if-k-eq0.false))) (code_put _ _ _ a.answer.now a.at 580 4 (omega (arith, c.requires)) (omega (arith, c.requires, c.if-k-eq0.false)) c.put_part.ensures c.put_bytes-2.ensures)
