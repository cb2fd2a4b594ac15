-- `pairs::group_number` meets its contract: the number is that of the two records lent.
use mathlib.Core.Path.{◌≡◌, sym, ap, ◌∙◌}
use native.Mathlib.Omega.{arith}
use borrow.Author.Tests.{ne_eqb}
use Rattle.file.specs.File.{detail_of, form_of}
use Rattle.file.specs.parts.Walk.{group_at}
use Rattle.file.proofs.FileLaws.{header_is, only-detail}
use Rattle.file.proofs.FormLaws.{one-detail, one-within}
use Rattle.pairs.specs.parts.GroupNumbers.{code_number, named_by, group_number}
use Rattle.pairs.proofs.GroupNumberLaws.{code-line1}
use Rattle.pairs.proofs.group_number.Goals as goal

pub returns-then-code-eq0 : goal.returns-then-code-eq0
unfolding group_number
returns-then-code-eq0 c = rw (sym (c.code_number-code.ensures.0 ∙ ap code_number c.form_at-form.ensures) ∙ c.if-code-eq0.true)

pub group_records-requires : goal.group_records-requires
group_records-requires c =
    let a = c.args in
    let k = c.code_number-code.ensures.0 ∙ ap code_number c.form_at-form.ensures in
    omega (arith, one-within a.g.now.file.now a.g.now.header a.g.now.records (code-line1 (group_at a.g.now.file.now a.g.now.header a.g.now.records) (λ z. c.if-code-eq0.false (k ∙ z))))

pub returns : goal.returns
unfolding group_number
returns c =
    let s = c.args.g.now.file.now in
    let i = c.args.g.now.header in
    let n = c.args.g.now.records in
    let k = c.code_number-code.ensures.0 ∙ ap code_number c.form_at-form.ensures in
    let l = code-line1 (group_at s i n) (λ z. c.if-code-eq0.false (k ∙ z)) in
    let e : named_by c.group_records.result.header.now c.group_records.result.detail.now c.code_number-code.result
    ≡ named_by (group_at s i n).header (detail_of (group_at s i n)) (code_number (form_of (group_at s i n))) =
    rw (c.group_records.ensures.0, c.group_records.ensures.1, k, header_is s i n, only-detail s i n (one-detail s i n l)) in
    rw (ne_eqb (code_number (form_of (group_at s i n))) 0 (λ z. c.if-code-eq0.false (k ∙ z))) (c.named.ensures ∙ e)
