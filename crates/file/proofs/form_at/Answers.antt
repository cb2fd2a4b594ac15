-- `file::form_at` meets its contract: a group with one detail is judged by its two records.
use mathlib.Core.Path.{sym, ap₂, ◌∙◌}
use native.Mathlib.Omega.{arith}
use Rattle.file.specs.parts.Walk.{pair_form}
use Rattle.file.proofs.FileLaws.{leading-within, form-many, form-one}
use Rattle.file.proofs.form_at.Goals as goal

pub returns-then-k-ne1 : goal.returns-then-k-ne1
returns-then-k-ne1 c = form-many c.args.g.now.file.now c.args.g.now.header c.args.g.now.records (λ e. c.if-k-ne1.true (c.detail_count-k.ensures ∙ e))

pub group_records-requires : goal.group_records-requires
group_records-requires c = omega (arith, leading-within c.args.g.now.file.now c.args.g.now.header c.args.g.now.records, c.detail_count-k.ensures)

pub returns : goal.returns
returns c =
    let s = c.args.g.now.file.now in
    let i = c.args.g.now.header in
    let e = sym c.detail_count-k.ensures ∙ c.if-k-ne1.false in
    c.pair_form.ensures ∙ ap₂ pair_form c.group_records.ensures.0 c.group_records.ensures.1 ∙ form-one s i c.args.g.now.records e
