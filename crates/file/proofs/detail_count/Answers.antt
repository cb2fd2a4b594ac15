-- `file::detail_count` meets its contract. The invariant: the records passed are details, and the rest is counted from j on.
use mathlib.Core.Path.{sym, ◌∙◌}
use native.Mathlib.Omega.{arith}
use Rattle.file.proofs.FileLaws.{leading-header, leading-detail, leading_end}
use Rattle.file.proofs.detail_count.Goals as goal

pub returns-then-header_at : goal.returns-then-header_at
returns-then-header_at c =
    let e = leading-header c.args.g.now.file.now c.loop-j.j c.args.g.now.records (omega (arith, c.args.g.now.in_file)) (sym c.header_at.ensures ∙ c.if-header_at.true) in
    omega (arith, c.args.g.now.in_file)

pub loop-j-preserved : goal.loop-j-preserved
loop-j-preserved c =
    let e = leading-detail c.args.g.now.file.now c.loop-j.j c.args.g.now.records (omega (arith, c.args.g.now.in_file)) (sym c.header_at.ensures ∙ c.if-header_at.false) in
    omega (arith, c.args.g.now.in_file)

pub returns : goal.returns
returns c =
    let e = leading_end c.args.g.now.file.now c.loop-j.j c.args.g.now.records (omega (arith, c.args.g.now.in_file)) in
    omega (arith, c.args.g.now.in_file)
