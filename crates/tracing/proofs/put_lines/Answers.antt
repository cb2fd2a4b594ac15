-- `tracing::put_lines` meets its contract: the line alone, or the lines of the groups behind it.
use native.Mathlib.Omega.{arith}
use Rattle.fields.specs.Put.{part}
use Rattle.tracing.proofs.EntryLines.{lines-only, lines-groups}
use Rattle.tracing.proofs.put_lines.Goals as goal

pub returns-then-with_groups : goal.returns-then-with_groups
unfolding part
returns-then-with_groups c =
    lines-groups c.args.number c.args.src.now c.args.n c.args.a c.args.sent.now c.args.out.now c.args.at (omega (arith, c.requires.has_room)) _ _ _ _ _ c.is_done.ensures c.if-with_groups.true (rw c.numbered.ensures at c.put_entry_line-end.ensures.0) (rw c.numbered.ensures at c.put_entry_line-end.ensures.1) (omega (arith, c.put_entry_line-end.ensures.2, c.put_group_lines.ensures.written.2, c.requires.whole_entry)) c.put_group_lines.ensures.lined

pub returns : goal.returns
returns c =
    lines-only c.args.number c.args.src.now c.args.n c.args.a c.args.sent.now c.args.out.now c.args.at (omega (arith, c.requires.has_room)) _ _ _ c.is_done.ensures c.if-with_groups.false (rw c.numbered.ensures at c.put_entry_line-end.ensures.0) (rw c.numbered.ensures at c.put_entry_line-end.ensures.1) c.put_entry_line-end.ensures.2
