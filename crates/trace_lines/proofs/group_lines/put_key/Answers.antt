-- `trace_lines::group_lines::put_key` meets its contract.
use Prim.Native.Nat.{◌+◌}
use mathlib.Core.Path.{sym, ap, ◌∙◌}
use Rattle.fields.specs.Put.{put}
use Rattle.trace_lines.proofs.GroupLineLaws.{key-none, key-put}
use Rattle.trace_lines.proofs.group_lines.put_key.Goals as goal

pub returns-then-k-eq0 : goal.returns-then-k-eq0
returns-then-k-eq0 c =
    let a = c.args in
    c.put_bytes.ensures ∙ ap (put _ a.at) (sym (key-none a.s.now (a.i + 1) a.k c.if-k-eq0.true))

pub returns : goal.returns
returns c =
    let a = c.args in
    key-put _ _ a.s.now a.at (a.i + 1) a.k c.if-k-eq0.false c.put_in_record.ensures
