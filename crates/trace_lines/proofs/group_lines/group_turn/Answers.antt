-- `trace_lines::group_lines::group_turn` meets its contract.
use Prim.Native.Nat.{◌+◌}
use mathlib.Core.Path.{ap}
use native.Mathlib.Omega.{arith}
use lib.ListN.{drop, length-drop}
use Rattle.words.proofs.WordPlaceLaws.{rest}
use Rattle.file.proofs.FileLaws.{leading-within}
use Rattle.trace_lines.proofs.GroupLineLaws.{turn_is, answer-short}
use Rattle.trace_lines.proofs.group_lines.group_turn.Goals as goal

pub put_group_line-requires : goal.put_group_line-requires
put_group_line-requires c =
    let a = c.args in
    let w = leading-within a.g.now.file.now a.g.now.header a.g.now.records in
    record { has_room = omega (arith, c.requires.has_room); whole = (omega (arith, c.requires.whole, a.g.now.in_file, c.detail_count-k.ensures), omega (arith, c.requires.whole, a.g.now.in_file, c.detail_count-k.ensures)) }

pub answer_long-requires : goal.answer_long-requires
answer_long-requires c =
    let a = c.args in
    let w = leading-within a.g.now.file.now a.g.now.header a.g.now.records in
    rw (rest a.sent.now a.r.from) (omega (arith, length-drop a.r.from a.sent.now, c.requires.whole, a.g.now.in_file, c.detail_count-k.ensures))

pub overflow_add-result : goal.overflow_add-result
overflow_add-result c =
    let a = c.args in
    let w = leading-within a.g.now.file.now a.g.now.header a.g.now.records in
    let e = rw (rest a.sent.now a.r.from) at c.answer_long.ensures in
    omega (arith, e, answer-short (drop a.r.from a.sent.now) c.detail_count-k.result, c.requires.whole, a.g.now.in_file, c.detail_count-k.ensures, c.well_formed)

pub returns : goal.returns
returns c =
    let a = c.args in
    turn_is a.g.now.file.now a.sent.now a.g.now.header a.g.now.records _ _ _ _ _ _ _ c.detail_count-k.ensures c.put_group_line.ensures.0 c.put_group_line.ensures.1 (ap (λ z. a.r.from + z) (rw (rest a.sent.now a.r.from) at c.answer_long.ensures))
