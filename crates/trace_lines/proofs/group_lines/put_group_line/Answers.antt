-- `trace_lines::group_lines::put_group_line` meets its contract.
use native.Mathlib.Omega.{arith}
use lib.ListN.{length-drop}
use Rattle.words.proofs.WordPlaceLaws.{rest}
use Rattle.trace_lines.proofs.GroupLineLaws.{group-put}
use Rattle.trace_lines.proofs.group_lines.put_group_line.Goals as goal

pub overflow_add-at-5 : goal.overflow_add-at-5
overflow_add-at-5 c =
    omega (arith, c.requires, c.well_formed)

pub put_verdict-requires : goal.put_verdict-requires
put_verdict-requires c = record { has_room = omega (arith, c.requires); whole = rw (rest c.args.sent.now c.args.r.from) (omega (arith, length-drop c.args.r.from c.args.sent.now, c.requires.whole.1)) }

pub returns : goal.returns
returns c =
    let a = c.args in
    let v = rw (rest a.sent.now a.r.from) at c.put_verdict.ensures in
    group-put a.s.now a.sent.now a.i a.k a.r.from c.requires.whole.0 c.requires.whole.1 _ _ _ _ _ _ _ a.r.end _ (omega (arith, c.requires)) c.put_bytes.ensures c.put_field.ensures c.put_in_record.ensures c.put_key.ensures c.put_in_record-2.ensures v.0 v.1
