-- `holidays::read_holidays` meets its contract: one date a turn.
use mathlib.Core.Path.{◌∙◌}
use native.Mathlib.Omega.{arith}
use Rattle.std.proofs.lemmas.List.{set-get_or}
use Rattle.holidays.proofs.LineLaws.{end-within, read_none, read_more, read_ended}
use Rattle.holidays.proofs.read_holidays.Goals as goal

pub loop-n-init : goal.loop-n-init
loop-n-init c = read_none _ _

pub returns-then-s-at : goal.returns-then-s-at
returns-then-s-at c =
    let r = read_ended c.loop-n.invariant c.if-s-at.true in
    record { answer = r.0; dates = set-get_or _ _ _ ∙ r.1 }

pub slice_bounds-date_in-end : goal.slice_bounds-date_in-end
slice_bounds-date_in-end c = omega (arith, (end-within c.args.s.now c.loop-n.at _ c.if-s-at.false c.line_end-end.ensures).1)

pub loop-n-preserved : goal.loop-n-preserved
loop-n-preserved c = read_more c.loop-n.invariant c.if-s-at.false (omega arith) _ _ c.line_end-end.ensures c.date_in.ensures
