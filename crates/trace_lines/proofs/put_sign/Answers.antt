-- `trace_lines::put_sign` meets its contract.
use mathlib.Core.Bool.{true, false}
use Rattle.trace_lines.proofs.LineLaws.{sign-put}
use Rattle.trace_lines.proofs.put_sign.Goals as goal

pub returns-then-x-lt0 : goal.returns-then-x-lt0
returns-then-x-lt0 c = sign-put _ _ c.args.at c.args.x true c.ranges.x c.if-x-lt0.true c.put_bytes.ensures

pub returns : goal.returns
returns c = sign-put _ _ c.args.at c.args.x false c.ranges.x c.if-x-lt0.false c.put_bytes-2.ensures
