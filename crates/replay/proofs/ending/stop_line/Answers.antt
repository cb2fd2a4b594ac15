-- `replay::ending::stop_line` meets its contract: the line that is put is that of the end.
use Rattle.std.proofs.Common.{rules}
use Rattle.replay.proofs.EndingLaws.{stop-line}
use Rattle.replay.proofs.ending.stop_line.Goals as goal

pub returns : goal.returns
returns c = stop-line c.args.e _ _ _ _ (search rules) c.put_stop.ensures.answer c.put_stop.ensures.written
