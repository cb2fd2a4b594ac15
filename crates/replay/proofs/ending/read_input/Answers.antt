-- `replay::ending::read_input` meets its contract: the line at the end of the reading is that of the bytes that came.
use Rattle.replay.proofs.EndingLaws.{line-written, ends-all}
use Rattle.replay.proofs.ending.read_input.Goals as goal

pub returns-clause-line : goal.returns-clause-line
returns-clause-line g c = line-written _ _ _ _ _ _ _ c.read_all-e.ensures.reads c.stop_line.ensures

pub returns-clause-all : goal.returns-clause-all
returns-clause-all g c = ends-all _ _ _ _ _ _ _ _ _ _ _ c.read_all-e.ensures.bytes c.read_all-e.ensures.written c.stop_line.ensures
