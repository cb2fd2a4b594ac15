-- `file::all_printable` meets its contract. The invariant: the test so far is that of the bytes passed.
use lib.ListN.{take}
use Rattle.file.proofs.FileLaws.{printable-more}
use Rattle.file.proofs.all_printable.Goals as goal

pub loop-x-preserved : goal.loop-x-preserved
loop-x-preserved c = printable-more (take c.args.n c.args.r.now) c.loop-x.x-index c.loop-x.good c.loop-x-test.true c.loop-x.invariant
