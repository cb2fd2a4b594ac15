-- `replay::make` meets its contract: the run's, with the bytes that are left kept at the start.
use mathlib.Core.Path.{sym}
use native.Mathlib.Omega.{arith}
use lib.Seq.{length-take-le}
use Rattle.replay.proofs.PieceLaws.{used-within, made}
use Rattle.replay.proofs.make.Goals as goal

pub slice_bounds-run_wanted-end-2 : goal.slice_bounds-run_wanted-end-2
slice_bounds-run_wanted-end-2 c = sym (length-take-le _ _ c.requires.1)

pub keep-left-requires : goal.keep-left-requires
keep-left-requires c =
    (omega (arith, used-within _ _ _ _ _ _ _ _ _ c.requires.1 c.run_wanted-r.ensures), c.requires.1)

pub returns : goal.returns
returns c =
    made _ _ _ _ _ _ _ _ _ c.requires.1 c.run_wanted-r.ensures _ _ c.keep-left.ensures.0 c.keep-left.ensures.1 c.keep-left.auto.buf
