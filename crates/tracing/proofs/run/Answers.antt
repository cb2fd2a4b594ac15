-- `tracing::run` meets its contract: each entry's lines come after those of the entries before.
use native.Mathlib.Omega.{arith}
use Prim.Native.Nat.{◌+◌, ◌≤◌, ◌<◌}
use lib.ListN.{length}
use Rattle.tracing.proofs.RunLines.{within-rest, traces-start, traces-left, traces-full, traces-fits, traces-on}
use Rattle.tracing.proofs.run.Goals as goal
use Rattle.tracing.proofs.run.Goals.{In-Ok}

-- the entry that was made is one of src, and there are few
fits : (c : In-Ok) → (3 ≤ c.in-Ok.made.size) × (c.loop-out.used + c.in-Ok.made.size ≤ length c.args.src.now) × (c.in-Ok.made.size ≤ 64203) × (c.loop-out.k < 1000000000)
fits c = traces-fits _ _ _ _ _ _ _ _ _ c.loop-out.invariant _ _ _ _ c.step-r.ensures _ c.in-Ok.is

pub loop-out-init : goal.loop-out-init
loop-out-init c = traces-start _ _ _ _ c.requires.0

pub returns-in-Err : goal.returns-in-Err
returns-in-Err c =
    traces-left _ _ _ _ _ _ _ _ _ c.loop-out.invariant _ _ _ _ c.step-r.ensures _ c.in-Err.is (omega (arith, c.loop-out-test.true))

pub overflow_add-k : goal.overflow_add-k
overflow_add-k c = omega (arith, fits (goal.at.overflow_add-k c).In-Ok)

pub put_lines-n-requires-clause-whole_entry : goal.put_lines-n-requires-clause-whole_entry
put_lines-n-requires-clause-whole_entry c =
    let x = fits (goal.at.put_lines-n-requires-clause-whole_entry c).In-Ok in (x.0, within-rest c.args.src.now _ _ x.1, x.2, omega (arith, c.requires.1))

pub overflow_add-used : goal.overflow_add-used
overflow_add-used c = omega (arith, fits (goal.at.overflow_add-used c).In-Ok)

pub overflow_add-k-in-Ok : goal.overflow_add-k-in-Ok
overflow_add-k-in-Ok c = omega (arith, fits (goal.at.overflow_add-k-in-Ok c).In-Ok)

pub loop-out-smaller : goal.loop-out-smaller
loop-out-smaller c = omega (arith, fits (goal.at.loop-out-smaller c).In-Ok)

pub loop-out-preserved : goal.loop-out-preserved
loop-out-preserved c =
    traces-on _ _ _ _ _ _ _ _ _ c.loop-out.invariant _ _ _ _ c.step-r.ensures _ c.in-Ok.is _ _ c.put_lines-n.ensures (omega (arith, c.loop-out-test.true)) c.put_lines-n.auto.out

pub returns : goal.returns
returns c = traces-full _ _ _ _ _ _ _ _ _ c.loop-out.invariant (omega (arith, c.loop-out-test.false))
