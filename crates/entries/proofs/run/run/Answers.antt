-- `entries::run::run` meets its contract. The invariant is `Running`.
use Prim.Native.Nat.{◌-◌}
use mathlib.Core.Path.{◌≡◌, sym, ◌∙◌}
use mathlib.Core.Bool.{false, ◌&&◌}
use native.Mathlib.Omega.{arith}
use lib.Dec.{ltb}
use lib.ListN.{length, drop}
use borrow.Rule.Slice.PartMut.{put_mid}
use Rattle.records.specs.Limits.{file_size}
use Rattle.words.proofs.WordPlaceLaws.{rest}
use Rattle.entries.specs.parts.Stepping.{SteppedIn}
use Rattle.entries.proofs.RunNotices.{next-in, running-start, running-room, ran-left, ran-full, ran-fits, ran_on}
use Rattle.entries.proofs.run.run.Goals as goal
use Rattle.entries.proofs.run.run.Goals.{After-step-r, In-Ok}

-- the output has room for another entry's notices
not-full : (c : After-step-r) → (c.args.writes && ltb (length c.loop-to.out - c.loop-to.n) file_size) ≡ false
not-full c = sym c.is_full.ensures ∙ c.loop-to-test.true

-- what the step on the parts comes to
stepped : (c : After-step-r) → SteppedIn c.args.writes c.loop-to.n c.loop-to.k (drop c.loop-to.at c.args.src.now) c.loop-to.ws c.loop-to.out c.step-r.new.ws
    (put_mid c.place_for-to.result (length c.loop-to.out - c.place_for-to.result) c.loop-to.out c.step-r.new.out) c.step-r.result
stepped c =
    next-in _ _ _ (running-room _ _ _ _ _ _ _ _ _ _ c.loop-to.invariant (not-full c)) _ c.place_for-to.ensures _ _ _ _ _ _ _
    (rest c.args.src.now c.loop-to.at) c.step-r.ensures

pub loop-to-init : goal.loop-to-init
loop-to-init c = running-start _ _ _ _ _ c.requires

pub returns-in-Err : goal.returns-in-Err
returns-in-Err c =
    let s = (goal.at.returns-in-Err c).After-step-r in
    ran-left _ _ _ _ _ _ _ _ _ _ c.loop-to.invariant _ _ _ (stepped s) _ (not-full s) c.in-Err.is

pub overflow_add-at : goal.overflow_add-at
overflow_add-at c = omega (arith, ran-fits _ _ _ _ _ _ _ _ _ _ c.loop-to.invariant _ _ _ (stepped (goal.at.overflow_add-at c).After-step-r) _ c.in-Ok.is)

pub overflow_add-k : goal.overflow_add-k
overflow_add-k c = omega (arith, ran-fits _ _ _ _ _ _ _ _ _ _ c.loop-to.invariant _ _ _ (stepped (goal.at.overflow_add-k c).After-step-r) _ c.in-Ok.is)

pub overflow_add-n : goal.overflow_add-n
overflow_add-n c = omega (arith, c.written-n.ensures, ran-fits _ _ _ _ _ _ _ _ _ _ c.loop-to.invariant _ _ _ (stepped (goal.at.overflow_add-n c).After-step-r) _ c.in-Ok.is)

pub loop-to-smaller : goal.loop-to-smaller
loop-to-smaller c = omega (arith, ran-fits _ _ _ _ _ _ _ _ _ _ c.loop-to.invariant _ _ _ (stepped (goal.at.loop-to-smaller c).After-step-r) _ c.in-Ok.is)

pub loop-to-preserved : goal.loop-to-preserved
loop-to-preserved c =
    let s = (goal.at.loop-to-preserved c).After-step-r in
    rw c.written-n.ensures (ran_on _ _ _ _ _ _ _ _ _ _ c.loop-to.invariant _ _ _ (stepped s) _ c.in-Ok.is (not-full s))

pub returns : goal.returns
returns c = ran-full _ _ _ _ _ _ _ _ _ _ c.loop-to.invariant (sym c.is_full.ensures ∙ c.loop-to-test.false)
