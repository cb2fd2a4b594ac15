-- `lookups::due_first` meets its contract. The invariant: what the walk of the bills from i on comes to is what the whole walk comes to.
use Prim.Native.Nat.{◌≤◌}
use mathlib.Core.Path.{sym, ◌∙◌}
use native.Mathlib.Omega.{arith}
use lib.ListN.{length}
use Rattle.lookups.proofs.EarliestLaws.{due-step}
use Rattle.lookups.proofs.due_first.Goals as goal

pub loop-i-preserved : goal.loop-i-preserved
loop-i-preserved g c =
    let turn = c.loop-i in
    let bs = (g.T.Holder.held c.args.lent.now).bills in
    let long : c.args.n ≤ length bs = omega (arith, c.requires.1, g.met.T.Holder.places _ c.requires.0) in
    rw (c.due_with-first.ensures, c.bill_at-b.ensures) (sym (due-step _ _ c.args.n turn.i turn.first bs (omega arith) long) ∙ turn.invariant)
