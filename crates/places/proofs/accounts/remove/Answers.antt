-- `places::accounts::remove` meets its contract. The invariant: the date is set on the first i places.
use mathlib.Core.Path.{◌∙◌}
use native.Mathlib.Omega.{arith}
use Rattle.ledger.proofs.RemovalLaws.{removed-more}
use Rattle.places.proofs.accounts.remove.Goals as goal

pub loop-i-preserved : goal.loop-i-preserved
loop-i-preserved g c =
    let l = g.T.Holder.held c.args.lent.now in (
      c.remove_at.ensures.0,
      c.remove_at.ensures.1
          ∙ removed-more c.args.account c.args.date l (g.T.Holder.held c.loop-i.lent) c.loop-i.i
          (omega (arith, c.requires.1, g.met.T.Holder.places c.args.lent.now c.requires.0)) c.loop-i.invariant.1,
    )
