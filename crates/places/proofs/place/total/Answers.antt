-- `places::place::total` meets its contract. The invariant: the sum is that of the first i bills.
use Prim.Native.Nat.{ℕ, ◌+◌, ◌<◌}
use mathlib.Core.Path.{ap, ap₂, ◌∙◌}
use native.Mathlib.Omega.{arith}
use Rattle.ledger.specs.Books.{bill_charge}
use Rattle.places.proofs.TotalLaws.{total-more, total-fits}
use Rattle.places.proofs.place.total.Goals as goal

pub add_charge-sum-requires : goal.add_charge-sum-requires
add_charge-sum-requires g c =
    let bs = (g.T.Holder.held c.args.lent.now).bills in
    let k = g.met.T.Holder.places c.args.lent.now c.requires.0 in
    let l = c.loop-i in
    let e = ap bill_charge c.bill_at.ensures in
    let h : l.i < c.args.n = c.loop-i-test.true in
    omega (arith, l.invariant, e, total-fits bs c.args.n l.i (omega (arith, k, c.requires.1)) h c.requires.1 c.requires.2)

pub loop-i-preserved : goal.loop-i-preserved
loop-i-preserved g c =
    let bs = (g.T.Holder.held c.args.lent.now).bills in
    let k = g.met.T.Holder.places c.args.lent.now c.requires.0 in
    let l = c.loop-i in
    let h : l.i < c.args.n = c.loop-i-test.true in
    c.add_charge-sum.ensures
    ∙ ap₂ (λ (x y : ℕ). x + y) l.invariant (ap bill_charge c.bill_at.ensures)
    ∙ total-more bs c.args.n l.i (omega (arith, k, c.requires.1)) h
