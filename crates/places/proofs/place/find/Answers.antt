-- `places::place::find` meets its contract: the search from i on is the whole search.
use mathlib.Core.Path.{◌≡◌, sym, ap, ◌∙◌}
use mathlib.Core.Bool.{◌&&◌}
use lib.Dec.{eqb}
use Rattle.ledger.specs.declared.Identity.{Identity}
use native.Mathlib.Omega.{arith}
use Rattle.ledger.specs.Books.{of_id}
use Rattle.ledger.specs.Bills.{blank_bill}
use Rattle.rules.proofs.ListLaws.{find-hit}
use Rattle.places.proofs.place.find.Goals as goal

-- the test of the identity that was read is that of its bill
tested : (id x y : Identity) → x ≡ y → (eqb y.account id.account && eqb y.key id.key) ≡ (eqb x.account id.account && eqb x.key id.key)
tested id x y e = ap (λ (z : Identity). eqb z.account id.account && eqb z.key id.key) (sym e)

pub returns-then-eq : goal.returns-then-eq
returns-then-eq g c =
    sym
    (find-hit _ _ _ blank_bill c.loop-i-test.true (omega (arith, c.requires.1, g.met.T.Holder.places _ c.requires.0)) (of_id c.args.id)
    (tested c.args.id _ _ c.identity_at.ensures ∙ (sym c.eq.ensures ∙ c.if-eq.true)))
    ∙ c.loop-i.invariant
