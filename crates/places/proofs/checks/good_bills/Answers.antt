-- `places::checks::good_bills` meets its contract: the places up to n, by number, are the first n bills.
use mathlib.Core.Path.{refl, ◌∙◌}
use native.Mathlib.Omega.{arith}
use Rattle.std.proofs.Common.{rules, tests}
use Rattle.std.proofs.lemmas.Iterator.{YieldsList-from_range}
use Rattle.std.proofs.lemmas.Iterator.Search.{all_from_yields_List}
use Rattle.ledger.specs.Bills.{blank_bill}
use Rattle.ledger.specs.Sound.{sound_bill}
use Rattle.ledger.specs.parts.Places.{bill_at}
use Rattle.places.proofs.RangeLaws.{all-first}
use Rattle.places.proofs.checks.good_bills.Goals as goal

pub returns : goal.returns
returns g c =
    let l = g.T.Holder.held c.args.lent.now in
    all_from_yields_List (λ i. sound_bill (bill_at l i)) _ _ _ c.all.ensures.ran (YieldsList-from_range 0 c.args.n c.args.n refl (omega arith)) (λ x b q k. search (rules, tests))
    ∙ all-first sound_bill l.bills blank_bill c.args.n (omega (arith, c.requires.1, g.met.T.Holder.places _ c.requires.0))
