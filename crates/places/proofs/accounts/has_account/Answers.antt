-- `places::accounts::has_account` meets its contract: the places up to n, by number, are the first n bills.
use mathlib.Core.Path.{refl, ◌∙◌}
use native.Mathlib.Omega.{arith}
use Rattle.std.proofs.Common.{rules, tests}
use Rattle.std.proofs.lemmas.Iterator.{YieldsList-from_range}
use Rattle.std.proofs.lemmas.Iterator.Search.{any_from_yields_List}
use Rattle.ledger.specs.Bills.{blank_bill}
use Rattle.ledger.specs.Books.{of_account}
use Rattle.ledger.specs.parts.Places.{bill_at}
use Rattle.places.proofs.RangeLaws.{any-first}
use Rattle.places.proofs.accounts.has_account.Goals as goal

pub returns : goal.returns
returns g c =
    let l = g.T.Holder.held c.args.lent.now in
    any_from_yields_List (λ i. of_account c.args.account (bill_at l i)) _ _ _ c.any.ensures.ran (YieldsList-from_range 0 c.args.n c.args.n refl (omega arith)) (λ x b q k. search (rules, tests))
    ∙ any-first (of_account c.args.account) l.bills blank_bill c.args.n (omega (arith, c.requires.1, g.met.T.Holder.places _ c.requires.0))
