-- The sum of the charges so far fits, since each charge is in its width.
use Rattle.std.proofs.Common.{arith}
use Prim.Native.Nat.{◌+◌}
use Rattle.ledger.specs.Bills.{blank_bill}
use Rattle.ledger.specs.Books.{bill_charge}
use Rattle.rules.proofs.ListLaws.{sum_more, sum_first}
use Rattle.ledger.proofs.BookLaws.{total-small}
use Rattle.ledger.proofs.books.total.Goals as goal

pub add_charge-sum-requires : goal.add_charge-sum-requires
add_charge-sum-requires c =
    let ys = c.args.bills.now in
    let i = c.loop-b.b-index in
    omega (arith, c.loop-b.invariant, sum_more bill_charge ys i blank_bill c.loop-b-test.true, sum_first bill_charge ys (i + 1), total-small ys c.requires.1)

pub loop-b-preserved : goal.loop-b-preserved
loop-b-preserved c =
    omega (arith, c.add_charge-sum.ensures, c.loop-b.invariant, sum_more bill_charge c.args.bills.now c.loop-b.b-index blank_bill c.loop-b-test.true)
