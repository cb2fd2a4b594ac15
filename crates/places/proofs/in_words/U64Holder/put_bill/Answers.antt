-- `places::in_words::U64Holder::put_bill` meets its contract.
use native.Mathlib.Omega.{arith}
use mathlib.Core.Path.{◌≡◌}
use mathlib.Core.Bool.{true}
use Rattle.words.specs.Layout.{bill_said}
use Rattle.words.proofs.WordLaws.{words_long}
use Rattle.words.proofs.PartLaws.{bill-put, told-code}
use Rattle.places.proofs.in_words.U64Holder.put_bill.Goals as goal

pub put_bill-requires : goal.put_bill-requires
put_bill-requires c = omega (arith, words_long _ c.requires.0)

pub returns : goal.returns
returns c =
    let said : bill_said c.args.b ≡ true = rw (told-code c.args.b _ c.well_formed.1.1.0) c.requires.2 in
    bill-put _ c.requires.0 c.args.p c.args.b _ c.requires.1 said c.put_bill.ensures
