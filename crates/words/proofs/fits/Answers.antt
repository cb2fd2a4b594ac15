-- `words::fits` meets its contract: the places by number are the places one after the other.
use Prim.Native.Nat.{◌+◌, ◌*◌}
use mathlib.Core.Path.{refl, ◌∙◌}
use native.Mathlib.Omega.{arith}
use borrow.Author.Tests.{eq-eqb, ne_eqb}
use lib.ListN.{drop}
use Rattle.std.proofs.Common.{rules, tests}
use Rattle.std.proofs.lemmas.Iterator.{YieldsList-from_range}
use Rattle.std.proofs.lemmas.Iterator.Search.{all_from_yields_List}
use Rattle.words.specs.Layout.{holds_bill, holds_ledger}
use Rattle.words.proofs.WordPlaceLaws.{holds-first}
use Rattle.words.proofs.fits.Goals as goal

pub returns-then-words-ne-LEDGER_SIZE : goal.returns-then-words-ne-LEDGER_SIZE
unfolding holds_ledger
returns-then-words-ne-LEDGER_SIZE c = rw (ne_eqb _ _ c.if-words-ne-LEDGER_SIZE.true)

pub returns : goal.returns
unfolding holds_ledger
returns c =
    let ws = c.args.words.now in
    rw (eq-eqb _ _ c.if-words-ne-LEDGER_SIZE.false)
    (all_from_yields_List (λ i. holds_bill (drop (4 + 20 * i) ws)) _ _ _ c.all.ensures.ran (YieldsList-from_range 0 128 128 refl (omega arith)) (λ x b q k. search (rules, tests))
    ∙ holds-first ws 128)
