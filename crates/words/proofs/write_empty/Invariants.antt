-- `words::write_empty` meets its contract. The invariant: the first i places are written.
use mathlib.Core.Path.{◌≡◌}
use Rattle.ledger.specs.Books.{empty_ledger}
use Rattle.units.specs.Calendar.{date_of}
use Rattle.words.proofs.WordPlaceLaws.{written}
use Rattle.words.proofs.write_empty.Given as goal

abbrev pub invariant-loop-i : goal.invariant-loop-i
invariant-loop-i l = l.words ≡ written (empty_ledger (date_of l.today) l.tracking l.confirmation) l.i l.initial.words
