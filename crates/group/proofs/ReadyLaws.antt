-- A sound ledger is ready for a file. Assumes nothing.
use mathlib.Core.Path.{◌≡◌}
use mathlib.Core.Bool.{true}
use lib.Dec.{leb}
use borrow.Author.Tests.{le-leb, leb-true}
use Rattle.fields.proofs.BoolLaws.{and_right}
use Rattle.ledger.specs.declared.Bill.{Bill}
use Rattle.ledger.specs.declared.Ledger.{Ledger}
use Rattle.ledger.specs.Books.{book, live}
use Rattle.ledger.specs.Sound.{sound_bill, sound_ledger}
use Rattle.rules.proofs.ListLaws.{every_map}
use Rattle.ledger.proofs.SoundLaws.{terms-facts, bill-terms, bill-small, book-facts, ledger-book, ledger-count}
use Rattle.verdict.proofs.DatedLaws.{dates-dated}
use Rattle.group.specs.parts.Turns.{in_widths, Ready}

pub sound-calm : (b : Bill) → sound_bill b ≡ true → in_widths b ≡ true
unfolding in_widths
sound-calm b h =
    let f = terms-facts b.terms (bill-terms b h) in
    rw (le-leb _ _ f.sequence, bill-small b h, dates-dated b.terms f.billing f.removal)

pub sound-ready : (l : Ledger) → sound_ledger l ≡ true → Ready l
sound-ready l h =
    let f = book-facts (book l) (ledger-book l h) in
    record {
      today = f.today;
      count = ledger-count l h;
      bills = every_map sound_bill in_widths sound-calm (live l) f.bills;
      tracking = leb-true _ _ (and_right (leb 1 l.next_tracking) (leb l.next_tracking 1000000000) f.tracking);
      confirmation = leb-true _ _ (and_right (leb 1 l.next_confirmation) (leb l.next_confirmation 1000000000) f.confirmation);
    }
