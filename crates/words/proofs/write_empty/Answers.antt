-- `words::write_empty` meets its contract. The invariant: the first i places are written.
use native.Mathlib.Omega.{arith}
use mathlib.Core.Path.{◌≡◌, refl}
use lib.ListN.{length, length-set}
use Rattle.ledger.specs.Books.{empty_ledger}
use Rattle.units.specs.Calendar.{date_of}
use Rattle.words.specs.Layout.{ledger_size}
use Rattle.words.proofs.WordPlaceLaws.{written_none}
use Rattle.words.proofs.EmptyLaws.{blank-more, blank-all}
use Rattle.words.proofs.write_empty.Goals as goal

pub loop-i-init : goal.loop-i-init
loop-i-init c = written_none (empty_ledger (date_of c.args.today) c.args.tracking c.args.confirmation) c.args.words.now _ (omega (arith, c.requires)) refl

pub loop-i-preserved : goal.loop-i-preserved
loop-i-preserved c =
    blank-more (empty_ledger (date_of c.args.today) c.args.tracking c.args.confirmation) refl _ _ _ c.loop-i.i _ (omega arith) c.blank-blank.ensures c.loop-i.invariant c.put_bill.ensures

pub returns : goal.returns
returns c =
    let k : length c.args.words.now ≡ ledger_size = c.requires in
    let e = blank-all (empty_ledger (date_of c.args.today) c.args.tracking c.args.confirmation) refl _ _ c.loop-i.i (simp length-set k) (omega arith) c.loop-i.invariant in
    record { written = e.0; read_back = e.1 }
