-- `ledger::Terms::sound` meets its contract: the strict tests are those of `terms_tests`, joined from the left.
use lib.ListN.{drop}
use Rattle.fields.specs.Digits.{fits}
use Rattle.ledger.specs.Sound.{terms_tests}
use Rattle.rules.proofs.ListLaws.{all-joined}
use Rattle.ledger.proofs.Terms.sound.Goals as goal

pub returns : goal.returns
unfolding terms_tests
returns c =
    let t = c.args.self in
    rw (
      c.valid.ensures,
      c.fits.ensures,
      c.valid-2.ensures,
      c.valid-3.ensures,
      c.valid-4.ensures,
      c.is_sound_removal.ensures,
    )
    (all-joined (fits 12 t.identity.account) (drop 1 (terms_tests t)))
