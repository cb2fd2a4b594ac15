-- `ledger::sound::is_balanced` meets its contract: the sum is taken where the amounts are in their width.
use Prim.Native.Nat.{◌<◌, ◌^◌}
use mathlib.Core.Bool.{◌&&◌}
use native.Mathlib.Omega.{arith}
use borrow.Author.Tests.{ltb-true}
use Rattle.fields.proofs.BoolLaws.{and_left, and_right}
use Rattle.units.specs.Units.{fits_cents}
use Rattle.ledger.specs.Sound.{balanced}
use Rattle.ledger.proofs.sound.is_balanced.Goals as goal

pub add-requires : goal.add-requires
add-requires c =
    let a = c.args in
    let t = rw (c.fits.ensures, c.fits-2.ensures, c.fits-3.ensures) at c.if-fits.true in
    let x : a.applied.0 < 10 ^ 13 = ltb-true _ _ (and_right (fits_cents a.charge) (fits_cents a.applied) (and_left _ (fits_cents a.owed) t)) in
    let y : a.owed.0 < 10 ^ 13 = ltb-true _ _ (and_right (fits_cents a.charge && fits_cents a.applied) (fits_cents a.owed) t) in
    omega arith

pub returns-then-fits : goal.returns-then-fits
unfolding balanced
returns-then-fits c = rw (rw (c.fits.ensures, c.fits-2.ensures, c.fits-3.ensures) at c.if-fits.true) (rw c.add.ensures at c.eq.ensures)

pub returns-else-fits : goal.returns-else-fits
unfolding balanced
returns-else-fits c = rw (rw (c.fits.ensures, c.fits-2.ensures, c.fits-3.ensures) at c.if-fits.false) c.if-fits.false
