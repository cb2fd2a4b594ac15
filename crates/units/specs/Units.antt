-- "Charges are whole cents (13 digits), consumption is whole Ccf (10), rates are hundred-thousandths of a dollar per Mcf (7)."
-- Assumes nothing.
use Rattle.std.specs.Prelude.{Bool}
use Rattle.fields.specs.Digits.{fits}
use Rattle.units.specs.declared.Cents.{Cents}
use Rattle.units.specs.declared.Ccf.{Ccf}
use Rattle.units.specs.declared.Rate.{Rate}

abbrev pub fits_cents : Cents → Bool
fits_cents c = fits 13 c.0

abbrev pub fits_ccf : Ccf → Bool
fits_ccf c = fits 10 c.0

abbrev pub fits_rate : Rate → Bool
fits_rate r = fits 7 r.0
