-- `places::checks::sound` meets its contract: the tests of header, bills and identities are those of a sound ledger.
use mathlib.Core.Path.{sym, ◌∙◌}
use Rattle.places.proofs.HolderLaws.{held-none}
use Rattle.places.proofs.SoundWordsLaws.{bad-header, header-count, good-header}
use Rattle.places.proofs.checks.sound.Goals as goal

pub returns-then-not-fits : goal.returns-then-not-fits
returns-then-not-fits g c = held-none _ _ (g.met.T.Holder.sound_holds _) (sym c.fits.ensures ∙ c.if-not-fits.true)

pub header-h-requires : goal.header-h-requires
header-h-requires g c = sym c.fits.ensures ∙ c.if-not-fits.false

pub returns-then-not-good_header : goal.returns-then-not-good_header
returns-then-not-good_header g c = bad-header (g.T.Holder.held c.args.lent.now) (g.met.T.Holder.places _ (sym c.fits.ensures ∙ c.if-not-fits.false)) c.header-h.result c.header-h.ensures c.good_header.result c.good_header.ensures c.if-not-good_header.true

pub good_bills-requires : goal.good_bills-requires
good_bills-requires g c = (sym c.fits.ensures ∙ c.if-not-fits.false, header-count (g.T.Holder.held c.args.lent.now) (g.met.T.Holder.places _ (sym c.fits.ensures ∙ c.if-not-fits.false)) c.header-h.result c.header-h.ensures c.good_header.result c.good_header.ensures c.if-not-good_header.false)

pub all_distinct-requires : goal.all_distinct-requires
all_distinct-requires g c = (sym c.fits.ensures ∙ c.if-not-fits.false, header-count (g.T.Holder.held c.args.lent.now) (g.met.T.Holder.places _ (sym c.fits.ensures ∙ c.if-not-fits.false)) c.header-h.result c.header-h.ensures c.good_header.result c.good_header.ensures c.if-not-good_header.false)

pub returns : goal.returns
returns g c =
    good-header (g.T.Holder.held c.args.lent.now) (g.met.T.Holder.places _ (sym c.fits.ensures ∙ c.if-not-fits.false)) c.header-h.result c.header-h.ensures c.good_header.result c.good_header.ensures c.if-not-good_header.false _ _ c.good_bills.ensures c.all_distinct.ensures
