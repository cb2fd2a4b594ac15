-- What lines 4 to 10 read of a group: two groups that agree there have one verdict. No line reads a group's dates, Confirmation Number or
-- previous fields, nor a SUP's Tracking ID. Assumes nothing.
use Prim.Native.Nat.{ℕ}
use mathlib.Core.Path.{◌≡◌}
use mathlib.Core.List.{List}
use Rattle.units.specs.declared.Date.{Date}
use Rattle.records.specs.Layout.{rate_code_in, tracking_in, balance_in, sequence_in, consumption_in, detail_charge_in, tier_rate_in, applied_in, owed_in}
use Rattle.records.specs.declared.Notification.TheVariants.{Response, Supplement}
use Rattle.records.specs.Tiers.{tier_consumptions, tier_charges}
use Rattle.verdict.specs.Lines.{line5, line6, line7, line8, line9, line10, amounts_of, verdict_of}
use Rattle.std.specs.Prelude.{Option}
use Rattle.ledger.specs.declared.Terms.{Terms}

-- the two headers and details agree on what is read
pub record Agree (h h' d d' : List ℕ) : Type 0 where
  pub code : rate_code_in h ≡ rate_code_in h'
  pub balance : balance_in h ≡ balance_in h'
  pub sequence : sequence_in d ≡ sequence_in d'
  pub consumption : consumption_in d ≡ consumption_in d'
  pub charge : detail_charge_in d ≡ detail_charge_in d'
  pub rate : tier_rate_in d 88 ≡ tier_rate_in d' 88
  pub consumptions : tier_consumptions d ≡ tier_consumptions d'
  pub charges : tier_charges d ≡ tier_charges d'
  pub applied : applied_in d ≡ applied_in d'
  pub owed : owed_in d ≡ owed_in d'

module _ (today : Date) (b : Option Terms) (h h' d d' : List ℕ) (a : Agree h h' d d') where
  -- an RSP's Tracking ID is read too
  pub reads-rsp : tracking_in h ≡ tracking_in h' → verdict_of Response today h d b ≡ verdict_of Response today h' d' b
  unfolding verdict_of line5 line6 line7 line8 line9 line10 amounts_of
  reads-rsp t =
      rw (a.code, t, a.balance, a.sequence, a.consumption, a.charge, a.rate, a.consumptions, a.charges, a.applied, a.owed)

  pub reads-sup : verdict_of Supplement today h d b ≡ verdict_of Supplement today h' d' b
  unfolding verdict_of line5 line6 line7 line8 line9 line10 amounts_of
  reads-sup = rw (a.code, a.balance, a.sequence, a.consumption, a.charge, a.rate, a.consumptions, a.charges, a.applied, a.owed)
