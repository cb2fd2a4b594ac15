-- What a supplier answers from reads back off a BIL as the number that was written, where the bill is sound. Assumes nothing.
use mathlib.Core.Path.{◌≡◌}
use mathlib.Core.Bool.{true}
use native.Mathlib.Omega.{arith}
use Rattle.fields.specs.Field.{field_of}
use Rattle.fields.proofs.DigitLaws.{field-digits}
use Rattle.units.proofs.DateLaws.{date-fits}
use Rattle.ledger.specs.Sound.{sound_terms}
use Rattle.ledger.proofs.SoundLaws.{terms-facts}
use Rattle.notices.specs.declared.bil.Bil.{Bil}
use Rattle.records.specs.Layout.{record_at, account_in, tracking_in, scheduled_in, key_in, billing_in, sequence_in, consumption_in, from_in}
use Rattle.notices.specs.Notices.{bil}
use Rattle.notices.proofs.PositionLaws.{bil-at}
use Rattle.std.specs.Prelude.{Some}

pub record BilReads (b : Bil) : Type 0 where
  pub account : field_of (account_in (record_at (bil b) 0)) ≡ Some b.bill.terms.identity.account
  pub tracking : field_of (tracking_in (record_at (bil b) 0)) ≡ Some b.bill.terms.latest.tracking
  pub scheduled : field_of (scheduled_in (record_at (bil b) 0)) ≡ Some b.bill.terms.latest.scheduled.0
  pub key : field_of (key_in (record_at (bil b) 1)) ≡ Some b.bill.terms.identity.key
  pub billing : field_of (billing_in (record_at (bil b) 1)) ≡ Some b.bill.terms.latest.billing.0
  pub sequence : field_of (sequence_in (record_at (bil b) 1)) ≡ Some b.bill.terms.sequence
  pub consumption : field_of (consumption_in (record_at (bil b) 1)) ≡ Some b.bill.terms.latest.consumption.0
  pub from : field_of (from_in (record_at (bil b) 1)) ≡ Some b.bill.terms.latest.from.0

pub bil-reads : (b : Bil) → sound_terms b.bill.terms ≡ true → BilReads b
bil-reads b sound =
    let f = terms-facts b.bill.terms sound in
    let h = (bil-at b).header in
    let d = (bil-at b).detail in
    record {
      account = rw h.alike.account (field-digits 12 _ f.account);
      tracking = rw h.alike.tracking (field-digits 9 _ (omega (arith, f.tracking)));
      scheduled = rw h.scheduled (field-digits 8 _ (date-fits _ f.scheduled));
      key = rw d.key (field-digits 4 _ f.key);
      billing = rw d.billing (field-digits 8 _ (date-fits _ f.billing));
      sequence = rw d.sequence (field-digits 3 _ (omega (arith, f.sequence)));
      consumption = rw d.consumption (field-digits 10 _ f.consumption);
      from = rw d.from (field-digits 8 _ (date-fits _ f.from));
    }
