-- Each field stands where document 01 says: what a record holds at a field's place is what stands at the document's positions. Assumes nothing.
use Rattle.std.specs.Prelude.{ℕ, ◌≡◌, ◌+◌, List}
use mathlib.Core.Path.{refl}
use Rattle.fields.specs.Put.{part}
use Rattle.records.specs.Layout.{company_in, rate_code_in, account_in, tracking_in, type_in, notice_in, transmission_in, confirmation_in, scheduled_in, record_count_in, balance_in, key_in, billing_in, sequence_in, consumption_in, detail_charge_in, from_in, tier_rate_in, previous_sequence_in, previous_consumption_in, previous_charge_in, applied_in, owed_in, error_code_in}
use Rattle.records.specs.declared.layout.Field.{Field}
use Rattle.records.specs.declared.layout.TheConstants.{COMPANY, RATE_CODE, ACCOUNT, TRACKING, TYPE, NOTICE, TRANSMISSION, CONFIRMATION, SCHEDULED, RECORD_COUNT, BALANCE, KEY, BILLING, SEQUENCE, CONSUMPTION, CHARGE, FROM, TIER_1, TIER_2, TIER_3, TIER_4, TIER_1_RATE, TIER_RATE, PREVIOUS_SEQUENCE, PREVIOUS_CONSUMPTION, PREVIOUS_CHARGE, APPLIED, OWED, ERROR_CODE}

-- what a record holds at a field's place
abbrev at : Field → List ℕ → List ℕ
at f r = part r f.at f.width

-- the fields of a header and of a detail alike
record AlikePlaces (r : List ℕ) : Type 0 where
  company : at COMPANY r ≡ company_in r
  rate_code : at RATE_CODE r ≡ rate_code_in r
  account : at ACCOUNT r ≡ account_in r
  tracking : at TRACKING r ≡ tracking_in r
  type : at TYPE r ≡ type_in r
  notice : at NOTICE r ≡ notice_in r
  transmission : at TRANSMISSION r ≡ transmission_in r

alike-places : (r : List ℕ) → AlikePlaces r
alike-places r =
    record { company = refl; rate_code = refl; account = refl; tracking = refl; type = refl; notice = refl; transmission = refl }

-- those of a header alone
record HeaderPlaces (h : List ℕ) : Type 0 where
  confirmation : at CONFIRMATION h ≡ confirmation_in h
  scheduled : at SCHEDULED h ≡ scheduled_in h
  record_count : at RECORD_COUNT h ≡ record_count_in h
  balance : at BALANCE h ≡ balance_in h

header-places : (h : List ℕ) → HeaderPlaces h
header-places h = record { confirmation = refl; scheduled = refl; record_count = refl; balance = refl }

-- those of a detail alone, but for the tiers
record DetailPlaces (d : List ℕ) : Type 0 where
  key : at KEY d ≡ key_in d
  billing : at BILLING d ≡ billing_in d
  sequence : at SEQUENCE d ≡ sequence_in d
  consumption : at CONSUMPTION d ≡ consumption_in d
  charge : at CHARGE d ≡ detail_charge_in d
  from : at FROM d ≡ from_in d
  previous_sequence : at PREVIOUS_SEQUENCE d ≡ previous_sequence_in d
  previous_consumption : at PREVIOUS_CONSUMPTION d ≡ previous_consumption_in d
  previous_charge : at PREVIOUS_CHARGE d ≡ previous_charge_in d
  applied : at APPLIED d ≡ applied_in d
  owed : at OWED d ≡ owed_in d
  error_code : at ERROR_CODE d ≡ error_code_in d

detail-places : (d : List ℕ) → DetailPlaces d
detail-places d =
    record {
      key = refl;
      billing = refl;
      sequence = refl;
      consumption = refl;
      charge = refl;
      from = refl;
      previous_sequence = refl;
      previous_consumption = refl;
      previous_charge = refl;
      applied = refl;
      owed = refl;
      error_code = refl;
    }

-- the rate of each tier, and of tier 1
tier-rate-places : (d : List ℕ)
    → (part d (TIER_1 + TIER_RATE.at) TIER_RATE.width ≡ tier_rate_in d 88)
    × (part d (TIER_2 + TIER_RATE.at) TIER_RATE.width ≡ tier_rate_in d 118)
    × (part d (TIER_3 + TIER_RATE.at) TIER_RATE.width ≡ tier_rate_in d 148)
    × (part d (TIER_4 + TIER_RATE.at) TIER_RATE.width ≡ tier_rate_in d 178)
tier-rate-places d = (refl, refl, refl, refl)

tier-1-rate-place : (d : List ℕ) → at TIER_1_RATE d ≡ tier_rate_in d 88
tier-1-rate-place d = refl
