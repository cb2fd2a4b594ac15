-- The layout of a supplier's records and of ours ("Supplier file"): every field once, in document 01's order. Assumes nothing.
use Rattle.std.specs.Prelude.{ℕ, zero, suc, ◌+◌, ◌*◌, Bool, List, [], ◌∷◌}
use Rattle.fields.specs.Text.{text}
use Rattle.fields.specs.Put.{part, positions, same_list}
use Rattle.records.specs.Limits.{record_size}

-- "Records are 320 bytes .. and then byte 13": record i of a file, and k records from record i on
abbrev pub record_at : List ℕ → ℕ → List ℕ
record_at s i = part s (i * record_size) record_size

unfoldable pub records_from : List ℕ → ℕ → ℕ → List (List ℕ)
records_from s i zero = []
records_from s i (suc k) = record_at s i ∷ records_from s (i + 1) k

-- ---- "Header (002): Company 1-2 (34), rate code 3-7, account 8-19, Tracking ID 20-28, type 29-30, Notification Code 31-33,
-- Transmission Date 34-41, Confirmation Number 42-50, Scheduled Date 51-58, Record Count 59-60, Prepaid Balance 61-73 (Prepay)."
abbrev pub company_in : List ℕ → List ℕ
company_in r = positions r 1 2

abbrev pub rate_code_in : List ℕ → List ℕ
rate_code_in r = positions r 3 7

abbrev pub account_in : List ℕ → List ℕ
account_in r = positions r 8 19

abbrev pub tracking_in : List ℕ → List ℕ
tracking_in r = positions r 20 28

abbrev pub type_in : List ℕ → List ℕ
type_in r = positions r 29 30

abbrev pub notice_in : List ℕ → List ℕ
notice_in r = positions r 31 33

abbrev pub transmission_in : List ℕ → List ℕ
transmission_in r = positions r 34 41

abbrev pub confirmation_in : List ℕ → List ℕ
confirmation_in h = positions h 42 50

abbrev pub scheduled_in : List ℕ → List ℕ
scheduled_in h = positions h 51 58

abbrev pub record_count_in : List ℕ → List ℕ
record_count_in h = positions h 59 60

abbrev pub balance_in : List ℕ → List ℕ
balance_in h = positions h 61 73

-- ---- "Detail: 1-41 alike, Bill Key 42-45, Billing Date 46-53, sequence 54-56, consumption 57-66, charge 67-79, From Date 80-87, then four
-- tiers from 88, 118, 148 and 178, each rate 7, consumption 10, charge 13; previous sequence 208-210, previous consumption 211-220,
-- previous charge 221-233, applied 234-246, owed 247-259 (Prepay), filler."
abbrev pub key_in : List ℕ → List ℕ
key_in d = positions d 42 45

abbrev pub billing_in : List ℕ → List ℕ
billing_in d = positions d 46 53

abbrev pub sequence_in : List ℕ → List ℕ
sequence_in d = positions d 54 56

abbrev pub consumption_in : List ℕ → List ℕ
consumption_in d = positions d 57 66

abbrev pub detail_charge_in : List ℕ → List ℕ
detail_charge_in d = positions d 67 79

abbrev pub from_in : List ℕ → List ℕ
from_in d = positions d 80 87

-- of the tier that starts at position a
abbrev pub tier_rate_in : List ℕ → ℕ → List ℕ
tier_rate_in d a = positions d a (a + 6)

abbrev pub tier_consumption_in : List ℕ → ℕ → List ℕ
tier_consumption_in d a = positions d (a + 7) (a + 16)

abbrev pub tier_charge_in : List ℕ → ℕ → List ℕ
tier_charge_in d a = positions d (a + 17) (a + 29)

abbrev pub previous_sequence_in : List ℕ → List ℕ
previous_sequence_in d = positions d 208 210

abbrev pub previous_consumption_in : List ℕ → List ℕ
previous_consumption_in d = positions d 211 220

abbrev pub previous_charge_in : List ℕ → List ℕ
previous_charge_in d = positions d 221 233

abbrev pub applied_in : List ℕ → List ℕ
applied_in d = positions d 234 246

abbrev pub owed_in : List ℕ → List ℕ
owed_in d = positions d 247 259

-- REJ: "error code at 260-263"
abbrev pub error_code_in : List ℕ → List ℕ
error_code_in d = positions d 260 263

-- ---- the Notification Code of a supplier's header
abbrev pub is_rsp : List ℕ → Bool
is_rsp h = same_list (notice_in h) (text "RSP")

abbrev pub is_sup : List ℕ → Bool
is_sup h = same_list (notice_in h) (text "SUP")
