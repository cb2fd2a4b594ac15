-- Lines 4 to 10, one definition a line: h is a group's header, d its detail, t the bill's terms. Assumes nothing.
use Rattle.std.specs.Prelude.{ℕ, ◌+◌, Bool, true, false, cond, not, ◌||◌, List, [], ◌∷◌, ◌++◌, eqb, Option, Some, None, Result, Ok, Err, ⊤}
use Rattle.fields.specs.Text.{text}
use Rattle.fields.specs.Digits.{digits}
use Rattle.fields.specs.Put.{same_list}
use Rattle.fields.specs.Field.{field_of, bad, value}
use Rattle.units.specs.declared.Date.{Date}
use Rattle.units.specs.Days.{year_past, days_past}
use Rattle.ledger.specs.declared.Posted.{Posted}
use Rattle.ledger.specs.declared.Posted.TheVariants as posted
use Rattle.ledger.specs.declared.Terms.{Terms}
use Rattle.ledger.specs.Bills.{code_bytes, is_prepay, is_open, cents, blank_bill}
use Rattle.records.specs.Layout.{rate_code_in, tracking_in, balance_in, sequence_in, consumption_in, detail_charge_in, tier_rate_in, applied_in, owed_in}
use Rattle.records.specs.declared.Tiers.{Tiers}
use Rattle.records.specs.Tiers.{tier_consumptions, tier_charges}
use Rattle.records.specs.declared.Notification.{Notification}
use Rattle.records.specs.declared.Notification.TheVariants.{Response, Supplement}
use Rattle.rules.specs.Rules.{Rule, rule, first, only}
use Rattle.ledger.specs.Limits.{last_sequence}
use Rattle.units.specs.declared.Rate.{Rate}
use Rattle.rules.specs.declared.ErrorCode.{ErrorCode}
use Rattle.rules.specs.declared.ErrorCode.TheVariants.{Br01, Br05, Br06, Br07, Br08, Br09, Br10, Br11, Br12, Br13, Br16, Br20, Br21, Br22, Br23, Br24, Br25, Br26}

-- ---- the bill that a group names
abbrev pub is_nothing : Option Terms → Bool
is_nothing (Some t) = false
is_nothing None = true

-- its terms; those of a blank bill stand where there is none
abbrev pub terms_of : Option Terms → Terms
terms_of (Some t) = t
terms_of None = blank_bill.terms

-- "4. BR16: no such bill."
unfoldable pub line4 : Option Terms → List (Rule ErrorCode)
line4 b = rule (is_nothing b) Br16 ∷ []

-- "5. BR07: another rate code."
unfoldable pub line5 : List ℕ → Terms → List (Rule ErrorCode)
line5 h t = rule (not (same_list (rate_code_in h) (code_bytes t.code))) Br07 ∷ []

-- paper 2 of document 02, "if today is more than 60 days past the removal date": never where it is empty
abbrev pub removal_days : ℕ
removal_days = 60

abbrev pub removed_long : Date → Option Date → Bool
removed_long today None = false
removed_long today (Some d) = days_past removal_days d.0 today.0

-- "6. RSP: BR09 if not open; BR01 if the Tracking ID isn't the latest request's; BR05 if the sequence isn't the bill's. SUP: BR09 if cancelled (H);
-- BR11 if open; BR05 if the sequence isn't 000 or the bill's is 999 (H)." Paper 2 of document 02: "A SUP gets BR12 if today is after the same day one year past
-- the Billing Date .. It gets BR13 if today is more than 60 days past the removal date. Both stand between BR11 and BR05, in that order."
unfoldable pub line6 : Notification → Date → List ℕ → List ℕ → Terms → List (Rule ErrorCode)
line6 Response today h d t =
    rule (not (is_open today t)) Br09
    ∷ rule (not (same_list (tracking_in h) (digits 9 t.latest.tracking))) Br01
    ∷ rule (not (same_list (sequence_in d) (digits 3 t.sequence))) Br05
    ∷ []
line6 Supplement today h d t =
    rule t.cancelled Br09
    ∷ rule (is_open today t) Br11
    ∷ rule (year_past t.latest.billing.0 today.0) Br12
    ∷ rule (removed_long today t.removal) Br13
    ∷ rule (not (same_list (sequence_in d) (text "000")) || eqb t.sequence last_sequence) Br05
    ∷ []

-- "7. BR08 consumption not numeric; BR06 not the bill's; BR10 charge not numeric."
unfoldable pub line7 : List ℕ → Terms → List (Rule ErrorCode)
line7 d t =
    rule (bad (field_of (consumption_in d))) Br08
    ∷ rule (not (eqb (value (field_of (consumption_in d))) t.latest.consumption.0)) Br06
    ∷ rule (bad (field_of (detail_charge_in d))) Br10
    ∷ []

-- "8. Prepay only: BR21 balance, BR22 applied, BR23 owed not numeric."
unfoldable pub line8 : Bool → List ℕ → List ℕ → List (Rule ErrorCode)
line8 prepay h d =
    only prepay
    (rule (bad (field_of (balance_in h))) Br21 ∷ rule (bad (field_of (applied_in d))) Br22 ∷ rule (bad (field_of (owed_in d))) Br23 ∷ [])

-- ---- the tiers
-- tier 1's rate, where it is numeric
abbrev pub rate_of : Option ℕ → Option Rate
rate_of (Some n) = Some (record { 0 = n })
rate_of None = None

-- "a tier consumption not numeric, or the four don't add up to the consumption": so for charges
abbrev pub misses : Option Tiers → ℕ → Bool
misses (Some t) total = not (eqb (t.0 + (t.1 + (t.2 + t.3))) total)
misses None total = true

-- "9. BR24: tier 1 rate not numeric. BR25: a tier consumption not numeric, or the four don't add up to the consumption. BR26: the same for charges."
unfoldable pub line9 : List ℕ → ℕ → ℕ → List (Rule ErrorCode)
line9 d consumption charge =
    rule (bad (field_of (tier_rate_in d 88))) Br24
    ∷ rule (misses (tier_consumptions d) consumption) Br25
    ∷ rule (misses (tier_charges d) charge) Br26
    ∷ []

-- "10. Prepay only: BR20 unless applied plus owed is the charge."
unfoldable pub line10 : Bool → List ℕ → ℕ → List (Rule ErrorCode)
line10 prepay d charge =
    only prepay (rule (not (eqb (value (field_of (applied_in d)) + value (field_of (owed_in d))) charge)) Br20 ∷ [])

-- ---- the lines in their order
-- the consumption and the charge that a detail holds
abbrev pub sent_consumption : List ℕ → ℕ
sent_consumption d = value (field_of (consumption_in d))

abbrev pub sent_charge : List ℕ → ℕ
sent_charge d = value (field_of (detail_charge_in d))

abbrev pub lines8to10 : Bool → List ℕ → List ℕ → ℕ → ℕ → List (Rule ErrorCode)
lines8to10 prepay h d consumption charge = line8 prepay h d ++ (line9 d consumption charge ++ line10 prepay d charge)

abbrev pub lines7to10 : List ℕ → List ℕ → Terms → List (Rule ErrorCode)
lines7to10 h d t = line7 d t ++ lines8to10 (is_prepay t.product) h d (sent_consumption d) (sent_charge d)

abbrev pub lines5to10 : Notification → Date → List ℕ → List ℕ → Terms → List (Rule ErrorCode)
lines5to10 k today h d t = line5 h t ++ (line6 k today h d t ++ lines7to10 h d t)

abbrev pub lines4to10 : Notification → Date → List ℕ → List ℕ → Option Terms → List (Rule ErrorCode)
lines4to10 k today h d b = line4 b ++ lines5to10 k today h d (terms_of b)

-- ---- the verdict
-- the amounts that a group posts to a bill of this product
unfoldable pub amounts_of : Bool → List ℕ → Posted
amounts_of prepay d =
    cond prepay
    (posted.Prepay (cents (sent_charge d)) (cents (value (field_of (applied_in d)))) (cents (value (field_of (owed_in d)))))
    (posted.BillReady (cents (sent_charge d)))

-- "No line true: accepted.", with these amounts
abbrev pub settle : Result ⊤ ErrorCode → Posted → Result Posted ErrorCode
settle (Ok tt) amounts = Ok amounts
settle (Err n) amounts = Err n

unfoldable pub verdict_of : Notification → Date → List ℕ → List ℕ → Option Terms → Result Posted ErrorCode
verdict_of k today h d b = settle (first (lines4to10 k today h d b)) (amounts_of (is_prepay (terms_of b).product) d)
