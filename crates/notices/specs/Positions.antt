-- What stands at each position of the four notices, in the order and words of "Notices" and of the layout ("Supplier file"). Assumes nothing.
use Rattle.std.specs.Prelude.{ℕ, ◌+◌, ◌-◌, ◌*◌, ◌<◌, ◌≡◌, Bool, List, [], ◌∷◌, ◌++◌, length, get_or}
use Rattle.fields.specs.Text.{text}
use Rattle.fields.specs.Digits.{digits}
use Rattle.fields.specs.Put.{positions, filled}
use Rattle.units.specs.declared.Date.{Date}
use Rattle.ledger.specs.Bills.{code_bytes, charge_of, is_prepay}
use Rattle.records.specs.Limits.{record_size, notice_size}
use Rattle.records.specs.Layout.{record_at, company_in, rate_code_in, account_in, tracking_in, type_in, notice_in, transmission_in, confirmation_in, scheduled_in, record_count_in, balance_in, key_in, billing_in, sequence_in, consumption_in, detail_charge_in, from_in, previous_sequence_in, previous_consumption_in, previous_charge_in, error_code_in, is_sup}
use Rattle.notices.specs.declared.Alike.{Alike}
use Rattle.notices.specs.declared.bil.Bil.{Bil}
use Rattle.notices.specs.declared.cxl.Cxl.{Cxl}
use Rattle.notices.specs.declared.acf.Acf.{Acf}
use Rattle.notices.specs.declared.rej.Rej.{Rej}
use Rattle.notices.specs.Notices.{spaces, zeros, bil_alike, product_fill, cxl_alike}
use Rattle.notices.specs.Answers.{acf_tracking, acf_scheduled, acf_balance, from_back}

-- ---- what the records of all four notices share
-- "1-41 alike": what Company, rate code, account, Tracking ID, type and Notification Code hold; "Transmission Date is today"
pub record AlikeAt (firm code number id record_type name : List ℕ) (today : Date) (r : List ℕ) : Type 0 where
  pub company : company_in r ≡ firm
  pub rate_code : rate_code_in r ≡ code
  pub account : account_in r ≡ number
  pub tracking : tracking_in r ≡ id
  pub type : type_in r ≡ record_type
  pub notice : notice_in r ≡ name
  pub transmission : transmission_in r ≡ digits 8 today.0

-- of our own records
abbrev pub OwnAt : Alike → List ℕ → List ℕ → List ℕ → Type 0
OwnAt l record_type name r = AlikeAt (text "34") (code_bytes l.code) (digits 12 l.account) (digits 9 l.tracking) record_type name l.today r

-- of the sender's record s "with Notification Code, Transmission Date .. replaced", and this Tracking ID
abbrev pub SentAt : List ℕ → List ℕ → List ℕ → Date → List ℕ → Type 0
SentAt s id name today r = AlikeAt (company_in s) (rate_code_in s) (account_in s) id (type_in s) name today r

-- "spaces from" a position; "Each record ends in byte 13"
pub record SpacesFromAt (a : ℕ) (r : List ℕ) : Type 0 where
  pub blank : positions r a 320 ≡ spaces (record_size - a)
  pub end : positions r 321 321 ≡ 13 ∷ []

-- ---- a header of our own: "Record Count 01, spaces from 61"
pub record HeaderAt (l : Alike) (name : List ℕ) (number date : ℕ) (h : List ℕ) : Type 0 where
  pub alike : OwnAt l (text "01") name h
  pub confirmation : confirmation_in h ≡ digits 9 number
  pub scheduled : scheduled_in h ≡ digits 8 date
  pub record_count : record_count_in h ≡ text "01"
  pub rest : SpacesFromAt 61 h

-- ---- BIL: "detail with charge and 88-207 zeros, previous sequence the count of requests, previous consumption the former one (0 on the
-- first), previous charge the posted one, 234-259 zeros for Prepay and spaces for Bill Ready, spaces from 260"
pub record BilDetailAt (b : Bil) (d : List ℕ) : Type 0 where
  pub alike : OwnAt (bil_alike b) (text "02") (text "BIL") d
  pub key : key_in d ≡ digits 4 b.bill.terms.identity.key
  pub billing : billing_in d ≡ digits 8 b.bill.terms.latest.billing.0
  pub sequence : sequence_in d ≡ digits 3 b.bill.terms.sequence
  pub consumption : consumption_in d ≡ digits 10 b.bill.terms.latest.consumption.0
  pub charge : detail_charge_in d ≡ zeros 13
  pub from : from_in d ≡ digits 8 b.bill.terms.latest.from.0
  pub tiers : positions d 88 207 ≡ zeros 120
  pub previous_sequence : previous_sequence_in d ≡ digits 3 b.bill.terms.requests
  pub previous_consumption : previous_consumption_in d ≡ digits 10 b.previous.0
  pub previous_charge : previous_charge_in d ≡ digits 13 (charge_of b.bill.posted).0
  pub applied_and_owed : positions d 234 259 ≡ filled 26 (product_fill (is_prepay b.bill.terms.product))
  pub rest : SpacesFromAt 260 d

pub record BilAt (b : Bil) (n : List ℕ) : Type 0 where
  pub long : length n ≡ notice_size
  pub header : HeaderAt (bil_alike b) (text "BIL") b.confirmation b.bill.terms.latest.scheduled.0 (record_at n 0)
  pub detail : BilDetailAt b (record_at n 1)

-- ---- CXL: "header with Scheduled Date 00000000, Record Count 01; detail to position 45; all else spaces"
pub record CxlDetailAt (x : Cxl) (d : List ℕ) : Type 0 where
  pub alike : OwnAt (cxl_alike x) (text "02") (text "CXL") d
  pub key : key_in d ≡ digits 4 x.terms.identity.key
  pub rest : SpacesFromAt 46 d

pub record CxlAt (x : Cxl) (n : List ℕ) : Type 0 where
  pub long : length n ≡ notice_size
  pub header : HeaderAt (cxl_alike x) (text "CXL") x.confirmation 0 (record_at n 0)
  pub detail : CxlDetailAt x (record_at n 1)

-- ---- ACF: "one header, the sender's with Notification Code, Transmission Date, Confirmation Number and, on a SUP, Tracking ID replaced,
-- Record Count 00, Scheduled Date the bill's (RSP) or 00000000 (SUP, H), 61-73 as sent for Prepay, else spaces, spaces from 74": h is the sender's
pub record AcfAt (h : List ℕ) (a : Acf) (n : List ℕ) : Type 0 where
  pub long : length n ≡ record_size
  pub alike : SentAt h (acf_tracking h a) (text "ACF") a.today n
  pub confirmation : confirmation_in n ≡ digits 9 a.confirmation
  pub scheduled : scheduled_in n ≡ digits 8 (acf_scheduled h a)
  pub record_count : record_count_in n ≡ text "00"
  pub balance : balance_in n ≡ acf_balance h a
  pub rest : SpacesFromAt 74 n

-- ---- REJ: "the sender's header with the same three replaced": h is the sender's
pub record RejHeaderAt (h : List ℕ) (x : Rej) (r : List ℕ) : Type 0 where
  pub alike : SentAt h (tracking_in h) (text "REJ") x.today r
  pub confirmation : confirmation_in r ≡ digits 9 x.confirmation
  pub from_scheduled : positions r 51 321 ≡ positions h 51 321

-- "each detail with the first two replaced, error code at 260-263 (both products, H), spaces from 264. Under a SUP header, a From Date all
-- spaces or all zeros goes back as 00010101": d is the sender's
pub record RejDetailAt (sup : Bool) (d : List ℕ) (x : Rej) (r : List ℕ) : Type 0 where
  pub alike : SentAt d (tracking_in d) (text "REJ") x.today r
  pub key_to_charge : positions r 42 79 ≡ positions d 42 79
  pub from : from_in r ≡ from_back sup (from_in d)
  pub tiers_to_owed : positions r 88 259 ≡ positions d 88 259
  pub error_code : error_code_in r ≡ text "BR" ++ digits 2 x.code
  pub rest : SpacesFromAt 264 r

-- a group's header h and its details ds
pub record RejAt (h : List ℕ) (ds : List (List ℕ)) (x : Rej) (n : List ℕ) : Type 0 where
  pub long : length n ≡ (length ds + 1) * record_size
  pub header : RejHeaderAt h x (record_at n 0)
  pub details : (j : ℕ) → j < length ds → RejDetailAt (is_sup h) (get_or ds j []) x (record_at n (j + 1))
