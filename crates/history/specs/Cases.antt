-- "Proved of the rules": cases (a) to (l) over real records, as one table: what is given, and what comes of it. Assumes nothing.
use Rattle.std.specs.Prelude.{ℕ, zero, suc, ◌≡◌, Bool, true, false, cond, List, [], ◌∷◌, map, ◌++◌, ℤ, pos, negsuc, replicate, Result, Ok, Err, ⊤}
use Rattle.fields.specs.Text.{text}
use Rattle.fields.specs.Digits.{digits}
use Rattle.units.specs.Calendar.{is_date, date_of}
use Rattle.ledger.specs.declared.Identity.{Identity}
use Rattle.ledger.specs.declared.Bill.{Bill}
use Rattle.ledger.specs.declared.Product.{Product}
use Rattle.ledger.specs.declared.Product.TheVariants as product
use Rattle.ledger.specs.declared.Posted.TheVariants as posted
use Rattle.ledger.specs.Bills.{product_byte, cents}
use Rattle.ledger.specs.Books.{Book}
use Rattle.notices.specs.declared.Alike.{Alike}
use Rattle.notices.specs.Notices.{alike_fields, spaces_from}
use Rattle.causes.specs.declared.Request.{Request}
use Rattle.causes.specs.Causes.{Call, request, file, cancel, close}
use Rattle.causes.specs.Requests.{new_bill}
use Rattle.calls.specs.Machine.{Outcome, fresh, after, outcomes}
use Rattle.history.specs.Claim.{assigned}
use Rattle.ledger.specs.declared.Posted.{Posted}
use Rattle.rules.specs.declared.Cause.{Cause}
use Rattle.rules.specs.declared.ErrorCode.{ErrorCode}
use Rattle.rules.specs.declared.Cause.TheVariants.{LedgerFull}
use Rattle.rules.specs.declared.ErrorCode.TheVariants.{Br09, Br14, Br20, Br25}

-- ---- a supplier's file
-- what a group of the table's bill holds; the tier consumptions 3 and 4 are 0
pub record Sent : Type 0 where
  pub sup : Bool
  pub tracking : ℕ
  pub sequence : ℕ
  pub first : ℕ
  pub second : ℕ
  pub charge : ℕ
  pub applied : ℕ
  pub owed : ℕ

abbrev alike_of : Sent → Alike
alike_of x =
    record {
      code = record { first = 90; second = 90; tens = 52; ones = 48 };
      account = 123456780019;
      tracking = x.tracking;
      today = date_of 20171114;
    }

abbrev notice_of : Sent → List ℕ
notice_of x = cond x.sup (text "SUP") (text "RSP")

-- a header: Confirmation Number, Scheduled Date, Record Count, Prepaid Balance
unfoldable pub sent_header : Sent → List ℕ
sent_header x = alike_fields (alike_of x) (text "01") (notice_of x) ++ digits 9 1 ++ digits 8 20171116 ++ text "01" ++ digits 13 0 ++ spaces_from 74

-- a detail: Bill Key, Billing Date, sequence, consumption, charge, From Date, four tiers, previous fields, applied, owed
unfoldable pub sent_detail : Sent → List ℕ
sent_detail x =
    alike_fields (alike_of x) (text "02") (notice_of x)
    ++ digits 4 7
    ++ digits 8 20171113
    ++ digits 3 x.sequence
    ++ digits 10 85
    ++ digits 13 x.charge
    ++ digits 8 20171013
    ++ digits 7 50000
    ++ digits 10 x.first
    ++ digits 13 x.charge
    ++ digits 7 50000
    ++ digits 10 x.second
    ++ digits 13 0
    ++ digits 30 0
    ++ digits 30 0
    ++ digits 26 0
    ++ digits 13 x.applied
    ++ digits 13 x.owed
    ++ spaces_from 260

unfoldable pub sent : List Sent → List ℕ
sent [] = []
sent (x ∷ xs) = sent_header x ++ sent_detail x ++ sent xs

abbrev rsp : ℕ → Sent
rsp charge = record { sup = false; tracking = 1; sequence = 1; first = 60; second = 25; charge = charge; applied = 0; owed = 0 }

abbrev prepaid : ℕ → Sent
prepaid owed = record { sup = false; tracking = 1; sequence = 1; first = 60; second = 25; charge = 4250; applied = 4000; owed = owed }

abbrev short : Sent
short = record { sup = false; tracking = 1; sequence = 1; first = 60; second = 24; charge = 4250; applied = 0; owed = 0 }

abbrev pub sup : Sent
sup = record { sup = true; tracking = 0; sequence = 0; first = 60; second = 25; charge = 4250; applied = 0; owed = 0 }

-- ---- the calls
-- a request of so many Ccf, with these Billing and Scheduled Dates
abbrev pub asking_on : ℕ → ℕ → ℕ → Identity → Product → Request
asking_on consumption billing scheduled id p =
    record {
      code = record { first = 90; second = 90; third = 67; tens = 52; ones = 48 };
      identity = id;
      product = product_byte p;
      billing = date_of billing;
      from = date_of 20171013;
      consumption = record { 0 = consumption };
      scheduled = date_of scheduled;
    }

-- one of 85 Ccf, due 20171116
abbrev asking : Identity → Product → Request
asking id p = asking_on 85 20171113 20171116 id p

-- the table's bill, and other bills
abbrev pub bill : Identity
bill = record { account = 123456780019; key = 7 }

abbrev other : ℕ → Request
other account = asking (record { account = account; key = 1 }) product.BillReady

abbrev ask : Product → Call
ask p = request (asking bill p) 642

abbrev pub send : List Sent → Call
send xs = file (sent xs) 64200

-- a fresh ledger, and one that holds n bills
abbrev pub start : Book
start = fresh (record { today = date_of 20171113; tracking = 1; confirmation = 1 })

abbrev held : ℕ → List Bill
held zero = []
held (suc n) = new_bill (other n) 1 ∷ held n

abbrev holding : ℕ → Book
holding n = record { today = date_of 20171113; tracking = 500; confirmation = 500; bills = held n }

-- ---- the table
-- a date, or calls on a ledger
pub data Case : Type 0 where
  date : ℕ → Case
  calls : Book → List Call → Case

-- what calls come to: their results, verdicts and changes, the Tracking IDs assigned, the bills' sequences at the end
pub record Came : Type 0 where
  pub results : List (Result ⊤ Cause)
  pub verdicts : List (List (Result Posted ErrorCode))
  pub changes : List ℤ
  pub assigned : List ℕ
  pub sequences : List ℕ

-- a date or not, or what calls come to
pub data CaseResult : Type 0 where
  is_one : Bool → CaseResult
  came : Came → CaseResult

unfoldable pub result_of : Case → CaseResult
result_of (date d) = is_one (is_date d)
result_of (calls l cs) =
    came
    (record {
      results = map (λ (o : Outcome). o.result) (outcomes l cs);
      verdicts = map (λ (o : Outcome). o.verdicts) (outcomes l cs);
      changes = map (λ (o : Outcome). o.change) (outcomes l cs);
      assigned = assigned (outcomes l cs);
      sequences = map (λ (b : Bill). b.terms.sequence) (after l cs).bills;
    })

pub record Row : Type 0 where
  pub given : Case
  pub result : CaseResult

-- the row of these calls on a ledger: their results, verdicts and changes, the Tracking IDs assigned, the bills' sequences at the end
abbrev pub row : Book → List Call → List (Result ⊤ Cause) → List (List (Result Posted ErrorCode)) → List ℤ → List ℕ → List ℕ → Row
row l cs results verdicts changes assigned sequences =
    record {
      given = calls l cs;
      result = came (record { results = results; verdicts = verdicts; changes = changes; assigned = assigned; sequences = sequences });
    }

abbrev pub ready : ℕ → Result Posted ErrorCode
ready charge = Ok (posted.BillReady (cents charge))

unfoldable pub table : List Row
table =
    -- (a) 20000229 is a date, 19000229 isn't
    record { given = date 20000229; result = is_one true }
    ∷ record { given = date 19000229; result = is_one false }
    -- (b) RSP on its Scheduled Date is accepted; (d) 85 = 60 + 25 passes
    ∷ row start (ask product.BillReady ∷ close (date_of 20171116) ∷ send (rsp 4250 ∷ []) ∷ [])
    (Ok tt ∷ Ok tt ∷ (Ok tt) ∷ []) ([] ∷ [] ∷ (ready 4250 ∷ []) ∷ []) (pos 0 ∷ pos 0 ∷ pos 4250 ∷ []) (1 ∷ []) (1 ∷ [])
    -- (c) a day later BR09
    ∷ row start (ask product.BillReady ∷ close (date_of 20171117) ∷ send (rsp 4250 ∷ []) ∷ [])
    (Ok tt ∷ Ok tt ∷ (Ok tt) ∷ []) ([] ∷ [] ∷ (Err Br09 ∷ []) ∷ []) (pos 0 ∷ pos 0 ∷ pos 0 ∷ []) (1 ∷ []) (1 ∷ [])
    -- (e) 60 + 24 is BR25
    ∷ row start (ask product.BillReady ∷ send (short ∷ []) ∷ [])
    (Ok tt ∷ Ok tt ∷ []) ([] ∷ (Err Br25 ∷ []) ∷ []) (pos 0 ∷ pos 0 ∷ []) (1 ∷ []) (1 ∷ [])
    -- (f) Prepay 4250 with 4000 and 250 passes
    ∷ row start (ask product.Prepay ∷ send (prepaid 250 ∷ []) ∷ [])
    (Ok tt ∷ Ok tt ∷ []) ([] ∷ (Ok (posted.Prepay (cents 4250) (cents 4000) (cents 250)) ∷ []) ∷ []) (pos 0 ∷ pos 4250 ∷ []) (1 ∷ []) (1 ∷ [])
    -- (g) with 251 BR20
    ∷ row start (ask product.Prepay ∷ send (prepaid 251 ∷ []) ∷ [])
    (Ok tt ∷ Ok tt ∷ []) ([] ∷ (Err Br20 ∷ []) ∷ []) (pos 0 ∷ pos 0 ∷ []) (1 ∷ []) (1 ∷ [])
    -- (h) 4250 replaced by 4000 returns -250, (i) a cancel then -4000
    ∷ row start (ask product.BillReady ∷ send (rsp 4250 ∷ []) ∷ send (rsp 4000 ∷ []) ∷ cancel bill 642 ∷ [])
    (Ok tt ∷ Ok tt ∷ (Ok tt) ∷ Ok tt ∷ []) ([] ∷ (ready 4250 ∷ []) ∷ (ready 4000 ∷ []) ∷ [] ∷ []) (pos 0 ∷ pos 4250 ∷ negsuc 249 ∷ negsuc 3999 ∷ []) (1 ∷ 2 ∷ []) (1 ∷ [])
    -- (j) two RSPs of one bill in a file: both BR14, change 0
    ∷ row start (ask product.BillReady ∷ send (rsp 4250 ∷ rsp 4000 ∷ []) ∷ [])
    (Ok tt ∷ Ok tt ∷ []) ([] ∷ (Err Br14 ∷ Err Br14 ∷ []) ∷ []) (pos 0 ∷ pos 0 ∷ []) (1 ∷ []) (1 ∷ [])
    -- (k) an accepted SUP: 001 becomes 002
    ∷ row start (ask product.BillReady ∷ close (date_of 20171117) ∷ send (sup ∷ []) ∷ [])
    (Ok tt ∷ Ok tt ∷ (Ok tt) ∷ []) ([] ∷ [] ∷ (ready 4250 ∷ []) ∷ []) (pos 0 ∷ pos 0 ∷ pos 4250 ∷ []) (1 ∷ 2 ∷ []) (2 ∷ [])
    -- (l) the 128th bill is taken, the 129th is 3
    ∷ row (holding 127) (request (other 5000) 642 ∷ request (other 5001) 642 ∷ [])
    (Ok tt ∷ Err LedgerFull ∷ []) ([] ∷ [] ∷ []) (pos 0 ∷ pos 0 ∷ []) (500 ∷ []) (replicate 128 1)
    ∷ []

-- a row of the table holds
abbrev pub Holds : Row → Type 0
Holds r = result_of r.given ≡ r.result
