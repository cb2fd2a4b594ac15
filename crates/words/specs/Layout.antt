-- A ledger as 2564 words of 64 bits: today (yyyymmdd), the next Tracking ID, the next Confirmation Number, the count of bills, and then 128
-- places of 20 words each, place i from word 4 + 20 * i on. In a place: 0 account, 1 key, 2 to 5 the rate code's four bytes, 6 product (66 B,
-- 80 P), 7 sequence, 8 count of requests, 9 cancelled (0 or 1), 10 Tracking ID, 11 consumption, 12 Billing Date, 13 From Date, 14 Scheduled
-- Date, 15 kind of posted amounts (0 none, 1 Bill Ready, 2 Prepay), 16 charge, 17 applied, 18 owed, 19 removal date (0 empty). Assumes nothing.
use Rattle.std.specs.Prelude.{ℕ, zero, suc, Bool, true, cond, not, ◌&&◌, ◌||◌, List, [], ◌∷◌, ◌++◌, leb, ltb, eqb, length, drop, get_or, replicate, Option, Some, None}
use Rattle.units.specs.Calendar.{date_of}
use Rattle.ledger.specs.declared.RateCode.{RateCode}
use Rattle.ledger.specs.declared.Posted.{Posted}
use Rattle.ledger.specs.declared.Posted.TheVariants as posted
use Rattle.ledger.specs.declared.Latest.{Latest}
use Rattle.ledger.specs.declared.Terms.{Terms}
use Rattle.ledger.specs.declared.Bill.{Bill}
use Rattle.ledger.specs.declared.Ledger.{Ledger}
use Rattle.ledger.specs.Bills.{product_byte, cents, blank_bill, product_of}
use Rattle.ledger.specs.Limits.{ledger_places}
use Rattle.units.specs.declared.Date.{Date}

-- ---- the sizes: the words before the first place, those of a place, the places, and the words of a ledger
abbrev pub header_size : ℕ
header_size = 4

abbrev pub place_size : ℕ
place_size = 20

abbrev pub ledger_size : ℕ
ledger_size = 2564

-- ---- a ledger's words
-- 9: cancelled, 0 or 1
abbrev pub mark_word : Bool → ℕ
mark_word m = cond m 1 0

-- 15 to 18: the kind (0 none, 1 Bill Ready, 2 Prepay), charge, applied, owed; the words that a kind does not use are 0
abbrev pub posted_words : Posted → List ℕ
posted_words posted.None = 0 ∷ 0 ∷ 0 ∷ 0 ∷ []
posted_words (posted.BillReady charge) = 1 ∷ charge.0 ∷ 0 ∷ 0 ∷ []
posted_words (posted.Prepay charge applied owed) = 2 ∷ charge.0 ∷ applied.0 ∷ owed.0 ∷ []

-- 0 to 9: account, key, the rate code's four bytes, product (66 or 80), sequence, count of requests, cancelled
unfoldable pub terms_words : Terms → List ℕ
terms_words t =
    t.identity.account
    ∷ t.identity.key
    ∷ t.code.first
    ∷ t.code.second
    ∷ t.code.tens
    ∷ t.code.ones
    ∷ product_byte t.product
    ∷ t.sequence
    ∷ t.requests
    ∷ mark_word t.cancelled
    ∷ []

-- 10 to 14: Tracking ID, consumption, Billing Date, From Date, Scheduled Date
abbrev pub latest_words : Latest → List ℕ
latest_words r = r.tracking ∷ r.consumption.0 ∷ r.billing.0 ∷ r.from.0 ∷ r.scheduled.0 ∷ []

-- 19: the removal date, 0 where it is empty
abbrev pub removal_word : Option Date → ℕ
removal_word None = 0
removal_word (Some d) = d.0

-- 15 to 19
abbrev pub last_words : Posted → Option Date → List ℕ
last_words p r = posted_words p ++ (removal_word r ∷ [])

-- a place's 20 words
unfoldable pub bill_words : Bill → List ℕ
bill_words b = terms_words b.terms ++ latest_words b.terms.latest ++ last_words b.posted b.terms.removal

-- the words of some places, one place after the other
unfoldable pub bills_words : List Bill → List ℕ
bills_words [] = []
bills_words (b ∷ bs) = bill_words b ++ bills_words bs

-- today, next Tracking ID, next Confirmation Number, count of bills
unfoldable pub head_words : Ledger → List ℕ
head_words l = l.today.0 ∷ l.next_tracking ∷ l.next_confirmation ∷ l.count ∷ []

-- the four words and then those of each place in order, whether the count reaches it or not
unfoldable pub ledger_words : Ledger → List ℕ
ledger_words l = head_words l ++ bills_words l.bills

-- ---- which words are those of a ledger
-- the kind is 0, 1 or 2, and the words that it does not use are 0
abbrev pub holds_posted : ℕ → ℕ → ℕ → ℕ → Bool
holds_posted kind charge applied owed =
    (eqb kind 0 && (eqb charge 0 && (eqb applied 0 && eqb owed 0)))
    || ((eqb kind 1 && (eqb applied 0 && eqb owed 0)) || eqb kind 2)

-- the code's words are bytes
abbrev pub holds_code : ℕ → ℕ → ℕ → ℕ → Bool
holds_code first second tens ones = ltb first 256 && (ltb second 256 && (ltb tens 256 && ltb ones 256))

-- these words start with the 20 of a place: the code's words are bytes, the product is 66 or 80, cancelled is 0 or 1
unfoldable pub holds_bill : List ℕ → Bool
holds_bill ws =
    holds_code (get_or ws 2 0) (get_or ws 3 0) (get_or ws 4 0) (get_or ws 5 0)
    && ((eqb (get_or ws 6 0) 66 || eqb (get_or ws 6 0) 80)
    && (leb (get_or ws 9 0) 1
    && holds_posted (get_or ws 15 0) (get_or ws 16 0) (get_or ws 17 0) (get_or ws 18 0)))

-- each of n places, one after the other
unfoldable pub holds_bills : ℕ → List ℕ → Bool
holds_bills zero ws = true
holds_bills (suc n) ws = holds_bill ws && holds_bills n (drop place_size ws)

-- 2564 words whose 128 places are each a place
unfoldable pub holds_ledger : List ℕ → Bool
holds_ledger ws = eqb (length ws) ledger_size && holds_bills ledger_places (drop header_size ws)

-- ---- the ledger whose words they are
-- the posted amounts of a kind, a charge, an applied and an owed amount
abbrev pub posted_in : ℕ → ℕ → ℕ → ℕ → Posted
posted_in kind charge applied owed =
    cond (eqb kind 2)
    (posted.Prepay (cents charge) (cents applied) (cents owed))
    (cond (eqb kind 1) (posted.BillReady (cents charge)) posted.None)

-- words 10 to 14 of a place
abbrev pub latest_in : List ℕ → Latest
latest_in ws =
    record {
      tracking = get_or ws 10 0;
      consumption = record { 0 = get_or ws 11 0 };
      billing = date_of (get_or ws 12 0);
      from = date_of (get_or ws 13 0);
      scheduled = date_of (get_or ws 14 0);
    }

-- word 19 of a place
abbrev pub removal_in : ℕ → Option Date
removal_in w = cond (eqb w 0) None (Some (date_of w))

-- words 2 to 5 of a place
unfoldable pub code_in : List ℕ → RateCode
code_in ws = record { first = get_or ws 2 0; second = get_or ws 3 0; tens = get_or ws 4 0; ones = get_or ws 5 0 }

-- words 0 to 14 and 19 of a place
unfoldable pub terms_in : List ℕ → Terms
terms_in ws =
    record {
      identity = record { account = get_or ws 0 0; key = get_or ws 1 0 };
      code = code_in ws;
      product = product_of (get_or ws 6 0);
      sequence = get_or ws 7 0;
      requests = get_or ws 8 0;
      cancelled = eqb (get_or ws 9 0) 1;
      latest = latest_in ws;
      removal = removal_in (get_or ws 19 0);
    }

-- the bill of the first 20 of these words, word by word
unfoldable pub bill_in : List ℕ → Bill
bill_in ws =
    record { terms = terms_in ws; posted = posted_in (get_or ws 15 0) (get_or ws 16 0) (get_or ws 17 0) (get_or ws 18 0) }

-- the bills of n places, one after the other
unfoldable pub bills_in : ℕ → List ℕ → List Bill
bills_in zero ws = []
bills_in (suc n) ws = bill_in ws ∷ bills_in n (drop place_size ws)

-- the ledger of 2564 words, word by word
unfoldable pub ledger_in : List ℕ → Ledger
ledger_in ws =
    record {
      today = date_of (get_or ws 0 0);
      next_tracking = get_or ws 1 0;
      next_confirmation = get_or ws 2 0;
      count = get_or ws 3 0;
      bills = bills_in ledger_places (drop header_size ws);
    }

-- a ledger that is not sound: its count is past the 128 places, so every call answers 2
unfoldable pub no_ledger : Ledger
no_ledger = record { today = date_of 0; next_tracking = 0; next_confirmation = 0; count = 129; bills = replicate ledger_places blank_bill }

-- any words at all give a ledger, or one that is not sound
unfoldable pub ledger_of : List ℕ → Ledger
ledger_of ws = cond (holds_ledger ws) (ledger_in ws) no_ledger

-- ---- which ledgers have words that say all of them: each place's code is four bytes, as in every ledger of the code, and no removal date is 0, which
-- stands for an empty one
abbrev pub byte_code : Bill → Bool
byte_code b = holds_code b.terms.code.first b.terms.code.second b.terms.code.tens b.terms.code.ones

abbrev pub removal_said : Option Date → Bool
removal_said None = true
removal_said (Some d) = not (eqb d.0 0)

abbrev pub bill_said : Bill → Bool
bill_said b = byte_code b && removal_said b.terms.removal
