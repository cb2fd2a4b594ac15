-- What the contracts of the parts cite: one group's turn on small values, where the bill that it names was found. Assumes nothing.
use Rattle.std.specs.Prelude.{ℕ, ◌+◌, ◌*◌, ◌^◌, ◌≤◌, ◌≡◌, Bool, true, cond, ◌&&◌, List, [], leb, length, Option, Some, None, Result, Ok, Err}
use Rattle.fields.specs.Put.{put}
use Rattle.fields.specs.Field.{field_of, value}
use Rattle.units.specs.Calendar.{is_date}
use Rattle.ledger.specs.declared.Identity.{Identity}
use Rattle.ledger.specs.declared.Bill as bill
use Rattle.ledger.specs.declared.Ledger.{Ledger}
use Rattle.ledger.specs.declared.LedgerHeader.{LedgerHeader}
use Rattle.ledger.specs.Bills.{charge_of, posting}
use Rattle.rules.specs.Lists.{every, count}
use Rattle.ledger.specs.Books.{book, live, stored, place_of, total_of, bill_charge, small_charge}
use Rattle.ledger.specs.parts.Places.{bill_at, header_of, updated, place_for}
use Rattle.records.specs.Limits.{file_records, file_size}
use Rattle.records.specs.Layout.{account_in, key_in, record_at}
use Rattle.file.specs.File.{Group, asks_id}
use Rattle.file.specs.parts.Walk.{group_at}
use Rattle.verdict.specs.parts.Dated.{dated_terms}
use Rattle.notices.specs.Answers.{acf, rej}
use Rattle.group.specs.declared.Tally.{Tally}
use Rattle.group.specs.declared.TurnResult.{TurnResult}
use Rattle.group.specs.Groups.{verdict_on, taken, answers, verdicts, is_accepted, is_rejected}
use Rattle.ledger.specs.Limits.{ledger_places, last_sequence, used_up}
use Rattle.ledger.specs.declared.Terms.{Terms}
use Rattle.ledger.specs.declared.Posted.{Posted}
use Rattle.rules.specs.declared.ErrorCode.{ErrorCode}
use Rattle.rules.specs.Numbers.{code_number}

-- ---- the bill that a group names
-- the identity that a header and a detail name
abbrev pub identity_in : List ℕ → List ℕ → Identity
identity_in h d = record { account = value (field_of (account_in h)); key = value (field_of (key_in d)) }

-- the identity that the group of record i names, if it has one detail
unfoldable pub identity_at : List ℕ → ℕ → ℕ → Identity
identity_at s i n = cond (leb n (i + 1)) (record { account = 0; key = 0 }) (identity_in (record_at s i) (record_at s (i + 1)))

-- the bill that was found, where b stands at its place
abbrev pub sought_by : Option ℕ → bill.Bill → Option Terms
sought_by None b = None
sought_by (Some p) b = Some b.terms

-- what a turn asks of a bill that was found: a sound one has it
unfoldable pub in_widths : bill.Bill → Bool
in_widths b = leb b.terms.sequence last_sequence && (small_charge b && dated_terms b.terms)

abbrev pub InWidthsAt : Option ℕ → bill.Bill → Type 0
InWidthsAt (Some p) b = in_widths b ≡ true
InWidthsAt None b = Unit {0}

-- what a walk over a file's groups asks of a ledger: a sound one has it
pub record Ready (l : Ledger) : Type 0 where
  pub today : is_date l.today.0 ≡ true
  pub count : l.count ≤ ledger_places
  pub bills : every in_widths (live l) ≡ true
  pub tracking : l.next_tracking ≤ used_up
  pub confirmation : l.next_confirmation ≤ used_up

-- ---- what a verdict leaves
-- an accepted SUP takes a Tracking ID, any other group none
abbrev pub ids_by : Result Posted ErrorCode → Bool → ℕ
ids_by (Ok amounts) sup = cond sup 1 0
ids_by (Err n) sup = 0

-- the bill at the place that was found: a rejection leaves it as it is
abbrev pub bill_by : Result Posted ErrorCode → Bool → bill.Bill → bill.Bill
bill_by (Ok amounts) sup b = posting amounts sup b
bill_by (Err n) sup b = b

abbrev pub header_by : Result Posted ErrorCode → Bool → LedgerHeader → LedgerHeader
header_by v sup h =
    record { today = h.today; tracking = h.tracking + ids_by v sup; confirmation = h.confirmation + 1; count = h.count }

-- a bill that is posted to has a sequence that can rise
abbrev pub CanPost : Result Posted ErrorCode → bill.Bill → Type 0
CanPost (Ok amounts) b = b.terms.sequence ≤ last_sequence
CanPost (Err n) b = Unit {0}

-- ---- the answer
-- the bytes that go out, if notices are written
abbrev pub if_written : Bool → List ℕ → List ℕ
if_written writes ys = cond writes ys []

-- a verdict, with the number that stands behind BR in place of its code
abbrev pub numbered : Result Posted ErrorCode → Result Posted ℕ
numbered (Ok amounts) = Ok amounts
numbered (Err c) = Err (code_number c)

-- the answer that a group gets, by its verdict: a rejection has any number
unfoldable pub answer_at : Result Posted ℕ → LedgerHeader → bill.Bill → Group → List ℕ
answer_at (Ok amounts) h b g =
    acf g.header (record { terms = b.terms; tracking = h.tracking; today = h.today; confirmation = h.confirmation })
answer_at (Err n) h b g = rej g.header g.details (record { code = n; today = h.today; confirmation = h.confirmation })

-- how many records it has: a REJ gives every detail back
abbrev pub records_by : Result Posted ℕ → Group → ℕ
records_by (Ok amounts) g = 1
records_by (Err n) g = length g.details + 1

-- ---- the counts
-- the charge that a group posts, and the one that it replaces: the code of a rejection is not read
abbrev pub came_by : {E : Type 0} → Result Posted E → ℕ
came_by (Ok amounts) = (charge_of amounts).0
came_by (Err n) = 0

abbrev pub went_by : {E : Type 0} → Result Posted E → bill.Bill → ℕ
went_by (Ok amounts) b = bill_charge b
went_by (Err n) b = 0

-- before the first group
abbrev pub no_tally : Tally
no_tally = record { accepted = 0; rejected = 0; written = 0; came = 0; went = 0 }

-- after one more, whose answer has so many bytes
abbrev pub tallied : {E : Type 0} → Tally → Result Posted E → bill.Bill → ℕ → Tally
tallied c v b size =
    record {
      accepted = c.accepted + cond (is_accepted v) 1 0;
      rejected = c.rejected + cond (is_rejected v) 1 0;
      written = c.written + size;
      came = c.came + came_by v;
      went = c.went + went_by v b;
    }

-- within a file there are at most 200 groups
pub record WithinFile (c : Tally) : Type 0 where
  pub accepted : c.accepted ≤ file_records
  pub rejected : c.rejected ≤ file_records
  pub written : c.written ≤ file_size
  pub came : c.came ≤ file_records * 10 ^ 13
  pub went : c.went ≤ file_records * 10 ^ 13

-- ---- one group's turn: v is its verdict
pub record TurnLeaves (v : Result Posted ErrorCode) (g : Group) (h : LedgerHeader) (b : bill.Bill) (c : Tally) (writes : Bool) (out₀ out : List ℕ) (r : TurnResult) : Type 0 where
  pub header : r.update.header ≡ header_by v (asks_id g) h
  pub bill : r.update.bill ≡ bill_by v (asks_id g) b
  pub tally : r.tally ≡ tallied c v b (length (answer_at (numbered v) h b g))
  pub bytes : out ≡ put out₀ c.written (if_written writes (answer_at (numbered v) h b g))

-- ---- the same on a struct, wherever it is held
-- what a turn asks of it
pub record FitForTurn (l : Ledger) (c : Tally) : Type 0 where
  pub today : is_date l.today.0 ≡ true
  pub places : length l.bills ≡ ledger_places
  pub count : l.count ≤ ledger_places
  pub bills : every in_widths (live l) ≡ true
  pub tracking : l.next_tracking ≤ 1000000200
  pub confirmation : l.next_confirmation ≤ 1000000200
  pub few : WithinFile c

-- the turn of the group of record i on l: its bill was found, and what the turn left is stored in k
pub record TurnLeavesOn (s : List ℕ) (i n : ℕ) (duplicate : Bool) (l : Ledger) (c : Tally) (writes : Bool) (out₀ : List ℕ) (k : Ledger) (out : List ℕ) (d : Tally) : Type 0 where
  pub found : Option ℕ
  pub place : ℕ
  pub result : TurnResult
  pub finds : found ≡ place_of (identity_at s i n) (live l)
  pub stands : place ≡ place_for found l.count
  pub turns :
      TurnLeaves (verdict_on duplicate l.today (sought_by found (bill_at l place)) (group_at s i n)) (group_at s i n) (header_of l) (bill_at l place) c writes
      out₀ out result
  pub ledger : k ≡ updated l place result.update
  pub tally : d ≡ result.tally

-- ---- a file's groups gs, taken on l: k is the struct now. The ledger, the counts and the bytes are those of the rules, the places past the count are as they were,
-- and what came and went makes up the change of the total
pub record FileTaken (l : Ledger) (gs : List Group) (writes : Bool) (out₀ : List ℕ) (k : Ledger) (out : List ℕ) (c : Tally) : Type 0 where
  pub ledger : k ≡ stored l (taken [] (book l) gs)
  pub accepted : c.accepted ≡ count is_accepted (verdicts [] (book l) gs)
  pub rejected : c.rejected ≡ count is_rejected (verdicts [] (book l) gs)
  pub written : c.written ≡ length (answers [] (book l) gs)
  pub bytes : out ≡ put out₀ 0 (if_written writes (answers [] (book l) gs))
  pub came : c.came ≤ file_records * 10 ^ 13
  pub went : c.went ≤ file_records * 10 ^ 13
  pub sums : total_of (live k) + c.went ≡ total_of (live l) + c.came
