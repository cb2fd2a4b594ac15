-- A ledger's header and the bills at its places, and the struct after a change of one place. Assumes nothing.
use Rattle.std.specs.Prelude.{ℕ, zero, suc, ◌+◌, cond, List, [], ◌∷◌, ltb, get_or, set, Option, Some, None}
use Rattle.units.specs.declared.Date.{Date}
use Rattle.ledger.specs.declared.Bill.{Bill}
use Rattle.ledger.specs.declared.Ledger.{Ledger}
use Rattle.ledger.specs.declared.LedgerHeader.{LedgerHeader}
use Rattle.ledger.specs.declared.Update.{Update}
use Rattle.ledger.specs.Bills.{blank_bill}
use Rattle.ledger.specs.Books.{with_bills, removed_of}
use Rattle.ledger.specs.Limits.{ledger_places}

-- the bill at a place of the struct
abbrev pub bill_at : Ledger → ℕ → Bill
bill_at l p = get_or l.bills p blank_bill

-- what the struct holds besides its bills
abbrev pub header_of : Ledger → LedgerHeader
header_of l = record { today = l.today; tracking = l.next_tracking; confirmation = l.next_confirmation; count = l.count }

-- with this header, and its bills as they were
abbrev pub with_header : Ledger → LedgerHeader → Ledger
with_header l h = with_bills h l.bills

-- with the bill at place i replaced
abbrev pub replaced : Ledger → ℕ → Bill → Ledger
replaced l i b = with_bills (header_of l) (set l.bills i b)

-- with one bill more
abbrev pub appended : Ledger → Bill → Ledger
appended l b =
    with_bills (record { today = l.today; tracking = l.next_tracking; confirmation = l.next_confirmation; count = l.count + 1 })
    (set l.bills l.count b)

-- with this header, and this bill at place p
abbrev pub updated : Ledger → ℕ → Update → Ledger
updated l p u = with_header (replaced l p u.bill) u.header

-- the place that was found or, where none was, the next free one; the last one stands where all are taken
abbrev pub within : ℕ → ℕ
within i = cond (ltb i ledger_places) i 127

abbrev pub place_for : Option ℕ → ℕ → ℕ
place_for (Some p) count = within p
place_for None count = within count

-- with f applied to each of the first n bills
abbrev pub map_first : (Bill → Bill) → ℕ → List Bill → List Bill
map_first f zero bs = bs
map_first f (suc n) [] = []
map_first f (suc n) (b ∷ bs) = f b ∷ map_first f n bs

-- with this removal date on those of the first n bills that are of the account
abbrev pub removed_first : ℕ → ℕ → Date → Ledger → Ledger
removed_first n account date l = with_bills (header_of l) (map_first (removed_of account date) n l.bills)
