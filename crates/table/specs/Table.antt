-- The posted table, byte by byte. Assumes nothing.
use Rattle.std.specs.Prelude.{ℕ, Bool, cond, ltb, length, List, [], ◌∷◌, ◌++◌, Result, Ok, Err}
use Rattle.fields.specs.Text.{text}
use Rattle.fields.specs.Digits.{digits}
use Rattle.units.specs.declared.Date.{Date}
use Rattle.ledger.specs.declared.Posted.{Posted}
use Rattle.ledger.specs.declared.State.{State}
use Rattle.ledger.specs.declared.State.TheVariants.{Open, Issued, Cancelled}
use Rattle.ledger.specs.declared.Terms.{Terms}
use Rattle.ledger.specs.declared.Bill.{Bill}
use Rattle.ledger.specs.Bills.{product_byte, code_bytes, charge_of, applied_of, owed_of, state_of}
use Rattle.ledger.specs.declared.Ledger.{Ledger}
use Rattle.ledger.specs.Books.{Book, book, total_of}
use Rattle.ledger.specs.Sound.{sound_ledger}
use Rattle.rules.specs.declared.Cause.{Cause}
use Rattle.rules.specs.declared.Cause.TheVariants.{OutputTooSmall, BadArgument}

-- ---- cells and lines
-- a cell of a line, and the comma after it
unfoldable pub cell : List ℕ → List ℕ
cell xs = xs ++ text ","

-- "each line ended by byte 10": a line's last cell
unfoldable pub ended : List ℕ → List ℕ
ended xs = xs ++ (10 ∷ [])

-- the heading, always printed
unfoldable pub heading : List ℕ
heading = ended (text "account,key,code,kind,seq,ccf,charge,applied,owed,state")

-- its bytes
abbrev pub heading_size : ℕ
heading_size = 56

-- "state O, I (issued) or C"
abbrev pub state_byte : State → ℕ
state_byte Open = 79
state_byte Issued = 73
state_byte Cancelled = 67

-- 123456780019,0007,ZZC40,B,001, (account, key, code, kind, seq)
unfoldable pub terms_cells : Terms → List ℕ
terms_cells t =
    cell (digits 12 t.identity.account)
    ++ cell (digits 4 t.identity.key)
    ++ cell (code_bytes t.code)
    ++ cell (product_byte t.product ∷ [])
    ++ cell (digits 3 t.sequence)

-- 0000000004250,0000000000000,0000000004250, (charge, applied, owed)
unfoldable pub amount_cells : Posted → List ℕ
amount_cells p = cell (digits 13 (charge_of p).0) ++ cell (digits 13 (applied_of p).0) ++ cell (digits 13 (owed_of p).0)

-- a line's end: the state by this today, and byte 10
unfoldable pub state_cell : Date → Terms → List ℕ
state_cell today t = ended (state_byte (state_of today t) ∷ [])

-- 123456780019,0007,ZZC40,B,001,0000000085,0000000004250,0000000000000,0000000004250,O: "ccf the consumption"
unfoldable pub line_of : Date → Bill → List ℕ
line_of today b =
    terms_cells b.terms
    ++ cell (digits 10 b.terms.latest.consumption.0)
    ++ amount_cells b.posted
    ++ state_cell today b.terms

-- its bytes
abbrev pub line_size : ℕ
line_size = 85

-- "One line a bill in ledger order"
abbrev pub lines_of : Date → List Bill → List ℕ
lines_of today [] = []
lines_of today (b ∷ bs) = line_of today b ++ lines_of today bs

-- ---- the table
-- total,0000000000004250: "total sums the charges, 16 digits"
unfoldable pub total_line : ℕ → List ℕ
total_line total = ended (text "total," ++ digits 16 total)

-- its bytes
abbrev pub total_size : ℕ
total_size = 23

-- "A bad entry stops it; the line `stopped,13` follows the total."
unfoldable pub stop_line : Bool → List ℕ
stop_line stopped = cond stopped (ended (text "stopped,13")) []

-- its bytes, where there is one
abbrev pub stop_size : ℕ
stop_size = 11

-- the table of a ledger, where a bad entry stopped the journal or none did; "An empty journal or refused fresh counts as a bad entry, with no
-- bill lines and a zero total": the table of a ledger without bills
unfoldable pub table_of : Book → Bool → List ℕ
table_of l stopped = heading ++ lines_of l.today l.bills ++ total_line (total_of l.bills) ++ stop_line stopped

-- ---- the table asked for
-- the bytes of the longest table
abbrev pub table_room : ℕ
table_room = 10970

-- what is answered for an output of so many bytes: 2 where the ledger is not sound, then 1 where the output is under 10,970 bytes
unfoldable pub printed_by : Ledger → Bool → ℕ → Result ℕ Cause
printed_by l stopped room =
    cond (sound_ledger l) (cond (ltb room table_room) (Err OutputTooSmall) (Ok (length (table_of (book l) stopped)))) (Err BadArgument)

-- what is written: nothing on refusal
unfoldable pub printed : Ledger → Bool → ℕ → List ℕ
printed l stopped room = cond (sound_ledger l) (cond (ltb room table_room) [] (table_of (book l) stopped)) []
