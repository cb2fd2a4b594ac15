-- Document 01's example of the table, and the table without bills. Assumes nothing.
use Rattle.std.specs.Prelude.{ℕ, ◌≡◌, true, false, List, [], ◌∷◌, ◌++◌}
use Rattle.fields.specs.Text.{text}
use Rattle.units.specs.declared.Date.{Date}
use Rattle.ledger.specs.declared.Product.TheVariants as product
use Rattle.ledger.specs.declared.Posted.TheVariants as posted
use Rattle.ledger.specs.declared.Bill.{Bill}
use Rattle.ledger.specs.Bills.{cents, first_bill, posting}
use Rattle.ledger.specs.Books.{Book}
use Rattle.table.specs.Table.{ended, table_of}

-- "fresh 20171113, a request (ZZC40, 123456780019, 0007, B, 85 Ccf, due 20171116) and an accepted RSP of 4250 cents": the bill, whatever its
-- Tracking ID, Billing Date and From Date
abbrev pub example_bill : ℕ → Date → Date → Bill
example_bill tracking billing from =
    posting (posted.BillReady (cents 4250)) false
    (first_bill (record { account = 123456780019; key = 7 }) (record { first = 90; second = 90; tens = 52; ones = 48 }) product.BillReady
    (record { tracking = tracking; consumption = record { 0 = 85 }; billing = billing; from = from; scheduled = record { 0 = 20171116 } }))

-- a ledger with these bills on 20171113, whatever its next numbers
abbrev pub on_the_day : ℕ → ℕ → List Bill → Book
on_the_day tracking confirmation bills =
    record { today = record { 0 = 20171113 }; tracking = tracking; confirmation = confirmation; bills = bills }

-- what `posted` prints for it, "each line ended by byte 10"
abbrev pub example_table : List ℕ
example_table =
    ended (text "account,key,code,kind,seq,ccf,charge,applied,owed,state")
    ++ ended (text "123456780019,0007,ZZC40,B,001,0000000085,0000000004250,0000000000000,0000000004250,O")
    ++ ended (text "total,0000000000004250")

-- the example's ledger has this table
abbrev pub Example : Type 0
Example =
    (next confirmation tracking : ℕ) (billing from : Date)
    → table_of (on_the_day next confirmation (example_bill tracking billing from ∷ [])) false ≡ example_table

-- "An empty journal or refused fresh counts as a bad entry, with no bill lines and a zero total."
abbrev pub empty_table : List ℕ
empty_table =
    ended (text "account,key,code,kind,seq,ccf,charge,applied,owed,state")
    ++ ended (text "total,0000000000000000")
    ++ ended (text "stopped,13")

-- a ledger without bills has this table after a bad entry
abbrev pub Empty : Type 0
Empty = (today : Date) (next confirmation : ℕ) → table_of (record { today = today; tracking = next; confirmation = confirmation; bills = [] }) true ≡ empty_table
