-- Paper 2 of document 02 at its borders: calls on a ledger and what comes of them, as in the table of Cases. Assumes nothing.
use Rattle.std.specs.Prelude.{ℕ, true, List, [], ◌∷◌, pos, Ok, Err}
use Rattle.units.specs.Calendar.{date_of}
use Rattle.ledger.specs.declared.Product.TheVariants as product
use Rattle.ledger.specs.Books.{Book}
use Rattle.causes.specs.Causes.{Call, request, cancel, close, removal}
use Rattle.calls.specs.Machine.{fresh}
use Rattle.history.specs.Cases.{Sent, sup, asking_on, bill, send, start, row, ready, Row}
use Rattle.rules.specs.declared.Cause.TheVariants.{BadArgument, NoSuchBill}
use Rattle.rules.specs.declared.ErrorCode.TheVariants.{Br11, Br12, Br13}

-- ---- the calls
-- a request for the bill with this Bill Key, of so many Ccf, billed and due on these dates
abbrev ask : ℕ → ℕ → ℕ → ℕ → Call
ask key consumption billing scheduled =
    request (asking_on consumption billing scheduled (record { account = 123456780019; key = key }) product.BillReady) 642

-- the bill of the groups sent, billed on 20171113 and due on 20171116
abbrev asked : Call
asked = ask 7 85 20171113 20171116

-- its account is removed on this date
abbrev removed : ℕ → Call
removed date = removal (record { account = 123456780019; date = date_of date })

abbrev closed : ℕ → Call
closed date = close (date_of date)

-- a SUP whose sequence is not 000
abbrev wrong_sequence : Sent
wrong_sequence = record { sup = true; tracking = 0; sequence = 5; first = 60; second = 25; charge = 4250; applied = 0; owed = 0 }

-- a ledger of the year 2016, and the bill of 29 February
abbrev leap_start : Book
leap_start = fresh (record { today = date_of 20160229; tracking = 1; confirmation = 1 })

abbrev leap_asked : Call
leap_asked = ask 7 85 20160229 20160303

-- ---- what comes of them: results, verdicts, changes, Tracking IDs assigned, sequences at the end
unfoldable pub removal_table : List Row
removal_table =
    -- BR12: the anniversary passes, the day after doesn't
    row start (asked ∷ closed 20181113 ∷ send (sup ∷ []) ∷ [])
    (Ok tt ∷ Ok tt ∷ (Ok tt) ∷ []) ([] ∷ [] ∷ (ready 4250 ∷ []) ∷ []) (pos 0 ∷ pos 0 ∷ pos 4250 ∷ []) (1 ∷ 2 ∷ []) (2 ∷ [])
    ∷ row start (asked ∷ closed 20181114 ∷ send (sup ∷ []) ∷ [])
    (Ok tt ∷ Ok tt ∷ (Ok tt) ∷ []) ([] ∷ [] ∷ (Err Br12 ∷ []) ∷ []) (pos 0 ∷ pos 0 ∷ pos 0 ∷ []) (1 ∷ []) (1 ∷ [])
    -- 29 February 2016 goes to 28 February 2017, which passes; 1 March doesn't
    ∷ row leap_start (leap_asked ∷ closed 20170228 ∷ send (sup ∷ []) ∷ [])
    (Ok tt ∷ Ok tt ∷ (Ok tt) ∷ []) ([] ∷ [] ∷ (ready 4250 ∷ []) ∷ []) (pos 0 ∷ pos 0 ∷ pos 4250 ∷ []) (1 ∷ 2 ∷ []) (2 ∷ [])
    ∷ row leap_start (leap_asked ∷ closed 20170301 ∷ send (sup ∷ []) ∷ [])
    (Ok tt ∷ Ok tt ∷ (Ok tt) ∷ []) ([] ∷ [] ∷ (Err Br12 ∷ []) ∷ []) (pos 0 ∷ pos 0 ∷ pos 0 ∷ []) (1 ∷ []) (1 ∷ [])
    -- BR13: day 60 passes, day 61 doesn't
    ∷ row start (asked ∷ removed 20171113 ∷ closed 20180112 ∷ send (sup ∷ []) ∷ [])
    (Ok tt ∷ Ok tt ∷ (Ok tt) ∷ Ok tt ∷ []) ([] ∷ [] ∷ [] ∷ (ready 4250 ∷ []) ∷ []) (pos 0 ∷ pos 0 ∷ pos 0 ∷ pos 4250 ∷ []) (1 ∷ 2 ∷ []) (2 ∷ [])
    ∷ row start (asked ∷ removed 20171113 ∷ closed 20180113 ∷ send (sup ∷ []) ∷ [])
    (Ok tt ∷ Ok tt ∷ (Ok tt) ∷ Ok tt ∷ []) ([] ∷ [] ∷ [] ∷ (Err Br13 ∷ []) ∷ []) (pos 0 ∷ pos 0 ∷ pos 0 ∷ pos 0 ∷ []) (1 ∷ []) (1 ∷ [])
    -- "replacing any earlier one": a later removal, and one in the future
    ∷ row start (asked ∷ removed 20171113 ∷ removed 20171114 ∷ closed 20180113 ∷ send (sup ∷ []) ∷ [])
    (Ok tt ∷ Ok tt ∷ (Ok tt) ∷ Ok tt ∷ (Ok tt) ∷ []) ([] ∷ [] ∷ [] ∷ [] ∷ (ready 4250 ∷ []) ∷ []) (pos 0 ∷ pos 0 ∷ pos 0 ∷ pos 0 ∷ pos 4250 ∷ []) (1 ∷ 2 ∷ []) (2 ∷ [])
    ∷ row start (asked ∷ removed 20171113 ∷ removed 20991231 ∷ closed 20180113 ∷ send (sup ∷ []) ∷ [])
    (Ok tt ∷ Ok tt ∷ (Ok tt) ∷ Ok tt ∷ (Ok tt) ∷ []) ([] ∷ [] ∷ [] ∷ [] ∷ (ready 4250 ∷ []) ∷ []) (pos 0 ∷ pos 0 ∷ pos 0 ∷ pos 0 ∷ pos 4250 ∷ []) (1 ∷ 2 ∷ []) (2 ∷ [])
    -- "in that order": BR12 before BR13, BR13 before BR05, BR11 before both
    ∷ row start (asked ∷ removed 20171113 ∷ closed 20181114 ∷ send (sup ∷ []) ∷ [])
    (Ok tt ∷ Ok tt ∷ (Ok tt) ∷ Ok tt ∷ []) ([] ∷ [] ∷ [] ∷ (Err Br12 ∷ []) ∷ []) (pos 0 ∷ pos 0 ∷ pos 0 ∷ pos 0 ∷ []) (1 ∷ []) (1 ∷ [])
    ∷ row start (asked ∷ removed 20171113 ∷ closed 20180113 ∷ send (wrong_sequence ∷ []) ∷ [])
    (Ok tt ∷ Ok tt ∷ (Ok tt) ∷ Ok tt ∷ []) ([] ∷ [] ∷ [] ∷ (Err Br13 ∷ []) ∷ []) (pos 0 ∷ pos 0 ∷ pos 0 ∷ pos 0 ∷ []) (1 ∷ []) (1 ∷ [])
    ∷ row start (ask 7 85 20160101 20171116 ∷ removed 20160101 ∷ send (sup ∷ []) ∷ [])
    (Ok tt ∷ Ok tt ∷ (Ok tt) ∷ []) ([] ∷ [] ∷ (Err Br11 ∷ []) ∷ []) (pos 0 ∷ pos 0 ∷ pos 0 ∷ []) (1 ∷ []) (1 ∷ [])
    -- a renewed bill keeps its removal date, and one first requested later starts without
    ∷ row start (ask 7 84 20171113 20171116 ∷ removed 20171113 ∷ asked ∷ closed 20180113 ∷ send (sup ∷ []) ∷ [])
    (Ok tt ∷ Ok tt ∷ (Ok tt) ∷ Ok tt ∷ (Ok tt) ∷ []) ([] ∷ [] ∷ [] ∷ [] ∷ (Err Br13 ∷ []) ∷ []) (pos 0 ∷ pos 0 ∷ pos 0 ∷ pos 0 ∷ pos 0 ∷ []) (1 ∷ 2 ∷ []) (2 ∷ [])
    ∷ row start (ask 8 85 20171113 20171116 ∷ removed 20171113 ∷ asked ∷ closed 20180113 ∷ send (sup ∷ []) ∷ [])
    (Ok tt ∷ Ok tt ∷ (Ok tt) ∷ Ok tt ∷ (Ok tt) ∷ []) ([] ∷ [] ∷ [] ∷ [] ∷ (ready 4250 ∷ []) ∷ []) (pos 0 ∷ pos 0 ∷ pos 0 ∷ pos 0 ∷ pos 4250 ∷ []) (1 ∷ 2 ∷ 3 ∷ []) (1 ∷ 2 ∷ [])
    -- "The call gives 2, or 4 for an account without bills.": 4 with no bill at all; 2 for no date, before 4; carried out for a cancelled bill
    ∷ row start (removed 20171113 ∷ removed 20170229 ∷ asked ∷ cancel bill 642 ∷ removed 20171113 ∷ [])
    (Err NoSuchBill ∷ Err BadArgument ∷ Ok tt ∷ (Ok tt) ∷ Ok tt ∷ []) ([] ∷ [] ∷ [] ∷ [] ∷ [] ∷ []) (pos 0 ∷ pos 0 ∷ pos 0 ∷ pos 0 ∷ pos 0 ∷ []) (1 ∷ 2 ∷ []) (1 ∷ [])
    ∷ []
