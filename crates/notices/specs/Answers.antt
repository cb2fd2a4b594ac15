-- "Notices": ACF and REJ, field by field in the order of positions. Assumes nothing.
use Rattle.std.specs.Prelude.{ℕ, Bool, cond, ◌&&◌, ◌||◌, List, [], ◌∷◌, ◌++◌}
use Rattle.fields.specs.Text.{text}
use Rattle.fields.specs.Digits.{digits}
use Rattle.fields.specs.Put.{positions, same_list}
use Rattle.ledger.specs.Bills.{is_prepay}
use Rattle.records.specs.Layout.{tracking_in, type_in, balance_in, from_in, is_sup}
use Rattle.notices.specs.Notices.{spaces, zeros, spaces_from}
use Rattle.notices.specs.declared.acf.Acf.{Acf}
use Rattle.notices.specs.declared.rej.Rej.{Rej}

-- ---- ACF: "one header, the sender's", here h
-- Tracking ID: replaced "on a SUP"
abbrev pub acf_tracking : List ℕ → Acf → List ℕ
acf_tracking h a = cond (is_sup h) (digits 9 a.tracking) (tracking_in h)

-- "Scheduled Date the bill's (RSP) or 00000000 (SUP, H)"
abbrev pub acf_scheduled : List ℕ → Acf → ℕ
acf_scheduled h a = cond (is_sup h) 0 a.terms.latest.scheduled.0

-- "61-73 as sent for Prepay, else spaces"
abbrev pub acf_balance : List ℕ → Acf → List ℕ
acf_balance h a = cond (is_prepay a.terms.product) (balance_in h) (spaces 13)

-- positions 1 to 41, with Notification Code and Transmission Date replaced
unfoldable pub acf_alike : List ℕ → Acf → List ℕ
acf_alike h a = positions h 1 19 ++ acf_tracking h a ++ type_in h ++ text "ACF" ++ digits 8 a.today.0

-- "Confirmation Number .. replaced, Record Count 00, .. spaces from 74"
unfoldable pub acf : List ℕ → Acf → List ℕ
acf h a = acf_alike h a ++ digits 9 a.confirmation ++ digits 8 (acf_scheduled h a) ++ text "00" ++ acf_balance h a ++ spaces_from 74

-- ---- REJ
-- positions 1 to 41 of the sender's record: Notification Code and Transmission Date replaced
unfoldable pub rej_alike : List ℕ → Rej → List ℕ
rej_alike r x = positions r 1 30 ++ text "REJ" ++ digits 8 x.today.0

-- "the sender's header with the same three replaced"
unfoldable pub rej_header : List ℕ → Rej → List ℕ
rej_header h x = rej_alike h x ++ digits 9 x.confirmation ++ positions h 51 321

-- "all spaces or all zeros"
unfoldable pub is_blank : List ℕ → Bool
is_blank date = same_list date (spaces 8) || same_list date (zeros 8)

-- "Under a SUP header, a From Date all spaces or all zeros goes back as 00010101"
unfoldable pub from_back : Bool → List ℕ → List ℕ
from_back sup date = cond (sup && is_blank date) (text "00010101") date

-- "each detail with the first two replaced, error code at 260-263 (both products, H), spaces from 264"
unfoldable pub rej_detail : Bool → List ℕ → Rej → List ℕ
rej_detail sup d x =
    rej_alike d x
    ++ positions d 42 79
    ++ from_back sup (from_in d)
    ++ positions d 88 259
    ++ text "BR"
    ++ digits 2 x.code
    ++ spaces_from 264

unfoldable pub rej_details : Bool → List (List ℕ) → Rej → List ℕ
rej_details sup [] x = []
rej_details sup (d ∷ ds) x = rej_detail sup d x ++ rej_details sup ds x

-- the REJ of a group: its header h and every detail
unfoldable pub rej : List ℕ → List (List ℕ) → Rej → List ℕ
rej h ds x = rej_header h x ++ rej_details (is_sup h) ds x
