-- "The groups are decided in order, each on the ledger the one before left." Assumes nothing.
use Rattle.std.specs.Prelude.{ℕ, ◌+◌, Bool, true, false, cond, not, List, [], ◌∷◌, ◌++◌, Option, Some, None, Result, Ok, Err}
use Rattle.fields.specs.Field.{field_of, value}
use Rattle.units.specs.declared.Date.{Date}
use Rattle.ledger.specs.declared.Identity.{Identity}
use Rattle.ledger.specs.declared.Terms.{Terms}
use Rattle.rules.specs.Lists.{update}
use Rattle.ledger.specs.Bills.{is_of, is_prepay, posting}
use Rattle.ledger.specs.Books.{Book, View, view, of_id}
use Rattle.records.specs.Layout.{account_in, key_in, is_rsp}
use Rattle.file.specs.File.{Group, detail_of, asks_id, line1, line2, line3}
use Rattle.records.specs.declared.Notification.{Notification}
use Rattle.records.specs.declared.Notification.TheVariants.{Response, Supplement}
use Rattle.rules.specs.Rules.{Rule, rule, first}
use Rattle.verdict.specs.Lines.{terms_of, lines4to10, amounts_of, settle}
use Rattle.notices.specs.Answers.{acf, rej}
use Rattle.ledger.specs.declared.Posted.{Posted}
use Rattle.rules.specs.declared.ErrorCode.{ErrorCode}
use Rattle.rules.specs.declared.ErrorCode.TheVariants.{Br14, Br17, Br19}
use Rattle.rules.specs.Numbers.{code_number}

-- ---- the bill that a group names
-- the account of its header and the Bill Key of its detail
abbrev pub identity_of : Group → Identity
identity_of g = record { account = value (field_of (account_in g.header)); key = value (field_of (key_in (detail_of g))) }

-- the bill with this identity, if there is one
abbrev pub sought_in : Identity → List Terms → Option Terms
sought_in id [] = None
sought_in id (t ∷ ts) = cond (is_of id t) (Some t) (sought_in id ts)

abbrev pub sought : View → Group → Option Terms
sought v g = sought_in (identity_of g) v.bills

-- ---- its verdict
abbrev pub notification_of : Group → Notification
notification_of g = cond (is_rsp g.header) Response Supplement

-- lines 1 to 10 in their order: duplicate says what line 3 asks, and b is the bill that the group names
abbrev pub lines_on : Bool → Date → Option Terms → Group → List (Rule ErrorCode)
lines_on duplicate today b g =
    rule (line1 g) Br17
    ∷ rule (line2 g) Br19
    ∷ rule duplicate Br14
    ∷ lines4to10 (notification_of g) today g.header (detail_of g) b

unfoldable pub lines_by : Bool → View → Group → List (Rule ErrorCode)
lines_by duplicate v g = lines_on duplicate v.today (sought v g) g

-- the lines of a group, where others are the other groups of its file
abbrev pub lines : View → List Group → Group → List (Rule ErrorCode)
lines v others g = lines_by (line3 others g) v g

-- "No line true: accepted."
unfoldable pub verdict_on : Bool → Date → Option Terms → Group → Result Posted ErrorCode
verdict_on duplicate today b g = settle (first (lines_on duplicate today b g)) (amounts_of (is_prepay (terms_of b).product) (detail_of g))

unfoldable pub verdict_by : Bool → View → Group → Result Posted ErrorCode
verdict_by duplicate v g = verdict_on duplicate v.today (sought v g) g

abbrev pub verdict : View → List Group → Group → Result Posted ErrorCode
verdict v others g = verdict_by (line3 others g) v g

-- ---- what it does
-- "The group's amounts replace the posted ones; a SUP also raises the sequence by 1 and takes a new Tracking ID .. Every group takes a
-- Confirmation Number."
unfoldable pub settled : Book → Group → Result Posted ErrorCode → Book
settled l g (Ok amounts) =
    record {
      today = l.today;
      tracking = l.tracking + cond (asks_id g) 1 0;
      confirmation = l.confirmation + 1;
      bills = update (of_id (identity_of g)) (posting amounts (asks_id g)) l.bills;
    }
settled l g (Err n) =
    record { today = l.today; tracking = l.tracking; confirmation = l.confirmation + 1; bills = l.bills }

-- an accepted group is answered by an ACF, a rejected one by a REJ
unfoldable pub answer : View → Group → Result Posted ErrorCode → List ℕ
answer v g (Ok amounts) =
    acf g.header
    (record { terms = terms_of (sought v g); tracking = v.tracking; today = v.today; confirmation = v.confirmation })
answer v g (Err n) = rej g.header g.details (record { code = code_number n; today = v.today; confirmation = v.confirmation })

-- ---- the groups of a file in order: those before were taken, and gs are to come
abbrev pub verdict_here : List Group → Book → Group → List Group → Result Posted ErrorCode
verdict_here before l g gs = verdict (view l) (before ++ gs) g

-- the ledger they leave
unfoldable pub taken : List Group → Book → List Group → Book
taken before l [] = l
taken before l (g ∷ gs) = taken (before ++ (g ∷ [])) (settled l g (verdict_here before l g gs)) gs

-- the bytes written
unfoldable pub answers : List Group → Book → List Group → List ℕ
answers before l [] = []
answers before l (g ∷ gs) =
    answer (view l) g (verdict_here before l g gs) ++ answers (before ++ (g ∷ [])) (settled l g (verdict_here before l g gs)) gs

-- their verdicts
unfoldable pub verdicts : List Group → Book → List Group → List (Result Posted ErrorCode)
verdicts before l [] = []
verdicts before l (g ∷ gs) =
    verdict_here before l g gs ∷ verdicts (before ++ (g ∷ [])) (settled l g (verdict_here before l g gs)) gs

-- "accepted, rejected (together the number of groups)", whatever the code is
abbrev pub is_accepted : {E : Type 0} → Result Posted E → Bool
is_accepted (Ok amounts) = true
is_accepted (Err n) = false

abbrev pub is_rejected : {E : Type 0} → Result Posted E → Bool
is_rejected v = not (is_accepted v)
