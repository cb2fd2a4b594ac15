-- "A journal entry is a one-byte tag, a two-byte length (high byte first) and the body, in ASCII fields". Assumes nothing.
use Rattle.std.specs.Prelude.{ℕ, ◌+◌, ◌*◌, Bool, true, false, cond, not, ◌&&◌, List, eqb, leb, ltb, length, get_or, Result, Ok, Err, ⊤, Option, Some, None}
use Rattle.fields.specs.Digits.{number, numeric}
use Rattle.fields.specs.Put.{part, positions}
use Rattle.units.specs.declared.Date.{Date}
use Rattle.rules.specs.Rules.{first}
use Rattle.causes.specs.Causes.{code_field, fresh_causes}
use Rattle.journal.specs.declared.Body.{Body}
use Rattle.journal.specs.declared.Body.TheVariants as body
use Rattle.journal.specs.declared.Head.{Head}
use Rattle.journal.specs.declared.Head.TheVariants.{Cut, Bad, Whole}
use Rattle.journal.specs.declared.Frame.{Frame}
use Rattle.records.specs.Limits.{file_size}
use Rattle.rules.specs.declared.Cause.{Cause}
use Rattle.rules.specs.declared.Cause.TheVariants.{BadEntry}
use Rattle.rules.specs.Numbers.{cause_number}

-- ---- the bodies: a field of digits is a number; a body with another field there is refused (2)
-- the bytes at positions a to b hold digits only
abbrev pub digits_in : List ℕ → ℕ → ℕ → Bool
digits_in s a b = numeric (positions s a b)

abbrev number_in : List ℕ → ℕ → ℕ → ℕ
number_in s a b = number (positions s a b)

abbrev date_in : List ℕ → ℕ → ℕ → Date
date_in s a b = record { 0 = number_in s a b }

-- the byte at a position
abbrev byte_in : List ℕ → ℕ → ℕ
byte_in s a = get_or (positions s a a) 0 0

-- "0 fresh (today 8, Tracking 9, Confirmation 9)"
unfoldable pub fresh_body : List ℕ → Body
fresh_body s =
    cond (digits_in s 1 8 && digits_in s 9 17 && digits_in s 18 26)
    (body.Fresh (record { today = date_in s 1 8; tracking = number_in s 9 17; confirmation = number_in s 18 26 }))
    body.Unread

-- "1 request (code 5, account 12, key 4, B or P, Billing 8, From 8, consumption 10, Scheduled 8)"
unfoldable pub request_body : List ℕ → Body
request_body s =
    cond (digits_in s 6 17 && digits_in s 18 21 && digits_in s 23 30 && digits_in s 31 38 && digits_in s 39 48 && digits_in s 49 56)
    (body.Request
    (record {
      code = code_field (positions s 1 5);
      identity = record { account = number_in s 6 17; key = number_in s 18 21 };
      product = byte_in s 22;
      billing = date_in s 23 30;
      from = date_in s 31 38;
      consumption = record { 0 = number_in s 39 48 };
      scheduled = date_in s 49 56;
    }))
    body.Unread

-- "3 cancel (12, 4)"
unfoldable pub cancel_body : List ℕ → Body
cancel_body s =
    cond (digits_in s 1 12 && digits_in s 13 16) (body.Cancel (record { account = number_in s 1 12; key = number_in s 13 16 })) body.Unread

-- "4 close (8)"
unfoldable pub close_body : List ℕ → Body
close_body s = cond (digits_in s 1 8) (body.Close (date_in s 1 8)) body.Unread

-- paper 2 of document 02: "journal tag 5: account 12, date 8"
unfoldable pub removal_body : List ℕ → Body
removal_body s =
    cond (digits_in s 1 12 && digits_in s 13 20) (body.Removal (record { account = number_in s 1 12; date = date_in s 13 20 })) body.Unread

-- what a body holds under a tag, "2 file" among them
unfoldable pub body_of : ℕ → List ℕ → Body
body_of tag s =
    cond (eqb tag 0) (fresh_body s)
    (cond (eqb tag 1) (request_body s)
    (cond (eqb tag 2) body.File
    (cond (eqb tag 3) (cancel_body s)
    (cond (eqb tag 4) (close_body s)
    (removal_body s)))))

-- "any entry after the 1,000,000,000th"
abbrev pub entry_limit : ℕ
entry_limit = 1000000000

-- ---- "Bad (13): cut short, another tag, a wrong length (0 to 64,200 for tag 2), tag 0 elsewhere than first, another tag first, any entry
-- after the 1,000,000,000th."
-- the tag and the length go together
unfoldable pub good_length : ℕ → ℕ → Bool
good_length tag n =
    cond (eqb tag 0) (eqb n 26)
    (cond (eqb tag 1) (eqb n 56)
    (cond (eqb tag 2) (leb n file_size)
    (cond (eqb tag 3) (eqb n 16)
    (cond (eqb tag 4) (eqb n 8)
    (cond (eqb tag 5) (eqb n 20)
    false)))))

-- tag 0 stands first and nowhere else
abbrev pub in_turn : ℕ → ℕ → Bool
in_turn seen tag = cond (eqb seen 0) (eqb tag 0) (not (eqb tag 0))

-- "An empty journal or refused fresh counts as a bad entry": a fresh against which there is no cause
abbrev is_clear : Result ⊤ Cause → Bool
is_clear (Ok tt) = true
is_clear (Err n) = false

abbrev pub fresh_taken : Body → Bool
fresh_taken (body.Fresh s) = is_clear (first (fresh_causes s))
fresh_taken (body.Request r) = false
fresh_taken body.File = false
fresh_taken (body.Cancel id) = false
fresh_taken (body.Close d) = false
fresh_taken (body.Removal a) = false
fresh_taken body.Unread = false

abbrev pub whole_of : ℕ → Body → ℕ → Head
whole_of tag b n = cond (eqb tag 0 && not (fresh_taken b)) Bad (Whole b n)

-- an entry with this tag and length, after so many entries
unfoldable pub head_by : ℕ → List ℕ → ℕ → ℕ → Head
head_by seen s tag n =
    cond (ltb seen entry_limit && in_turn seen tag && good_length tag n)
    (cond (ltb (length s) (n + 3)) Cut (whole_of tag (body_of tag (part s 3 n)) (n + 3)))
    Bad

-- what stands at the start of s, after so many entries: "high byte first"
unfoldable pub head_of : ℕ → List ℕ → Head
head_of seen s = cond (ltb (length s) 3) Cut (head_by seen s (get_or s 0 0) (get_or s 1 0 * 256 + get_or s 2 0))

-- what stands at the start of s by its tag and length alone: an entry whose bytes are all there, if the two go together
unfoldable pub frame_of : List ℕ → Option Frame
frame_of s =
    let tag = get_or s 0 0 in
    let n = get_or s 1 0 * 256 + get_or s 2 0 in
    cond (good_length tag n && leb (n + 3) (length s)) (Some (record { tag = tag; length = n })) None

-- "journal entry bad | 13": the cause where no whole good entry stands. (A whole one's call answers for itself: nothing asks its clause.)
abbrev pub head_cause : Head → Cause
head_cause Cut = BadEntry
head_cause Bad = BadEntry
head_cause (Whole b n) = BadEntry

-- document 01's number for each case of what stands there; for a whole entry its call answers
abbrev pub head_number : Head → ℕ
head_number Cut = cause_number (head_cause Cut)
head_number Bad = cause_number (head_cause Bad)
head_number (Whole b n) = 0
