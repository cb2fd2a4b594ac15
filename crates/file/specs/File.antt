-- The supplier file: its check, its groups, and lines 1 to 3. Assumes nothing.
use Rattle.std.specs.Prelude.{ℕ, suc, ◌/◌, ◌%◌, Bool, true, cond, not, ◌&&◌, ◌||◌, List, [], ◌∷◌, eqb, leb, length, get_or, take, Result, Ok, Err}
use Rattle.fields.specs.Text.{text}
use Rattle.fields.specs.Digits.{numeric}
use Rattle.fields.specs.Put.{positions, same_list}
use Rattle.rules.specs.Lists.{every, has}
use Rattle.records.specs.Limits.{record_size, file_size}
use Rattle.records.specs.Layout.{records_from, company_in, account_in, type_in, notice_in, record_count_in, key_in, is_rsp, is_sup}
use Rattle.records.specs.declared.Notification.{Notification}
use Rattle.records.specs.declared.Notification.TheVariants.{Response, Supplement}
use Rattle.rules.specs.declared.ErrorCode.{ErrorCode}
use Rattle.rules.specs.declared.ErrorCode.TheVariants.{Br17, Br19}

-- ---- the check of a file
-- the records of a file
unfoldable pub records : List ℕ → List (List ℕ)
records s = records_from s 0 (length s / record_size)

-- "codes 32 to 126"
unfoldable pub printable : ℕ → Bool
printable x = leb 32 x && leb x 126

-- "Type (29-30) is 01 header or 02 detail."
unfoldable pub is_header : List ℕ → Bool
is_header r = same_list (type_in r) (text "01")

unfoldable pub is_detail : List ℕ → Bool
is_detail r = same_list (type_in r) (text "02")

-- "Records are 320 bytes of codes 32 to 126 and then byte 13"
unfoldable pub good_record : List ℕ → Bool
good_record r = every printable (take 320 r) && eqb (get_or r 320 0) 13 && (is_header r || is_detail r)

-- the first record, where there is one, is a header: "An empty file is good"
unfoldable pub headed : List (List ℕ) → Bool
headed [] = true
headed (r ∷ rs) = is_header r

-- no cause 11: "length no multiple of 321 or over 64,200, a byte or type not as above, first record no header"
unfoldable pub good_file : List ℕ → Bool
good_file s = eqb (length s % record_size) 0 && leb (length s) file_size && every good_record (records s) && headed (records s)

-- ---- groups: "A group is a header and the details up to the next header."
pub record Group : Type 0 where
  pub header : List ℕ
  pub details : List (List ℕ)

-- how many records stand before the first header
unfoldable pub leading : List (List ℕ) → ℕ
leading [] = 0
leading (r ∷ rs) = cond (is_header r) 0 (suc (leading rs))

-- a group for each header of a list of records
unfoldable pub groups : List (List ℕ) → List Group
groups [] = []
groups (r ∷ rs) = cond (is_header r) (record { header = r; details = take (leading rs) rs } ∷ groups rs) (groups rs)

unfoldable pub file_groups : List ℕ → List Group
file_groups s = groups (records s)

-- "each SUP header a Tracking"
abbrev pub asks_id : Group → Bool
asks_id g = is_sup g.header

-- ---- lines 1 to 3
-- the first detail
abbrev pub detail_of : Group → List ℕ
detail_of g = get_or g.details 0 []

-- line 1 of a header and its only detail
unfoldable pub unfit : List ℕ → List ℕ → Bool
unfit h d =
    not (same_list (record_count_in h) (text "01"))
    || not (same_list (company_in h) (text "34"))
    || not (same_list (positions h 1 28) (positions d 1 28))
    || not (same_list (notice_in h) (notice_in d))
    || not (numeric (account_in h))
    || not (numeric (key_in d))

-- "1. BR17: not exactly one detail, or Record Count not 01, or Company not 34, or positions 1-28 or 31-33 of the two differ, or account or Bill Key
-- not numeric."
unfoldable pub line1 : Group → Bool
line1 g = not (eqb (length g.details) 1) || unfit g.header (detail_of g)

-- "2. BR19: code neither RSP nor SUP."
unfoldable pub line2 : Group → Bool
line2 g = not (is_rsp g.header) && not (is_sup g.header)

-- "passes lines 1 and 2"
unfoldable pub passes : Group → Bool
passes g = not (line1 g) && not (line2 g)

-- o "passes lines 1 and 2" and "has the same code, account and Bill Key" as g
unfoldable pub alike : Group → Group → Bool
alike g o =
    passes o
    && same_list (notice_in g.header) (notice_in o.header)
    && same_list (account_in g.header) (account_in o.header)
    && same_list (key_in (detail_of g)) (key_in (detail_of o))

-- "3. BR14: another group of this file that passes lines 1 and 2 has the same code, account and Bill Key": others are the other groups of the file
unfoldable pub line3 : List Group → Group → Bool
line3 others g = has (alike g) others

-- what lines 1 and 2 say of a group
unfoldable pub form_of : Group → Result Notification ErrorCode
form_of g = cond (line1 g) (Err Br17) (cond (line2 g) (Err Br19) (cond (is_rsp g.header) (Ok Response) (Ok Supplement)))
