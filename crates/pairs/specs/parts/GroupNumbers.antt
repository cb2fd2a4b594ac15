-- The code, account and Bill Key of a group as one number, which the walk over pairs compares. Assumes nothing.
use Rattle.std.specs.Prelude.{ℕ, ◌+◌, ◌*◌, ◌%◌, cond, List, eqb, Result, Ok, Err}
use Rattle.fields.specs.Field.{field_of, value}
use Rattle.records.specs.Layout.{record_at, account_in, key_in}
use Rattle.file.specs.File.{is_header, Group, detail_of, form_of}
use Rattle.file.specs.parts.Walk.{group_at}
use Rattle.records.specs.declared.Notification.{Notification}
use Rattle.records.specs.declared.Notification.TheVariants.{Response, Supplement}
use Rattle.rules.specs.declared.ErrorCode.{ErrorCode}

-- 0 for a group that fails line 1 or 2
abbrev pub code_number : Result Notification ErrorCode → ℕ
code_number (Err c) = 0
code_number (Ok Response) = 1
code_number (Ok Supplement) = 2

unfoldable pub named_by : List ℕ → List ℕ → ℕ → ℕ
named_by h d code = code * 10000000000000000 + (value (field_of (account_in h)) * 10000 + value (field_of (key_in d)))

-- a group's number
unfoldable pub group_number : Group → ℕ
group_number g = cond (eqb (code_number (form_of g)) 0) 0 (named_by g.header (detail_of g) (code_number (form_of g)))

-- that of the group whose header is record i, 0 where it is no header
unfoldable pub number_at : List ℕ → ℕ → ℕ → ℕ
number_at s n i = cond (is_header (record_at s i)) (group_number (group_at s i n)) 0

-- where a number is noted: equal numbers have one slot (of a prime number of slots, so that the account counts in full)
unfoldable pub number_slot : ℕ → ℕ
number_slot number = number % 509
