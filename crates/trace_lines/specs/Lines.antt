-- The lines of program `trace`, byte by byte: an entry's line, and the lines of a file's groups. Assumes nothing.
use Rattle.std.specs.Prelude.{ℕ, ◌+◌, cond, List, [], ◌∷◌, ◌++◌, eqb, ℤ, pos, negsuc, nat_abs, length, Result, Ok, Err}
use Rattle.fields.specs.Text.{text}
use Rattle.fields.specs.Digits.{digits}
use Rattle.records.specs.Layout.{account_in, notice_in, key_in}
use Rattle.notices.specs.Notices.{spaces}
use Rattle.file.specs.File.{Group}
use Rattle.table.specs.Table.{cell, ended}
use Rattle.journal.specs.declared.Body.{Body}
use Rattle.journal.specs.declared.Body.TheVariants as body
use Rattle.ledger.specs.declared.Posted.{Posted}
use Rattle.rules.specs.declared.Cause.{Cause}
use Rattle.rules.specs.declared.ErrorCode.{ErrorCode}
use Rattle.calls.specs.declared.Returned.{Returned}
use Rattle.rules.specs.Numbers.{cause_number, code_number}

-- ---- an entry's line: 0000000003,file,00,00000000000004250,001,000,000
-- the tag of an entry; of a body whose fields are not digits it goes by the length: 56 of a request, 16 of a cancel, 8 of a close,
-- 20 of a removal
abbrev pub tag_of : Body → List ℕ → ℕ
tag_of (body.Fresh s) bytes = 0
tag_of (body.Request r) bytes = 1
tag_of body.File bytes = 2
tag_of (body.Cancel id) bytes = 3
tag_of (body.Close d) bytes = 4
tag_of (body.Removal a) bytes = 5
tag_of body.Unread bytes = cond (eqb (length bytes) 56) 1 (cond (eqb (length bytes) 16) 3 (cond (eqb (length bytes) 8) 4 5))

-- call: `fresh`, `request`, `file`, `cancel`, `close` or `removal`, by the entry's tag
unfoldable pub call_name : ℕ → List ℕ
call_name tag =
    cond (eqb tag 0) (text "fresh")
    (cond (eqb tag 1) (text "request")
    (cond (eqb tag 2) (text "file")
    (cond (eqb tag 3) (text "cancel")
    (cond (eqb tag 4) (text "close")
    (text "removal")))))

-- "`0` or, if it is negative, `-`"
abbrev pub sign_of : ℤ → List ℕ
sign_of (pos n) = text "0"
sign_of (negsuc n) = text "-"

-- change: "the signed change in cents, 17 characters: `0` or, if it is negative, `-`; then 16 digits"
unfoldable pub change_text : ℤ → List ℕ
change_text x = sign_of x ++ digits 16 (nat_abs x)

-- 00,00000000000004250,001,000,000: cause (2 digits), change, accepted, rejected, closed (3 digits each)
unfoldable pub figure_cells : ℕ → ℤ → ℕ → ℕ → ℕ → List ℕ
figure_cells cause change accepted rejected closed =
    cell (digits 2 cause)
    ++ cell (change_text change)
    ++ cell (digits 3 accepted)
    ++ cell (digits 3 rejected)
    ++ ended (digits 3 closed)

-- "00 if the call was carried out, else document 01's number"; "000 where a call has no such figure, and for a refused call"
abbrev pub answer_cells : Result Returned ℕ → List ℕ
answer_cells (Ok r) = figure_cells 0 r.change r.accepted r.rejected r.closed
answer_cells (Err n) = figure_cells n (pos 0) 0 0 0

-- the line of a call with this tag: number of the entry (10 digits, from 1), call, cause, change, accepted, rejected, closed
unfoldable pub call_line : ℕ → ℕ → Result Returned ℕ → List ℕ
call_line number tag a = cell (digits 10 number) ++ cell (call_name tag) ++ answer_cells a

-- an answer, with the number of its cause in place of the cause
abbrev pub numbered : Result Returned Cause → Result Returned ℕ
numbered (Ok r) = Ok r
numbered (Err c) = Err (cause_number c)

-- the line of an entry: its number, its body, its bytes, its answer
abbrev pub entry_line : ℕ → Body → List ℕ → Result Returned Cause → List ℕ
entry_line number b bytes a = call_line number (tag_of b bytes) (numbered a)

-- ---- a group's line: group,000000003,123456780019,0007,SUP,BR09
-- the Bill Key as sent (42-45 of the group's first detail; four spaces for a group without detail)
abbrev pub first_key : List (List ℕ) → List ℕ
first_key [] = spaces 4
first_key (d ∷ ds) = key_in d

-- `ACF`, or the error code (`BR` and 2 digits)
abbrev pub verdict_text : Result Posted ErrorCode → List ℕ
verdict_text (Ok amounts) = text "ACF"
verdict_text (Err c) = text "BR" ++ digits 2 (code_number c)

-- the Confirmation Number that the group took (9 digits), the account as sent, the Bill Key as sent, the Notification Code as sent, its verdict
unfoldable pub group_line : ℕ → Group → Result Posted ErrorCode → List ℕ
group_line confirmation g v =
    cell (text "group")
    ++ cell (digits 9 confirmation)
    ++ cell (account_in g.header)
    ++ cell (first_key g.details)
    ++ cell (notice_in g.header)
    ++ ended (verdict_text v)

-- "a line for each of its groups, in order": each takes the next Confirmation Number
unfoldable pub group_lines : ℕ → List Group → List (Result Posted ErrorCode) → List ℕ
group_lines confirmation [] vs = []
group_lines confirmation (g ∷ gs) [] = []
group_lines confirmation (g ∷ gs) (v ∷ vs) = group_line confirmation g v ++ group_lines (confirmation + 1) gs vs
