-- The lines of a file's groups as they are read off the answers: what the contracts of the parts cite. Assumes nothing.
use Rattle.std.specs.Prelude.{ℕ, ◌+◌, ◌*◌, ◌≡◌, cond, List, [], ◌∷◌, ◌++◌, eqb, length, drop}
use Rattle.fields.specs.Text.{text}
use Rattle.fields.specs.Put.{put}
use Rattle.ledger.specs.Books.{Book}
use Rattle.records.specs.Limits.{record_size}
use Rattle.records.specs.Layout.{record_at, records_from, account_in, notice_in, confirmation_in, error_code_in}
use Rattle.file.specs.File.{Group}
use Rattle.group.specs.Groups.{answers, verdicts}
use Rattle.table.specs.Table.{cell, ended}
use Rattle.history.specs.Written.{is_acf}
use Rattle.trace_lines.specs.Lines.{first_key, group_lines}

-- where `sent` begins with the answers to these groups on a ledger, the lines of that ledger's verdicts were put at `at`, and end at r
abbrev pub Lined : List Group → List ℕ → List ℕ → ℕ → List ℕ → ℕ → Type 0
Lined gs sent out₀ at out r =
    (k : Book) (rest : List ℕ) → sent ≡ answers [] k gs ++ rest
    → (out ≡ put out₀ at (group_lines k.confirmation gs (verdicts [] k gs)))
    × (r ≡ at + length (group_lines k.confirmation gs (verdicts [] k gs)))

-- the group of record i with k details
abbrev pub group_from : List ℕ → ℕ → ℕ → Group
group_from s i k = record { header = record_at s i; details = records_from s (i + 1) k }

-- the bytes a begin with the answer to a group of k details: its header is an ACF, or the first detail of the REJ has the error code at 260-263;
-- a REJ without detail answers a group without detail, which is BR17
unfoldable pub read_verdict : List ℕ → ℕ → List ℕ
read_verdict a k = cond (is_acf a) (text "ACF") (cond (eqb k 0) (text "BR17") (error_code_in (record_at a 1)))

-- an ACF is one record, a REJ as many as the group has
unfoldable pub answer_long : List ℕ → ℕ → ℕ
answer_long a k = cond (is_acf a) record_size ((k + 1) * record_size)

-- the line of a group whose answer stands at the start of a
unfoldable pub read_line : List ℕ → Group → List ℕ
read_line a g =
    cell (text "group")
    ++ cell (confirmation_in a)
    ++ cell (account_in g.header)
    ++ cell (first_key g.details)
    ++ cell (notice_in g.header)
    ++ ended (read_verdict a (length g.details))

-- those of groups whose answers stand one after the other
unfoldable pub read_lines : List ℕ → List Group → List ℕ
read_lines a [] = []
read_lines a (g ∷ gs) = read_line a g ++ read_lines (drop (answer_long a (length g.details)) a) gs
