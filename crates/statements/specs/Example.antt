-- Document 01's example, from a journal's bytes to the table's. Assumes nothing.
use Rattle.std.specs.Prelude.{ℕ, ◌≤◌, ◌/◌, ◌%◌, ◌≡◌, List, [], ◌∷◌, ◌++◌, length}
use Rattle.fields.specs.Text.{text}
use Rattle.fields.specs.Put.{put, filled}
use Rattle.table.specs.Table.{table_room, ended}
use Rattle.table.specs.Example.{example_table, empty_table}
use Rattle.report.specs.declared.Reported.{Reported}
use Rattle.report.specs.Report.{posted_of, Reports}

-- "A journal entry is a one-byte tag, a two-byte length (high byte first) and the body, in ASCII fields"
abbrev entry : ℕ → List ℕ → List ℕ
entry tag body = tag ∷ length body / 256 ∷ length body % 256 ∷ body

-- "0 fresh (today 8, Tracking 9, Confirmation 9)": "fresh 20171113"
abbrev fresh_entry : List ℕ → List ℕ
fresh_entry today = entry 0 (today ++ text "000000001" ++ text "000000001")

-- "1 request (code 5, account 12, key 4, B or P, Billing 8, From 8, consumption 10, Scheduled 8)": "a request (ZZC40, 123456780019, 0007, B, 85 Ccf,
-- due 20171116)"
abbrev request_entry : List ℕ
request_entry =
    entry 1
    (text "ZZC40"
    ++ text "123456780019"
    ++ text "0007"
    ++ text "B"
    ++ text "20171113"
    ++ text "20171013"
    ++ text "0000000085"
    ++ text "20171116")

-- positions 1 to 41 of the RSP's records: Company, rate code, account, Tracking ID, type, Notification Code, Transmission Date
abbrev rsp_start : List ℕ → List ℕ
rsp_start type = text "34" ++ text "ZZC40" ++ text "123456780019" ++ text "000000001" ++ type ++ text "RSP" ++ text "20171113"

-- its rsp_header: Confirmation Number, Scheduled Date, Record Count
abbrev rsp_header : List ℕ
rsp_header = rsp_start (text "01") ++ text "000000000" ++ text "20171116" ++ text "01" ++ filled 260 32 ++ (13 ∷ [])

-- its rsp_detail, "of 4250 cents": Bill Key, Billing Date, sequence, consumption, charge, From Date, the four tiers, the previous fields
abbrev rsp_detail : List ℕ
rsp_detail =
    rsp_start (text "02")
    ++ text "0007"
    ++ text "20171113"
    ++ text "001"
    ++ text "0000000085"
    ++ text "0000000004250"
    ++ text "20171013"
    ++ (text "0000000" ++ text "0000000085" ++ text "0000000004250")
    ++ filled 90 48
    ++ filled 26 48
    ++ filled 87 32
    ++ (13 ∷ [])

-- "2 file": "For fresh 20171113, a request (..) and an accepted RSP of 4250 cents"; these are the bytes of reference/examples/example.journal
unfoldable pub example_journal : List ℕ
example_journal = fresh_entry (text "20171113") ++ request_entry ++ entry 2 (rsp_header ++ rsp_detail)

-- a fresh that is refused: 20171132 is no date
unfoldable pub refused_journal : List ℕ
refused_journal = fresh_entry (text "20171132")

-- "it prints, each line ended by byte 10: .."; "A bad entry stops it; the line `stopped,13` follows the total": here an entry cut short; "An empty
-- journal or refused fresh counts as a bad entry, with no bill lines and a zero total."
pub record ExamplePosted : Type 0 where
  pub size : length example_journal ≡ 733
  pub table : posted_of example_journal ≡ example_table
  pub stopped : posted_of (example_journal ++ (4 ∷ 0 ∷ [])) ≡ example_table ++ ended (text "stopped,13")
  pub empty : posted_of [] ≡ empty_table
  pub refused : posted_of refused_journal ≡ empty_table

-- so, by its contract (`Reports`), `post_table` writes this table into any output with room for the longest
abbrev pub ExampleWritten : Type 0
ExampleWritten =
    (out₀ out : List ℕ) (r : Reported) → table_room ≤ length out₀ → Reports example_journal out₀ out r → out ≡ put out₀ 0 example_table
