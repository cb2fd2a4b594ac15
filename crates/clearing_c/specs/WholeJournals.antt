-- What the functions for C and Rust programs answer for a whole journal. Assumes nothing.
use Rattle.std.specs.Prelude.{ℕ, ◌≡◌, Bool, List, [], ◌∷◌, length, Result, Ok, Err}
use Rattle.fields.specs.Put.{put}
use Rattle.boundary.specs.Boundary.{number_of}
use Rattle.journal.specs.Journal.{is_bad, end_number}
use Rattle.report.specs.Report.{Claimed, report_of, reported}
use Rattle.report.specs.NoticesOf.{notices_report, notices_written}
use Rattle.rules.specs.declared.Cause.{Cause}

-- the bytes written, and 13 if the journal ended bad (its table says `stopped,13`)
abbrev pub result_left : List ℕ → Bool → Result ℕ Cause → List ℕ
result_left ts bad (Ok n) = n ∷ end_number bad ∷ []
result_left ts bad (Err c) = ts

-- the number answered, the output and the result of the table of the journal s, with the claim for its calls
pub record Tables (s out₀ ts out ts₁ : List ℕ) (n : ℕ) : Type 0 where
  pub number : n ≡ number_of (report_of (length out₀) s)
  pub result : ts₁ ≡ result_left ts (is_bad s) (report_of (length out₀) s)
  pub bytes : out ≡ put out₀ 0 (reported (length out₀) s)
  pub claimed : Claimed s

-- and of its notices
pub record Notices (s out₀ ts out ts₁ : List ℕ) (n : ℕ) : Type 0 where
  pub number : n ≡ number_of (notices_report (length out₀) s)
  pub result : ts₁ ≡ result_left ts (is_bad s) (notices_report (length out₀) s)
  pub bytes : out ≡ put out₀ 0 (notices_written (length out₀) s)
