-- The notices of a whole journal in a lent output: those of every call carried out, in order. Assumes nothing.
use Rattle.std.specs.Prelude.{ℕ, ◌≡◌, cond, List, [], ltb, length, Result, Ok, Err}
use Rattle.fields.specs.Put.{put}
use Rattle.journal.specs.Journal.{is_bad}
use Rattle.journal.specs.EntryCalls.{brn_of}
use Rattle.report.specs.declared.Reported.{Reported}
use Rattle.rules.specs.declared.Cause.TheVariants.{OutputTooSmall}
use Rattle.rules.specs.declared.Cause.{Cause}

-- an output under the length of the journal's BRN file is refused and left as it was
unfoldable pub notices_report : ℕ → List ℕ → Result ℕ Cause
notices_report room s = cond (ltb room (length (brn_of s))) (Err OutputTooSmall) (Ok (length (brn_of s)))

unfoldable pub notices_written : ℕ → List ℕ → List ℕ
notices_written room s = cond (ltb room (length (brn_of s))) [] (brn_of s)

-- what is answered and left of an output out₀; `stopped` says what `stopped,13` says in the table
pub record ReportsNotices (s out₀ out : List ℕ) (r : Reported) : Type 0 where
  pub answer : r.report ≡ notices_report (length out₀) s
  pub stopped : r.stopped ≡ is_bad s
  pub bytes : out ≡ put out₀ 0 (notices_written (length out₀) s)
