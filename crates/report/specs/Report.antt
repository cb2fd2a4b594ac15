-- Program `posted`: the table of a journal, with the claim for the journal's calls. Assumes nothing.
use Rattle.std.specs.Prelude.{ℕ, ◌≤◌, ◌≡◌, true, cond, List, [], ◌∷◌, ltb, length, Ok, Result, Err}
use Rattle.fields.specs.Put.{put}
use Rattle.table.specs.Table.{table_of, table_room}
use Rattle.rules.specs.Rules.{first}
use Rattle.causes.specs.declared.Start.{Start}
use Rattle.causes.specs.Causes.{fresh_causes}
use Rattle.calls.specs.Machine.{fresh, after}
use Rattle.history.specs.History.{begun}
use Rattle.history.specs.Claim.{Claims}
use Rattle.journal.specs.declared.Body.TheVariants.{Fresh}
use Rattle.journal.specs.Journal.{Entry, parse, calls_of, first_book, journal_ledger, is_bad}
use Rattle.report.specs.declared.Reported.{Reported}
use Rattle.rules.specs.declared.Cause.TheVariants.{OutputTooSmall}
use Rattle.rules.specs.declared.Cause.{Cause}

-- the bytes of the posted table of a journal
unfoldable pub posted_of : List ℕ → List ℕ
posted_of s = table_of (journal_ledger s) (is_bad s)

-- what is claimed of a journal: it holds no whole entry, so no fresh that succeeded, and its table has no bill lines and a zero total; or it holds
-- a fresh that succeeded and the entries es, its ledger is that of their calls after the fresh, and of these calls the claim holds: the total
-- printed is the sum of the changes and the history's sum
pub data Claimed (s : List ℕ) : Type 0 where
  empty : (parse 0 s).entries ≡ [] → journal_ledger s ≡ first_book → is_bad s ≡ true → Claimed s
  holds : (start : Start) (bytes : List ℕ) (es : List Entry) → (parse 0 s).entries ≡ record { body = Fresh start; bytes = bytes } ∷ es
      → first (fresh_causes start) ≡ Ok tt → journal_ledger s ≡ after (fresh start) (calls_of es)
      → Claims (fresh start) (begun start) (calls_of es) → Claimed s

-- an output under 10,970 bytes is refused and left as it was
unfoldable pub report_of : ℕ → List ℕ → Result ℕ Cause
report_of room s = cond (ltb room table_room) (Err OutputTooSmall) (Ok (length (posted_of s)))

unfoldable pub reported : ℕ → List ℕ → List ℕ
reported room s = cond (ltb room table_room) [] (posted_of s)

-- a table has at most 10,970 bytes
abbrev pub Within : Result ℕ Cause → Type 0
Within (Ok n) = n ≤ table_room
Within (Err c) = Unit {0}

-- what is answered and left of an output out₀; `stopped` says what `stopped,13` says in the table
pub record Reports (s out₀ out : List ℕ) (r : Reported) : Type 0 where
  pub answer : r.report ≡ report_of (length out₀) s
  pub stopped : r.stopped ≡ is_bad s
  pub bytes : out ≡ put out₀ 0 (reported (length out₀) s)
  pub within : Within r.report
  pub claimed : Claimed s
