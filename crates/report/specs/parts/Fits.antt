-- Whether an output has room for a journal's notices. Assumes nothing.
use Rattle.std.specs.Prelude.{ℕ, cond, List, ltb, length, Option, Some, None, Err}
use Rattle.journal.specs.Journal.{is_bad}
use Rattle.journal.specs.EntryCalls.{brn_of}
use Rattle.report.specs.declared.Reported.{Reported}
use Rattle.rules.specs.declared.Cause.TheVariants.{OutputTooSmall}

-- what is answered where an output of so many bytes has no room for them: what `refusal` answers inside the crate
unfoldable pub refusal_of : ℕ → List ℕ → Option Reported
refusal_of room s = cond (ltb room (length (brn_of s))) (Some (record { report = Err OutputTooSmall; stopped = is_bad s })) None
