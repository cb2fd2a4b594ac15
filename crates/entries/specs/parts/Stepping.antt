-- What the contracts of the entries cite: an entry of a journal, made on a ledger that is lent as words. Assumes nothing.
use Rattle.std.specs.Prelude.{ℕ, ◌-◌, ◌≡◌, Bool, true, List, Result, Ok, Err}
use Rattle.fields.specs.Put.{put, part}
use Rattle.ledger.specs.Sound.{sound_ledger}
use Rattle.words.specs.Layout.{ledger_of}
use Rattle.group.specs.parts.Turns.{if_written}
use Rattle.journal.specs.declared.Body.{Body}
use Rattle.journal.specs.declared.Head.{Head}
use Rattle.journal.specs.declared.Head.TheVariants.{Cut, Bad, Whole}
use Rattle.journal.specs.Entries.{head_of}
use Rattle.journal.specs.EntryCalls.{entry_called, entry_written}
use Rattle.entries.specs.declared.entry.Made.{Made}
use Rattle.entries.specs.declared.entry.Ended.{Ended}
use Rattle.entries.specs.declared.entry.Ended.TheVariants as end
use Rattle.records.specs.Limits.{file_size}
use Rattle.rules.specs.declared.Cause.{Cause}
use Rattle.calls.specs.declared.Returned.{Returned}

-- ---- an entry of a journal, whose call is lent so much room
-- what its call by value leaves, answers and writes, from index `at` of the output on
pub record EntryCalledIn (writes : Bool) (room at : ℕ) (b : Body) (s ws₀ out₀ ws out : List ℕ) (a : Result Returned Cause) : Type 0 where
  pub sound : sound_ledger (ledger_of ws) ≡ true
  pub ledger : ledger_of ws ≡ (entry_called room (ledger_of ws₀) b s).ledger
  pub answer : a ≡ (entry_called room (ledger_of ws₀) b s).answer
  pub bytes : out ≡ put out₀ at (if_written writes (entry_written room (ledger_of ws₀) b s))

-- what stands at the start of src, made: where no whole entry does, words and output are as they were
abbrev pub StepOn : Head → Bool → ℕ → List ℕ → List ℕ → List ℕ → List ℕ → List ℕ → Result Made Ended → Type 0
StepOn Cut writes at src ws₀ out₀ ws out r = (ws ≡ ws₀) × (out ≡ out₀) × (r ≡ Err end.Cut)
StepOn Bad writes at src ws₀ out₀ ws out r = (ws ≡ ws₀) × (out ≡ out₀) × (r ≡ Err end.Bad)
StepOn (Whole b n) writes at src ws₀ out₀ ws out r =
    (a : Result Returned Cause) × (r ≡ Ok (record { size = n; answer = a })) × EntryCalledIn writes file_size at b (part src 3 (n - 3)) ws₀ out₀ ws out a

abbrev pub SteppedIn : Bool → ℕ → ℕ → List ℕ → List ℕ → List ℕ → List ℕ → List ℕ → Result Made Ended → Type 0
SteppedIn writes at seen src = StepOn (head_of seen src) writes at src
