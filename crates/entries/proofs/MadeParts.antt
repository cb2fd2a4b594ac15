-- An entry by its call on the words. Assumes nothing.
use Prim.Native.Nat.{ℕ, ◌-◌}
use mathlib.Core.Path.{◌≡◌, refl}
use mathlib.Core.Bool.{Bool, true}
use mathlib.Core.List.{List}
use lib.ListN.{take, drop}
use Rattle.fields.specs.Put.{put, part}
use Rattle.ledger.specs.declared.Ledger.{Ledger}
use Rattle.ledger.specs.Sound.{sound_ledger}
use Rattle.words.specs.Layout.{ledger_of}
use Rattle.group.specs.parts.Turns.{if_written}
use Rattle.journal.specs.declared.Body.{Body}
use Rattle.journal.specs.declared.Body.TheVariants as body
use Rattle.journal.specs.declared.Head.TheVariants.{Cut, Bad, Whole}
use Rattle.journal.specs.Entries.{head_of}
use Rattle.journal.specs.EntryCalls.{entry_called, entry_written}
use Rattle.journal.proofs.MadeLaws.{Taken, made-sound}
use Rattle.entries.specs.declared.entry.Ended.TheVariants as end
use Rattle.entries.specs.parts.Stepping.{EntryCalledIn, SteppedIn}
use Rattle.engine.proofs.LentCalls.{said-none}
use Rattle.std.specs.Prelude.{Result, Ok, Err}
use Rattle.rules.specs.declared.Cause.{Cause}
use Rattle.calls.specs.declared.Returned.{Returned}
use Rattle.rules.specs.declared.Cause.TheVariants.{BadArgument}

module _ (writes : Bool) (room : ℕ) (ws out : List ℕ) (sure : sound_ledger (ledger_of ws) ≡ true) (s : List ℕ) where
  abbrev l : Ledger
  l = ledger_of ws

  pub made_by : (b : Body) → Taken b → (us out' : List ℕ) (a : Result Returned Cause) → ledger_of us ≡ (entry_called room l b s).ledger → a ≡ (entry_called room l b s).answer
      → out' ≡ put out 0 (if_written writes (entry_written room l b s)) → EntryCalledIn writes room 0 b s ws out us out' a
  made_by b t us out' a e f g = record { sound = rw e (made-sound l sure room b s t); ledger = e; answer = f; bytes = g }

  pub made-unread : EntryCalledIn writes room 0 body.Unread s ws out ws out (Err BadArgument)
  made-unread = made_by body.Unread tt ws out (Err BadArgument) refl refl (said-none writes out)

-- ---- what stands at the start of some bytes
module _ (writes : Bool) (seen : ℕ) (src ws₀ out₀ : List ℕ) where
  pub step_cut : head_of seen src ≡ Cut → SteppedIn writes 0 seen src ws₀ out₀ ws₀ out₀ (Err end.Cut)
  step_cut e = rw e (refl, refl, refl)

  pub step-bad : head_of seen src ≡ Bad → SteppedIn writes 0 seen src ws₀ out₀ ws₀ out₀ (Err end.Bad)
  step-bad e = rw e (refl, refl, refl)

  pub step-made : (b : Body) (n : ℕ) → head_of seen src ≡ Whole b n → (ws out : List ℕ) (a : Result Returned Cause) → EntryCalledIn writes 64200 0 b (take (n - 3) (drop 3 src)) ws₀ out₀ ws out a
      → SteppedIn writes 0 seen src ws₀ out₀ ws out (Ok (record { size = n; answer = a }))
  unfolding part
  step-made b n e ws out a m = rw e (a, refl, m)
