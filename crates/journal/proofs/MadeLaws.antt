-- What an entry's call by value does is what the entry makes of the book that the struct holds. Assumes nothing.
use Prim.Native.Nat.{ℕ}
use mathlib.Core.Path.{◌≡◌, refl, sym, ap, ◌∙◌}
use mathlib.Core.Bool.{true}
use mathlib.Core.List.{List, [], ◌∷◌, ◌++◌, append-nil}
use Rattle.units.specs.declared.Date.{Date}
use Rattle.ledger.specs.declared.Ledger.{Ledger}
use Rattle.ledger.specs.Books.{book}
use Rattle.ledger.specs.Sound.{sound_ledger}
use Rattle.rules.specs.Rules.{first}
use Rattle.causes.specs.declared.AccountRemoval.{AccountRemoval}
use Rattle.causes.specs.Causes.{Call, request, file, cancel, close, removal, fresh_causes}
use Rattle.calls.specs.Machine.{Outcome, cause, next_written, outcome, step, after, outcomes, step_in, called, ran}
use Rattle.calls.specs.Days.{fresh_by, fresh_called}
use Rattle.calls.proofs.FreshCloseLaws.{fresh-sound}
use Rattle.calls.proofs.RunLaws.{runs, step_in_lem}
use Rattle.journal.specs.declared.Body.{Body}
use Rattle.journal.specs.declared.Body.TheVariants as body
use Rattle.journal.specs.Journal.{call_of, after_entry}
use Rattle.journal.specs.EntryCalls.{entry_called, entry_written, written_by}
use Rattle.std.specs.Prelude.{Result, Ok, Err, ⊤}
use Rattle.rules.specs.declared.Cause.{Cause}

-- a fresh that is taken; other bodies make calls, which are taken or refused
abbrev pub Taken : Body → Type 0
Taken (body.Fresh s) = first (fresh_causes s) ≡ Ok tt
Taken (body.Request r) = Unit {0}
Taken body.File = Unit {0}
Taken (body.Cancel id) = Unit {0}
Taken (body.Close d) = Unit {0}
Taken (body.Removal a) = Unit {0}
Taken body.Unread = Unit {0}

module _ (l : Ledger) (h : sound_ledger l ≡ true) where
  -- one call
  call-book : (c : Call) → book (called l c).ledger ≡ after (book l) (c ∷ [])
  unfolding ran
  call-book c = (runs l h (c ∷ [])).ledger

  call-sound : (c : Call) → sound_ledger (called l c).ledger ≡ true
  unfolding ran
  call-sound c = (runs l h (c ∷ [])).kept

  call-written : (c : Call) → (step_in l c).written ≡ written_by (outcomes (book l) (c ∷ []))
  unfolding outcomes
  call-written c = ap (λ (o : Outcome). o.written) (step_in_lem l c h) ∙ sym (append-nil (step (book l) c).written)

  close-written : (d : Date) → [] ≡ written_by (outcomes (book l) (close d ∷ []))
  unfolding outcomes step outcome next_written
  close-written d = go (cause (book l) (close d))
    where
      go : (v : Result ⊤ Cause) → [] ≡ (outcome (book l) (close d) v).written ++ []
      go (Ok tt) = refl
      go (Err n) = refl

  removal-written : (a : AccountRemoval) → [] ≡ written_by (outcomes (book l) (removal a ∷ []))
  unfolding outcomes step outcome next_written
  removal-written a = go (cause (book l) (removal a))
    where
      go : (v : Result ⊤ Cause) → [] ≡ (outcome (book l) (removal a) v).written ++ []
      go (Ok tt) = refl
      go (Err n) = refl

  pub made-book : (b : Body) (bytes : List ℕ) → Taken b → book (entry_called 64200 l b bytes).ledger ≡ after_entry b bytes (book l)
  unfolding fresh_called fresh_by
  made-book (body.Fresh s) bytes t = rw t
  made-book (body.Request r) bytes t = call-book (request r 64200)
  made-book body.File bytes t = call-book (file bytes 64200)
  made-book (body.Cancel id) bytes t = call-book (cancel id 64200)
  made-book (body.Close d) bytes t = call-book (close d)
  made-book (body.Removal a) bytes t = call-book (removal a)
  made-book body.Unread bytes t = refl

  pub made-sound : (room : ℕ) (b : Body) (bytes : List ℕ) → Taken b → sound_ledger (entry_called room l b bytes).ledger ≡ true
  unfolding fresh_called fresh_by
  made-sound room (body.Fresh s) bytes t = rw t (fresh-sound s t)
  made-sound room (body.Request r) bytes t = call-sound (request r room)
  made-sound room body.File bytes t = call-sound (file bytes room)
  made-sound room (body.Cancel id) bytes t = call-sound (cancel id room)
  made-sound room (body.Close d) bytes t = call-sound (close d)
  made-sound room (body.Removal a) bytes t = call-sound (removal a)
  made-sound room body.Unread bytes t = h

  pub made-written : (b : Body) (bytes : List ℕ) → entry_written 64200 l b bytes ≡ written_by (outcomes (book l) (call_of b bytes))
  unfolding outcomes
  made-written (body.Fresh s) bytes = refl
  made-written (body.Request r) bytes = call-written (request r 64200)
  made-written body.File bytes = call-written (file bytes 64200)
  made-written (body.Cancel id) bytes = call-written (cancel id 64200)
  made-written (body.Close d) bytes = close-written d
  made-written (body.Removal a) bytes = removal-written a
  made-written body.Unread bytes = refl
