-- How much an entry's call reads and writes. Assumes nothing.
use Prim.Native.Nat.{ℕ, ◌≤◌}
use mathlib.Core.Path.{◌≡◌, refl, sym, ap, ◌∙◌}
use mathlib.Core.List.{List}
use native.Mathlib.Omega.{arith}
use lib.ListN.{length}
use Rattle.ledger.specs.declared.Ledger.{Ledger}
use Rattle.ledger.specs.Books.{book}
use Rattle.rules.specs.Rules.{first}
use Rattle.causes.specs.declared.Start.{Start}
use Rattle.causes.specs.Causes.{Call, request, file, cancel, close, removal, fresh_causes}
use Rattle.calls.specs.Machine.{room_of, outcome, step_in, cause_in, answer_by, called}
use Rattle.calls.specs.Days.{fresh_by, fresh_called}
use Rattle.calls.proofs.CallLaws.{clear-sound, written-clear}
use Rattle.calls.proofs.RunLaws.{cause-in}
use Rattle.calls.proofs.FileCallLaws.{written-within}
use Rattle.journal.specs.declared.Body.{Body}
use Rattle.journal.specs.declared.Body.TheVariants as body
use Rattle.journal.specs.EntryCalls.{entry_called, entry_written, length_of}
use Rattle.std.specs.Prelude.{Result, Ok, Err, ⊤}
use Rattle.rules.specs.declared.Cause.{Cause}

-- a call writes no more than was lent to it
call-short : (l : Ledger) (c : Call) → length_of (called l c).answer ≤ room_of c
unfolding called answer_by
call-short l c = go (cause_in l c) refl
  where
    go : (v : Result ⊤ Cause) → cause_in l c ≡ v → length_of (answer_by (step_in l c) v) ≤ room_of c
    go (Ok tt) e =
        omega (arith, ap length (written-clear l c e), written-within (book l) c (sym (cause-in l c (clear-sound l c e)) ∙ e))
    go (Err n) e = omega arith

fresh-short : (l : Ledger) (s : Start) → length_of (fresh_called l s).answer ≤ 64200
unfolding fresh_called fresh_by
fresh-short l s = go (first (fresh_causes s))
  where
    go : (v : Result ⊤ Cause) → length_of (fresh_by l s v).answer ≤ 64200
    go (Ok tt) = omega arith
    go (Err n) = omega arith

pub made-short : (l : Ledger) (b : Body) (bytes : List ℕ) → length_of (entry_called 64200 l b bytes).answer ≤ 64200
made-short l (body.Fresh s) bytes = fresh-short l s
made-short l (body.Request r) bytes = call-short l (request r 64200)
made-short l body.File bytes = call-short l (file bytes 64200)
made-short l (body.Cancel id) bytes = call-short l (cancel id 64200)
made-short l (body.Close d) bytes = omega (arith, call-short l (close d))
made-short l (body.Removal a) bytes = omega (arith, call-short l (removal a))
made-short l body.Unread bytes = omega arith

-- ---- the length that an answer gives is that of the bytes written
call_length : (l : Ledger) (c : Call) → length (step_in l c).written ≡ length_of (called l c).answer
unfolding step_in called answer_by outcome
call_length l c = go (cause_in l c)
  where
    go : (v : Result ⊤ Cause) → length (outcome (book l) c v).written ≡ length_of (answer_by (outcome (book l) c v) v)
    go (Ok tt) = refl
    go (Err n) = refl

fresh-length : (l : Ledger) (s : Start) → 0 ≡ length_of (fresh_called l s).answer
unfolding fresh_called fresh_by
fresh-length l s = go (first (fresh_causes s))
  where
    go : (v : Result ⊤ Cause) → 0 ≡ length_of (fresh_by l s v).answer
    go (Ok tt) = refl
    go (Err n) = refl

pub made-length : (room : ℕ) (l : Ledger) (b : Body) (bytes : List ℕ) → length (entry_written room l b bytes) ≡ length_of (entry_called room l b bytes).answer
made-length room l (body.Fresh s) bytes = fresh-length l s
made-length room l (body.Request r) bytes = call_length l (request r room)
made-length room l body.File bytes = call_length l (file bytes room)
made-length room l (body.Cancel id) bytes = call_length l (cancel id room)
made-length room l (body.Close d) bytes = omega (arith, call-short l (close d))
made-length room l (body.Removal a) bytes = omega (arith, call-short l (removal a))
made-length room l body.Unread bytes = refl
