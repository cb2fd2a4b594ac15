-- A call by value on a ledger that is not sound. Assumes nothing.
use mathlib.Core.Path.{◌≡◌}
use mathlib.Core.Bool.{false}
use mathlib.Core.List.{List}
use Prim.Native.Nat.{ℕ}
use Rattle.std.specs.Prelude.{Err}
use Rattle.fields.specs.Put.{put}
use Rattle.ledger.specs.declared.Ledger.{Ledger}
use Rattle.ledger.specs.Sound.{sound_ledger}
use Rattle.calls.specs.declared.Called.{Called}
use Rattle.rules.specs.declared.Cause.TheVariants.{BadArgument}
use Rattle.causes.specs.Causes.{Call}
use Rattle.calls.specs.Machine.{called, step_in}
use Rattle.calls.proofs.CallLaws.{cause-unsound, stopped, stopped-called}

module _ (c : Call) (l : Ledger) where
  -- a ledger that is not sound, by the test of the slice that holds it
  pub unsound-called : (m : Ledger) → m ≡ l → sound_ledger m ≡ false → (r : Called) → r ≡ record { ledger = l; answer = Err BadArgument } → (out : List ℕ)
      → (r ≡ called l c) × (out ≡ put out 0 (step_in l c).written)
  unsound-called m f u r e out = rw e (stopped-called (stopped l c BadArgument (cause-unsound l c (rw f at u))) out)
