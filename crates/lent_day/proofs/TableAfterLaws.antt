-- After a fresh that is carried out, and any calls, the ledger's table may be written. Assumes nothing.
use Prim.Native.Nat.{◌≤◌}
use mathlib.Core.Path.{◌≡◌, refl, sym, subst}
use mathlib.Core.Bool.{true}
use mathlib.Core.List.{List}
use Rattle.units.specs.Calendar.{is_date, month_days}
use Rattle.ledger.specs.declared.Ledger.{Ledger}
use Rattle.rules.specs.Lists.{every}
use Rattle.ledger.specs.Books.{live, small_charge}
use Rattle.ledger.specs.Sound.{sound_ledger}
use Rattle.ledger.proofs.SoundLaws.{ledger-count, ledger-small}
use Rattle.rules.specs.Rules.{first}
use Rattle.causes.specs.declared.Start.{Start}
use Rattle.causes.specs.Causes.{Call, start_tests, fresh_causes}
use Rattle.calls.specs.Machine.{ran}
use Rattle.calls.specs.Days.{fresh_ledger, fresh_by, fresh_called}
use Rattle.calls.proofs.FreshCloseLaws.{fresh-sound}
use Rattle.calls.proofs.RunLaws.{runs}
use Rattle.std.specs.Prelude.{Ok}

ran-sound : (l : Ledger) (s : Start) → first (fresh_causes s) ≡ Ok tt → (cs : List Call) → sound_ledger (ran (fresh_called l s).ledger cs) ≡ true
unfolding fresh_called fresh_by
ran-sound l s ok cs = rw ok (runs (fresh_ledger s) (fresh-sound s ok) cs).kept

pub ran-table : (l r : Ledger) (s : Start) (cs : List Call) → first (fresh_causes s) ≡ Ok tt → r ≡ ran (fresh_called l s).ledger cs
    → (r.count ≤ 128) × (every small_charge (live r) ≡ true)
ran-table l r s cs ok e =
    let h = subst (λ (z : Ledger). sound_ledger z ≡ true) (sym e) (ran-sound l s ok cs) in
    (ledger-count r h, ledger-small r h)

-- there is no cause against the example's fresh
pub example-clear : first (fresh_causes (record { today = record { 0 = 20171113 }; tracking = 1; confirmation = 1 })) ≡ Ok tt
unfolding fresh_causes start_tests is_date month_days
example-clear = refl
