-- A call that is refused answers a number from 1 to 15, so 0 says that it was carried out. Assumes nothing.
use Prim.Native.Nat.{◌≤◌}
use mathlib.Core.Path.{◌≡◌, refl}
use mathlib.Core.Bool.{Bool, true, ◌&&◌}
use mathlib.Core.List.{List, [], ◌∷◌}
use native.Mathlib.Omega.{arith}
use lib.Dec.{leb}
use borrow.Author.Tests.{le-leb}
use Rattle.ledger.specs.declared.Ledger.{Ledger}
use Rattle.ledger.specs.Books.{View}
use Rattle.rules.specs.Lists.{every}
use Rattle.rules.specs.Rules.{Rule, rule}
use Rattle.rules.specs.declared.Cause.{Cause}
use Rattle.rules.specs.declared.Cause.TheVariants.{OutputTooSmall, BadArgument, LedgerFull, NoSuchBill, BillCancelled, OtherCodeOrProduct, ConsumptionUnchanged, SequenceUsedUp, ScheduledBeforeToday, NotAfterToday, BadFile, TooFewNumbers, BadEntry, BadHolidays, NoSuchDay}
use Rattle.rules.specs.Numbers.{cause_number}
use Rattle.causes.specs.Causes.{Call, causes}
use Rattle.calls.specs.Machine.{called}
use Rattle.std.specs.Prelude.{Err}

cause-range : (c : Cause) → (1 ≤ cause_number c) × (cause_number c ≤ 15)
cause-range OutputTooSmall = (omega arith, omega arith)
cause-range BadArgument = (omega arith, omega arith)
cause-range LedgerFull = (omega arith, omega arith)
cause-range NoSuchBill = (omega arith, omega arith)
cause-range BillCancelled = (omega arith, omega arith)
cause-range OtherCodeOrProduct = (omega arith, omega arith)
cause-range ConsumptionUnchanged = (omega arith, omega arith)
cause-range SequenceUsedUp = (omega arith, omega arith)
cause-range ScheduledBeforeToday = (omega arith, omega arith)
cause-range NotAfterToday = (omega arith, omega arith)
cause-range BadFile = (omega arith, omega arith)
cause-range TooFewNumbers = (omega arith, omega arith)
cause-range BadEntry = (omega arith, omega arith)
cause-range BadHolidays = (omega arith, omega arith)
cause-range NoSuchDay = (omega arith, omega arith)

-- every cause that a list of rules can give
abbrev in_range : Rule Cause → Bool
in_range (rule b n) = leb 1 (cause_number n) && leb (cause_number n) 15

rules-range : (rs : List (Rule Cause)) → every in_range rs ≡ true
rules-range [] = refl
rules-range (rule b n ∷ rs) = let p = cause-range n in rw (le-leb 1 (cause_number n) p.0, le-leb (cause_number n) 15 p.1) (rules-range rs)

causes-range : (v : View) (c : Call) → every in_range (causes v c) ≡ true
causes-range v c = rules-range (causes v c)

pub numbered : (l : Ledger) (c : Call) (n : Cause) → (called l c).answer ≡ Err n → (1 ≤ cause_number n) × (cause_number n ≤ 15)
numbered l c n e = cause-range n
