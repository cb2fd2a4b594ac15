-- The removal of an account on the struct: no total changes, and each bill of the account has its date. Assumes nothing.
use Prim.Native.Nat.{ℕ, ◌+◌, ◌≤◌}
use mathlib.Core.Path.{◌≡◌, refl, sym, ap, ap₂, ◌∙◌}
use mathlib.Core.Bool.{Bool, true, ◌||◌}
use mathlib.Core.List.{List, [], ◌∷◌, map}
use lib.IntN.{pos, +ℤ_invr}
use lib.ListN.{length}
use Rattle.fields.proofs.BoolLaws.{cases}
use Rattle.units.specs.declared.Date.{Date}
use Rattle.ledger.specs.declared.Bill.{Bill}
use Rattle.ledger.specs.declared.Ledger.{Ledger}
use Rattle.rules.specs.Lists.{has}
use Rattle.ledger.specs.Bills.{is_of_account}
use Rattle.ledger.specs.Books.{live, bill_terms, of_account, removed_of, bill_charge, total_of}
use Rattle.ledger.specs.parts.Places.{removed_first}
use Rattle.ledger.specs.Sound.{sound_ledger}
use Rattle.ledger.proofs.RemovalLaws.{removed-all}
use Rattle.rules.specs.Rules.{first}
use Rattle.causes.specs.declared.AccountRemoval.{AccountRemoval}
use Rattle.causes.specs.Causes.{removal, removal_causes, causes}
use Rattle.calls.specs.Machine.{next, next_written, next_verdicts, next_closed, outcome, cause_in, step_in, left_by, answer_by, called}
use Rattle.calls.specs.Days.{quiet_answer}
use Rattle.calls.proofs.CallLaws.{cause-sound}
use Rattle.std.specs.Prelude.{Result, Ok, ⊤}
use Rattle.rules.specs.declared.Cause.{Cause}

-- a removal leaves each charge
pub charge-kept : (account : ℕ) (date : Date) (b : Bill) → bill_charge (removed_of account date b) ≡ bill_charge b
charge-kept account date b = cases (of_account account b) (λ e. rw e) (λ e. rw e)

pub total-removed : (account : ℕ) (date : Date) (bs : List Bill) → total_of (map (removed_of account date) bs) ≡ total_of bs
total-removed account date [] = refl
total-removed account date (b ∷ bs) = ap₂ (λ (x y : ℕ). x + y) (charge-kept account date b) (total-removed account date bs)

-- a bill of the account is held, by the bills or by what the rules read of them
has-terms : (account : ℕ) (bs : List Bill) → has (is_of_account account) (map bill_terms bs) ≡ has (of_account account) bs
has-terms account [] = refl
has-terms account (b ∷ bs) = ap (λ (x : Bool). of_account account b || x) (has-terms account bs)

-- the cause on a sound struct is what the check came to
pub removal-cause : (l : Ledger) (a : AccountRemoval) → sound_ledger l ≡ true → (held : Bool) → held ≡ has (of_account a.account) (live l)
    → (check k : Result ⊤ Cause) → check ≡ first (removal_causes a held) → check ≡ k → cause_in l (removal a) ≡ k
unfolding causes
removal-cause l a h held e check k c q =
    cause-sound l (removal a) h ∙ ap (λ (x : Bool). first (removal_causes a x)) (has-terms a.account (live l) ∙ sym e) ∙ sym c ∙ q

-- a removal that is carried out
pub removal-done : (l : Ledger) (a : AccountRemoval) → l.count ≤ length l.bills → cause_in l (removal a) ≡ Ok tt
    → called l (removal a) ≡ record { ledger = removed_first l.count a.account a.date l; answer = quiet_answer 0 }
unfolding called left_by answer_by step_in outcome next next_written next_verdicts next_closed
removal-done l a h e =
    rw (e, total-removed a.account a.date (live l), +ℤ_invr (pos (total_of (live l))), removed-all a.account a.date l h)
