-- What paper 2 of document 02 claims holds. Assumes nothing.
use Prim.Native.Nat.{ℕ, zero, suc, ◌%◌, ◌≤◌, ◌<◌}
use mathlib.Core.Path.{◌≡◌, refl, ap, ◌∙◌}
use mathlib.Core.Bool.{true}
use mathlib.Core.List.{List, [], ◌∷◌}
use native.Mathlib.Omega.{arith}
use native.Mathlib.Nat.{le_of_suc-le-suc}
use lib.Dec.{eqb}
use lib.ListN.{length, get_or}
use Rattle.fields.proofs.BoolLaws.{cases}
use Rattle.rules.specs.Lists.{has}
use Rattle.units.specs.Calendar.{year, is_date}
use Rattle.units.specs.Days.{year_on}
use Rattle.units.proofs.DateLaws.{date-last}
use Rattle.ledger.specs.declared.Bill.{Bill}
use Rattle.ledger.specs.declared.Ledger.{Ledger}
use Rattle.ledger.specs.Bills.{blank_bill}
use Rattle.ledger.specs.Books.{live, of_account, removed_of}
use Rattle.ledger.specs.parts.Places.{map_first, removed_first}
use Rattle.ledger.proofs.SoundLaws.{ledger-count}
use Rattle.causes.specs.declared.AccountRemoval.{AccountRemoval}
use Rattle.causes.specs.Causes.{removal}
use Rattle.calls.specs.declared.Called.{Called}
use Rattle.calls.specs.Machine.{fresh, next_written, outcome, cause_in, step_in, called}
use Rattle.calls.specs.Days.{quiet_answer}
use Rattle.calls.proofs.CallLaws.{clear-sound}
use Rattle.calls.proofs.RemovalCalls.{removal-cause, removal-done}
use Rattle.history.proofs.CaseProofs.{removals-hold}
use Rattle.statements.specs.Papers.{RemovalMade, Paper2}
use Rattle.statements.proofs.Anniversary.{one-year-on}
use Rattle.statements.proofs.SupDates.{sup-dates}
use Rattle.statements.proofs.NoRemovals.{none-removed}
use Rattle.std.specs.Prelude.{Ok}

-- each of the first n bills, with f applied to it
first-at : (f : Bill → Bill) (n : ℕ) (bs : List Bill) (i : ℕ) (d : Bill) → i < n → i < length bs → get_or (map_first f n bs) i d ≡ f (get_or bs i d)
first-at f zero bs i d h k = absurd (omega arith)
first-at f (suc n) [] i d h k = absurd (omega arith)
first-at f (suc n) (b ∷ bs) zero d h k = refl
first-at f (suc n) (b ∷ bs) (suc i) d h k = first-at f n bs i d (le_of_suc-le-suc h) (le_of_suc-le-suc k)

-- a removal that was carried out
module _ (l : Ledger) (a : AccountRemoval) (long : length l.bills ≡ 128) (e : cause_in l (removal a) ≡ Ok tt) where
  few : l.count ≤ 128
  few = ledger-count l (clear-sound l (removal a) e)

  done : called l (removal a) ≡ record { ledger = removed_first l.count a.account a.date l; answer = quiet_answer 0 }
  done = removal-done l a (omega (arith, long, few)) e

  at : (i : ℕ) → i < l.count → get_or (called l (removal a)).ledger.bills i blank_bill ≡ removed_of a.account a.date (get_or l.bills i blank_bill)
  at i h =
      ap (λ (r : Called). get_or r.ledger.bills i blank_bill) done
      ∙ first-at (removed_of a.account a.date) l.count l.bills i blank_bill h (omega (arith, long, few))

  removal-made : RemovalMade l a
  unfolding step_in outcome next_written
  removal-made =
      record {
        sets = λ i h o. at i h ∙ rw o;
        others = λ i h o. at i h ∙ rw o;
        count = ap (λ (r : Called). r.ledger.count) done;
        quiet = ap (λ (r : Called). r.answer) done;
        written = rw e;
        today = ap (λ (r : Called). r.ledger.today) done;
        tracking = ap (λ (r : Called). r.ledger.next_tracking) done;
        confirmation = ap (λ (r : Called). r.ledger.next_confirmation) done;
      }

-- in 2999 the same day one year on is past the last date
past-last : (d e : ℕ) → year d ≡ 2999 → is_date e ≡ true → e ≤ year_on d
unfolding year_on
past-last d e y h =
    let l = date-last e h in
    cases (eqb (d % 10000) 229) (λ q. rw q (omega (arith, y, l))) (λ q. rw q (omega (arith, y, l)))

pub paper-2 : Paper2
paper-2 =
    record {
      empty = λ id code p latest. refl;
      until_then = λ s cs n. none-removed cs (fresh s) n refl;
      made = removal-made;
      refused = λ l a h. removal-cause l a h (has (of_account a.account) (live l)) refl _ _ refl refl;
      dates = sup-dates;
      one_year_on = one-year-on;
      last = λ d e h y i. past-last d e y i;
      cases = removals-hold;
    }
