-- Line 6 at the borders of twelve months and sixty days. Assumes nothing.
use Prim.Native.Nat.{ℕ, ◌+◌, ◌≤◌}
use mathlib.Core.Path.{◌≡◌, ap}
use mathlib.Core.Bool.{Bool, true, false, ◌&&◌, ◌||◌, and-false, false≢true}
use mathlib.Core.List.{List, [], ◌∷◌}
use native.Mathlib.Omega.{arith}
use lib.Dec.{eqb}
use borrow.Author.Tests.{lt-ltb, le-ltb, eq-eqb}
use Rattle.rules.specs.Rules.{Rule, rule, first}
use Rattle.units.specs.declared.Date.{Date}
use Rattle.units.specs.Days.{day_number, year_on, days_past}
use Rattle.ledger.specs.declared.Terms.{Terms}
use Rattle.records.specs.declared.Notification.TheVariants.{Response, Supplement}
use Rattle.verdict.specs.Lines.{removed_long, line6}
use Rattle.statements.specs.Papers.{SupDates}
use Rattle.statements.proofs.Anniversary.{number-order}
use Rattle.std.specs.Prelude.{Some, Err}
use Rattle.rules.specs.declared.ErrorCode.TheVariants.{Br12, Br13}
use Rattle.rules.specs.declared.ErrorCode.{ErrorCode}
use Rattle.rules.specs.Numbers.{code_number}

-- some rule with this code holds
abbrev hit : ErrorCode → List (Rule ErrorCode) → Bool
hit n [] = false
hit n (rule b m ∷ rs) = (eqb (code_number m) (code_number n) && b) || hit n rs

-- a code is that of a rule that holds
hits : (n : ErrorCode) (rs : List (Rule ErrorCode)) → first rs ≡ Err n → hit n rs ≡ true
hits n [] e = let z : ◌≡◌ {A = ℕ} 0 1 = cc in absurd (omega arith)
hits n (rule true m ∷ rs) e = let z : m ≡ n = cc in rw (eq-eqb _ _ (ap code_number z))
hits n (rule false m ∷ rs) e = rw (and-false (eqb (code_number m) (code_number n))) (hits n rs e)

module _ (today : Date) (h d : List ℕ) (t : Terms) where
  in-year : today.0 ≤ year_on t.latest.billing.0 → first (line6 Supplement today h d t) ≡ Err Br12 → ⊥
  unfolding line6
  in-year l e = false≢true (rw (le-ltb (year_on t.latest.billing.0) today.0 l) at (hits Br12 (line6 Supplement today h d t) e))

  in-days : removed_long today t.removal ≡ false → first (line6 Supplement today h d t) ≡ Err Br13 → ⊥
  unfolding line6
  in-days l e = false≢true (rw l at (hits Br13 (line6 Supplement today h d t) e))

  within : (r : Date) → t.removal ≡ Some r → day_number today.0 ≤ day_number r.0 + 60 → removed_long today t.removal ≡ false
  unfolding days_past
  within r e l = rw e (le-ltb (day_number r.0 + 60) (day_number today.0) l)

  pub sup-dates : SupDates today h d t
  unfolding line6 days_past
  sup-dates =
      record {
        year = λ c o l. rw (o, c, lt-ltb (year_on t.latest.billing.0) today.0 l);
        in_year = in-year;
        removed = λ r e c o l k. rw (o, c, le-ltb (year_on t.latest.billing.0) today.0 l, e, lt-ltb (day_number r.0 + 60) (day_number today.0) k);
        in_days = λ r e l. in-days (within r e l);
        never = λ e. in-days (rw e);
        future = λ r e i j l. in-days (within r e (omega (arith, number-order today.0 r.0 i j l)));
        response =
            λ n e.
            let k = hits n (line6 Response today h d t) e in
            (λ z. false≢true (rw z at k), λ z. false≢true (rw z at k));
      }
