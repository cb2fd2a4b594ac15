-- The dates that line 6 asks for, one by one, and what it asks once they have passed. Assumes nothing.
use Prim.Native.Nat.{ℕ}
use mathlib.Core.Path.{◌≡◌}
use mathlib.Core.Bool.{true, false, not, ◌||◌}
use mathlib.Core.List.{List, [], ◌∷◌}
use lib.Dec.{eqb}
use Rattle.fields.specs.Text.{text}
use Rattle.fields.specs.Put.{same_list}
use Rattle.fields.proofs.BoolLaws.{and_left, and_right}
use Rattle.rules.specs.Rules.{Rule, rule, first}
use Rattle.units.specs.declared.Date.{Date}
use Rattle.units.specs.Calendar.{is_date}
use Rattle.units.specs.Days.{year_past}
use Rattle.ledger.specs.declared.Terms.{Terms}
use Rattle.ledger.specs.Bills.{is_open}
use Rattle.ledger.specs.Limits.{last_sequence}
use Rattle.ledger.specs.Sound.{sound_removal}
use Rattle.records.specs.Layout.{sequence_in}
use Rattle.records.specs.declared.Notification.TheVariants.{Supplement}
use Rattle.verdict.specs.Lines.{removed_long, line6}
use Rattle.verdict.specs.parts.Dated.{dated_terms}
use Rattle.rules.specs.declared.ErrorCode.TheVariants.{Br05}
use Rattle.rules.specs.declared.ErrorCode.{ErrorCode}

module _ (t : Terms) where
  pub dated-billing : dated_terms t ≡ true → is_date t.latest.billing.0 ≡ true
  unfolding dated_terms
  dated-billing h = and_left (is_date t.latest.billing.0) (sound_removal t.removal) h

  pub dated-removal : dated_terms t ≡ true → sound_removal t.removal ≡ true
  unfolding dated_terms
  dated-removal h = and_right (is_date t.latest.billing.0) (sound_removal t.removal) h

  pub dates-dated : is_date t.latest.billing.0 ≡ true → sound_removal t.removal ≡ true → dated_terms t ≡ true
  unfolding dated_terms
  dates-dated h k = rw (h, k)

-- ---- line 6 for SUP past its dates
abbrev pub sup-sequence : List ℕ → Terms → List (Rule ErrorCode)
sup-sequence d t = rule (not (same_list (sequence_in d) (text "000")) || eqb t.sequence last_sequence) Br05 ∷ []

pub past-dates : (today : Date) (h d : List ℕ) (t : Terms) → is_open today t ≡ false → t.cancelled ≡ false → year_past t.latest.billing.0 today.0 ≡ false
    → removed_long today t.removal ≡ false → first (line6 Supplement today h d t) ≡ first (sup-sequence d t)
unfolding line6
past-dates today h d t o c y r = rw (o, c, y, r)
