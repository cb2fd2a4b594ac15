-- The request by calendar: where its date is worked out, its causes are those of the request with that date. Assumes nothing.
use Prim.Native.Nat.{ℕ, ◌≤◌}
use mathlib.Core.Path.{◌≡◌, refl, sym, ap, ◌∙◌}
use mathlib.Core.Bool.{Bool, true, false, not, ◌&&◌, false≢true}
use mathlib.Core.List.{List, [], ◌∷◌, ◌++◌}
use native.Mathlib.Omega.{arith}
use lib.Dec.{eqb, ltb}
use borrow.Author.Tests.{not-false, eq-eqb, le-ltb}
use Rattle.fields.proofs.BoolLaws.{and_left, and_right}
use Rattle.rules.specs.Lists.{all, every}
use Rattle.rules.specs.Rules.{Rule, rule, first}
use Rattle.rules.specs.Least.{least_up_to}
use Rattle.rules.proofs.ListLaws.{all_append}
use Rattle.rules.proofs.LeastLaws.{up-to-found}
use Rattle.units.specs.declared.Date.{Date}
use Rattle.units.specs.Calendar.{is_date, date_of}
use Rattle.units.specs.Days.{last_date}
use Rattle.calendar.specs.BusinessDays.{is_further, business_day, further_causes, is_none, number_in, day_by}
use Rattle.rules.proofs.RuleLaws.{first-stop, first-clear, clear-off}
use Rattle.causes.specs.declared.CalendarRequest.{CalendarRequest}
use Rattle.causes.specs.Causes.{undated_tests, request_tests, bill_causes, request_causes, causes_after2, on_date, worked_out, schedule_causes, calendar_causes}
use Rattle.std.specs.Prelude.{Option, Some, None, Result, Ok, Err, ⊤}
use Rattle.ledger.specs.declared.Terms.{Terms}
use Rattle.rules.specs.declared.Cause.{Cause}
use Rattle.rules.specs.Numbers.{cause_number}
use Rattle.rules.specs.declared.Cause.TheVariants.{ScheduledBeforeToday}

-- ---- a day that was answered
day-refused : (found : Option ℕ) (k : Result ⊤ Cause) (n : Cause) → Err n ≡ day_by found k → k ≡ Err n
day-refused found (Ok tt) n e = let z : ◌≡◌ {A = ℕ} 0 1 = cc in absurd (omega arith)
day-refused found (Err m) n e = let z : n ≡ m = cc in rw z

day-on : (found : Option ℕ) (k : Result ⊤ Cause) (d : Date) → Ok d ≡ day_by found k → (k ≡ Ok tt) × (d ≡ date_of (number_in found))
day-on found (Ok tt) d e = (refl, cc)
day-on found (Err m) d e = let z : ◌≡◌ {A = ℕ} 0 1 = cc in absurd (omega arith)

-- what it says of a request by calendar
module _ (q : CalendarRequest) (hs : List ℕ) (today : Date) (day : Result Date Cause)
    (e : day ≡ day_by (business_day hs today.0 q.number) (first (schedule_causes q hs today))) where
  pub due-refused : (n : Cause) → day ≡ Err n → first (schedule_causes q hs today) ≡ Err n
  due-refused n f = day-refused (business_day hs today.0 q.number) (first (schedule_causes q hs today)) n (sym f ∙ e)

  pub due-on : (d : Date) → day ≡ Ok d → (first (schedule_causes q hs today) ≡ Ok tt) × (on_date q.request d ≡ worked_out q hs today)
  due-on d f =
      let o = day-on (business_day hs today.0 q.number) (first (schedule_causes q hs today)) d (sym f ∙ e) in
      (o.0, ap (on_date q.request) o.1)

-- ---- a list that is clear as a whole is clear at its start
clear-start : (xs ys : List (Rule Cause)) → first (xs ++ ys) ≡ Ok tt → first xs ≡ Ok tt
clear-start xs ys e = go (first xs) refl
  where
    go : (k : Result ⊤ Cause) → first xs ≡ k → first xs ≡ Ok tt
    go (Ok tt) f = f
    go (Err n) f = let s : first (xs ++ ys) ≡ Err n = first-stop xs ys f in let z : ◌≡◌ {A = ℕ} 0 1 = cc in absurd (omega arith)

-- ---- what is found is a date
found-date : (p : ℕ → Bool) (a b : ℕ) → ((d : ℕ) → p d ≡ true → is_date d ≡ true) → (found : Option ℕ) → least_up_to p a b ≡ found → is_none found ≡ false
    → is_date (number_in found) ≡ true
found-date p a b h (Some d) e f = h d (up-to-found p a b d e).0
found-date p a b h None e f = let z : ◌≡◌ {A = ℕ} 0 1 = cc in absurd (omega arith)

further-date : (hs : List ℕ) (start number : ℕ) → is_none (business_day hs start number) ≡ false → is_date (number_in (business_day hs start number)) ≡ true
unfolding business_day is_further
further-date hs start number =
    found-date (is_further hs start number) start last_date (λ d e. and_left (is_date d) _ e) (least_up_to (is_further hs start number) start last_date) refl

module _ (q : CalendarRequest) (hs : List ℕ) (today : Date) where
  -- the request with the date worked out has good fields
  schedule-good : first (schedule_causes q hs today) ≡ Ok tt → all (request_tests (worked_out q hs today)) ≡ true
  unfolding schedule_causes further_causes request_tests
  schedule-good e =
      let o = clear-off (schedule_causes q hs today) e in
      all_append (undated_tests q.request) (is_date (number_in (business_day hs today.0 q.number)))
      ∙ rw (not-false (all (undated_tests q.request)) o.0, further-date hs today.0 q.number o.1.1.1.1.0)

  module _ (room tracking confirmation held : ℕ) (b : Option Terms) where
    pub schedule-stops : (n : Cause) → first (schedule_causes q hs today) ≡ Err n
        → first (calendar_causes q hs room today tracking confirmation held b) ≡ Err n
    unfolding calendar_causes
    schedule-stops n e = first-stop (schedule_causes q hs today) (causes_after2 (worked_out q hs today) room today tracking confirmation held b) e

    pub schedule-clears : first (schedule_causes q hs today) ≡ Ok tt
        → first (calendar_causes q hs room today tracking confirmation held b) ≡ first (request_causes (worked_out q hs today) room today tracking confirmation held b)
    unfolding calendar_causes request_causes
    schedule-clears e =
        first-clear (schedule_causes q hs today) (causes_after2 (worked_out q hs today) room today tracking confirmation held b) e
        ∙ rw (schedule-good e)

    pub calendar-clear : first (calendar_causes q hs room today tracking confirmation held b) ≡ Ok tt → first (schedule_causes q hs today) ≡ Ok tt
    unfolding calendar_causes
    calendar-clear e = clear-start (schedule_causes q hs today) (causes_after2 (worked_out q hs today) room today tracking confirmation held b) e

-- ---- 9 can't occur: the date worked out is not before today
-- a rule that doesn't give n
abbrev gives-no : Cause → Rule Cause → Bool
gives-no n (rule b m) = not (eqb (cause_number m) (cause_number n) && b)

stop-never : (n : Cause) (rs : List (Rule Cause)) → every (gives-no n) rs ≡ true → first rs ≡ Err n → ⊥
stop-never n [] h e = let z : ◌≡◌ {A = ℕ} 0 1 = cc in omega arith
stop-never n (rule true m ∷ rs) h e =
    let z : m ≡ n = cc in
    let t : eqb (cause_number m) (cause_number n) ≡ true = eq-eqb _ _ (ap cause_number z) in
    let k : not (eqb (cause_number m) (cause_number n) && true) ≡ true = and_left (not (eqb (cause_number m) (cause_number n) && true)) (every (gives-no n) rs) h in
    false≢true (rw t at k)
stop-never n (rule false m ∷ rs) h e = stop-never n rs (and_right (not (eqb (cause_number m) (cause_number n) && false)) (every (gives-no n) rs) h) e

found_from : (p : ℕ → Bool) (a b : ℕ) (found : Option ℕ) → least_up_to p a b ≡ found → is_none found ≡ false → a ≤ number_in found
found_from p a b (Some d) e f = (up-to-found p a b d e).1
found_from p a b None e f = let z : ◌≡◌ {A = ℕ} 0 1 = cc in absurd (omega arith)

further-from : (hs : List ℕ) (start number : ℕ) → is_none (business_day hs start number) ≡ false → start ≤ number_in (business_day hs start number)
unfolding business_day
further-from hs start number = found_from (is_further hs start number) start last_date (least_up_to (is_further hs start number) start last_date) refl

module _ (q : CalendarRequest) (hs : List ℕ) (today : Date) (room tracking confirmation held : ℕ) where
  after_never : (b : Option Terms) → ltb (number_in (business_day hs today.0 q.number)) today.0 ≡ false
      → every (gives-no ScheduledBeforeToday) (causes_after2 (worked_out q hs today) room today tracking confirmation held b) ≡ true
  unfolding bill_causes
  after_never (Some t) e = rw e
  after_never None e = rw e

  pub never-9 : (b : Option Terms) → first (calendar_causes q hs room today tracking confirmation held b) ≡ Err ScheduledBeforeToday → ⊥
  unfolding calendar_causes schedule_causes further_causes
  never-9 b e = go (first (schedule_causes q hs today)) refl
    where
      go : (k : Result ⊤ Cause) → first (schedule_causes q hs today) ≡ k → ⊥
      go (Ok tt) f =
          let o = clear-off (schedule_causes q hs today) f in
          let d : today.0 ≤ number_in (business_day hs today.0 q.number) = further-from hs today.0 q.number o.1.1.1.1.0 in
          stop-never ScheduledBeforeToday (causes_after2 (worked_out q hs today) room today tracking confirmation held b) (after_never b (le-ltb _ _ d))
          (sym (first-clear (schedule_causes q hs today) (causes_after2 (worked_out q hs today) room today tracking confirmation held b) f) ∙ e)
      go (Err n) f =
          let s = first-stop (schedule_causes q hs today) (causes_after2 (worked_out q hs today) room today tracking confirmation held b) f in
          let z : Err n ≡ Err ScheduledBeforeToday = sym s ∙ e in
          let m : n ≡ ScheduledBeforeToday = cc in
          stop-never ScheduledBeforeToday (schedule_causes q hs today) refl (f ∙ rw m)
