-- What document 02's papers claim holds. Assumes nothing.
use Prim.Native.Nat.{ℕ}
use mathlib.Core.Path.{◌≡◌, refl, sym, ◌∙◌}
use mathlib.Core.Bool.{Bool, true, false}
use mathlib.Core.List.{List}
use native.Mathlib.Omega.{arith}
use lib.ListN.{length}
use Rattle.ledger.specs.declared.Ledger.{Ledger}
use Rattle.ledger.specs.Books.{book, view}
use Rattle.ledger.specs.Sound.{sound_ledger}
use Rattle.rules.proofs.LeastLaws.{up-to-found, up-to-before}
use Rattle.units.specs.Days.{last_date}
use Rattle.calendar.specs.BusinessDays.{is_further, business_day}
use Rattle.calendar.proofs.FurtherLaws.{way-start, way_end, next-is-one-further}
use Rattle.calendar.proofs.ExampleDaysHold.{example-days}
use Rattle.group.specs.Groups.{sought_in}
use Rattle.causes.specs.declared.CalendarRequest.{CalendarRequest}
use Rattle.causes.specs.Causes.{calendar, causes}
use Rattle.causes.proofs.CalendarLaws.{never-9}
use Rattle.calls.specs.Machine.{cause_in, step_in, answer_by, called}
use Rattle.calls.proofs.CallLaws.{cause-sound, cause-unsound}
use Rattle.calls.proofs.CalendarCalls.{dated-called, dated-step}
use Rattle.statements.specs.Papers.{Paper1}
use Rattle.std.specs.Prelude.{Result, Ok, Err, ⊤}
use Rattle.rules.specs.declared.Cause.{Cause}
use Rattle.rules.specs.declared.Cause.TheVariants.{BadArgument, ScheduledBeforeToday}

-- ---- paper 1
never-before : (l : Ledger) (q : CalendarRequest) (hs : List ℕ) (room : ℕ) → cause_in l (calendar q hs room) ≡ Err ScheduledBeforeToday → ⊥
unfolding causes
never-before l q hs room e = by (sound_ledger l) refl
  where
    by : (s : Bool) → sound_ledger l ≡ s → ⊥
    by true h =
        let v = view (book l) in
        never-9 q hs v.today room v.tracking v.confirmation (length v.bills) (sought_in q.request.identity v.bills)
        (sym (cause-sound l (calendar q hs room) h) ∙ e)
    by false h = let z : Err BadArgument ≡ Err ScheduledBeforeToday = sym (cause-unsound l (calendar q hs room) h) ∙ e in let m : ◌≡◌ {A = ℕ} 0 1 = cc in omega arith

never-refused-9 : (l : Ledger) (q : CalendarRequest) (hs : List ℕ) (room : ℕ) → (called l (calendar q hs room)).answer ≡ Err ScheduledBeforeToday → ⊥
unfolding called answer_by
never-refused-9 l q hs room e = go (cause_in l (calendar q hs room)) refl e
  where
    go : (k : Result ⊤ Cause) → cause_in l (calendar q hs room) ≡ k → answer_by (step_in l (calendar q hs room)) k ≡ Err ScheduledBeforeToday → ⊥
    go (Ok tt) f a = let z : ◌≡◌ {A = ℕ} 0 1 = cc in omega arith
    go (Err n) f a = let m : n ≡ ScheduledBeforeToday = cc in never-before l q hs room (f ∙ rw m)

pub paper-1 : Paper1
unfolding business_day
paper-1 =
    record {
      such = λ hs start number d e. (up-to-found (is_further hs start number) start last_date d e).0;
      least = λ hs start number d i e. up-to-before (is_further hs start number) start last_date d e i;
      none = λ hs start h. way_end hs start 0 start 0 (way-start hs start 0 h) refl;
      next = next-is-one-further;
      dated = λ l q hs room e. record { called = dated-called l q hs room e; step = dated-step l q hs room e };
      due = never-refused-9;
      days = example-days;
    }
