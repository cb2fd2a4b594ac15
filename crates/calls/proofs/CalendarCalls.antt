-- The request by calendar, where its date is worked out, is the request with that date: in what it leaves, writes and answers. Assumes nothing.
use Prim.Native.Nat.{ℕ}
use mathlib.Core.Path.{◌≡◌, refl, sym, ap, ◌∙◌}
use mathlib.Core.Bool.{true, cond}
use mathlib.Core.List.{List}
use lib.ListN.{length}
use Rattle.ledger.specs.declared.Ledger.{Ledger}
use Rattle.ledger.specs.Books.{Book, View, book, view}
use Rattle.ledger.specs.Sound.{sound_ledger}
use Rattle.rules.specs.Rules.{first}
use Rattle.group.specs.Groups.{sought_in}
use Rattle.causes.specs.declared.CalendarRequest.{CalendarRequest}
use Rattle.causes.specs.Causes.{request, calendar, causes, worked_out, schedule_causes}
use Rattle.causes.proofs.CalendarLaws.{schedule-stops, schedule-clears, calendar-clear}
use Rattle.calls.specs.Machine.{next, next_written, next_verdicts, next_closed, outcome, cause_in, step_in, left_by, called}
use Rattle.std.specs.Prelude.{Result, Ok, Err, ⊤}
use Rattle.rules.specs.declared.Cause.{Cause}
use Rattle.rules.specs.declared.Cause.TheVariants.{BadArgument}

-- ---- the causes, on a view
module _ (v : View) (q : CalendarRequest) (hs : List ℕ) (room : ℕ) where
  pub dated-causes : first (schedule_causes q hs v.today) ≡ Ok tt
      → first (causes v (calendar q hs room)) ≡ first (causes v (request (worked_out q hs v.today) room))
  unfolding causes
  dated-causes = schedule-clears q hs v.today room v.tracking v.confirmation (length v.bills) (sought_in q.request.identity v.bills)

  pub undated-causes : (n : Cause) → first (schedule_causes q hs v.today) ≡ Err n → first (causes v (calendar q hs room)) ≡ Err n
  unfolding causes
  undated-causes = schedule-stops q hs v.today room v.tracking v.confirmation (length v.bills) (sought_in q.request.identity v.bills)

  -- a request by calendar that is clear has its date worked out, and the request with that date is clear
  pub clear-dated : first (causes v (calendar q hs room)) ≡ Ok tt → first (causes v (request (worked_out q hs v.today) room)) ≡ Ok tt
  unfolding causes
  clear-dated e =
      let c = calendar-clear q hs v.today room v.tracking v.confirmation (length v.bills) (sought_in q.request.identity v.bills) e in
      sym (dated-causes c) ∙ e

-- ---- on a book
pub dated-outcome : (l : Book) (q : CalendarRequest) (hs : List ℕ) (room : ℕ) (k : Result ⊤ Cause)
    → outcome l (calendar q hs room) k ≡ outcome l (request (worked_out q hs l.today) room) k
unfolding outcome next next_written next_verdicts next_closed
dated-outcome l q hs room (Ok tt) = refl
dated-outcome l q hs room (Err n) = refl

-- ---- on the struct
module _ (l : Ledger) (q : CalendarRequest) (hs : List ℕ) (room : ℕ) where
  dated-left : (k : Result ⊤ Cause) → left_by l (calendar q hs room) k ≡ left_by l (request (worked_out q hs l.today) room) k
  unfolding left_by next
  dated-left (Ok tt) = refl
  dated-left (Err n) = refl

  module _ (e : first (schedule_causes q hs l.today) ≡ Ok tt) where
    dated-cause : cause_in l (calendar q hs room) ≡ cause_in l (request (worked_out q hs l.today) room)
    unfolding cause_in
    dated-cause = ap (λ (k : Result ⊤ Cause). cond (sound_ledger l) k (Err BadArgument)) (dated-causes (view (book l)) q hs room e)

    pub dated-step : step_in l (calendar q hs room) ≡ step_in l (request (worked_out q hs l.today) room)
    unfolding step_in
    dated-step = dated-outcome (book l) q hs room (cause_in l (calendar q hs room)) ∙ ap (outcome (book l) (request (worked_out q hs l.today) room)) dated-cause

    pub dated-called : called l (calendar q hs room) ≡ called l (request (worked_out q hs l.today) room)
    unfolding called
    dated-called = rw (dated-left (cause_in l (calendar q hs room)), dated-step, dated-cause)

  pub undated-cause : (n : Cause) → sound_ledger l ≡ true → first (schedule_causes q hs l.today) ≡ Err n → cause_in l (calendar q hs room) ≡ Err n
  unfolding cause_in
  undated-cause n h e = rw h (undated-causes (view (book l)) q hs room n e)
