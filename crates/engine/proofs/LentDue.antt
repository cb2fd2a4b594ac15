-- A request by calendar on a lent ledger, from the day that was answered. Assumes nothing.
use Prim.Native.Nat.{ℕ}
use mathlib.Core.Path.{◌≡◌, sym, ap, ◌∙◌}
use mathlib.Core.Bool.{Bool, true}
use mathlib.Core.List.{List}
use Rattle.fields.specs.Put.{put}
use Rattle.units.specs.declared.Date.{Date}
use Rattle.calendar.specs.BusinessDays.{business_day, day_by}
use Rattle.ledger.specs.declared.LedgerHeader.{LedgerHeader}
use Rattle.ledger.specs.parts.Places.{header_of}
use Rattle.ledger.specs.Sound.{sound_ledger}
use Rattle.ledger.specs.declared.Ledger.{Ledger}
use Rattle.rules.specs.Rules.{first}
use Rattle.group.specs.parts.Turns.{if_written}
use Rattle.causes.specs.declared.Request.{Request}
use Rattle.causes.specs.declared.CalendarRequest.{CalendarRequest}
use Rattle.causes.specs.Causes.{request, calendar, on_date, schedule_causes}
use Rattle.causes.proofs.CalendarLaws.{due-on, due-refused}
use Rattle.calls.specs.declared.Called.{Called}
use Rattle.calls.specs.Machine.{Outcome, step_in, called}
use Rattle.calls.proofs.CallLaws.{stopped}
use Rattle.calls.proofs.CalendarCalls.{dated-called, dated-step, undated-cause}
use Rattle.engine.specs.parts.Calls.{CalledIn}
use Rattle.engine.proofs.LentCalls.{stopped-in}
use Rattle.std.specs.Prelude.{Result, Ok, Err}
use Rattle.rules.specs.declared.Cause.{Cause}
use Rattle.calls.specs.declared.Returned.{Returned}

module _ {A : Type 0} (holds : List A → Bool) (held : List A → Ledger) (writes : Bool) (room : ℕ) (q : CalendarRequest) (hs : List ℕ) (xs : List A) (out : List ℕ)
    (h : LedgerHeader) (he : h ≡ header_of (held xs)) (day : Result Date Cause)
    (e : day ≡ day_by (business_day hs h.today.0 q.number) (first (schedule_causes q hs h.today))) where
  -- the day is counted from the ledger's today
  from-today : day ≡ day_by (business_day hs (held xs).today.0 q.number) (first (schedule_causes q hs (held xs).today))
  from-today =
      e ∙ ap (λ (t : LedgerHeader). day_by (business_day hs t.today.0 q.number) (first (schedule_causes q hs t.today))) he

  -- the request with that date does what the request by calendar does
  pub called-in-on : (d : Date) → day ≡ Ok d → (r : Request) → r ≡ on_date q.request d → (us : List A) (out' : List ℕ) (a : Result Returned Cause)
      → CalledIn holds held writes (request r room) xs out us out' a → CalledIn holds held writes (calendar q hs room) xs out us out' a
  called-in-on d f r g us out' a x =
      let l = held xs in
      let o = due-on q hs l.today day from-today d f in
      let c : called l (request r room) ≡ called l (calendar q hs room) = ap (λ (s : Request). called l (request s room)) (g ∙ o.1) ∙ sym (dated-called l q hs room o.0) in
      let s : step_in l (request r room) ≡ step_in l (calendar q hs room) = ap (λ (s : Request). step_in l (request s room)) (g ∙ o.1) ∙ sym (dated-step l q hs room o.0) in
      record {
        holds = x.holds;
        ledger = x.ledger ∙ ap (λ (k : Called). k.ledger) c;
        answer = x.answer ∙ ap (λ (k : Called). k.answer) c;
        bytes = x.bytes ∙ ap (λ (k : Outcome). put out 0 (if_written writes k.written)) s;
      }

  -- without a date it is refused
  pub refused-in : (n : Cause) → day ≡ Err n → holds xs ≡ true → sound_ledger (held xs) ≡ true → CalledIn holds held writes (calendar q hs room) xs out xs out (Err n)
  refused-in n f k sure =
      stopped-in holds held writes (calendar q hs room) xs out k n
      (stopped (held xs) (calendar q hs room) n (undated-cause (held xs) q hs room n sure (due-refused q hs (held xs).today day from-today n f)))
