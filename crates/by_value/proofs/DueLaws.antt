-- A request by calendar by value, from the day that was answered. Assumes nothing.
use mathlib.Core.Path.{◌≡◌, sym, ap, ◌∙◌}
use mathlib.Core.Bool.{true}
use mathlib.Core.List.{List}
use Prim.Native.Nat.{ℕ}
use lib.ListN.{length}
use Rattle.std.specs.Prelude.{Result, Ok, Err}
use Rattle.fields.specs.Put.{put}
use Rattle.units.specs.declared.Date.{Date}
use Rattle.calendar.specs.BusinessDays.{business_day, day_by}
use Rattle.ledger.specs.declared.Ledger.{Ledger}
use Rattle.ledger.specs.Sound.{sound_ledger}
use Rattle.rules.specs.Rules.{first}
use Rattle.rules.specs.declared.Cause.{Cause}
use Rattle.causes.specs.declared.Request.{Request}
use Rattle.causes.specs.declared.CalendarRequest.{CalendarRequest}
use Rattle.causes.specs.Causes.{Call, request, calendar, on_date, schedule_causes}
use Rattle.causes.proofs.CalendarLaws.{due-on, due-refused}
use Rattle.calls.specs.declared.Called.{Called}
use Rattle.calls.specs.Machine.{Outcome, step_in, called}
use Rattle.calls.proofs.CallLaws.{stopped, stopped-called}
use Rattle.calls.proofs.CalendarCalls.{dated-called, dated-step, undated-cause}

-- what a call by value gives back and writes
abbrev Gave : Ledger → Call → List ℕ → Called → List ℕ → Type 0
Gave l c out k out₁ = (k ≡ called l c) × (out₁ ≡ put out 0 (step_in l c).written)

module _ (l : Ledger) (q : CalendarRequest) (hs out : List ℕ) (day : Result Date Cause)
    (e : day ≡ day_by (business_day hs l.today.0 q.number) (first (schedule_causes q hs l.today))) where
  -- the request with that date does what the request by calendar does
  pub called_on : (d : Date) → day ≡ Ok d → (r : Request) → r ≡ on_date q.request d → (k : Called) (out₁ : List ℕ)
      → Gave l (request r (length out)) out k out₁ → Gave l (calendar q hs (length out)) out k out₁
  called_on d f r g k out₁ x =
      let o = due-on q hs l.today day e d f in
      let n = length out in (
        x.0 ∙ ap (λ (s : Request). called l (request s n)) (g ∙ o.1) ∙ sym (dated-called l q hs n o.0),
        x.1 ∙ ap (λ (s : Request). put out 0 (step_in l (request s n)).written) (g ∙ o.1)
            ∙ ap (λ (s : Outcome). put out 0 s.written) (sym (dated-step l q hs n o.0)),
      )

  -- without a date it is refused
  pub refused-day : (n : Cause) → day ≡ Err n → sound_ledger l ≡ true
      → Gave l (calendar q hs (length out)) out (record { ledger = l; answer = Err n }) out
  refused-day n f h =
      stopped-called (stopped l (calendar q hs (length out)) n (undated-cause l q hs (length out) n h (due-refused q hs l.today day e n f))) out
