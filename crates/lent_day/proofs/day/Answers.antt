-- `lent_day::day` meets its contract: the calls are those of the list, one after another.
use Rattle.std.proofs.Common.{◌≡◌, [], ◌∷◌, refl, ◌∙◌, ap, length}
use Rattle.fields.specs.Put.{put}
use Rattle.ledger.specs.declared.Ledger.{Ledger}
use Rattle.causes.specs.Causes.{Call, request, close}
use Rattle.calls.specs.Machine.{called, ran, step_in}
use Rattle.lent_day.proofs.day.Goals as goal

-- a list of two calls
ran-two : (l : Ledger) (c d : Call) → (called (called l c).ledger d).ledger ≡ ran l (c ∷ d ∷ [])
unfolding ran
ran-two l c d = refl

pub returns : goal.returns
returns c =
    let ask = request c.args.q (length c.args.out.now) in
    let end = close c.args.d in
    let asked = c.request_bill.ensures in
    let began = c.fresh.ensures.0 in (
      c.close_day.ensures.0
          ∙ ap (λ (l : Ledger). (called l end).ledger) asked.0
          ∙ ap (λ (l : Ledger). (called (called l ask).ledger end).ledger) began
          ∙ ran-two _ ask end,
      asked.1.1 ∙ ap (λ (l : Ledger). put c.args.out.now 0 (step_in l ask).written) began,
    )
