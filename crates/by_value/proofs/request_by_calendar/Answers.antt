-- `by_value::request_by_calendar` meets its contract, by the day that was answered.
use mathlib.Core.Path.{sym, ap, ◌∙◌}
use Rattle.ledger.specs.Sound.{sound_ledger}
use Rattle.by_value.proofs.LentLaws.{unsound-called}
use Rattle.by_value.proofs.DueLaws.{called_on, refused-day}
use Rattle.by_value.proofs.request_by_calendar.Goals as goal

pub returns-then-not-sound : goal.returns-then-not-sound
returns-then-not-sound c = unsound-called _ c.args.l _ c.lend-lent.ensures.1 (sym c.sound.ensures ∙ c.if-not-sound.true) _ c.refused.ensures _

pub returns-in-Ok : goal.returns-in-Ok
returns-in-Ok c =
    let a = c.args in
    called_on a.l a.q a.holidays.now a.out.now _ c.due_day-day.ensures _ c.in-Ok.is _
    c.on_date-r.ensures _ _ c.request_bill.ensures

pub returns-else-not-sound : goal.returns-else-not-sound
returns-else-not-sound c =
    let a = c.args in
    rw c.refused-in-Err.ensures
    (refused-day a.l a.q a.holidays.now a.out.now _ c.due_day-day.ensures _ c.in-Err.is
    (sym (ap sound_ledger c.lend-lent.ensures.1) ∙ sym c.sound.ensures ∙ c.if-not-sound.false))
