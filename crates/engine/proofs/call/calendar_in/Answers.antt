-- `engine::call::calendar_in` meets its contract, by the day that was answered.
use Rattle.engine.proofs.LentDue.{called-in-on, refused-in}
use Rattle.engine.proofs.call.calendar_in.Goals as goal

pub header-h-requires : goal.header-h-requires
header-h-requires g c = g.met.T.Holder.sound_holds _ c.requires.0

pub returns-in-Ok : goal.returns-in-Ok
returns-in-Ok g c =
    let a = c.args in
    called-in-on g.T.Holder.holds g.T.Holder.held a.writes a.room a.q a.holidays.now a.lent.now a.out.now _ c.header-h.ensures _ c.due_day.ensures _
    c.in-Ok.is _ c.on_date-r.ensures _ _ _ c.bill_call_in.ensures

pub returns-in-Err : goal.returns-in-Err
returns-in-Err g c =
    let a = c.args in
    refused-in g.T.Holder.holds g.T.Holder.held a.writes a.room a.q a.holidays.now a.lent.now a.out.now _ c.header-h.ensures _ c.due_day.ensures _
    c.in-Err.is (g.met.T.Holder.sound_holds _ c.requires.0) c.requires.0
