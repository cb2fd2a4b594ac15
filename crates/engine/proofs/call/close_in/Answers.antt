-- `engine::call::close_in` meets its contract, by the cause that was told.
use Rattle.std.proofs.Common.{rules, Err}
use mathlib.Core.Path.{◌≡◌, ◌∙◌}
use Rattle.group.proofs.ReadyLaws.{sound-ready}
use Rattle.engine.proofs.LentCalls.{close-stops, close-made}
use Rattle.engine.proofs.call.close_in.Goals as goal

pub header-h-requires : goal.header-h-requires
header-h-requires g c = (g.met.T.Holder.sound_holds _ c.requires)

pub returns-in_err-close_check : goal.returns-in_err-close_check
returns-in_err-close_check g c =
    let e : c.from_residual.result ≡ Err c.in_err-close_check.field-0.0 = search rules in
    let x = close-stops (g.T.Holder.held c.args.lent.now) (g.met.T.Holder.places _ (g.met.T.Holder.sound_holds _ c.requires)) c.requires c.args.d _ c.header-h.ensures _ c.close_check.ensures _ (c.in_err-close_check.was) in (g.met.T.Holder.sound_holds _ c.requires, x.0, rw e x.1)

pub closed_by-closed-requires : goal.closed_by-closed-requires
closed_by-closed-requires g c =
    ((g.met.T.Holder.sound_holds _ c.requires), rw c.header-h.ensures (sound-ready _ c.requires).count)

pub put_header-requires : goal.put_header-requires
put_header-requires g c =
    (g.met.T.Holder.sound_holds _ c.requires)

pub returns : goal.returns
returns g c =
    let x = close-made (g.T.Holder.held c.args.lent.now) (g.met.T.Holder.places _ (g.met.T.Holder.sound_holds _ c.requires)) c.requires c.args.d _ c.header-h.ensures _ c.close_check.ensures (c.in_ok-close_check.was) _ c.closed_by-closed.ensures in (c.put_header.ensures.0, c.put_header.ensures.1 ∙ x.0, c.quiet.ensures ∙ x.1)
