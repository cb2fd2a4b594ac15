-- `engine::call::removal_in` meets its contract, by the cause that was told.
use Rattle.std.proofs.Common.{rules, Err}
use mathlib.Core.Path.{◌≡◌, ◌∙◌}
use Rattle.group.proofs.ReadyLaws.{sound-ready}
use Rattle.engine.proofs.LentRemovals.{removal-stops, date-said, removal-made}
use Rattle.engine.proofs.call.removal_in.Goals as goal

pub header-h-requires : goal.header-h-requires
header-h-requires g c = g.met.T.Holder.sound_holds _ c.requires

pub has_account-held-requires : goal.has_account-held-requires
has_account-held-requires g c =
    (g.met.T.Holder.sound_holds _ c.requires, rw c.header-h.ensures (sound-ready _ c.requires).count)

pub returns-in_err-removal_check : goal.returns-in_err-removal_check
returns-in_err-removal_check g c =
    let e : c.from_residual.result ≡ Err c.in_err-removal_check.field-0.0 = search rules in
    let x = removal-stops (g.T.Holder.held c.args.lent.now) (g.met.T.Holder.places _ (g.met.T.Holder.sound_holds _ c.requires)) c.requires c.args.a _ c.header-h.ensures _ c.has_account-held.ensures _ c.removal_check.ensures _ (c.in_err-removal_check.was) in
    (g.met.T.Holder.sound_holds _ c.requires, x.0, rw e x.1)

pub remove-requires : goal.remove-requires
remove-requires g c = (
  g.met.T.Holder.sound_holds _ c.requires,
  rw c.header-h.ensures (sound-ready _ c.requires).count,
  g.met.T.Holder.takes_said _ (date-said (g.T.Holder.held c.args.lent.now) (g.met.T.Holder.places _ (g.met.T.Holder.sound_holds _ c.requires)) c.requires c.args.a _ c.header-h.ensures _ c.has_account-held.ensures _ c.removal_check.ensures (c.in_ok-removal_check.was)),
)

pub returns : goal.returns
returns g c =
    let x = removal-made (g.T.Holder.held c.args.lent.now) (g.met.T.Holder.places _ (g.met.T.Holder.sound_holds _ c.requires)) c.requires c.args.a _ c.header-h.ensures _ c.has_account-held.ensures _ c.removal_check.ensures (c.in_ok-removal_check.was) in
    (c.remove.ensures.0, c.remove.ensures.1 ∙ x.0, c.quiet.ensures ∙ x.1)
