-- `engine::call::changed_in` meets its contract, by the cause that was told.
use mathlib.Core.Path.{◌≡◌, refl}
use Rattle.std.specs.Prelude.{None}
use Rattle.std.proofs.Common.{rules, Err}
use native.Mathlib.Omega.{arith}
use mir.Syntax.{w64}
use mir.ValLaws.{to_z-of_z}
use Rattle.group.proofs.ReadyLaws.{sound-ready}
use Rattle.engine.proofs.LentCalls.{stopped-in, carried-in, sound-in, decided-in}
use Rattle.engine.proofs.LentRemovals.{said-decided}
use borrow.Author.Rules.{sfits_of}
use Rattle.engine.proofs.call.changed_in.Goals as goal

pub header-h-requires : goal.header-h-requires
header-h-requires g c = g.met.T.Holder.sound_holds _ c.requires.0

pub find-f-requires : goal.find-f-requires
find-f-requires g c =
    let sure = c.requires.0 in
    (g.met.T.Holder.sound_holds _ sure, rw c.header-h.ensures (sound-ready _ sure).count)

pub bill_at-b-requires : goal.bill_at-b-requires
bill_at-b-requires g c =
    (g.met.T.Holder.sound_holds _ c.requires.0, c.bill_place-p.ensures.1)

pub decide-requires : goal.decide-requires
decide-requires g c =
    let q = sound-ready _ c.requires.0 in
    let he = c.header-h.ensures in record { numbers = (rw he q.tracking, rw he q.confirmation, rw he q.count); sound_at = sound-in (g.T.Holder.held c.args.lent.now) (g.met.T.Holder.places _ (g.met.T.Holder.sound_holds _ c.requires.0)) c.requires.0 c.args.c _ c.call_identity.ensures _ he _ c.find-f.ensures _ c.bill_place-p.ensures.0 _ c.bill_at-b.ensures }

pub returns-in_err-u : goal.returns-in_err-u
returns-in_err-u g c =
    let e : c.from_residual.result ≡ Err c.in_err-u.field-0.0 = search rules in
    let known =
    decided-in (g.T.Holder.held c.args.lent.now) (g.met.T.Holder.places _ (g.met.T.Holder.sound_holds _ c.requires.0)) c.requires.0 c.args.c _ c.call_identity.ensures _ c.header-h.ensures _ c.find-f.ensures _ c.bill_place-p.ensures.0 _ c.bill_at-b.ensures c.args.room _ c.decide.ensures in
    rw e (stopped-in g.T.Holder.holds g.T.Holder.held c.args.writes _ _ _ (g.met.T.Holder.sound_holds _ c.requires.0) _ (known.stops _ (c.in_err-u.was)))

pub change_of-change-requires : goal.change_of-change-requires
change_of-change-requires g c =
    let known =
    decided-in (g.T.Holder.held c.args.lent.now) (g.met.T.Holder.places _ (g.met.T.Holder.sound_holds _ c.requires.0)) c.requires.0 c.args.c _ c.call_identity.ensures _ c.header-h.ensures _ c.find-f.ensures _ c.bill_place-p.ensures.0 _ c.bill_at-b.ensures c.args.room _ c.decide.ensures in
    known.fits _ (c.in_ok-u.was)

pub put-requires : goal.put-requires
put-requires g c =
    let known =
    decided-in (g.T.Holder.held c.args.lent.now) (g.met.T.Holder.places _ (g.met.T.Holder.sound_holds _ c.requires.0)) c.requires.0 c.args.c _ c.call_identity.ensures _ c.header-h.ensures _ c.find-f.ensures _ c.bill_place-p.ensures.0 _ c.bill_at-b.ensures c.args.room _ c.decide.ensures in
    λ z. omega (arith, c.requires.1 z, known.wide _ (c.in_ok-u.was))

pub update-requires : goal.update-requires
update-requires g c =
    let place = c.bill_place-p in
    let xs = c.args.lent.now in
    let holds = g.met.T.Holder.sound_holds xs c.requires.0 in (
      holds,
      place.ensures.1,
      said-decided g.T.Holder.takes (g.met.T.Holder.takes_said None refl) (g.T.Holder.held xs) place.result (g.met.T.Holder.takes_read xs holds place.result place.ensures.1) _ c.bill_at-b.ensures c.args.room c.args.c
          c.header-h.result c.find-f.result _ c.decide.ensures _ (c.in_ok-u.was),
    )

pub returns : goal.returns
returns g c =
    let known =
    decided-in (g.T.Holder.held c.args.lent.now) (g.met.T.Holder.places _ (g.met.T.Holder.sound_holds _ c.requires.0)) c.requires.0 c.args.c _ c.call_identity.ensures _ c.header-h.ensures _ c.find-f.ensures _ c.bill_place-p.ensures.0 _ c.bill_at-b.ensures c.args.room _ c.decide.ensures in
    let change = c.change_of-change in
    rw (to_z-of_z w64 change.result (sfits_of change.type_inv), change.ensures)
    (carried-in g.T.Holder.holds g.T.Holder.held c.args.writes _ _ _ _ _ _ (known.done _ (c.in_ok-u.was)) _ _
    c.update.ensures.0 c.update.ensures.1 c.put.ensures)
