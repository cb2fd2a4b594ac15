-- `engine::file_groups::turn` meets its contract.
use mathlib.Core.Path.{refl}
use Rattle.std.specs.Prelude.{None}
use Rattle.ledger.specs.parts.Places.{header_of}
use Rattle.file.specs.parts.Walk.{group_at}
use Rattle.group.proofs.GroupWalk.{turn-calm, turn_on}
use Rattle.engine.proofs.LentCalls.{found-is, place_is, turn-here}
use Rattle.engine.proofs.LentRemovals.{said-turn}
use Rattle.engine.proofs.file_groups.turn.Goals as goal

pub find-f-requires : goal.find-f-requires
find-f-requires g c = (c.requires.holds.0, rw c.header-h.ensures c.requires.holds.1.count)

pub turn-x-requires : goal.turn-x-requires
turn-x-requires g c = record { in_file = c.requires.in_file; widths = (turn-calm (g.T.Holder.held c.args.lent.now) c.args.c c.requires.holds.1 c.args.g.now.file.now c.args.g.now.header c.args.g.now.records _ c.identity_at.ensures _ (found-is (g.T.Holder.held c.args.lent.now) _ _ c.header-h.ensures _ c.find-f.ensures) _ (place_is (g.T.Holder.held c.args.lent.now) _ _ c.header-h.ensures _ c.find-f.ensures _ c.bill_place-p.ensures.0) _ c.bill_at-b.ensures, c.requires.holds.1.few, rw c.header-h.ensures c.requires.holds.1.tracking, rw c.header-h.ensures c.requires.holds.1.confirmation, rw c.header-h.ensures c.requires.holds.1.today) }

pub update-requires : goal.update-requires
update-requires g c =
    let place = c.bill_place-p in (
      c.requires.holds.0,
      place.ensures.1,
      said-turn g.T.Holder.takes (g.met.T.Holder.takes_said None refl) (g.T.Holder.held c.args.lent.now) place.result (g.met.T.Holder.takes_read _ c.requires.holds.0 place.result place.ensures.1) _ c.bill_at-b.ensures c.turn-x.ensures,
    )

pub returns : goal.returns
returns g c =
    (c.update.ensures.0, turn_on (g.T.Holder.held c.args.lent.now) c.args.c c.requires.holds.1 c.args.g.now.file.now c.args.g.now.header c.args.g.now.records _ c.identity_at.ensures _ (found-is (g.T.Holder.held c.args.lent.now) _ _ c.header-h.ensures _ c.find-f.ensures) _ (place_is (g.T.Holder.held c.args.lent.now) _ _ c.header-h.ensures _ c.find-f.ensures _ c.bill_place-p.ensures.0) _ c.bill_at-b.ensures c.args.duplicate c.args.writes c.args.out.now _ c.turn-x.result (turn-here c.args.duplicate c.find-f.result c.bill_at-b.result (group_at c.args.g.now.file.now c.args.g.now.header c.args.g.now.records) c.args.c c.args.writes c.args.out.now _ c.turn-x.result c.header-h.result (header_of (g.T.Holder.held c.args.lent.now)) c.header-h.ensures c.turn-x.ensures) _ c.update.ensures.1)
