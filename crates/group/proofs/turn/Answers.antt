-- `group::turn` meets its contract: its parts answer by one verdict.
use mathlib.Core.Path.{sym, subst}
use native.Mathlib.Omega.{arith}
use Rattle.verdict.specs.parts.Dated.{Dated}
use Rattle.group.proofs.AcceptedLaws.{can-post, dated-by, came-small, went-small}
use Rattle.group.proofs.TurnParts.{verdict-now, turn-done}
use Rattle.group.proofs.turn.Goals as goal

pub verdict_at-v-requires : goal.verdict_at-v-requires
verdict_at-v-requires c =
    subst (Dated c.args.h.today) (sym c.sought_by.ensures)
    (dated-by c.args.h.today c.args.f c.args.b c.requires.widths.4 c.requires.widths.0)

pub add-tally-requires : goal.add-tally-requires
add-tally-requires c =
    let v = verdict-now _ _ c.args.f c.args.b _ _ _ c.sought_by.ensures c.verdict_at-v.ensures in
    (c.requires.widths.1, omega (arith, c.answer-size.ensures.2, c.requires.in_file, c.args.g.now.in_file), rw v (came-small _ _ _ _), rw v (went-small _ _ c.args.f c.args.b _ c.requires.widths.0))

pub post-bill-requires : goal.post-bill-requires
post-bill-requires c =
    rw (verdict-now _ _ c.args.f c.args.b _ _ _ c.sought_by.ensures c.verdict_at-v.ensures) (can-post _ _ c.args.f c.args.b _ c.requires.widths.0)

pub returns : goal.returns
returns c =
    turn-done c.args.out.now _ c.args.writes c.args.c c.args.g.now.file.now c.args.g.now.header c.args.g.now.records c.args.duplicate c.args.h c.args.f c.args.b _ c.sup_at-sup.ensures _ (verdict-now _ _ c.args.f c.args.b _ _ _ c.sought_by.ensures c.verdict_at-v.ensures) _ c.numbered.ensures _ c.answer-size.ensures.1 c.answer-size.ensures.0 _ c.add-tally.ensures _ c.ids_used.ensures.0 _ c.post-bill.ensures
