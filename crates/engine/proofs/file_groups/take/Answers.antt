-- `engine::file_groups::take` meets its contract. The invariant is `Walk` of the ledger that is held.
use Prim.Native.Nat.{◌≤◌, ◌<◌}
use mathlib.Core.Path.{sym, ◌∙◌}
use mathlib.Core.Bool.{false}
use native.Mathlib.Omega.{arith}
use lib.Seq.{length-take-le, get_or-take}
use Rattle.group.proofs.GroupWalk.{walk_start, walk-detail, walk_fine, walk-room, walk_turn, walk_end}
use Rattle.engine.proofs.file_groups.take.Goals as goal
use Rattle.engine.proofs.file_groups.take.Goals.{then-header_at, else-header_at}

pub loop-header-init : goal.loop-header-init
loop-header-init g c = rw c.none-c.ensures (record { holds = c.requires.holds.0; walk = walk_start c.args.s.now c.args.n (g.T.Holder.held c.args.lent.now) c.args.writes c.args.out.now (g.met.T.Holder.places _ c.requires.holds.0) c.requires.holds.1 })

pub turn-c-requires : goal.turn-c-requires
turn-c-requires g c =
    let e = sym c.header_at.ensures ∙ c.if-header_at.true in
    let h : c.loop-header.header < c.args.n = omega (arith, length-take-le c.args.n c.marks-marks.result (omega (arith, c.marks-marks.type_inv))) in
    record { in_file = (c.requires.file_fits.0, walk-room _ _ _ _ _ _ _ _ _ c.loop-header.invariant.walk h e c.requires.file_fits.2); holds = (c.loop-header.invariant.holds, walk_fine _ _ _ _ _ _ _ _ _ c.loop-header.invariant.walk h e c.requires.file_fits.0) }

pub loop-header-preserved : goal.loop-header-preserved
loop-header-preserved g c =
    let h : c.loop-header.header < c.args.n = omega (arith, length-take-le c.args.n c.marks-marks.result (omega (arith, c.marks-marks.type_inv))) in
    let m = get_or-take c.args.n c.marks-marks.result c.loop-header.header false h ∙ c.marks-marks.ensures.0 c.loop-header.header h in
    elim c.if-header_at.branch [
      | then-header_at w ↦
          let e = sym c.header_at.ensures ∙ w.if-header_at.true in
          rw (w.lent-is, w.out-is, w.c-is) (record { holds = w.turn-c.ensures.0; walk = walk_turn _ _ _ _ _ _ _ _ _ c.loop-header.invariant.walk h e c.requires.file_fits.1 _ m c.requires.file_fits.2 _ _ _ w.turn-c.ensures.1 })
      | else-header_at w ↦
          rw (w.lent-is, w.out-is, w.c-is) (record { holds = c.loop-header.invariant.holds; walk = walk-detail _ _ _ _ _ _ _ _ _ c.loop-header.invariant.walk h (sym c.header_at.ensures ∙ w.if-header_at.false) })
    ]

pub returns : goal.returns
returns g c =
    let h : c.args.n ≤ c.loop-header.header = omega (arith, length-take-le c.args.n c.marks-marks.result (omega (arith, c.marks-marks.type_inv))) in
    (c.loop-header.invariant.holds, walk_end _ _ _ _ _ _ _ _ _ c.loop-header.invariant.walk h c.requires.file_fits.0)
