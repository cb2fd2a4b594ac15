-- `trace_lines::group_lines::put_group_lines` meets its contract.
use Prim.Native.Nat.{◌<◌}
use mathlib.Core.Path.{sym, ap, ◌∙◌}
use native.Mathlib.Omega.{arith}
use lib.ListN.{length}
use Rattle.file.proofs.FileLaws.{leading-header}
use Rattle.trace_lines.proofs.LinesWalk.{walk_start, walk-detail, walk-header, walk_end}
use Rattle.trace_lines.proofs.AnswersRead.{lined}
use Rattle.trace_lines.specs.declared.group_lines.Reached.{Reached}
use Rattle.trace_lines.proofs.group_lines.put_group_lines.Goals as goal
use Rattle.trace_lines.proofs.group_lines.put_group_lines.Goals.{then-header_at, else-header_at}

pub loop-i-init : goal.loop-i-init
loop-i-init c = walk_start c.args.s.now c.args.sent.now c.args.n c.args.out.now c.args.at (omega (arith, c.requires))

pub group_turn-r-requires : goal.group_turn-r-requires
group_turn-r-requires c =
    let w = c.loop-i.invariant in
    let e = sym c.header_at.ensures ∙ c.if-header_at.true in
    let r = leading-header c.args.s.now c.loop-i.i c.args.n (omega arith) e in record { whole = (omega (arith, c.requires.whole), omega (arith, w.room)); has_room = omega (arith, w.few, w.long, w.within, c.requires.has_room) }

pub loop-i-preserved : goal.loop-i-preserved
loop-i-preserved c =
    let s = c.args.s.now in
    let n = c.args.n in
    let i = c.loop-i.i in
    let h : i < n = omega arith in
    let q = c.loop-i.invariant in
    elim c.if-header_at.branch [
      | then-header_at w ↦
          let e = sym c.header_at.ensures ∙ w.if-header_at.true in
          let l = ap length w.out-is ∙ w.group_turn-r.auto.out in
          walk-header s _ n _ _ _ _ _ i q _ _ _ h e l (w.out-is ∙ w.group_turn-r.ensures.0) (ap (λ (r : Reached). r.end) w.r-is ∙ w.group_turn-r.ensures.1) (ap (λ (r : Reached). r.from) w.r-is ∙ w.group_turn-r.ensures.2)
      | else-header_at w ↦ rw (w.out-is, w.r-is) (walk-detail s _ n _ _ _ _ _ i q h (sym c.header_at.ensures ∙ w.if-header_at.false))
    ]

pub returns : goal.returns
returns c =
    let x = walk_end _ _ _ _ _ _ _ _ _ c.loop-i.invariant (omega arith) in record { lined = lined c.args.s.now _ _ c.args.n c.args.at _ _ (omega (arith, c.requires)) x.0 x.1; written = x }
