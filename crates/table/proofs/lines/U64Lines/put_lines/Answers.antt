-- `table::lines::U64Lines::put_lines` meets its contract. The invariant: the lines of the first i bills are written.
use Prim.Native.Nat.{◌+◌, ◌≤◌}
use mathlib.Core.Path.{refl, ap, ◌∙◌}
use native.Mathlib.Omega.{arith}
use lib.ListN.{length, take}
use lib.Seq.{length-take-le}
use Rattle.fields.proofs.PutLaws.{put-nil}
use Rattle.words.specs.Layout.{ledger_of}
use Rattle.words.proofs.PartLaws.{places_of}
use Rattle.table.proofs.TableLaws.{lines-kept, line-in}
use Rattle.table.proofs.lines.U64Lines.put_lines.Goals as goal

pub loop-i-init : goal.loop-i-init
loop-i-init c = (refl, put-nil _ _)

pub loop-i-preserved : goal.loop-i-preserved
loop-i-preserved c =
    let l = c.loop-i in
    let bs = (ledger_of c.args.lent.now).bills in
    let k : c.args.n ≤ length bs = omega (arith, c.requires.1, places_of c.args.lent.now c.requires.0) in
    let w =
    line-in c.args.out.now c.args.at c.args.today bs c.args.n l.i l.out c.bill_at-b.result _ c.loop-i-test.true k
    (omega (arith, c.requires.2)) l.invariant.1 c.bill_at-b.ensures c.put_line.ensures in (
      ap length w
          ∙ lines-kept c.args.out.now c.args.at c.args.today (take c.args.n bs) (l.i + 1) (omega (arith, c.requires.2, length-take-le c.args.n bs k)),
      w,
    )
