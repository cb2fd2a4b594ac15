-- After each turn the output holds the lines of the bills so far.
use Prim.Native.Nat.{ℕ}
use mathlib.Core.Path.{refl, sym, ap, ◌∙◌}
use mathlib.Core.List.{List}
use native.Mathlib.Omega.{arith}
use lib.ListN.{take, get_or}
use Rattle.fields.specs.Put.{put}
use Rattle.fields.proofs.PutLaws.{put-nil}
use Rattle.ledger.specs.Bills.{blank_bill}
use Rattle.table.specs.Table.{line_of, lines_of}
use Rattle.table.proofs.TableLaws.{line-more}
use Rattle.table.proofs.lines.put_bills.Goals as goal

pub loop-b-init : goal.loop-b-init
loop-b-init c = (omega arith, refl, put-nil c.args.out.now c.args.at)

pub loop-b-preserved : goal.loop-b-preserved
loop-b-preserved c =
    let a = c.args in
    let l = c.loop-b in
    let so_far = put a.out.now a.at (lines_of a.today (take l.b-index a.bills.now)) in (
      omega arith,
      c.put_line.auto.out ∙ l.invariant.1,
      c.put_line.ensures
          ∙ ap (λ (o : List ℕ). put o l.end (line_of a.today (get_or a.bills.now l.b-index blank_bill))) l.invariant.2
          ∙ ap (λ (e : ℕ). put so_far e (line_of a.today (get_or a.bills.now l.b-index blank_bill))) l.invariant.0
          ∙ sym (line-more a.out.now a.at a.today a.bills.now l.b-index (omega arith) c.loop-b-test.true),
    )
