-- `table::write` meets its contract: four writes, one after the other, each where the one before ended.
use mathlib.Core.Path.{ap, ◌∙◌}
use native.Mathlib.Omega.{arith}
use lib.ListN.{take}
use Rattle.ledger.specs.declared.LedgerHeader.{LedgerHeader}
use Rattle.rules.specs.Lists.{every}
use Rattle.ledger.specs.Books.{small_charge}
use Rattle.table.proofs.TableLaws.{table-by}
use Rattle.table.proofs.write.Goals as goal

pub header-h-requires : goal.header-h-requires
header-h-requires g c = c.requires.0

pub put_lines-end-requires : goal.put_lines-end-requires
put_lines-end-requires g c =
    let l = g.T.Holder.held c.args.lent.now in
    let e = ap (λ (h : LedgerHeader). h.count) c.header-h.ensures in
    (c.requires.0, omega (arith, e, c.requires.1), omega (arith, e, c.requires.1))

pub total-total-requires : goal.total-total-requires
total-total-requires g c =
    let l = g.T.Holder.held c.args.lent.now in
    let e = c.header-h.ensures in
    (c.requires.0, omega (arith, ap (λ (h : LedgerHeader). h.count) e, c.requires.1), ap (λ (h : LedgerHeader). every small_charge (take h.count l.bills)) e ∙ c.requires.2)

pub put_total-requires : goal.put_total-requires
put_total-requires g c =
    omega (arith, c.put_lines-end.ensures.0, ap (λ (h : LedgerHeader). h.count) c.header-h.ensures, c.requires.1)

pub put_stop-requires : goal.put_stop-requires
put_stop-requires g c =
    omega (arith, c.put_lines-end.ensures.0, ap (λ (h : LedgerHeader). h.count) c.header-h.ensures, c.requires.1)

pub returns : goal.returns
returns g c =
    let t =
    table-by (g.T.Holder.held c.args.lent.now) c.args.stopped (c.requires.1) (g.met.T.Holder.places _ c.requires.0) c.args.out.now _ c.header-h.ensures _ _ _ _ _ _ _
    c.put_heading.ensures c.put_lines-end.ensures.0 c.put_lines-end.ensures.1 c.total-total.ensures c.put_total.ensures
    c.put_stop.ensures.answer c.put_stop.ensures.written in record { answer = t.long; written = t.bytes; at_most = t.small }
