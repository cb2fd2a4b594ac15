-- `records::record_at` meets its contract: the bytes lent are those of the record.
use Rattle.records.proofs.LayoutLaws.{lent-record, long-record}
use Rattle.records.proofs.record_at.Goals as goal

pub returns : goal.returns
returns c =
    let e = lent-record c.args.s.now c.args.i in
    (e, rw e (long-record c.args.s.now c.args.i c.requires))
