-- `report::post_table` meets its contract: the run makes the whole journal, and the table is that of its end.
use mathlib.Core.Path.{◌∙◌}
use mathlib.Core.Bool.{false}
use Rattle.entries.proofs.RanLaws.{journal-books, journal-bad}
use Rattle.words.proofs.WordLaws.{sound-holds}
use Rattle.ledger.proofs.SoundLaws.{ledger-count, ledger-small}
use Rattle.report.proofs.ReportLaws.{table_is, refused, posted}
use Rattle.report.proofs.post_table.Goals as goal

pub returns-then-out-lt-TABLE_ROOM : goal.returns-then-out-lt-TABLE_ROOM
returns-then-out-lt-TABLE_ROOM c =
    refused _ _ _ (rw c.is_bad.ensures at c.ends_bad-stopped.ensures ∙ (journal-bad false _ _ _ _ _ _ c.run-r.ensures c.start.ensures.2 c.run-r.ensures.full)) c.if-out-lt-TABLE_ROOM.true

pub write-n-requires : goal.write-n-requires
write-n-requires c =
    let s = c.run-r.ensures.made.sound in
    (sound-holds _ s, ledger-count _ s, ledger-small _ s, c.if-out-lt-TABLE_ROOM.false)

pub returns : goal.returns
returns c =
    posted _ _ _ (rw c.is_bad.ensures at c.ends_bad-stopped.ensures ∙ (journal-bad false _ _ _ _ _ _ c.run-r.ensures c.start.ensures.2 c.run-r.ensures.full)) _ _ _ c.if-out-lt-TABLE_ROOM.false (table_is _ _ _ (journal-books false _ _ _ _ _ _ c.run-r.ensures c.start.ensures.2 c.run-r.ensures.full) (rw c.is_bad.ensures at c.ends_bad-stopped.ensures ∙ (journal-bad false _ _ _ _ _ _ c.run-r.ensures c.start.ensures.2 c.run-r.ensures.full))) c.write-n.ensures.answer c.write-n.ensures.written c.write-n.ensures.at_most
