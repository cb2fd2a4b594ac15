-- `posted::table_of` meets its contract, whether a read failed or none did.
use native.Mathlib.Omega.{arith}
use Rattle.words.proofs.WordLaws.{sound-holds}
use Rattle.ledger.proofs.SoundLaws.{ledger-count, ledger-small}
use Rattle.posted.proofs.PostingLaws.{tables-none, tables}
use Rattle.posted.proofs.table_of.Goals as goal

pub returns-in_default : goal.returns-in_default
returns-in_default c = tables-none c.args.e _ _ _ _ c.in_default.is c.printed.ensures

pub write-length-requires : goal.write-length-requires
write-length-requires c =
    let s = rw c.in-Ok.is at c.requires.0 in
    (sound-holds _ s, ledger-count _ s, ledger-small _ s, omega (arith, c.requires.1))

pub returns : goal.returns
returns c =
    tables c.args.e _ _ _ _ _ _ _ c.in-Ok.is c.ends_bad-bad.ensures c.write-length.ensures.answer c.write-length.ensures.written c.printed-2.ensures
