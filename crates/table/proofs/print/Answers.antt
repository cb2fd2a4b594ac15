-- `table::print` meets its contract: each return is a case of the answer.
use mathlib.Core.Path.{sym, ◌∙◌}
use native.Mathlib.Omega.{arith}
use Rattle.ledger.proofs.SoundLaws.{ledger-count, ledger-small}
use Rattle.table.proofs.TableLaws.{prints-unsound, prints-none, prints}
use Rattle.table.proofs.print.Goals as goal

pub returns-then-not-sound : goal.returns-then-not-sound
returns-then-not-sound g c = let e = prints-unsound (g.T.Holder.held c.args.lent.now) c.args.stopped c.args.out.now (sym c.sound.ensures ∙ c.if-not-sound.true) in record { answer = e.0; written = e.1 }

pub returns-then-out-lt-TABLE_ROOM : goal.returns-then-out-lt-TABLE_ROOM
returns-then-out-lt-TABLE_ROOM g c = let e = prints-none (g.T.Holder.held c.args.lent.now) c.args.stopped c.args.out.now (sym c.sound.ensures ∙ c.if-not-sound.false) (omega (arith, c.if-out-lt-TABLE_ROOM.true)) in record { answer = e.0; written = e.1 }

pub write-requires : goal.write-requires
write-requires g c =
    let l = g.T.Holder.held c.args.lent.now in
    let s = sym c.sound.ensures ∙ c.if-not-sound.false in
    (g.met.T.Holder.sound_holds _ s, ledger-count l s, ledger-small l s, c.if-out-lt-TABLE_ROOM.false)

pub returns : goal.returns
returns g c = let e = prints (g.T.Holder.held c.args.lent.now) c.args.stopped c.args.out.now (sym c.sound.ensures ∙ c.if-not-sound.false) _ _ c.if-out-lt-TABLE_ROOM.false c.write.ensures.answer c.write.ensures.written in record { answer = e.0; written = e.1 }
