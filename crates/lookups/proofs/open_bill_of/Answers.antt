-- `lookups::open_bill_of` meets its contract: each return is a case of the answer.
use mathlib.Core.Path.{sym, ap, ◌∙◌}
use native.Mathlib.Omega.{arith}
use lib.ListN.{take}
use Rattle.ledger.specs.declared.LedgerHeader.{LedgerHeader}
use Rattle.ledger.proofs.SoundLaws.{ledger-count}
use Rattle.lookups.specs.parts.Walk.{none_due, due_after, place_due}
use Rattle.lookups.proofs.OpenLaws.{open-unsound, open-wide, open-walked}
use Rattle.lookups.proofs.open_bill_of.Goals as goal

pub returns-then-not-sound : goal.returns-then-not-sound
returns-then-not-sound g c = open-unsound _ _ (sym c.sound.ensures ∙ c.if-not-sound.true)

pub returns-then-account-ge-ACCOUNT_END : goal.returns-then-account-ge-ACCOUNT_END
returns-then-account-ge-ACCOUNT_END g c = open-wide _ _ (sym c.sound.ensures ∙ c.if-not-sound.false) c.if-account-ge-ACCOUNT_END.true

pub header-h-requires : goal.header-h-requires
header-h-requires g c = g.met.T.Holder.sound_holds _ (sym c.sound.ensures ∙ c.if-not-sound.false)

pub due_first-first-requires : goal.due_first-first-requires
due_first-first-requires g c =
    let s = sym c.sound.ensures ∙ c.if-not-sound.false in
    (g.met.T.Holder.sound_holds _ s, omega (arith, ap (λ (h : LedgerHeader). h.count) c.header-h.ensures, ledger-count (g.T.Holder.held c.args.lent.now) s))

pub returns : goal.returns
returns g c =
    let l = g.T.Holder.held c.args.lent.now in
    let account = c.args.account in
    c.place_due.ensures
    ∙ ap place_due c.due_first-first.ensures
    ∙ ap (λ (h : LedgerHeader). place_due (due_after account h.today 0 none_due (take h.count l.bills))) c.header-h.ensures
    ∙ open-walked l account (sym c.sound.ensures ∙ c.if-not-sound.false) c.if-account-ge-ACCOUNT_END.false
