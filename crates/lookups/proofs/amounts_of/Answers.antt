-- `lookups::amounts_of` meets its contract: each return is a case of the answer.
use Rattle.std.proofs.Common.{rules}
use Rattle.std.specs.Prelude.{None}
use mathlib.Core.Path.{◌≡◌, sym, ap, ◌∙◌}
use Rattle.rules.specs.declared.Cause.TheVariants.{NoSuchBill}
use native.Mathlib.Omega.{arith}
use Rattle.ledger.specs.declared.LedgerHeader.{LedgerHeader}
use Rattle.ledger.proofs.SoundLaws.{ledger-count}
use Rattle.lookups.proofs.AmountLaws.{amounts-unsound, amounts-wide, amounts-none, amounts-spot, amounts-at}
use Rattle.lookups.proofs.amounts_of.Goals as goal

pub returns-then-not-sound : goal.returns-then-not-sound
returns-then-not-sound g c = amounts-unsound (g.T.Holder.held c.args.lent.now) c.args.id (sym c.sound.ensures ∙ c.if-not-sound.true)

pub returns-then-not-good_identity : goal.returns-then-not-good_identity
returns-then-not-good_identity g c = amounts-wide (g.T.Holder.held c.args.lent.now) c.args.id (sym c.sound.ensures ∙ c.if-not-sound.false) (sym c.good_identity.ensures ∙ c.if-not-good_identity.true)

pub header-h-requires : goal.header-h-requires
header-h-requires g c = g.met.T.Holder.sound_holds _ (sym c.sound.ensures ∙ c.if-not-sound.false)

pub find-requires : goal.find-requires
find-requires g c =
    let s = sym c.sound.ensures ∙ c.if-not-sound.false in
    (g.met.T.Holder.sound_holds _ s, omega (arith, ap (λ (h : LedgerHeader). h.count) c.header-h.ensures, ledger-count (g.T.Holder.held c.args.lent.now) s))

pub returns-in_err-p : goal.returns-in_err-p
returns-in_err-p g c =
    let none : c.find.result ≡ None = rw c.in_err-p.was at c.ok_or.ensures.ok_part in
    let why : c.in_err-p.field-0.0 ≡ NoSuchBill = cc (c.in_err-p.was, rw none at c.ok_or.ensures.value) in
    rw (← amounts-none (g.T.Holder.held c.args.lent.now) c.args.id (sym c.sound.ensures ∙ c.if-not-sound.false) (sym c.good_identity.ensures ∙ c.if-not-good_identity.false) c.header-h.result c.header-h.ensures _ c.find.ensures none) (search (rules, why))

pub bill_at-b-requires : goal.bill_at-b-requires
bill_at-b-requires g c =
    let s = sym c.sound.ensures ∙ c.if-not-sound.false in
    let o = amounts-spot (g.T.Holder.held c.args.lent.now) c.args.id s (sym c.good_identity.ensures ∙ c.if-not-good_identity.false) c.header-h.result c.header-h.ensures _ c.find.ensures _ (rw c.in_ok-p.was at c.ok_or.ensures.ok_part) in
    (g.met.T.Holder.sound_holds _ s, omega (arith, o.below, ledger-count (g.T.Holder.held c.args.lent.now) s))

pub returns : goal.returns
returns g c =
    rw (c.counted.ensures, c.bill_at-b.ensures)
    (amounts-at (g.T.Holder.held c.args.lent.now) c.args.id (sym c.sound.ensures ∙ c.if-not-sound.false) (sym c.good_identity.ensures ∙ c.if-not-good_identity.false) c.header-h.result c.header-h.ensures _ c.find.ensures _ (rw c.in_ok-p.was at c.ok_or.ensures.ok_part))
