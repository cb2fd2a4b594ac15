-- `engine::call::file_in` meets its contract, by the cause that was told.
use Rattle.std.proofs.Common.{rules, Err}
use mathlib.Core.Path.{◌≡◌, refl, ap, ◌∙◌}
use native.Mathlib.Omega.{arith}
use Rattle.ledger.specs.declared.LedgerHeader.{LedgerHeader}
use Rattle.rules.specs.Rules.{first}
use Rattle.group.proofs.ReadyLaws.{sound-ready}
use Rattle.causes.specs.Causes.{file_causes}
use Rattle.calls.proofs.FileCallLaws.{file-stops, file-short, file-done}
use Rattle.engine.proofs.LentCalls.{stopped-in, carried-in}
use Rattle.engine.proofs.call.file_in.Goals as goal

pub header-h-requires : goal.header-h-requires
header-h-requires g c = (g.met.T.Holder.sound_holds _ c.requires.0)

pub file_check-requires : goal.file_check-requires
file_check-requires g c = let r = sound-ready _ c.requires.0 in (rw c.header-h.ensures r.tracking, rw c.header-h.ensures r.confirmation)

pub returns-in_err-file_check : goal.returns-in_err-file_check
returns-in_err-file_check g c =
    let e : c.from_residual.result ≡ Err c.in_err-file_check.field-0.0 = search rules in
    rw e (stopped-in g.T.Holder.holds g.T.Holder.held c.args.writes _ _ _ (g.met.T.Holder.sound_holds _ c.requires.0) _ (file-stops (g.T.Holder.held c.args.lent.now) c.requires.0 c.args.s.now c.args.room _ (c.file_check.ensures ∙ ap (λ (t : LedgerHeader). first (file_causes c.args.s.now c.args.room t.tracking t.confirmation)) c.header-h.ensures) _ (c.in_err-file_check.was)))

pub take-c-requires : goal.take-c-requires
take-c-requires g c =
    let x = file-short (g.T.Holder.held c.args.lent.now) c.requires.0 c.args.s.now c.args.room _ (c.file_check.ensures ∙ ap (λ (t : LedgerHeader). first (file_causes c.args.s.now c.args.room t.tracking t.confirmation)) c.header-h.ensures) (c.in_ok-file_check.was) in record { file_fits = (omega (arith, x.0), omega arith, λ w. omega (arith, x.1, c.requires.1 w)); holds = ((g.met.T.Holder.sound_holds _ c.requires.0), sound-ready _ c.requires.0) }

pub cleared-requires : goal.cleared-requires
cleared-requires g c = (omega (arith, c.take-c.ensures.1.came), omega (arith, c.take-c.ensures.1.went))

pub returns : goal.returns
returns g c =
    rw c.cleared.ensures (carried-in g.T.Holder.holds g.T.Holder.held c.args.writes _ _ _ _ _ _ (file-done (g.T.Holder.held c.args.lent.now) c.requires.0 c.args.s.now c.args.room _ (c.file_check.ensures ∙ ap (λ (t : LedgerHeader). first (file_causes c.args.s.now c.args.room t.tracking t.confirmation)) c.header-h.ensures) (c.in_ok-file_check.was) _ _ _ _ _ c.take-c.ensures.1) _ _ c.take-c.ensures.0 refl c.take-c.ensures.1.bytes)
