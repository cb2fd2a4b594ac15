-- `boundary::make` meets its contract: a fresh on words of another length, a fresh, any other call on words that hold no sound ledger, and on words that do.
use mathlib.Core.Path.{sym, ◌∙◌}
use lib.ListN.{length}
use borrow.Author.Tests.{eq-eqb}
use native.Mathlib.Omega.{arith}
use Rattle.boundary.proofs.GiveLaws.{no-fresh, no-fresh-taken, fresh-short, fresh-leaves, unsound-leaves, sound-leaves}
use Rattle.boundary.proofs.make.Goals as goal

pub returns-then-ledger-ne-LEDGER_SIZE : goal.returns-then-ledger-ne-LEDGER_SIZE
returns-then-ledger-ne-LEDGER_SIZE c = rw c.in-Fresh.is (fresh-short _ _ _ c.if-ledger-ne-LEDGER_SIZE.true)

pub fresh_in-requires : goal.fresh_in-requires
fresh_in-requires c = eq-eqb _ _ c.if-ledger-ne-LEDGER_SIZE.false

pub returns-in-Fresh : goal.returns-in-Fresh
returns-in-Fresh c = rw c.in-Fresh.is (fresh-leaves _ _ c.if-ledger-ne-LEDGER_SIZE.false _ _ _ c.fresh_in.ensures.0 c.fresh_in.ensures.1 c.fresh_in.ensures.2)

pub returns-then-not-sound : goal.returns-then-not-sound
returns-then-not-sound c = unsound-leaves (length c.args.out.now) c.args.ledger.now c.args.out.now c.args.s.now c.args.body (no-fresh c.args.body c.in_default.not-Fresh) (sym c.sound.ensures ∙ c.if-not-sound.true)

pub entry-requires : goal.entry-requires
entry-requires c = record { is_sound = (sym c.sound.ensures ∙ c.if-not-sound.false, no-fresh-taken c.args.body (no-fresh c.args.body c.in_default.not-Fresh)); has_room = λ _. omega arith }

pub returns : goal.returns
returns c =
    sound-leaves (length c.args.out.now) c.args.ledger.now c.args.out.now c.args.s.now c.args.body (no-fresh c.args.body c.in_default.not-Fresh) (sym c.sound.ensures ∙ c.if-not-sound.false) _ _ _ c.entry.ensures
