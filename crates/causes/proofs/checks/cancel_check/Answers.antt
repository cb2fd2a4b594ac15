-- `causes::checks::cancel_check` meets its contract, cause by cause.
use mathlib.Core.Path.{sym, ◌∙◌}
use borrow.Author.Tests.{lt-ltb, le-ltb}
use Rattle.causes.specs.Causes.{cancel_causes}
use Rattle.causes.proofs.checks.cancel_check.Goals as goal

pub returns-then-not-good_identity : goal.returns-then-not-good_identity
unfolding cancel_causes
returns-then-not-good_identity c = rw (sym c.good_identity.ensures ∙ c.if-not-good_identity.true)

pub returns-then-room-lt-NOTICE_SIZE : goal.returns-then-room-lt-NOTICE_SIZE
unfolding cancel_causes
returns-then-room-lt-NOTICE_SIZE c = rw (sym c.good_identity.ensures ∙ c.if-not-good_identity.false, lt-ltb _ _ c.if-room-lt-NOTICE_SIZE.true)

pub returns-in_default : goal.returns-in_default
unfolding cancel_causes
returns-in_default c = rw (sym c.good_identity.ensures ∙ c.if-not-good_identity.false, le-ltb _ _ c.if-room-lt-NOTICE_SIZE.false, c.in_default.is)

pub returns-then-cancelled : goal.returns-then-cancelled
unfolding cancel_causes
returns-then-cancelled c = rw (sym c.good_identity.ensures ∙ c.if-not-good_identity.false, le-ltb _ _ c.if-room-lt-NOTICE_SIZE.false, c.in-Some.is, c.if-cancelled.true)

pub returns-then-lacks : goal.returns-then-lacks
unfolding cancel_causes
returns-then-lacks c =
    rw (sym c.good_identity.ensures ∙ c.if-not-good_identity.false, le-ltb _ _ c.if-room-lt-NOTICE_SIZE.false, c.in-Some.is, c.if-cancelled.false, sym c.lacks.ensures ∙ c.if-lacks.true)

pub returns : goal.returns
unfolding cancel_causes
returns c =
    rw (sym c.good_identity.ensures ∙ c.if-not-good_identity.false, le-ltb _ _ c.if-room-lt-NOTICE_SIZE.false, c.in-Some.is, c.if-cancelled.false, sym c.lacks.ensures ∙ c.if-lacks.false)
