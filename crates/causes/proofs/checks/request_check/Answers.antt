-- `causes::checks::request_check` meets its contract, cause by cause.
use mathlib.Core.Path.{sym, ◌∙◌}
use borrow.Author.Tests.{lt-ltb, le-ltb}
use Rattle.rules.proofs.RuleLaws.{first-stop, first-clear}
use Rattle.units.proofs.DateOrder.{date-lt}
use Rattle.causes.specs.Causes.{request_causes}
use Rattle.std.proofs.Common.{rules}
use Rattle.causes.proofs.checks.request_check.Goals as goal

pub returns-then-not-good_request : goal.returns-then-not-good_request
unfolding request_causes
returns-then-not-good_request c = rw (sym c.good_request.ensures ∙ c.if-not-good_request.true)

pub returns-then-room-lt-NOTICE_SIZE : goal.returns-then-room-lt-NOTICE_SIZE
unfolding request_causes
returns-then-room-lt-NOTICE_SIZE c = rw (sym c.good_request.ensures ∙ c.if-not-good_request.false, lt-ltb _ _ c.if-room-lt-NOTICE_SIZE.true)

pub returns-then-lt : goal.returns-then-lt
unfolding request_causes
returns-then-lt c = rw (sym c.good_request.ensures ∙ c.if-not-good_request.false, le-ltb _ _ c.if-room-lt-NOTICE_SIZE.false, sym (date-lt c.args.r.scheduled.0 c.args.h.today.0) ∙ sym c.lt.ensures ∙ c.if-lt.true)

pub returns-in_err-bill_check : goal.returns-in_err-bill_check
unfolding request_causes
returns-in_err-bill_check c =
    -- past cause 9 what is left is the bill's causes, and 12
    rw (sym c.good_request.ensures ∙ c.if-not-good_request.false, le-ltb _ _ c.if-room-lt-NOTICE_SIZE.false, sym (date-lt c.args.r.scheduled.0 c.args.h.today.0) ∙ sym c.lt.ensures ∙ c.if-lt.false, first-stop _ _ (sym c.bill_check.ensures ∙ c.in_err-bill_check.was)) (search rules)

pub returns-then-lacks : goal.returns-then-lacks
unfolding request_causes
returns-then-lacks c =
    -- past cause 9 what is left is the bill's causes, and 12
    rw (sym c.good_request.ensures ∙ c.if-not-good_request.false, le-ltb _ _ c.if-room-lt-NOTICE_SIZE.false, sym (date-lt c.args.r.scheduled.0 c.args.h.today.0) ∙ sym c.lt.ensures ∙ c.if-lt.false, first-clear _ _ (sym c.bill_check.ensures ∙ c.in_ok-bill_check.was), sym c.lacks.ensures ∙ c.if-lacks.true)

pub returns : goal.returns
unfolding request_causes
returns c =
    -- past cause 9 what is left is the bill's causes, and 12
    rw (sym c.good_request.ensures ∙ c.if-not-good_request.false, le-ltb _ _ c.if-room-lt-NOTICE_SIZE.false, sym (date-lt c.args.r.scheduled.0 c.args.h.today.0) ∙ sym c.lt.ensures ∙ c.if-lt.false, first-clear _ _ (sym c.bill_check.ensures ∙ c.in_ok-bill_check.was), sym c.lacks.ensures ∙ c.if-lacks.false)
