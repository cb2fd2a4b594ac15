-- `causes::checks::bill_check` meets its contract, cause by cause.
use mathlib.Core.Path.{sym, ap, ◌∙◌}
use mathlib.Core.Bool.{not}
use borrow.Author.Tests.{le-leb, lt-leb, eq-eqb, ne_eqb}
use Rattle.causes.specs.Causes.{bill_causes}
use Rattle.causes.proofs.CauseLaws.{known-past-6}
use Rattle.causes.proofs.checks.bill_check.Goals as goal

pub returns-then-held-ge-PLACES : goal.returns-then-held-ge-PLACES
unfolding bill_causes
returns-then-held-ge-PLACES c = rw (c.in_default.is, le-leb _ _ c.if-held-ge-PLACES.true)

pub returns-in_default : goal.returns-in_default
unfolding bill_causes
returns-in_default c = rw (c.in_default.is, lt-leb _ _ c.if-held-ge-PLACES.false)

pub returns-then-cancelled : goal.returns-then-cancelled
unfolding bill_causes
returns-then-cancelled c = rw (c.in-Some.is, c.if-cancelled.true)

pub returns-then-not-same_code-r : goal.returns-then-not-same_code-r
unfolding bill_causes
returns-then-not-same_code-r c = rw (c.in-Some.is, c.if-cancelled.false, rw (c.same_code.ensures, c.from.ensures) at c.if-not-same_code-r.true)

pub returns-then-eq : goal.returns-then-eq
returns-then-eq c =
    -- past cause 6 what is left is 7 and 8
    let past =
    known-past-6 c.args.r c.args.held c.args.b c.in-Some.t c.in-Some.is c.if-cancelled.false (ap not (rw (c.same_code.ensures, c.from.ensures) at c.if-not-same_code-r.false)) in
    rw (past, sym c.eq.ensures ∙ c.if-eq.true)

pub returns-then-t-eq-LAST_SEQUENCE : goal.returns-then-t-eq-LAST_SEQUENCE
returns-then-t-eq-LAST_SEQUENCE c =
    -- past cause 6 what is left is 7 and 8
    let past =
    known-past-6 c.args.r c.args.held c.args.b c.in-Some.t c.in-Some.is c.if-cancelled.false (ap not (rw (c.same_code.ensures, c.from.ensures) at c.if-not-same_code-r.false)) in
    rw (past, sym c.eq.ensures ∙ c.if-eq.false, eq-eqb _ _ c.if-t-eq-LAST_SEQUENCE.true)

pub returns : goal.returns
returns c =
    -- past cause 6 what is left is 7 and 8
    let past =
    known-past-6 c.args.r c.args.held c.args.b c.in-Some.t c.in-Some.is c.if-cancelled.false (ap not (rw (c.same_code.ensures, c.from.ensures) at c.if-not-same_code-r.false)) in
    rw (past, sym c.eq.ensures ∙ c.if-eq.false, ne_eqb _ _ c.if-t-eq-LAST_SEQUENCE.false)
