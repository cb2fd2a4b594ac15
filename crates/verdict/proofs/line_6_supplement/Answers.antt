-- `verdict::line_6_supplement` meets its contract: each test is a rule's condition.
use mathlib.Core.Path.{sym, ◌∙◌}
use borrow.Author.Tests.{eq-eqb, ne_eqb}
use Rattle.fields.specs.Digits.{digits}
use Rattle.verdict.specs.Lines.{line6}
use Rattle.verdict.proofs.DatedLaws.{dated-billing, dated-removal, past-dates}
use Rattle.verdict.proofs.line_6_supplement.Goals as goal

pub returns-then-cancelled : goal.returns-then-cancelled
unfolding line6
returns-then-cancelled c = rw c.if-cancelled.true

pub returns-then-is_open : goal.returns-then-is_open
unfolding line6
returns-then-is_open c = rw (sym c.is_open.ensures ∙ c.if-is_open.true, c.if-cancelled.false)

pub is_year_past-requires : goal.is_year_past-requires
is_year_past-requires c = dated-billing c.args.t c.requires.1

pub returns-then-is_year_past : goal.returns-then-is_year_past
unfolding line6
returns-then-is_year_past c =
    rw (
      sym c.is_open.ensures ∙ c.if-is_open.false,
      c.if-cancelled.false,
      sym c.is_year_past.ensures ∙ c.if-is_year_past.true,
    )

pub removed_long-requires : goal.removed_long-requires
removed_long-requires c =
    (c.requires.0, dated-removal c.args.t c.requires.1)

pub returns-then-removed_long : goal.returns-then-removed_long
unfolding line6
returns-then-removed_long c =
    rw (
      sym c.is_open.ensures ∙ c.if-is_open.false,
      c.if-cancelled.false,
      sym c.is_year_past.ensures ∙ c.if-is_year_past.false,
      sym c.removed_long.ensures ∙ c.if-removed_long.true,
    )

pub returns-then-not-holds_number : goal.returns-then-not-holds_number
unfolding digits
returns-then-not-holds_number c = rw (past-dates c.args.today c.args.r.now.header.now c.args.r.now.detail.now c.args.t (sym c.is_open.ensures ∙ c.if-is_open.false) c.if-cancelled.false (sym c.is_year_past.ensures ∙ c.if-is_year_past.false) (sym c.removed_long.ensures ∙ c.if-removed_long.false), sym c.holds_number.ensures ∙ c.if-not-holds_number.true)

pub returns-then-sequence-eq-LAST_SEQUENCE : goal.returns-then-sequence-eq-LAST_SEQUENCE
unfolding digits
returns-then-sequence-eq-LAST_SEQUENCE c =
    rw (past-dates c.args.today c.args.r.now.header.now c.args.r.now.detail.now c.args.t (sym c.is_open.ensures ∙ c.if-is_open.false) c.if-cancelled.false (sym c.is_year_past.ensures ∙ c.if-is_year_past.false) (sym c.removed_long.ensures ∙ c.if-removed_long.false), sym c.holds_number.ensures ∙ c.if-not-holds_number.false, eq-eqb _ _ c.if-sequence-eq-LAST_SEQUENCE.true)

pub returns : goal.returns
unfolding digits
returns c =
    rw (past-dates c.args.today c.args.r.now.header.now c.args.r.now.detail.now c.args.t (sym c.is_open.ensures ∙ c.if-is_open.false) c.if-cancelled.false (sym c.is_year_past.ensures ∙ c.if-is_year_past.false) (sym c.removed_long.ensures ∙ c.if-removed_long.false), sym c.holds_number.ensures ∙ c.if-not-holds_number.false, ne_eqb _ _ c.if-sequence-eq-LAST_SEQUENCE.false)
