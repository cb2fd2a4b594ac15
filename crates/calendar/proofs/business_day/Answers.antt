-- `calendar::business_day` meets its contract, cause by cause.
use mathlib.Core.Path.{◌≡◌, sym, ◌∙◌}
use native.Mathlib.Omega.{arith}
use borrow.Author.Tests.{lt-ltb, le-ltb}
use Rattle.calendar.specs.BusinessDays.{most_further, further_day, further_causes}
use Rattle.std.proofs.Common.{rules}
use Rattle.std.specs.Prelude.{Some, None}
use Rattle.rules.specs.declared.Cause.TheVariants.{NoSuchDay}
use Rattle.calendar.proofs.business_day.Goals as goal

pub returns-then-not-valid : goal.returns-then-not-valid
unfolding further_day further_causes
returns-then-not-valid c = rw (sym c.valid.ensures ∙ c.if-not-valid.true)

pub returns-then-number-gt-MOST_FURTHER : goal.returns-then-number-gt-MOST_FURTHER
unfolding further_day further_causes
returns-then-number-gt-MOST_FURTHER c = rw ((sym c.valid.ensures ∙ c.if-not-valid.false), lt-ltb most_further c.args.number (omega arith))

pub returns-then-not-good_holidays : goal.returns-then-not-good_holidays
unfolding further_day further_causes
returns-then-not-good_holidays c =
    rw ((sym c.valid.ensures ∙ c.if-not-valid.false), le-ltb most_further c.args.number (omega arith), sym c.good_holidays.ensures ∙ c.if-not-good_holidays.true)

pub returns : goal.returns
unfolding further_day further_causes
returns c =
    let found : c.further.result ≡ Some c.in_ok-d.d = rw c.in_ok-d.was at c.ok_or.ensures.ok_part in
    rw (sym c.valid.ensures ∙ c.if-not-valid.false, le-ltb most_further c.args.number (omega arith), sym c.good_holidays.ensures ∙ c.if-not-good_holidays.false, sym c.further.ensures ∙ found)

pub returns-in_err-d : goal.returns-in_err-d
unfolding further_day further_causes
returns-in_err-d c =
    let none : c.further.result ≡ None = rw c.in_err-d.was at c.ok_or.ensures.ok_part in
    let why : c.in_err-d.field-0.0 ≡ NoSuchDay = cc (c.in_err-d.was, rw none at c.ok_or.ensures.value) in
    rw (sym c.valid.ensures ∙ c.if-not-valid.false, le-ltb most_further c.args.number (omega arith), sym c.good_holidays.ensures ∙ c.if-not-good_holidays.false, sym c.further.ensures ∙ none) (search (rules, why))
