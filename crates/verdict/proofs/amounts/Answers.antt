-- `verdict::amounts` meets its contract: the rules of line 7, then lines 8 to 10 of the bill's product.
use mathlib.Core.Path.{sym, ◌∙◌}
use mathlib.Core.List.{append-nil}
use Rattle.verdict.specs.Lines.{line7, line8, line9, line10, amounts_of}
use Rattle.verdict.proofs.amounts.Goals as goal

pub returns-in_default : goal.returns-in_default
unfolding line7
returns-in_default c = rw (sym c.number.ensures ∙ c.in_default.is)

pub returns-then-ne : goal.returns-then-ne
unfolding line7
returns-then-ne c =
    rw (sym c.number.ensures ∙ c.in-Some.is, sym c.ne.ensures ∙ c.if-ne.true)

pub returns-in_default-number : goal.returns-in_default-number
unfolding line7
returns-in_default-number c =
    rw (
      sym c.number.ensures ∙ c.in-Some.is,
      sym c.ne.ensures ∙ c.if-ne.false,
      sym c.number-2.ensures ∙ c.in_default-number.is,
    )

pub returns-then-is_prepay : goal.returns-then-is_prepay
unfolding line7
returns-then-is_prepay c =
    rw (
      sym c.number.ensures ∙ c.in-Some.is,
      sym c.ne.ensures ∙ c.if-ne.false,
      sym c.number-2.ensures ∙ c.in-Some-number.is,
      sym c.is_prepay.ensures ∙ c.if-is_prepay.true,
    ) c.prepay.ensures

pub returns : goal.returns
unfolding line7 line8 line10 amounts_of
returns c =
    rw (
      sym c.number.ensures ∙ c.in-Some.is,
      sym c.ne.ensures ∙ c.if-ne.false,
      sym c.number-2.ensures ∙ c.in-Some-number.is,
      sym c.is_prepay.ensures ∙ c.if-is_prepay.false,
      append-nil (line9 _ _ _),
    ) c.bill_ready.ensures
