-- `verdict::prepay` meets its contract: the rules of line 8, then line 9, then line 10.
use native.Mathlib.Omega.{arith}
use mathlib.Core.Path.{sym, ◌∙◌}
use Rattle.verdict.specs.Lines.{line8, line9, line10, amounts_of}
use Rattle.rules.proofs.RuleLaws.{first-stop, first-clear}
use Rattle.fields.proofs.HoldLaws.{field_below}
use Rattle.verdict.proofs.prepay.Goals as goal
use Rattle.std.proofs.Common.{rules}

pub returns-in_default : goal.returns-in_default
unfolding line8
returns-in_default c = rw (sym c.number.ensures ∙ c.in_default.is)

pub returns-in_default-number : goal.returns-in_default-number
unfolding line8
returns-in_default-number c =
    rw (sym c.number.ensures ∙ c.in-Some.is, sym c.number-2.ensures ∙ c.in_default-number.is)

pub returns-in_default-number-2 : goal.returns-in_default-number-2
unfolding line8
returns-in_default-number-2 c =
    rw (
      sym c.number.ensures ∙ c.in-Some.is,
      sym c.number-2.ensures ∙ c.in-Some-number.is,
      sym c.number-3.ensures ∙ c.in_default-number-2.is,
    )

pub returns-in_err-line_9 : goal.returns-in_err-line_9
unfolding line8
returns-in_err-line_9 c =
    rw (
      sym c.number.ensures ∙ c.in-Some.is,
      sym c.number-2.ensures ∙ c.in-Some-number.is,
      sym c.number-3.ensures ∙ c.in-Some-number-2.is,
      first-stop _ _ (sym c.line_9.ensures ∙ c.in_err-line_9.was),
    )
    (search rules)

pub add-requires : goal.add-requires
add-requires c =
    omega (
      arith,
      field_below _ 233 13 _ (omega (arith, c.args.r.now.whole.1)) (sym c.number-2.ensures ∙ c.in-Some-number.is),
      field_below _ 246 13 _ (omega (arith, c.args.r.now.whole.1)) (sym c.number-3.ensures ∙ c.in-Some-number-2.is),
    )

pub returns-then-ne : goal.returns-then-ne
unfolding line8 line10
returns-then-ne c =
    rw (
      sym c.number.ensures ∙ c.in-Some.is,
      sym c.number-2.ensures ∙ c.in-Some-number.is,
      sym c.number-3.ensures ∙ c.in-Some-number-2.is,
      first-clear (line9 _ _ _) _ (sym c.line_9.ensures ∙ c.in_ok-line_9.was),
      sym c.add.ensures,
      sym c.ne.ensures ∙ c.if-ne.true,
    )

pub returns : goal.returns
unfolding line8 line10 amounts_of
returns c =
    rw (
      sym c.number.ensures ∙ c.in-Some.is,
      sym c.number-2.ensures ∙ c.in-Some-number.is,
      sym c.number-3.ensures ∙ c.in-Some-number-2.is,
      first-clear (line9 _ _ _) _ (sym c.line_9.ensures ∙ c.in_ok-line_9.was),
      sym c.add.ensures,
      sym c.ne.ensures ∙ c.if-ne.false,
      ← c.requires,
    )
