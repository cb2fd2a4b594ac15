-- `verdict::line_9` meets its contract: each reading and each sum is a rule's condition.
use native.Mathlib.Omega.{arith}
use mathlib.Core.Path.{sym, ◌∙◌}
use Rattle.fields.specs.Field.{field_of}
use Rattle.records.specs.Layout.{tier_rate_in}
use Rattle.records.proofs.TierLaws.{consumptions-fit, charges-fit}
use Rattle.verdict.specs.Lines.{line9}
use Rattle.verdict.proofs.RuleLaws.{rate-good, rate-bad, sum-misses}
use Rattle.verdict.proofs.line_9.Goals as goal

-- the rate
pub returns-in_default : goal.returns-in_default
unfolding line9
returns-in_default c = rw (rate-bad (field_of (tier_rate_in c.args.r.now.detail.now 88)) (sym c.tier_1_rate.ensures ∙ c.in_default.is))

-- the four consumptions: their sum fits, and is what was added
pub returns-in_default-tier_consumptions : goal.returns-in_default-tier_consumptions
unfolding line9
returns-in_default-tier_consumptions c =
    rw (
      rate-good (field_of (tier_rate_in c.args.r.now.detail.now 88)) (sym c.tier_1_rate.ensures ∙ c.in-Some.is),
      sym c.tier_consumptions.ensures ∙ c.in_default-tier_consumptions.is,
    )

pub sum-requires : goal.sum-requires
sum-requires c = omega (arith, consumptions-fit _ (omega (arith, c.args.r.now.whole.1)) (sym c.tier_consumptions.ensures ∙ c.in-Some-tier_consumptions.is))

pub returns-then-ne : goal.returns-then-ne
unfolding line9
returns-then-ne c =
    rw (
      rate-good (field_of (tier_rate_in c.args.r.now.detail.now 88)) (sym c.tier_1_rate.ensures ∙ c.in-Some.is),
      sum-misses c.args.consumption.0 (sym c.tier_consumptions.ensures ∙ c.in-Some-tier_consumptions.is) c.sum.ensures,
      sym c.ne.ensures ∙ c.if-ne.true,
    )

-- the four charges
pub returns-in_default-tier_charges : goal.returns-in_default-tier_charges
unfolding line9
returns-in_default-tier_charges c =
    rw (
      rate-good (field_of (tier_rate_in c.args.r.now.detail.now 88)) (sym c.tier_1_rate.ensures ∙ c.in-Some.is),
      sum-misses c.args.consumption.0 (sym c.tier_consumptions.ensures ∙ c.in-Some-tier_consumptions.is) c.sum.ensures,
      sym c.ne.ensures ∙ c.if-ne.false,
      sym c.tier_charges.ensures ∙ c.in_default-tier_charges.is,
    )

pub sum-requires-2 : goal.sum-requires-2
sum-requires-2 c = omega (arith, charges-fit _ (omega (arith, c.args.r.now.whole.1)) (sym c.tier_charges.ensures ∙ c.in-Some-tier_charges.is))

pub returns-then-ne-2 : goal.returns-then-ne-2
unfolding line9
returns-then-ne-2 c =
    rw (
      rate-good (field_of (tier_rate_in c.args.r.now.detail.now 88)) (sym c.tier_1_rate.ensures ∙ c.in-Some.is),
      sum-misses c.args.consumption.0 (sym c.tier_consumptions.ensures ∙ c.in-Some-tier_consumptions.is) c.sum.ensures,
      sym c.ne.ensures ∙ c.if-ne.false,
      sum-misses c.args.charge.0 (sym c.tier_charges.ensures ∙ c.in-Some-tier_charges.is) c.sum-2.ensures,
      sym c.ne-2.ensures ∙ c.if-ne-2.true,
    )

pub returns : goal.returns
unfolding line9
returns c =
    rw (
      rate-good (field_of (tier_rate_in c.args.r.now.detail.now 88)) (sym c.tier_1_rate.ensures ∙ c.in-Some.is),
      sum-misses c.args.consumption.0 (sym c.tier_consumptions.ensures ∙ c.in-Some-tier_consumptions.is) c.sum.ensures,
      sym c.ne.ensures ∙ c.if-ne.false,
      sum-misses c.args.charge.0 (sym c.tier_charges.ensures ∙ c.in-Some-tier_charges.is) c.sum-2.ensures,
      sym c.ne-2.ensures ∙ c.if-ne-2.false,
    )
