-- `streams::output::write_all`: what one write took stands behind what was taken before.
use Rattle.std.proofs.Common.{rules}
use Rattle.std.proofs.lemmas.Result.{MatchResult-from_err}
use Rattle.streams.proofs.WrittenLaws.{none_yet, took_none, more, all_written, first_written}
use Rattle.streams.proofs.output.write_all.Goals as goal

pub loop-bytes-init : goal.loop-bytes-init
loop-bytes-init g c = none_yet _ _

pub returns-in_err-took : goal.returns-in_err-took
returns-in_err-took g c =
    MatchResult-from_err c.from_residual.result _ _ c.from_residual.ensures.0 (λ _. first_written _ _ _ _ c.loop-bytes.invariant _ c.in_err-took.ensures.took)

pub returns-in-0 : goal.returns-in-0
returns-in-0 g c = first_written _ _ _ _ c.loop-bytes.invariant _ (took_none _ _ _ _ c.in-0.is c.in_ok-took.ensures.took)

pub loop-bytes-preserved : goal.loop-bytes-preserved
loop-bytes-preserved g c = more _ _ _ _ c.loop-bytes.invariant _ _ c.in_ok-took.ensures.took

pub returns : goal.returns
returns g c = all_written _ _ _ _ c.loop-bytes.invariant (search rules)
