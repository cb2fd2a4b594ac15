-- `replay::ending::write_wanted` meets its contract: what was last to write is the line, where it goes.
use Rattle.replay.proofs.EndingLaws.{line-size, writes-wanted}
use Rattle.replay.proofs.ending.write_wanted.Goals as goal

pub returns-clause-line : goal.returns-clause-line
returns-clause-line g c = let last = c.last_of_input-o.ensures.line in (last.0, line-size last.1)

pub returns-clause-all : goal.returns-clause-all
returns-clause-all g c =
    let o = c.last_of_input-o in
    writes-wanted _ _ _ _ _ _ o.result c.send.result o.ensures.line.0 o.ensures.all c.send.ensures.to_output (λ e. (c.send.ensures.to_error e).1)
