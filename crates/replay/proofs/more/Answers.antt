-- `replay::more` meets its contract: a read holds more, and no read holds what was held.
use Rattle.replay.proofs.PieceLaws.{fills-more, none_more}
use Rattle.replay.proofs.more.Goals as goal

pub returns-then-full-clause-bytes : goal.returns-then-full-clause-bytes
returns-then-full-clause-bytes g c = none_more c.args.have c.args.buf.now (g.R.Read.remaining c.args.reader.now)

pub returns-clause-held : goal.returns-clause-held
returns-clause-held g c = fills-more _ _ _ _ _ c.if-full.false c.fill.ensures.held
