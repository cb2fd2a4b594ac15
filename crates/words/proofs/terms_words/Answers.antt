-- `words::terms_words` meets its contract.
use Rattle.std.proofs.Common.{rules}
use Rattle.words.specs.Layout.{terms_words}
use Rattle.words.proofs.terms_words.Goals as goal

pub returns : goal.returns
unfolding terms_words
returns c = rw (c.from.ensures, c.from-2.ensures, c.from-3.ensures, c.from-4.ensures, c.from-6.ensures, c.from-5.ensures, c.from-7.ensures) (search rules)
