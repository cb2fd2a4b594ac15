-- `places::in_words::U64Holder::identity_at` meets its contract.
use native.Mathlib.Omega.{arith}
use Rattle.words.proofs.WordLaws.{words_long}
use Rattle.words.proofs.PartLaws.{identity-of}
use Rattle.places.proofs.in_words.U64Holder.identity_at.Goals as goal

pub bounds-lent-at : goal.bounds-lent-at
bounds-lent-at c = omega (arith, c.requires.1, words_long _ c.requires.0)

pub bounds-lent-at-2 : goal.bounds-lent-at-2
bounds-lent-at-2 c = omega (arith, c.requires.1, words_long _ c.requires.0)

pub returns : goal.returns
returns c = identity-of _ c.requires.0 c.args.p c.requires.1
