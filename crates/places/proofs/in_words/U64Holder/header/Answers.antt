-- `places::in_words::U64Holder::header` meets its contract.
use mathlib.Core.Path.{sym}
use native.Mathlib.Omega.{arith}
use Rattle.words.proofs.WordLaws.{words_long}
use Rattle.words.proofs.PartLaws.{header_of_lem}
use Rattle.places.proofs.in_words.U64Holder.header.Goals as goal

pub bounds-lent-0 : goal.bounds-lent-0
bounds-lent-0 c = omega (arith, words_long _ c.requires)

pub bounds-lent-1 : goal.bounds-lent-1
bounds-lent-1 c = omega (arith, words_long _ c.requires)

pub bounds-lent-2 : goal.bounds-lent-2
bounds-lent-2 c = omega (arith, words_long _ c.requires)

pub bounds-lent-3 : goal.bounds-lent-3
bounds-lent-3 c = omega (arith, words_long _ c.requires)

pub returns : goal.returns
returns c = sym (header_of_lem _ c.requires)
