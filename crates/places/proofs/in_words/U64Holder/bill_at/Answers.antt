-- `places::in_words::U64Holder::bill_at` meets its contract.
use mathlib.Core.Path.{◌∙◌}
use native.Mathlib.Omega.{arith}
use Rattle.words.proofs.WordLaws.{words_long, words-bills}
use Rattle.words.proofs.WordPlaceLaws.{holds_at}
use Rattle.words.proofs.PartLaws.{bill-of}
use Rattle.places.proofs.in_words.U64Holder.bill_at.Goals as goal

pub bill_in-requires : goal.bill_in-requires
bill_in-requires c = record { has_place = omega (arith, words_long _ c.requires.0); holds = holds_at _ c.args.p (words-bills _ c.requires.0) c.requires.1 }

pub returns : goal.returns
returns c = c.bill_in.ensures ∙ bill-of _ c.requires.0 c.args.p c.requires.1
