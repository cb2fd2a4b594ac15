-- `words::code_in` meets its contract: a place's code words are bytes.
use Rattle.std.proofs.Common.{rules, arith}
use Rattle.words.specs.Layout.{code_in}
use Rattle.words.proofs.WordLaws.{code-bytes}
use Rattle.words.proofs.code_in.Goals as goal

pub overflow_cast-result : goal.overflow_cast-result
overflow_cast-result c = omega (arith, code-bytes _ c.requires.holds)

pub overflow_cast-result-2 : goal.overflow_cast-result-2
overflow_cast-result-2 c = omega (arith, code-bytes _ c.requires.holds)

pub overflow_cast-result-3 : goal.overflow_cast-result-3
overflow_cast-result-3 c = omega (arith, code-bytes _ c.requires.holds)

pub overflow_cast-result-4 : goal.overflow_cast-result-4
overflow_cast-result-4 c = omega (arith, code-bytes _ c.requires.holds)

pub returns : goal.returns
unfolding code_in
returns c = search rules
