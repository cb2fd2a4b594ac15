-- `words::terms_in` meets its contract: the product's word is a byte, as those of the code are.
use Rattle.std.proofs.Common.{rules, arith}
use Rattle.words.specs.Layout.{terms_in}
use Rattle.words.proofs.WordLaws.{product-byte}
use Rattle.words.proofs.terms_in.Goals as goal

pub overflow_cast-w : goal.overflow_cast-w
overflow_cast-w c = omega (arith, product-byte _ c.requires.holds)

pub returns : goal.returns
unfolding terms_in
returns c = rw (c.code_in-code.ensures, c.from-product.ensures, c.latest_in-latest.ensures, c.then_some.ensures) (search rules)
