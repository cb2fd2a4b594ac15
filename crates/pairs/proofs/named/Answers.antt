-- `pairs::named` meets its contract: an account is below 10 ^ 12 and a Bill Key below 10 ^ 4.
use Prim.Native.Nat.{◌^◌, ◌<◌}
use native.Mathlib.Omega.{arith}
use Rattle.fields.proofs.HoldLaws.{small-value, length-part-le}
use Rattle.pairs.specs.parts.GroupNumbers.{named_by}
use Rattle.pairs.proofs.named.Goals as goal

pub overflow_mul-result-2 : goal.overflow_mul-result-2
overflow_mul-result-2 c =
    let a : c.unwrap_or-account.result < 10 ^ 12 = rw (c.unwrap_or-account.ensures, c.number.ensures) (small-value _ 12 (length-part-le _ 7 12)) in omega arith

pub overflow_add-result : goal.overflow_add-result
overflow_add-result c =
    let a : c.unwrap_or-account.result < 10 ^ 12 = rw (c.unwrap_or-account.ensures, c.number.ensures) (small-value _ 12 (length-part-le _ 7 12)) in
    let k : c.unwrap_or-key.result < 10 ^ 4 = rw (c.unwrap_or-key.ensures, c.number-2.ensures) (small-value _ 4 (length-part-le _ 41 4)) in omega arith

pub overflow_add-result-2 : goal.overflow_add-result-2
overflow_add-result-2 c =
    let a : c.unwrap_or-account.result < 10 ^ 12 = rw (c.unwrap_or-account.ensures, c.number.ensures) (small-value _ 12 (length-part-le _ 7 12)) in
    let k : c.unwrap_or-key.result < 10 ^ 4 = rw (c.unwrap_or-key.ensures, c.number-2.ensures) (small-value _ 4 (length-part-le _ 41 4)) in omega arith

pub returns : goal.returns
unfolding named_by
returns c = rw (c.unwrap_or-account.ensures, c.number.ensures, c.unwrap_or-key.ensures, c.number-2.ensures)
