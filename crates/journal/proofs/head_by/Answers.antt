-- `journal::head_by` meets its contract.
use Prim.Native.Nat.{ℕ}
use mathlib.Core.Path.{◌≡◌, ◌∙◌}
use mathlib.Core.Bool.{Bool, ◌&&◌}
use lib.Dec.{ltb}
use borrow.Author.Tests.{lt-ltb, le-ltb}
use Rattle.fields.proofs.BoolLaws.{and_right}
use Rattle.journal.specs.Entries.{in_turn, good_length, head_by}
use Rattle.journal.proofs.head_by.Goals as goal

-- the test, by the definition
test-is : (seen tag n : ℕ) (a b : Bool) → a ≡ in_turn seen tag → b ≡ good_length tag n
    → (ltb seen 1000000000 && in_turn seen tag && good_length tag n) ≡ (ltb seen 1000000000 && a && b)
test-is seen tag n a b e f = rw (e, f)

pub returns-then-not-good : goal.returns-then-not-good
unfolding head_by
returns-then-not-good c = rw (test-is c.args.seen _ _ _ _ c.in_turn.ensures c.good_length.ensures ∙ c.if-not-good.true)

pub returns-then-s-n : goal.returns-then-s-n
unfolding head_by
returns-then-s-n c = rw (test-is c.args.seen _ _ _ _ c.in_turn.ensures c.good_length.ensures ∙ c.if-not-good.false, lt-ltb _ _ c.if-s-n.true)

pub whole_at-requires : goal.whole_at-requires
whole_at-requires c =
    let a = c.args in
    (and_right (ltb a.seen 1000000000 && in_turn a.seen a.tag) _ (test-is c.args.seen _ _ _ _ c.in_turn.ensures c.good_length.ensures ∙ c.if-not-good.false), c.if-s-n.false)

pub returns : goal.returns
unfolding head_by
returns c = rw (test-is c.args.seen _ _ _ _ c.in_turn.ensures c.good_length.ensures ∙ c.if-not-good.false, le-ltb _ _ c.if-s-n.false) c.whole_at.ensures
