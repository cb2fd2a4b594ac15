-- `journal::frame_at` meets its contract.
use Prim.Native.Nat.{ℕ, ◌+◌, ◌<◌}
use mathlib.Core.Path.{◌≡◌, ap, ◌∙◌}
use mathlib.Core.Bool.{Bool, false, ◌&&◌, and-false}
use mathlib.Core.List.{List}
use native.Mathlib.Omega.{arith}
use lib.Dec.{leb}
use lib.ListN.{length, get_or}
use borrow.Author.Tests.{lt-leb}
use Rattle.std.specs.Prelude.{Option, Some}
use Rattle.journal.specs.declared.Frame.{Frame}
use Rattle.journal.specs.Entries.{good_length, frame_of}
use Rattle.journal.proofs.HeadLaws.{tag_in, length_in}
use Rattle.journal.proofs.frame_at.Goals as goal

-- an entry with this tag and length
abbrev sized : ℕ → ℕ → Option Frame
sized tag n = Some (record { tag = tag; length = n })

-- the test, by the definition
test-is : (s : List ℕ) (g : Bool) (n : ℕ) → g ≡ good_length (tag_in s) n → n ≡ length_in s
    → (good_length (tag_in s) (length_in s) && leb (length_in s + 3) (length s)) ≡ (g && leb (n + 3) (length s))
test-is s g n e f = rw (e, f)

too_few : (s : List ℕ) → length s < 3 → (good_length (tag_in s) (length_in s) && leb (length_in s + 3) (length s)) ≡ false
too_few s h = rw (lt-leb (length_in s + 3) (length s) (omega arith)) (and-false (good_length (tag_in s) (length_in s)))

pub returns-then-s-lt3 : goal.returns-then-s-lt3
unfolding frame_of
returns-then-s-lt3 c = rw (too_few _ c.if-s-lt3.true)

pub returns-then-not-whole : goal.returns-then-not-whole
unfolding frame_of
returns-then-not-whole c = rw (test-is _ _ _ c.good_length.ensures c.length_at-length.ensures.0 ∙ c.if-not-whole.true)

pub returns : goal.returns
unfolding frame_of
returns c =
    rw (test-is _ _ _ c.good_length.ensures c.length_at-length.ensures.0 ∙ c.if-not-whole.false, c.length_at-length.ensures.0)
    (ap (sized (get_or c.args.s.now 0 0)) c.length_at-length.ensures.0)
