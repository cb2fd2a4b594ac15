-- `pairs::shared_slots` meets its contract. The invariant: the records so far are noted, and twice where an earlier one has the number.
use mathlib.Core.Path.{◌≡◌}
use lib.ListN.{length}
use Rattle.pairs.proofs.SlotLaws.{Once, Twice}
use Rattle.pairs.proofs.shared_slots.Given as goal

abbrev pub invariant-loop-own : goal.invariant-loop-own
invariant-loop-own l = (length l.once ≡ 509) × (length l.twice ≡ 509) × Once l.numbers l.once l.own-index × Twice l.numbers l.twice l.own-index
