-- Laws of the bills that a ledger holds: after a change, and the signed change of their total. Assumes nothing.
use Prim.Native.Nat.{ℕ, ◌+◌, ◌*◌, ◌<◌, ◌≤◌, ◌^◌}
use mathlib.Core.Path.{◌≡◌, sym, ap, ◌∙◌}
use mathlib.Core.List.{List, [], ◌∷◌, ◌++◌}
use native.Mathlib.Omega.{arith}
use native.Mathlib.Numerals.{add-one}
use lib.IntN.{ℤ, pos, neg_ℤ, ◌+ℤ◌, ◌-ℤ◌, +ℤ-neg_ℤ_cancel, +ℤ_assoc, +ℤ_comm}
use lib.ListN.{length, get_or, set}
use lib.Seq.{take-suc-set, take-set-lt, length-take-le}
use borrow.Author.Tests.{ltb-true}
use mathlib.Core.Bool.{true}
use Rattle.fields.proofs.BoolLaws.{and_left, and_right}
use mir.Val.{Val}
use denote.Laws.{Is}
use Rattle.ledger.specs.declared.Bill.{Bill}
use Rattle.ledger.specs.declared.Ledger.{Ledger}
use Rattle.ledger.specs.Books.{live, bill_charge, small_charge, total_of}
use Rattle.ledger.specs.parts.Places.{replaced, appended}
use Rattle.rules.specs.Lists.{every}
use Rattle.ledger.specs.contracts.Ledger.{the_row}
use Rattle.rules.proofs.ListLaws.{sum-set}

-- what a function is told of a ledger says that its array has 128 places
pub places : (l : Ledger) (vs : List Val) → Is the_row l vs → length l.bills ≡ 128
places l vs p = p.1.1.1.1.1.1.0.1.0.1

-- the bills held after a bill is added, and after one is replaced
pub live-appended : (l : Ledger) (b : Bill) → l.count < length l.bills → live (appended l b) ≡ live l ++ (b ∷ [])
live-appended l b h = rw (add-one l.count) (take-suc-set l.bills l.count b h)

pub live-replaced : (l : Ledger) (i : ℕ) (b : Bill) → i < l.count → live (replaced l i b) ≡ set (live l) i b
live-replaced l i b h = take-set-lt l.count l.bills i b h

pub length-live : (l : Ledger) → l.count ≤ length l.bills → length (live l) ≡ l.count
length-live l h = length-take-le l.count l.bills h

-- charges in their width add up to less than a signed number holds
pub total-small : (bs : List Bill) → every small_charge bs ≡ true → total_of bs ≤ 10 ^ 13 * length bs
total-small [] h = omega arith
total-small (b ∷ bs) h =
    let x = ltb-true (bill_charge b) (10 ^ 13) (and_left (small_charge b) (every small_charge bs) h) in
    omega (arith, total-small bs (and_right (small_charge b) (every small_charge bs) h))

shift : (x y c d : ℤ) → x +ℤ d ≡ y +ℤ c → x -ℤ y ≡ c -ℤ d
shift x y c d e =
    ap (λ (z : ℤ). z -ℤ y) (sym (+ℤ-neg_ℤ_cancel x d) ∙ ap (λ (z : ℤ). z -ℤ d) e ∙ +ℤ_assoc y c (neg_ℤ d) ∙ +ℤ_comm y (c -ℤ d))
    ∙ +ℤ-neg_ℤ_cancel (c -ℤ d) y

-- the difference of two sums is the difference of what came and what went
pub difference : (a b c d : ℕ) → a + d ≡ b + c → pos a -ℤ pos b ≡ pos c -ℤ pos d
difference a b c d e = shift (pos a) (pos b) (pos c) (pos d) (ap pos e)

-- a bill replaced: the total's change is the charge's change
pub total-replaced : (bs : List Bill) (i : ℕ) (b d : Bill) → i < length bs
    → pos (total_of (set bs i b)) -ℤ pos (total_of bs) ≡ pos (bill_charge b) -ℤ pos (bill_charge (get_or bs i d))
total-replaced bs i b d h = difference _ _ _ _ (sum-set bill_charge bs i b d h)
