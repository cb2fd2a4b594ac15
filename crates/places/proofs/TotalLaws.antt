-- The sum of the charges of some bills: with one bill more, and how large it gets. Assumes nothing.
use Prim.Native.Nat.{ℕ, ◌+◌, ◌≤◌, ◌<◌, ◌^◌}
use mathlib.Core.Path.{◌≡◌, ap}
use mathlib.Core.Bool.{true}
use mathlib.Core.List.{List}
use native.Mathlib.Omega.{arith}
use lib.ListN.{length, take, get_or}
use lib.Seq.{get_or-take, length-take-le}
use Rattle.ledger.specs.declared.Bill.{Bill}
use Rattle.rules.specs.Lists.{every}
use Rattle.ledger.specs.Bills.{blank_bill}
use Rattle.ledger.specs.Books.{bill_charge, small_charge, total_of}
use Rattle.rules.proofs.ListLaws.{sum_more, sum_first}
use Rattle.ledger.proofs.BookLaws.{total-small}

module _ (bs : List Bill) (n i : ℕ) (k : n ≤ length bs) (h : i < n) where
  pub total-more : total_of (take i (take n bs)) + bill_charge (get_or bs i blank_bill) ≡ total_of (take (i + 1) (take n bs))
  total-more =
      let l : length (take n bs) ≡ n = length-take-le n bs k in
      let e : bill_charge (get_or (take n bs) i blank_bill) ≡ bill_charge (get_or bs i blank_bill) = ap bill_charge (get_or-take n bs i blank_bill h) in
      omega (arith, e, sum_more bill_charge (take n bs) i blank_bill (omega (arith, l)))

  pub total-fits : n ≤ 128 → every small_charge (take n bs) ≡ true → total_of (take i (take n bs)) + bill_charge (get_or bs i blank_bill) < 2 ^ 64
  total-fits few s =
      let l : length (take n bs) ≡ n = length-take-le n bs k in
      omega (arith, l, total-more, sum_first bill_charge (take n bs) (i + 1), total-small (take n bs) s)
