-- A removal date set bill by bill: one bill more, and all of them. Assumes nothing.
use Prim.Native.Nat.{ℕ, zero, suc, ◌+◌, ◌≤◌, ◌<◌}
use mathlib.Core.Path.{◌≡◌, refl, sym, ap, ap₂, ◌∙◌}
use mathlib.Core.List.{List, [], ◌∷◌, ◌++◌, map}
use native.Mathlib.Omega.{arith}
use native.Mathlib.Numerals.{add-one}
use native.Mathlib.Nat.{le_of_suc-le-suc}
use lib.ListN.{length, take, drop, get_or, set, length-map}
use Rattle.units.specs.declared.Date.{Date}
use Rattle.ledger.specs.declared.Bill.{Bill}
use Rattle.ledger.specs.declared.Ledger.{Ledger}
use Rattle.ledger.specs.Bills.{blank_bill}
use Rattle.ledger.specs.Books.{live, removed_of, stored}
use Rattle.ledger.specs.parts.Places.{bill_at, replaced, map_first, removed_first}
use Rattle.ledger.proofs.BookLaws.{length-live}

-- the element at place n is as it was, and with f applied to it there is one more
first_more : (f : Bill → Bill) (n : ℕ) (bs : List Bill) (d : Bill) → n < length bs
    → set (map_first f n bs) n (f (get_or (map_first f n bs) n d)) ≡ map_first f (suc n) bs
first_more f zero [] d h = absurd (omega arith)
first_more f zero (b ∷ bs) d h = refl
first_more f (suc n) [] d h = absurd (omega arith)
first_more f (suc n) (b ∷ bs) d h = ap (λ (xs : List Bill). f b ∷ xs) (first_more f n bs d (le_of_suc-le-suc h))

-- those after the first n are as they were
first-split : (f : Bill → Bill) (n : ℕ) (bs : List Bill) → map_first f n bs ≡ map f (take n bs) ++ drop n bs
first-split f zero bs = refl
first-split f (suc n) [] = refl
first-split f (suc n) (b ∷ bs) = ap (λ (xs : List Bill). f b ∷ xs) (first-split f n bs)

pub length-first : (f : Bill → Bill) (n : ℕ) (bs : List Bill) → length (map_first f n bs) ≡ length bs
length-first f zero bs = refl
length-first f (suc n) [] = refl
length-first f (suc n) (b ∷ bs) = ap suc (length-first f n bs)

module _ (account : ℕ) (date : Date) (l : Ledger) where
  -- one place more
  pub removed-more : (k : Ledger) (i : ℕ) → i < length l.bills → k ≡ removed_first i account date l
      → replaced k i (removed_of account date (bill_at k i)) ≡ removed_first (i + 1) account date l
  removed-more k i h e =
      ap (λ (x : Ledger). replaced x i (removed_of account date (bill_at x i))) e
      ∙ ap (λ (bs : List Bill). record { today = l.today; next_tracking = l.next_tracking; next_confirmation = l.next_confirmation; count = l.count; bills = bs })
      (first_more (removed_of account date) i l.bills blank_bill h ∙ ap (λ (n : ℕ). map_first (removed_of account date) n l.bills) (sym (add-one i)))

  -- all that are held: the struct that holds the book with the date on each bill of the account
  pub removed-all : l.count ≤ length l.bills
      → removed_first l.count account date l
      ≡ stored l (record { today = l.today; tracking = l.next_tracking; confirmation = l.next_confirmation; bills = map (removed_of account date) (live l) })
  removed-all h =
      let f = removed_of account date in
      let n : length (map f (live l)) ≡ l.count = length-map (live l) f ∙ length-live l h in
      ap₂ (λ (c : ℕ) (bs : List Bill). record { today = l.today; next_tracking = l.next_tracking; next_confirmation = l.next_confirmation; count = c; bills = bs })
      (sym n)
      (first-split f l.count l.bills ∙ ap (λ (c : ℕ). map f (live l) ++ drop c l.bills) (sym n))
