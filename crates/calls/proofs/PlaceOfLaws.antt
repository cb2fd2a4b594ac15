-- The place that a search names, and what the list says of it: whether some element passes, and the bill of an identity. Assumes nothing.
use Prim.Native.Nat.{ℕ, suc, ◌+◌, ◌<◌}
use mathlib.Core.Path.{◌≡◌, refl, sym, ap, ◌∙◌}
use mathlib.Core.Bool.{Bool, true, false, cond}
use mathlib.Core.List.{List, [], ◌∷◌}
use native.Mathlib.Omega.{arith}
use lib.ListN.{length, get_or, length-take}
use lib.Seq.{get_or-take}
use Rattle.fields.proofs.BoolLaws.{cases}
use Rattle.ledger.specs.declared.Identity.{Identity}
use Rattle.ledger.specs.declared.Bill.{Bill}
use Rattle.ledger.specs.declared.Ledger.{Ledger}
use Rattle.rules.specs.Lists.{find, has}
use Rattle.ledger.specs.Bills.{blank_bill}
use Rattle.ledger.specs.Books.{live, of_id}
use Rattle.ledger.specs.parts.Places.{bill_at}
use Rattle.calls.specs.Machine.{bill_of}
use Rattle.std.specs.Prelude.{Some, None}

-- the first bill that passes the test
abbrev pub first_of : (Bill → Bool) → List Bill → Bill
first_of p [] = blank_bill
first_of p (b ∷ bs) = cond (p b) b (first_of p bs)

pub first-of : (id : Identity) (bs : List Bill) → bill_of id bs ≡ first_of (of_id id) bs
first-of id [] = refl
first-of id (b ∷ bs) = rw (first-of id bs)

-- what a search from n on comes to
data Search (p : Bill → Bool) (n : ℕ) (bs : List Bill) : Type 0 where
  fails : find p n bs ≡ None → has p bs ≡ false → first_of p bs ≡ blank_bill → Search p n bs
  hits : (i : ℕ) → i < length bs → find p n bs ≡ Some (n + i) → has p bs ≡ true → p (get_or bs i blank_bill) ≡ true
      → first_of p bs ≡ get_or bs i blank_bill → Search p n bs

search-from : (p : Bill → Bool) (n : ℕ) (bs : List Bill) → Search p n bs
search-from p n [] = fails refl refl refl
search-from p n (b ∷ bs) = cases (p b) here (λ e. there e (search-from p (suc n) bs))
  where
    here : p b ≡ true → Search p n (b ∷ bs)
    here e = hits 0 (omega arith) (rw e (ap Some (omega arith))) (rw e) e (rw e)

    there : p b ≡ false → Search p (suc n) bs → Search p n (b ∷ bs)
    there e (fails x y z) = fails (rw e x) (rw e y) (rw e z)
    there e (hits i h x y z w) =
        let m : suc n + i ≡ n + suc i = omega arith in
        hits (suc i) (omega arith) (rw e (x ∙ ap Some m)) (rw e y) z (rw e w)

-- a struct's search that found nothing, and one that found a place
pub record Spot (p : Bill → Bool) (l : Ledger) (i : ℕ) : Type 0 where
  pub below : i < l.count
  pub some : has p (live l) ≡ true
  pub passes : p (bill_at l i) ≡ true
  pub bill : first_of p (live l) ≡ bill_at l i

module _ (p : Bill → Bool) (l : Ledger) where
  pub spot-none : find p 0 (live l) ≡ None → (has p (live l) ≡ false) × (first_of p (live l) ≡ blank_bill)
  spot-none e = go (search-from p 0 (live l))
    where
      go : Search p 0 (live l) → (has p (live l) ≡ false) × (first_of p (live l) ≡ blank_bill)
      go (fails x y z) = (y, z)
      go (hits i h x y z w) = let q : ◌≡◌ {A = ℕ} 0 1 = cc in absurd (omega arith)

  pub spot : (i : ℕ) → find p 0 (live l) ≡ Some i → Spot p l i
  spot i e = go (search-from p 0 (live l))
    where
      at : (j : ℕ) → j ≡ i → j < length (live l) → has p (live l) ≡ true → p (get_or (live l) j blank_bill) ≡ true
          → first_of p (live l) ≡ get_or (live l) j blank_bill → Spot p l i
      at j q h y z w =
          let lo : i < l.count = omega (arith, length-take l.count l.bills) in
          let g : get_or (live l) j blank_bill ≡ bill_at l i = ap (λ (k : ℕ). get_or (live l) k blank_bill) q ∙ get_or-take l.count l.bills i blank_bill lo in
          record { below = lo; some = y; passes = ap p (sym g) ∙ z; bill = w ∙ g }

      go : Search p 0 (live l) → Spot p l i
      go (fails x y z) = let q : ◌≡◌ {A = ℕ} 0 1 = cc in absurd (omega arith)
      go (hits j h x y z w) = let q : 0 + j ≡ i = cc in at j (omega arith) h y z w
