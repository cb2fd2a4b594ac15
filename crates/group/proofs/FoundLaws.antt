-- A bill found by its place in the struct, and by its identity in the book. Assumes nothing.
use Prim.Native.Nat.{ℕ, suc, ◌+◌, ◌≤◌, ◌<◌}
use mathlib.Core.Path.{◌≡◌, refl, sym, ap, ◌∙◌}
use mathlib.Core.Bool.{Bool, true, false}
use mathlib.Core.List.{List, [], ◌∷◌, map}
use native.Mathlib.Omega.{arith}
use lib.ListN.{length, get_or, set, length-take}
use lib.Seq.{get_or-take, length-take-le}
use borrow.Author.Tests.{lt-ltb}
use Rattle.fields.proofs.BoolLaws.{cases}
use Rattle.ledger.specs.declared.Identity.{Identity}
use Rattle.ledger.specs.declared.Bill.{Bill}
use Rattle.ledger.specs.declared.Ledger.{Ledger}
use Rattle.rules.specs.Lists.{every, find, update}
use Rattle.ledger.specs.Bills.{blank_bill}
use Rattle.ledger.specs.Books.{live, of_id, place_of, bill_terms}
use Rattle.ledger.specs.parts.Places.{bill_at, within, place_for}
use Rattle.rules.proofs.ListLaws.{every-at}
use Rattle.group.specs.Groups.{sought_in}
use Rattle.group.specs.parts.Turns.{sought_by, in_widths, InWidthsAt}
use Rattle.std.specs.Prelude.{Option, Some, None}

-- where the bill of an identity stands among bs, counted from n, if it does
pub data Stands (id : Identity) (n : ℕ) (bs : List Bill) : Type 0 where
  absent : find (of_id id) n bs ≡ None → sought_in id (map bill_terms bs) ≡ None
      → ((f : Bill → Bill) → update (of_id id) f bs ≡ bs) → Stands id n bs
  present : (p : ℕ) → p < length bs → find (of_id id) n bs ≡ Some (n + p)
      → sought_in id (map bill_terms bs) ≡ Some (get_or bs p blank_bill).terms
      → ((f : Bill → Bill) → update (of_id id) f bs ≡ set bs p (f (get_or bs p blank_bill))) → Stands id n bs

pub stands : (id : Identity) (n : ℕ) (bs : List Bill) → Stands id n bs
stands id n [] = absent refl refl (λ f. refl)
stands id n (b ∷ bs) = cases (of_id id b) here (λ e. there e (stands id (suc n) bs))
  where
    here : of_id id b ≡ true → Stands id n (b ∷ bs)
    here e = present 0 (omega arith) (rw e (ap Some (omega arith))) (rw e) (λ f. rw e)

    there : of_id id b ≡ false → Stands id (suc n) bs → Stands id n (b ∷ bs)
    there e (absent x y z) = absent (rw e x) (rw e y) (λ f. rw e (ap (λ (l : List Bill). b ∷ l) (z f)))
    there e (present p h x y z) =
        let m : suc n + p ≡ n + suc p = omega arith in
        present (suc p) (omega arith) (rw e (x ∙ ap Some m)) (rw e y) (λ f. rw e (ap (λ (l : List Bill). b ∷ l) (z f)))

-- the same in the struct
pub data Held (l : Ledger) (id : Identity) : Type 0 where
  nowhere : place_of id (live l) ≡ None → sought_in id (map bill_terms (live l)) ≡ None → Held l id
  somewhere : (p : ℕ) → p < l.count → place_of id (live l) ≡ Some p → sought_in id (map bill_terms (live l)) ≡ Some (bill_at l p).terms
      → ((f : Bill → Bill) → update (of_id id) f (live l) ≡ set (live l) p (f (bill_at l p))) → Held l id

pub held : (l : Ledger) (id : Identity) → Held l id
held l id = go (stands id 0 (live l))
  where
    go : Stands id 0 (live l) → Held l id
    go (absent x y z) = nowhere x y
    go (present p h x y z) =
        let lo : p < l.count = omega (arith, length-take l.count l.bills) in
        let e : get_or (live l) p blank_bill ≡ bill_at l p = get_or-take l.count l.bills p blank_bill lo in
        somewhere p lo (x ∙ ap Some (omega arith)) (y ∙ ap (λ (b : Bill). Some b.terms) e)
        (λ f. z f ∙ ap (λ (b : Bill). set (live l) p (f b)) e)

-- ---- a place that was found holds a bill of the ledger; else the next free place stands
pub data Spots (l : Ledger) (f : Option ℕ) (p : ℕ) : Type 0 where
  none : f ≡ None → p ≡ within l.count → Spots l f p
  some : f ≡ Some p → p < l.count → Spots l f p

module _ (l : Ledger) (few : l.count ≤ 128) (id : Identity) (f : Option ℕ) (p : ℕ) (e : f ≡ place_of id (live l)) (q : p ≡ place_for f l.count) where
  pub spots : Spots l f p
  spots = go (held l id)
    where
      go : Held l id → Spots l f p
      go (nowhere x y) = let z : f ≡ None = e ∙ x in none z (q ∙ rw z)
      go (somewhere i h x y u) =
          let z : f ≡ Some i = e ∙ x in
          let k : p ≡ i = q ∙ rw (z, lt-ltb i 128 (omega arith)) in
          some (z ∙ ap Some (sym k)) (omega arith)

  -- the bill that was found is the one that is sought
  pub sought-is : sought_by f (bill_at l p) ≡ sought_in id (map bill_terms (live l))
  sought-is = go (held l id)
    where
      go : Held l id → sought_by f (bill_at l p) ≡ sought_in id (map bill_terms (live l))
      go (nowhere x y) = rw (e ∙ x, y)
      go (somewhere i h x y u) =
          let z : f ≡ Some i = e ∙ x in
          let k : p ≡ i = q ∙ rw (z, lt-ltb i 128 (omega arith)) in
          rw (z, y, k)

-- a bill of the struct is one of the book's
pub every_held : (q : Bill → Bool) (l : Ledger) (p : ℕ) → p < l.count → l.count ≤ length l.bills → every q (live l) ≡ true → q (bill_at l p) ≡ true
every_held q l p h k a =
    let e = length-take-le l.count l.bills k in
    rw (get_or-take l.count l.bills p blank_bill h) at (every-at q (live l) p blank_bill a (omega arith))

pub spot-calm : (l : Ledger) (f : Option ℕ) (p : ℕ) → l.count ≤ length l.bills → every in_widths (live l) ≡ true → Spots l f p → InWidthsAt f (bill_at l p)
spot-calm l f p k a (none x y) = rw x tt
spot-calm l f p k a (some x h) = rw x (every_held in_widths l p h k a)
