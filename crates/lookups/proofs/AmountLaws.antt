-- The answer of the lookup of amounts, case by case, from what the search in the words found. Assumes nothing.
use Prim.Native.Nat.{ℕ}
use mathlib.Core.Path.{◌≡◌, ap, ◌∙◌}
use mathlib.Core.Bool.{true, false}
use lib.ListN.{take}
use Rattle.ledger.specs.declared.Identity.{Identity}
use Rattle.ledger.specs.declared.Ledger.{Ledger}
use Rattle.ledger.specs.declared.LedgerHeader.{LedgerHeader}
use Rattle.rules.specs.Lists.{find}
use Rattle.ledger.specs.Books.{live, of_id}
use Rattle.ledger.specs.parts.Places.{bill_at, header_of}
use Rattle.ledger.specs.Sound.{sound_ledger}
use Rattle.causes.specs.Causes.{good_identity}
use Rattle.lookups.specs.Lookups.{counted_by, amount_causes, amounts_in}
use Rattle.calls.proofs.PlaceOfLaws.{Spot, spot, spot-none, first-of}
use Rattle.std.specs.Prelude.{Option, Some, None, Err, Ok}
use Rattle.rules.specs.declared.Cause.TheVariants.{BadArgument, NoSuchBill}

-- ---- the amounts of one bill
module _ (l : Ledger) (id : Identity) where
  pub amounts-unsound : sound_ledger l ≡ false → Err BadArgument ≡ amounts_in l id
  unfolding amounts_in amount_causes
  amounts-unsound e = rw e

  module _ (s : sound_ledger l ≡ true) where
    pub amounts-wide : good_identity id ≡ false → Err BadArgument ≡ amounts_in l id
    unfolding amounts_in amount_causes
    amounts-wide g = rw (s, g)

    module _ (g : good_identity id ≡ true) (h : LedgerHeader) (e : h ≡ header_of l) (f : Option ℕ)
        (q : f ≡ find (of_id id) 0 (take h.count l.bills)) where
      id-live : f ≡ find (of_id id) 0 (live l)
      id-live = q ∙ ap (λ (t : LedgerHeader). find (of_id id) 0 (take t.count l.bills)) e

      pub amounts-none : f ≡ None → Err NoSuchBill ≡ amounts_in l id
      unfolding amounts_in amount_causes
      amounts-none n =
          let o = spot-none (of_id id) l (cc id-live) in
          rw (s, g, o.0)

      pub amounts-spot : (p : ℕ) → f ≡ Some p → Spot (of_id id) l p
      amounts-spot p n = spot (of_id id) l p (cc id-live)

      pub amounts-at : (p : ℕ) → f ≡ Some p → Ok (counted_by (bill_at l p).posted) ≡ amounts_in l id
      unfolding amounts_in amount_causes
      amounts-at p n =
          let o = amounts-spot p n in
          rw (s, g, o.some, first-of id (live l) ∙ o.bill)
