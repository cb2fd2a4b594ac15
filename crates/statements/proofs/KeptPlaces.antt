-- Whatever calls follow, each bill keeps its place. Assumes nothing.
use Prim.Native.Nat.{ℕ, zero, suc, ◌<◌}
use mathlib.Core.Path.{◌≡◌, refl, ap, ◌∙◌}
use mathlib.Core.Bool.{Bool}
use mathlib.Core.List.{List, [], ◌∷◌, ◌++◌, map}
use native.Mathlib.Omega.{arith}
use native.Mathlib.Nat.{le_of_suc-le-suc}
use lib.ListN.{length, get_or, length-append, get_or-append}
use Rattle.fields.proofs.BoolLaws.{cases}
use Rattle.rules.specs.Lists.{update}
use Rattle.ledger.specs.declared.Identity.{Identity}
use Rattle.ledger.specs.declared.Bill.{Bill}
use Rattle.ledger.specs.Bills.{blank_bill}
use Rattle.ledger.specs.Books.{Book, of_account, removed_of}
use Rattle.causes.specs.Causes.{Call}
use Rattle.causes.specs.Requests.{new_bill}
use Rattle.calls.specs.Machine.{after}
use Rattle.history.specs.Claim.{All}
use Rattle.statements.proofs.OverCalls.{HoldsOver, over-calls}

-- the identity of the bill at place i
abbrev at : List Bill → ℕ → Identity
at bs i = (get_or bs i blank_bill).terms.identity

-- each bill of bs has its place in cs
abbrev Kept : List Bill → List Bill → Type 0
Kept bs cs = (i : ℕ) → i < length bs → (i < length cs) × (at cs i ≡ at bs i)

same : (bs : List Bill) → Kept bs bs
same bs i h = (h, refl)

-- a bill before them that keeps its identity
behind : (b c : Bill) (bs cs : List Bill) → c.terms.identity ≡ b.terms.identity → Kept bs cs → Kept (b ∷ bs) (c ∷ cs)
behind b c bs cs e f zero h = (omega arith, e)
behind b c bs cs e f (suc i) h = let x = f i (le_of_suc-le-suc h) in (omega (arith, x.0), x.1)

-- bills that are changed and keep their identity, each or the first that passes a test
module _ (f : Bill → Bill) (k : (b : Bill) → (f b).terms.identity ≡ b.terms.identity) where
  map-kept : (bs : List Bill) → Kept bs (map f bs)
  map-kept [] = same []
  map-kept (b ∷ bs) = behind b (f b) bs (map f bs) (k b) (map-kept bs)

  update-kept : (p : Bill → Bool) (bs : List Bill) → Kept bs (update p f bs)
  update-kept p [] = same []
  update-kept p (b ∷ bs) =
      cases (p b) (λ e. rw e (behind b (f b) bs bs (k b) (same bs))) (λ e. rw e (behind b b bs (update p f bs) refl (update-kept p bs)))

-- a bill more, at the end
more-kept : (bs : List Bill) (b : Bill) → Kept bs (bs ++ (b ∷ []))
more-kept bs b i h =
    (omega (arith, length-append bs (b ∷ [])), ap (λ (x : Bill). x.terms.identity) (get_or-append bs (b ∷ []) blank_bill i h))

every_call : HoldsOver (λ (c : Call). Unit {0}) Kept
every_call =
    record {
      same = same;
      then = λ bs cs ds f g i h. ((g i (f i h).0).0, (g i (f i h).0).1 ∙ (f i h).1);
      changed = λ p f k bs. update-kept f k.identity p bs;
      added = λ r tracking bs. more-kept bs (new_bill r tracking);
      removed = λ a t bs.
          map-kept (removed_of a.account a.date) (λ b. cases (of_account a.account b) (λ e. rw e) (λ e. rw e)) bs;
    }

any : (cs : List Call) → All (λ (c : Call). Unit {0}) cs
any [] = tt
any (c ∷ cs) = (tt, any cs)

pub places-kept : (l : Book) (cs : List Call) → Kept l.bills (after l cs).bills
places-kept l cs = over-calls every_call cs l (any cs)
