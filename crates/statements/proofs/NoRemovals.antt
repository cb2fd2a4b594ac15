-- Without a removal no bill has a removal date. Assumes nothing.
use mathlib.Core.Path.{◌≡◌, refl, ap, ◌∙◌}
use mathlib.Core.Bool.{Bool, true, false, ◌&&◌, true≢false}
use mathlib.Core.List.{List, [], ◌∷◌}
use Rattle.fields.proofs.BoolLaws.{or-both, cases}
use Rattle.ledger.specs.declared.Bill.{Bill}
use Rattle.rules.specs.Lists.{every, has, update}
use Rattle.ledger.specs.Books.{Book}
use Rattle.rules.proofs.ListLaws.{every_append}
use Rattle.causes.specs.Causes.{Call}
use Rattle.causes.specs.Requests.{new_bill}
use Rattle.calls.specs.Machine.{after}
use Rattle.history.specs.Claim.{All}
use Rattle.statements.specs.Papers.{is_removal, is_empty, no_removal}
use Rattle.statements.proofs.OverCalls.{Leaves, HoldsOver, over-calls}

-- one bill changed, which keeps its removal date
update-keeps : (p : Bill → Bool) (f : Bill → Bill) → Leaves f → (bs : List Bill) → every no_removal (update p f bs) ≡ every no_removal bs
update-keeps p f k [] = refl
update-keeps p f k (b ∷ bs) =
    cases (p b) (λ e. rw e (ap (λ (x : Bool). x && every no_removal bs) (ap is_empty (k.removal b))))
    (λ e. rw e (ap (λ (x : Bool). no_removal b && x) (update-keeps p f k bs)))

abbrev IsOther : Call → Type 0
IsOther c = is_removal c ≡ false

abbrev StayEmpty : List Bill → List Bill → Type 0
StayEmpty bs cs = every no_removal bs ≡ true → every no_removal cs ≡ true

without-removals : HoldsOver IsOther StayEmpty
without-removals =
    record {
      same = λ bs h. h;
      then = λ bs cs ds f g h. g (f h);
      changed = λ p f k bs h. update-keeps p f k bs ∙ h;
      added = λ r tracking bs h. rw (every_append no_removal bs (new_bill r tracking ∷ []), h);
      removed = λ a t bs h. absurd (true≢false t);
    }

others : (cs : List Call) → has is_removal cs ≡ false → All IsOther cs
others [] n = tt
others (c ∷ cs) n = let o = or-both (is_removal c) (has is_removal cs) n in (o.0, others cs o.1)

pub none-removed : (cs : List Call) (l : Book) → has is_removal cs ≡ false → every no_removal l.bills ≡ true → every no_removal (after l cs).bills ≡ true
none-removed cs l n h = over-calls without-removals cs l (others cs n) h
