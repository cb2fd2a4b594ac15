-- What holds of the bills before and after each change that a call makes to them holds over every list of calls. Assumes nothing.
use Prim.Native.Nat.{ℕ}
use mathlib.Core.Path.{◌≡◌, refl}
use mathlib.Core.Bool.{Bool}
use mathlib.Core.List.{List, [], ◌∷◌, ◌++◌, map}
use Rattle.fields.proofs.BoolLaws.{cases}
use Rattle.rules.specs.Lists.{update}
use Rattle.ledger.specs.declared.Bill.{Bill}
use Rattle.ledger.specs.Bills.{renewed, posting, cancelled_bill}
use Rattle.ledger.specs.Books.{Book, of_id, removed_of}
use Rattle.ledger.specs.Sound.{holds_id}
use Rattle.file.specs.File.{Group, file_groups, asks_id}
use Rattle.group.specs.Groups.{identity_of, settled, verdict_here, taken}
use Rattle.causes.specs.declared.AccountRemoval.{AccountRemoval}
use Rattle.causes.specs.declared.Request.{Request}
use Rattle.causes.specs.Causes.{Call, request, calendar, file, cancel, close, removal, worked_out}
use Rattle.causes.specs.Requests.{latest_of, new_bill}
use Rattle.calls.specs.Machine.{cause, next, next_requested, outcome, step, after}
use Rattle.history.specs.Claim.{All}
use Rattle.std.specs.Prelude.{Result, Ok, Err, ⊤}
use Rattle.ledger.specs.declared.Posted.{Posted}
use Rattle.rules.specs.declared.Cause.{Cause}
use Rattle.rules.specs.declared.ErrorCode.{ErrorCode}

-- a change of a bill that leaves its identity and its removal date
pub record Leaves (f : Bill → Bill) : Type 0 where
  pub identity : (b : Bill) → (f b).terms.identity ≡ b.terms.identity
  pub removal : (b : Bill) → (f b).terms.removal ≡ b.terms.removal

-- what is to hold of the bills before and after, where the calls are fine: over no change and one after another, over one bill that is renewed,
-- posted to or cancelled, over a bill more, and over a removal
pub record HoldsOver (Fine : Call → Type 0) (R : List Bill → List Bill → Type 0) : Type 0 where
  pub same : (bs : List Bill) → R bs bs
  pub then : (bs cs ds : List Bill) → R bs cs → R cs ds → R bs ds
  pub changed : (p : Bill → Bool) (f : Bill → Bill) → Leaves f → (bs : List Bill) → R bs (update p f bs)
  pub added : (r : Request) (tracking : ℕ) (bs : List Bill) → R bs (bs ++ (new_bill r tracking ∷ []))
  pub removed : (a : AccountRemoval) → Fine (removal a) → (bs : List Bill) → R bs (map (removed_of a.account a.date) bs)

module _ {Fine : Call → Type 0} {R : List Bill → List Bill → Type 0} (h : HoldsOver Fine R) where
  over-request : (l : Book) (r : Request) → R l.bills (next_requested l r).bills
  over-request l r =
      cases (holds_id r.identity l.bills)
      (λ e.
      rw e
      (h.changed (of_id r.identity) (renewed (latest_of r l.tracking)) (record { identity = λ b. refl; removal = λ b. refl }) l.bills))
      (λ e. rw e (h.added r l.tracking l.bills))

  over-group : (l : Book) (g : Group) (v : Result Posted ErrorCode) → R l.bills (settled l g v).bills
  unfolding settled
  over-group l g (Ok amounts) =
      h.changed (of_id (identity_of g)) (posting amounts (asks_id g)) (record { identity = λ b. refl; removal = λ b. refl }) l.bills
  over-group l g (Err n) = h.same l.bills

  over-groups : (before gs : List Group) (l : Book) → R l.bills (taken before l gs).bills
  unfolding taken
  over-groups before [] l = h.same l.bills
  over-groups before (g ∷ gs) l =
      let m = settled l g (verdict_here before l g gs) in
      h.then l.bills m.bills (taken (before ++ (g ∷ [])) m gs).bills (over-group l g (verdict_here before l g gs))
      (over-groups (before ++ (g ∷ [])) gs m)

  over-next : (l : Book) (c : Call) → Fine c → R l.bills (next l c).bills
  unfolding next
  over-next l (request r room) f = over-request l r
  over-next l (calendar q hs room) f = over-request l (worked_out q hs l.today)
  over-next l (file s room) f = over-groups [] (file_groups s) l
  over-next l (cancel id room) f = h.changed (of_id id) cancelled_bill (record { identity = λ b. refl; removal = λ b. refl }) l.bills
  over-next l (close d) f = h.same l.bills
  over-next l (removal a) f = h.removed a f l.bills

  over-step : (l : Book) (c : Call) → Fine c → R l.bills (step l c).ledger.bills
  unfolding step outcome
  over-step l c f = go (cause l c)
    where
      go : (k : Result ⊤ Cause) → R l.bills (outcome l c k).ledger.bills
      go (Ok tt) = over-next l c f
      go (Err m) = h.same l.bills

  pub over-calls : (cs : List Call) (l : Book) → All Fine cs → R l.bills (after l cs).bills
  unfolding after
  over-calls [] l f = h.same l.bills
  over-calls (c ∷ cs) l f =
      h.then l.bills (step l c).ledger.bills (after (step l c).ledger cs).bills (over-step l c f.0) (over-calls cs (step l c).ledger f.1)
