-- Over a list of calls the history follows the ledger: the total, the changes, and what each call comes to. Assumes nothing.
use mathlib.Core.Path.{◌≡◌, refl, sym, ap, ◌∙◌}
use mathlib.Core.List.{List, [], ◌∷◌, map}
use lib.IntN.{ℤ, pos, ◌+ℤ◌, ◌-ℤ◌, +ℤ_assoc, +ℤ_comm, +ℤ_idr, -ℤ-+ℤ_cancel}
use Rattle.ledger.specs.declared.Bill.{Bill}
use Rattle.rules.specs.Lists.{sum}
use Rattle.ledger.specs.Books.{Book, View, view, bill_terms, total_of}
use Rattle.ledger.proofs.SoundLaws.{facts-sound}
use Rattle.rules.specs.Rules.{first}
use Rattle.causes.specs.Causes.{Call, causes}
use Rattle.calls.specs.Machine.{cause, next, total, Outcome, outcome, step, after, outcomes}
use Rattle.history.specs.History.{Posting, History, counted_charge, history_sum, h_cause, h_move, h_step, h_after, h_causes, Decided, call_decisions, h_decisions}
use Rattle.history.specs.Claim.{All, changes}
use Rattle.history.proofs.Follow.{hist, Agrees, Follows, along, same_view, next-follows}
use Rattle.std.specs.Prelude.{Result, Ok, Err, ⊤}
use Rattle.rules.specs.declared.Cause.{Cause}

-- ---- a call
pub cause-is : (l : Book) (h : History) (c : Call) → Follows l h → cause l c ≡ first (causes (view l) c)
unfolding cause
cause-is l h c f = rw (facts-sound l f.sound)

pub cause-history : (l : Book) (h : History) (c : Call) → Follows l h → cause l c ≡ h_cause h c
cause-history l h c f = cause-is l h c f ∙ ap (λ (v : View). first (causes v c)) (sym f.now)

pub step_follows : (l : Book) (h : History) (c : Call) → Follows l h → Follows (step l c).ledger (h_step h c)
unfolding step outcome h_step h_move
step_follows l h c f =
    rw (cause-is l h c f)
    (along (λ k. Follows (outcome l c (first (causes (view l) c))).ledger (h_step k c)) l h f.now (go (first (causes (view l) c)) refl))
  where
    f₀ : Follows l (hist l h.postings)
    f₀ = same_view l h f

    go : (v : Result ⊤ Cause) → first (causes (view l) c) ≡ v → Follows (outcome l c v).ledger (h_move (hist l h.postings) c v)
    go (Ok tt) e = next-follows l h.postings f₀ c e
    go (Err n) e = f₀

pub after-follows : (cs : List Call) (l : Book) (h : History) → Follows l h → Follows (after l cs) (h_after h cs)
unfolding after h_after
after-follows [] l h f = f
after-follows (c ∷ cs) l h f = after-follows cs (step l c).ledger (h_step h c) (step_follows l h c f)

-- ---- the total is the history's sum
sums-total : (ps : List Posting) (bs : List Bill) → All (Agrees ps) bs → total_of bs ≡ sum (counted_charge ps) (map bill_terms bs)
sums-total ps [] a = refl
sums-total ps (b ∷ bs) a = rw (a.0, sums-total ps bs a.1)

pub total-history : (l : Book) (h : History) → Follows l h → total l ≡ history_sum h
unfolding history_sum
total-history l h f = sums-total h.postings l.bills f.sums ∙ ap (λ (v : View). sum (counted_charge h.postings) v.bills) (sym f.now)

-- ---- the total is the sum of the changes
outcome-change : (l : Book) (c : Call) (v : Result ⊤ Cause) → pos (total l) +ℤ (outcome l c v).change ≡ pos (total (outcome l c v).ledger)
unfolding outcome
outcome-change l c (Ok tt) =
    +ℤ_comm (pos (total l)) (pos (total (next l c)) -ℤ pos (total l)) ∙ -ℤ-+ℤ_cancel (pos (total (next l c))) (pos (total l))
outcome-change l c (Err n) = +ℤ_idr (pos (total l))

pub changes-total : (cs : List Call) (l : Book) → pos (total l) +ℤ changes (outcomes l cs) ≡ pos (total (after l cs))
unfolding changes after outcomes step
changes-total [] l = +ℤ_idr (pos (total l))
changes-total (c ∷ cs) l =
    sym (+ℤ_assoc (pos (total l)) (step l c).change (changes (outcomes (step l c).ledger cs)))
    ∙ ap (λ (z : ℤ). z +ℤ changes (outcomes (step l c).ledger cs)) (outcome-change l c (cause l c))
    ∙ changes-total cs (step l c).ledger

-- ---- what each call comes to
outcome-result : (l : Book) (c : Call) (v : Result ⊤ Cause) → (outcome l c v).result ≡ v
unfolding outcome
outcome-result l c (Ok tt) = refl
outcome-result l c (Err n) = refl

step-result : (l : Book) (h : History) (c : Call) → Follows l h → (step l c).result ≡ h_cause h c
unfolding step
step-result l h c f = outcome-result l c (cause l c) ∙ cause-history l h c f

pub all_results : (cs : List Call) (l : Book) (h : History) → Follows l h → map (λ (o : Outcome). o.result) (outcomes l cs) ≡ h_causes h cs
unfolding outcomes h_causes
all_results [] l h f = refl
all_results (c ∷ cs) l h f = rw (step-result l h c f, all_results cs (step l c).ledger (h_step h c) (step_follows l h c f))

-- what is read off each outcome is what the history's groups of that call give
module _ {A : Type 0} (read : Outcome → A) (said : List Decided → A)
    (agrees : (l : Book) (h : History) (c : Call) → Follows l h → read (step l c) ≡ said (call_decisions h c (h_cause h c))) where
  pub each-call : (cs : List Call) (l : Book) (h : History) → Follows l h → map read (outcomes l cs) ≡ map said (h_decisions h cs)
  unfolding outcomes h_decisions
  each-call [] l h f = refl
  each-call (c ∷ cs) l h f = rw (agrees l h c f, each-call cs (step l c).ledger (h_step h c) (step_follows l h c f))
