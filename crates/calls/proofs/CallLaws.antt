-- What a call by value answers, by the cause against it. Assumes nothing.
use Prim.Native.Nat.{ℕ}
use mathlib.Core.Path.{◌≡◌, refl, sym, ap, ◌∙◌}
use mathlib.Core.Bool.{Bool, true, false, cond}
use mathlib.Core.List.{List, []}
use native.Mathlib.Omega.{arith}
use Rattle.fields.specs.Put.{put}
use Rattle.fields.proofs.PutLaws.{put-nil}
use Rattle.ledger.specs.declared.Ledger.{Ledger}
use Rattle.ledger.specs.Books.{book, view, stored}
use Rattle.ledger.specs.Sound.{sound_ledger}
use Rattle.rules.specs.Rules.{first}
use Rattle.calls.specs.declared.Called.{Called}
use Rattle.causes.specs.Causes.{Call, causes}
use Rattle.calls.specs.Machine.{next, next_written, outcome, cause_in, step_in, left_by, answer_by, called}
use Rattle.std.specs.Prelude.{Result, Ok, Err, ⊤}
use Rattle.rules.specs.declared.Cause.{Cause}
use Rattle.calls.specs.declared.Returned.{Returned}
use Rattle.rules.specs.declared.Cause.TheVariants.{BadArgument}

-- ---- the cause on the struct
pub cause-unsound : (l : Ledger) (c : Call) → sound_ledger l ≡ false → cause_in l c ≡ Err BadArgument
unfolding cause_in
cause-unsound l c e = rw e

pub cause-sound : (l : Ledger) (c : Call) → sound_ledger l ≡ true → cause_in l c ≡ first (causes (view (book l)) c)
unfolding cause_in
cause-sound l c e = rw e

sound-by : (s : Bool) (k : Result ⊤ Cause) → cond s k (Err BadArgument) ≡ Ok tt → (s ≡ true) × (k ≡ Ok tt)
sound-by true k e = (refl, e)
sound-by false k e = let z : ◌≡◌ {A = ℕ} 0 1 = cc in absurd (omega arith)

-- a call with no cause against it found the ledger sound
pub clear-sound : (l : Ledger) (c : Call) → cause_in l c ≡ Ok tt → sound_ledger l ≡ true
unfolding cause_in
clear-sound l c e = (sound-by (sound_ledger l) _ e).0

pub clear_first : (l : Ledger) (c : Call) → cause_in l c ≡ Ok tt → first (causes (view (book l)) c) ≡ Ok tt
unfolding cause_in
clear_first l c e = (sound-by (sound_ledger l) _ e).1

-- ---- a call that is refused leaves all as it was
-- what stands in the struct that a call by value gives back, and in the output
pub record Stopped (l : Ledger) (c : Call) (n : Cause) : Type 0 where
  pub ledger : l ≡ (called l c).ledger
  pub answer : Err n ≡ (called l c).answer
  pub bytes : [] ≡ (step_in l c).written

pub stopped : (l : Ledger) (c : Call) (n : Cause) → cause_in l c ≡ Err n → Stopped l c n
unfolding called left_by answer_by step_in outcome
stopped l c n e = record { ledger = rw e; answer = rw e; bytes = rw e }

pub called-stop : (l : Ledger) (c : Call) (n : Cause) → cause_in l c ≡ Err n → record { ledger = l; answer = Err n } ≡ called l c
unfolding called left_by answer_by
called-stop l c n e = rw e

-- the call as a whole
pub stopped-called : {l : Ledger} {c : Call} {n : Cause} → Stopped l c n → (out : List ℕ)
    → (◌≡◌ {A = Called} (record { ledger = l; answer = Err n }) (called l c)) × (out ≡ put out 0 (step_in l c).written)
stopped-called {l} {c} {n} s out =
    (rw (← s.ledger, ← s.answer), put-nil out 0 ∙ ap (put out 0) s.bytes)

-- ---- a call that is carried out
pub record Carried (l : Ledger) (c : Call) (k : Ledger) (a : Result Returned Cause) (ys : List ℕ) : Type 0 where
  pub ledger : k ≡ (called l c).ledger
  pub answer : a ≡ (called l c).answer
  pub bytes : ys ≡ (step_in l c).written

module _ (l : Ledger) (c : Call) (e : cause_in l c ≡ Ok tt) where
  pub written-clear : (step_in l c).written ≡ next_written (book l) c
  unfolding step_in outcome
  written-clear = rw e

  pub carried : (k : Ledger) (a : Result Returned Cause) (ys : List ℕ) → k ≡ stored l (next (book l) c) → a ≡ answer_by (outcome (book l) c (Ok tt)) (Ok tt)
      → ys ≡ next_written (book l) c → Carried l c k a ys
  unfolding called left_by step_in
  carried k a ys p q w = record { ledger = p ∙ rw e; answer = q ∙ rw e; bytes = w ∙ sym written-clear }

-- the call as a whole
pub carried-called : {l : Ledger} {c : Call} {k : Ledger} {a : Result Returned Cause} {ys : List ℕ} → Carried l c k a ys → (out out' : List ℕ) → out' ≡ put out 0 ys
    → (◌≡◌ {A = Called} (record { ledger = k; answer = a }) (called l c)) × (out' ≡ put out 0 (step_in l c).written)
carried-called {l} {c} {k} {a} {ys} s out out' o = (rw (s.ledger, s.answer), o ∙ ap (put out 0) s.bytes)
