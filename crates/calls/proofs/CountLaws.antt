-- "accepted, rejected (together the number of groups)". Assumes nothing.
use Prim.Native.Nat.{ℕ, suc, ◌+◌}
use mathlib.Core.Path.{◌≡◌, refl, ap, ◌∙◌}
use mathlib.Core.List.{List, [], ◌∷◌, ◌++◌}
use native.Mathlib.Omega.{arith}
use lib.ListN.{length}
use Rattle.rules.specs.Lists.{count}
use Rattle.ledger.specs.Books.{Book, book}
use Rattle.file.specs.File.{Group, file_groups}
use Rattle.group.specs.Groups.{settled, verdict_here, verdicts, is_accepted, is_rejected}
use Rattle.causes.specs.Causes.{file}
use Rattle.calls.specs.Machine.{cause, next_verdicts, outcome, step, cause_in, step_in, answer_by, called}
use Rattle.calls.specs.Counts.{GroupsCounted, GroupsReturned}
use Rattle.std.specs.Prelude.{Result, Ok, Err, ⊤}
use Rattle.ledger.specs.declared.Posted.{Posted}
use Rattle.rules.specs.declared.Cause.{Cause}
use Rattle.rules.specs.declared.ErrorCode.{ErrorCode}

-- each group has a verdict
pub each-decided : (before gs : List Group) (l : Book) → length (verdicts before l gs) ≡ length gs
unfolding verdicts
each-decided before [] l = refl
each-decided before (g ∷ gs) l = ap suc (each-decided (before ++ (g ∷ [])) gs (settled l g (verdict_here before l g gs)))

-- a verdict accepts or rejects
pub both-counted : (vs : List (Result Posted ErrorCode)) → count is_accepted vs + count is_rejected vs ≡ length vs
both-counted [] = refl
both-counted (Ok amounts ∷ vs) = omega (arith, both-counted vs)
both-counted (Err n ∷ vs) = omega (arith, both-counted vs)

file-counted : (l : Book) (s : List ℕ) (room : ℕ)
    → (outcome l (file s room) (Ok tt)).accepted + (outcome l (file s room) (Ok tt)).rejected ≡ length (file_groups s)
unfolding outcome next_verdicts
file-counted l s room = both-counted (verdicts [] l (file_groups s)) ∙ each-decided [] (file_groups s) l

pub groups-counted : GroupsCounted
unfolding step outcome
groups-counted l s room e = go (cause l (file s room)) e
  where
    go : (v : Result ⊤ Cause) → (outcome l (file s room) v).result ≡ Ok tt
        → (outcome l (file s room) v).accepted + (outcome l (file s room) v).rejected ≡ length (file_groups s)
    go (Ok tt) h = file-counted l s room
    go (Err n) h = let z : ◌≡◌ {A = ℕ} 0 1 = cc in absurd (omega arith)

pub groups-returned : GroupsReturned
unfolding called step_in answer_by outcome
groups-returned l s room r e = go (cause_in l (file s room)) e
  where
    go : (v : Result ⊤ Cause) → answer_by (outcome (book l) (file s room) v) v ≡ Ok r → r.accepted + r.rejected ≡ length (file_groups s)
    go (Ok tt) h =
        let o = outcome (book l) (file s room) (Ok tt) in
        let a : o.accepted ≡ r.accepted = cc in
        let b : o.rejected ≡ r.rejected = cc in
        rw (← a, ← b) (file-counted (book l) s room)
    go (Err n) h = let z : ◌≡◌ {A = ℕ} 0 1 = cc in absurd (omega arith)
