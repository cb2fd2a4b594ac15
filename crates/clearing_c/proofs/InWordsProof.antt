-- Demand 3 through the boundary. Assumes nothing.
use Prim.Native.Nat.{ℕ}
use mathlib.Core.Path.{◌≡◌, refl, sym, ap, ◌∙◌, subst}
use mathlib.Core.Bool.{true, false}
use mathlib.Core.List.{List, [], ◌∷◌, map, map-map}
use native.Mathlib.Omega.{arith}
use lib.Dec.{eqb}
use lib.ListN.{length, get_or}
use lib.IntN.{pos}
use borrow.Author.Tests.{ne_eqb}
use Rattle.fields.specs.Put.{put}
use Rattle.fields.proofs.PutLaws.{part-put}
use Rattle.ledger.specs.declared.Ledger.{Ledger}
use Rattle.ledger.specs.Books.{Book, book}
use Rattle.ledger.specs.Sound.{sound_ledger}
use Rattle.words.specs.Layout.{ledger_of}
use Rattle.rules.specs.Rules.{first}
use Rattle.calls.specs.declared.Called.{Called}
use Rattle.causes.specs.declared.Start.{Start}
use Rattle.causes.specs.Causes.{Call, fresh_causes}
use Rattle.calls.specs.Machine.{next_written, total, Outcome, outcome, step, after, outcomes, cause_in, step_in, answer_by, called, ran}
use Rattle.calls.specs.Days.{fresh_called}
use Rattle.calls.proofs.RunLaws.{step_in_lem, runs}
use Rattle.history.specs.History.{begun}
use Rattle.history.specs.Claim.{changes, assigned, ByValue}
use Rattle.history.proofs.ClaimProof.{claim-by-value}
use Rattle.boundary.specs.Boundary.{number_of, change_left, counts_left}
use Rattle.boundary.proofs.GiveLaws.{fresh-long}
use Rattle.clearing_c.specs.InWords.{Held, MadeBy, CallsMade, change_of, bytes_written, changes_of, assigned_of, SumInWords}
use Rattle.clearing_c.proofs.NumberLaws.{numbered}
use Rattle.std.specs.Prelude.{Result, Ok, Err, ⊤}
use Rattle.rules.specs.declared.Cause.{Cause}
use Rattle.rules.specs.Numbers.{cause_number}

made-ran : (cs : List Call) (hs : List Held) (ws ws₂ : List ℕ) → CallsMade ws cs hs ws₂ → ledger_of ws₂ ≡ ran (ledger_of ws) cs
unfolding ran
made-ran [] [] ws ws₂ m = ap ledger_of (sym m)
made-ran [] (a ∷ hs) ws ws₂ m = absurd m
made-ran (c ∷ cs) [] ws ws₂ m = absurd m
made-ran (c ∷ cs) (a ∷ hs) ws ws₂ m = made-ran cs hs m.0 ws₂ m.2 ∙ ap (λ (l : Ledger). ran l cs) m.1.gives.ledger

-- ---- one call
-- what the caller reads off it is what it came to
record Read (o : Outcome) (a : Held) : Type 0 where
  number : a.number ≡ number_of o.result
  change : change_of a ≡ o.change
  written : bytes_written a ≡ o.written

-- its answer and outcome by the cause against it
by-cause : (l : Ledger) (c : Call) (v : Result ⊤ Cause) → cause_in l c ≡ v
    → ((called l c).answer ≡ answer_by (outcome (book l) c v) v) × (step_in l c ≡ outcome (book l) c v)
unfolding called step_in
by-cause l c v e = (rw e, rw e)

module _ (ws : List ℕ) (c : Call) (a : Held) (ws₁ : List ℕ) (m : MadeBy ws c a ws₁) where
  read-clear : cause_in (ledger_of ws) c ≡ Ok tt → Read (step_in (ledger_of ws) c) a
  unfolding outcome answer_by
  read-clear e =
      let q = by-cause (ledger_of ws) c (Ok tt) e in
      let w = next_written (book (ledger_of ws)) c in
      let k : a.number ≡ 0 = m.gives.number ∙ ap number_of q.0 in
      let n : get_or a.counts 0 0 ≡ length w = ap (λ (ks : List ℕ). get_or ks 0 0) (m.gives.counts ∙ ap (counts_left m.counts) q.0) in
      let o : a.output ≡ put m.output 0 w = m.bytes ∙ ap (λ (x : Outcome). put m.output 0 x.written) q.1 in
      rw q.1
      (record {
        number = k;
        change = rw k (m.gives.change ∙ ap (change_left m.change) q.0);
        written = rw (k, n, o) (part-put m.output 0 w (length w) (omega arith) refl);
      })

  read-stop : (n : Cause) → cause_in (ledger_of ws) c ≡ Err n → Read (step_in (ledger_of ws) c) a
  unfolding outcome answer_by
  read-stop n e =
      let q = by-cause (ledger_of ws) c (Err n) e in
      let k : a.number ≡ cause_number n = m.gives.number ∙ ap number_of q.0 in
      let z : eqb (cause_number n) 0 ≡ false = ne_eqb (cause_number n) 0 (λ y. omega (arith, (numbered (ledger_of ws) c n q.0).0)) in
      rw q.1 (record { number = k; change = rw (k, z); written = rw (k, z) })

  read-call : Read (step_in (ledger_of ws) c) a
  read-call = go (cause_in (ledger_of ws) c) refl
    where
      go : (v : Result ⊤ Cause) → cause_in (ledger_of ws) c ≡ v → Read (step_in (ledger_of ws) c) a
      go (Ok tt) e = read-clear e
      go (Err n) e = read-stop n e

-- ---- a list of calls
module _ (l : Ledger) (c : Call) (h : sound_ledger l ≡ true) where
  next-sound : sound_ledger (called l c).ledger ≡ true
  unfolding ran
  next-sound = (runs l h (c ∷ [])).kept

  next-book : book (called l c).ledger ≡ (step (book l) c).ledger
  unfolding ran after
  next-book = (runs l h (c ∷ [])).ledger

-- what the caller reads off the calls is what they came to
record ReadAll (l : Ledger) (cs : List Call) (hs : List Held) : Type 0 where
  numbers : map (λ (a : Held). a.number) hs ≡ map (λ (o : Outcome). number_of o.result) (outcomes (book l) cs)
  changes : changes_of hs ≡ changes (outcomes (book l) cs)
  written : map bytes_written hs ≡ map (λ (o : Outcome). o.written) (outcomes (book l) cs)

read_all : (cs : List Call) (hs : List Held) (ws ws₂ : List ℕ) → sound_ledger (ledger_of ws) ≡ true → CallsMade ws cs hs ws₂ → ReadAll (ledger_of ws) cs hs
unfolding outcomes changes
read_all [] [] ws ws₂ h m = record { numbers = refl; changes = refl; written = refl }
read_all [] (a ∷ hs) ws ws₂ h m = absurd m
read_all (c ∷ cs) [] ws ws₂ h m = absurd m
read_all (c ∷ cs) (a ∷ hs) ws ws₂ h m =
    let l = ledger_of ws in
    let r : Read (step_in l c) a = read-call ws c a m.0 m.1 in
    let t = step_in_lem l c h in
    let left : book (ledger_of m.0) ≡ (step (book l) c).ledger = ap book m.1.gives.ledger ∙ next-book l c h in
    let k : sound_ledger (ledger_of m.0) ≡ true = ap sound_ledger m.1.gives.ledger ∙ next-sound l c h in
    let more = read_all cs hs m.0 ws₂ k m.2 in
    record {
      numbers = rw (r.number, more.numbers, left, t);
      changes = rw (r.change, more.changes, left, t);
      written = rw (r.written, more.written, left, t);
    }

-- the Tracking IDs are read off the bytes written
ids-read : (hs : List Held) (os : List Outcome) → map bytes_written hs ≡ map (λ (o : Outcome). o.written) os → assigned_of hs ≡ assigned os
unfolding assigned
ids-read [] [] e = refl
ids-read [] (o ∷ os) e = let z : ◌≡◌ {A = ℕ} 0 1 = cc in absurd (omega arith)
ids-read (a ∷ hs) [] e = let z : ◌≡◌ {A = ℕ} 0 1 = cc in absurd (omega arith)
ids-read (a ∷ hs) (o ∷ os) e =
    let w : bytes_written a ≡ o.written = cc in
    let more : map bytes_written hs ≡ map (λ (x : Outcome). x.written) os = cc in
    rw (w, ids-read hs os more)

fresh_kept : (l : Ledger) (s : Start) → first (fresh_causes s) ≡ Ok tt → sound_ledger (fresh_called l s).ledger ≡ true
unfolding ran
fresh_kept l s clear = (claim-by-value l s clear []).runs.kept

pub sum-in-words : SumInWords
sum-in-words ws ws₁ ws₂ s cs hs long clear e m =
    let f : (fresh_called (ledger_of ws) s).ledger ≡ ledger_of ws₁ = ap (λ (c : Called). c.ledger) (fresh-long ws s long) ∙ sym e in
    let b = subst (λ (l : Ledger). ByValue l (begun s) cs) f (claim-by-value (ledger_of ws) s clear cs) in
    let r = made-ran cs hs ws₁ ws₂ m in
    let k : book (ledger_of ws₂) ≡ after (book (ledger_of ws₁)) cs = ap book r ∙ b.runs.ledger in
    let h : sound_ledger (ledger_of ws₁) ≡ true = sym (ap sound_ledger f) ∙ fresh_kept (ledger_of ws) s clear in
    let a = read_all cs hs ws₁ ws₂ h m in
    record {
      ledger = r;
      claims = b;
      numbers = a.numbers ∙ sym (map-map number_of (λ (o : Outcome). o.result) (outcomes (book (ledger_of ws₁)) cs)) ∙ ap (map number_of) b.claims.results;
      returned = ap (λ (x : Book). pos (total x)) k ∙ b.claims.returned ∙ sym a.changes;
      history = ap total k ∙ b.claims.history;
      written = a.written;
      once = rw (ids-read hs (outcomes (book (ledger_of ws₁)) cs) a.written) b.claims.once;
    }
