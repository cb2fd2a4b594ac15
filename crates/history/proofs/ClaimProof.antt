-- The proof of demand 3. Assumes nothing.
use Prim.Native.Nat.{ℕ, suc, ◌+◌}
use mathlib.Core.Path.{◌≡◌, refl, sym, ap, ◌∙◌}
use mathlib.Core.Bool.{Bool, false≢true}
use mathlib.Core.List.{List, [], ◌∷◌, ◌++◌, map}
use lib.IntN.{+ℤ_idl}
use lib.ListN.{length}
use Rattle.rules.specs.Lists.{count}
use Rattle.ledger.specs.Books.{Book, View, view}
use Rattle.ledger.proofs.SoundLaws.{book-facts, facts-sound, ledger-book}
use Rattle.file.specs.File.{Group, file_groups, line3}
use Rattle.rules.specs.Rules.{first}
use Rattle.group.specs.Groups.{settled, verdict_by, verdict_here, answers, verdicts, is_accepted}
use Rattle.causes.specs.declared.Start.{Start}
use Rattle.causes.specs.Causes.{Call, request, calendar, file, cancel, close, removal, fresh_causes}
use Rattle.calls.specs.Machine.{cause, next_written, next_verdicts, Outcome, outcome, step, fresh, after, outcomes}
use Rattle.calls.specs.Days.{fresh_ledger, fresh_by, fresh_called}
use Rattle.calls.proofs.CountLaws.{both-counted}
use Rattle.calls.proofs.FreshCloseLaws.{fresh-sound}
use Rattle.calls.proofs.RunLaws.{runs}
use Rattle.history.specs.History.{History, begun, decided, Decided, verdict_now, decisions, h_cause, h_step, h_after, call_decisions, h_decisions}
use Rattle.history.specs.Written.{acfs_in}
use Rattle.history.specs.Claim.{All, assigned, changes, accepts, acfs_of, Lawful, SumFromHistory, SumByValue}
use Rattle.history.proofs.WrittenRecordLaws.{Formed, formed-file}
use Rattle.history.proofs.WrittenLaws.{bil-no-acf, cxl-no-acf, none-acf, acf_for, answer-acfs}
use Rattle.history.proofs.Accepted.{accepted-exists, accepted-alive, accepted-in-time}
use Rattle.history.proofs.Follow.{Follows, decided-now}
use Rattle.history.proofs.Simulation.{cause-history, after-follows, total-history, changes-total, all_results, each-call}
use Rattle.history.proofs.Rows.{row-once, row-all}
use Rattle.std.specs.Prelude.{Result, Ok, Err, ⊤}
use Rattle.ledger.specs.declared.Posted.{Posted}
use Rattle.rules.specs.declared.Cause.{Cause}
use Rattle.rules.specs.declared.ErrorCode.{ErrorCode}

-- ---- the verdicts
verdicts_of : List Decided → List (Result Posted ErrorCode)
verdicts_of ds = map (λ (d : Decided). d.verdict) ds

group-verdicts : (before gs : List Group) (l : Book) (h : History) → h.now ≡ view l → verdicts before l gs ≡ verdicts_of (decisions before h gs)
unfolding verdicts decisions verdicts_of
group-verdicts before [] l h e = refl
group-verdicts before (g ∷ gs) l h e =
    let t = line3 (before ++ gs) g in
    ap (λ (v : View). verdict_by t v g ∷ verdicts (before ++ (g ∷ [])) (settled l g (verdict_here before l g gs)) gs) (sym e)
    ∙ ap (λ (vs : List (Result Posted ErrorCode)). verdict_by t h.now g ∷ vs)
    (group-verdicts (before ++ (g ∷ [])) gs (settled l g (verdict_here before l g gs)) (decided h g (verdict_now before h g gs)) (decided-now t l h g e))

call-verdicts : (l : Book) (h : History) (c : Call) (v : Result ⊤ Cause) → h.now ≡ view l → (outcome l c v).verdicts ≡ verdicts_of (call_decisions h c v)
unfolding outcome next_verdicts call_decisions verdicts_of
call-verdicts l h (request r room) (Ok tt) e = refl
call-verdicts l h (request r room) (Err n) e = refl
call-verdicts l h (calendar q hs room) (Ok tt) e = refl
call-verdicts l h (calendar q hs room) (Err n) e = refl
call-verdicts l h (file s room) (Ok tt) e = group-verdicts [] (file_groups s) l h e
call-verdicts l h (file s room) (Err n) e = refl
call-verdicts l h (cancel id room) (Ok tt) e = refl
call-verdicts l h (cancel id room) (Err n) e = refl
call-verdicts l h (close d) (Ok tt) e = refl
call-verdicts l h (close d) (Err n) e = refl
call-verdicts l h (removal a) (Ok tt) e = refl
call-verdicts l h (removal a) (Err n) e = refl

step-verdicts : (l : Book) (h : History) (c : Call) → Follows l h → (step l c).verdicts ≡ verdicts_of (call_decisions h c (h_cause h c))
unfolding step
step-verdicts l h c f = ap (λ (v : Result ⊤ Cause). (outcome l c v).verdicts) (cause-history l h c f) ∙ call-verdicts l h c (h_cause h c) f.now

-- ---- the counts
outcome-accepted : (l : Book) (c : Call) (v : Result ⊤ Cause) → (outcome l c v).accepted ≡ count is_accepted (outcome l c v).verdicts
unfolding outcome
outcome-accepted l c (Ok tt) = refl
outcome-accepted l c (Err n) = refl

count-verdicts : (ds : List Decided) → count is_accepted (verdicts_of ds) ≡ count accepts ds
unfolding verdicts_of
count-verdicts [] = refl
count-verdicts (d ∷ ds) = rw (count-verdicts ds)

step-accepted : (l : Book) (h : History) (c : Call) → Follows l h → (step l c).accepted ≡ count accepts (call_decisions h c (h_cause h c))
unfolding step
step-accepted l h c f =
    outcome-accepted l c (cause l c) ∙ ap (count is_accepted) (step-verdicts l h c f) ∙ count-verdicts (call_decisions h c (h_cause h c))

-- accepted and rejected are together the groups that are decided
outcome-counted : (l : Book) (c : Call) (v : Result ⊤ Cause) → (outcome l c v).accepted + (outcome l c v).rejected ≡ length (outcome l c v).verdicts
unfolding outcome
outcome-counted l c (Ok tt) = both-counted (next_verdicts l c)
outcome-counted l c (Err n) = refl

length-verdicts : (ds : List Decided) → length (verdicts_of ds) ≡ length ds
unfolding verdicts_of
length-verdicts [] = refl
length-verdicts (d ∷ ds) = ap suc (length-verdicts ds)

step-counted : (l : Book) (h : History) (c : Call) → Follows l h → (step l c).accepted + (step l c).rejected ≡ length (call_decisions h c (h_cause h c))
unfolding step
step-counted l h c f =
    outcome-counted l c (cause l c) ∙ ap length (step-verdicts l h c f) ∙ length-verdicts (call_decisions h c (h_cause h c))

-- ---- the ACFs
acf-more : (d : Decided) (ds : List Decided) → acfs_of (d ∷ ds) ≡ acf_for d.now d.group d.verdict ++ acfs_of ds
acf-more d ds = go d.verdict refl
  where
    go : (v : Result Posted ErrorCode) → d.verdict ≡ v → acfs_of (d ∷ ds) ≡ acf_for d.now d.group v ++ acfs_of ds
    go (Ok amounts) e = rw e
    go (Err n) e = rw e

group-acfs : (before gs : List Group) (l : Book) (h : History) → h.now ≡ view l → All Formed gs → acfs_in (answers before l gs) ≡ acfs_of (decisions before h gs)
unfolding answers decisions
group-acfs before [] l h e w = none-acf
group-acfs before (g ∷ gs) l h e w =
    let t = line3 (before ++ gs) g in
    let l' = settled l g (verdict_here before l g gs) in
    let rest = answers (before ++ (g ∷ [])) l' gs in
    answer-acfs (view l) g (verdict_by t (view l) g) rest w.0
    ∙ ap (λ (v : View). acf_for v g (verdict_by t v g) ++ acfs_in rest) (sym e)
    ∙ ap (λ (r : List (List ℕ)). acf_for h.now g (verdict_by t h.now g) ++ r)
    (group-acfs (before ++ (g ∷ [])) gs l' (decided h g (verdict_now before h g gs)) (decided-now t l h g e) w.1)
    ∙ sym (acf-more (record { now = h.now; group = g; verdict = verdict_now before h g gs }) (decisions (before ++ (g ∷ [])) (decided h g (verdict_now before h g gs)) gs))

call-acfs : (l : Book) (h : History) (c : Call) (v : Result ⊤ Cause) → h.now ≡ view l → acfs_in (outcome l c v).written ≡ acfs_of (call_decisions h c v)
unfolding outcome next_written call_decisions
call-acfs l h (request r room) (Ok tt) e = bil-no-acf _
call-acfs l h (request r room) (Err n) e = none-acf
call-acfs l h (calendar q hs room) (Ok tt) e = bil-no-acf _
call-acfs l h (calendar q hs room) (Err n) e = none-acf
call-acfs l h (file s room) (Ok tt) e = group-acfs [] (file_groups s) l h e (formed-file s)
call-acfs l h (file s room) (Err n) e = none-acf
call-acfs l h (cancel id room) (Ok tt) e = cxl-no-acf _
call-acfs l h (cancel id room) (Err n) e = none-acf
call-acfs l h (close d) (Ok tt) e = none-acf
call-acfs l h (close d) (Err n) e = none-acf
call-acfs l h (removal a) (Ok tt) e = none-acf
call-acfs l h (removal a) (Err n) e = none-acf

step-acfs : (l : Book) (h : History) (c : Call) → Follows l h → acfs_in (step l c).written ≡ acfs_of (call_decisions h c (h_cause h c))
unfolding step
step-acfs l h c f = ap (λ (v : Result ⊤ Cause). acfs_in (outcome l c v).written) (cause-history l h c f) ∙ call-acfs l h c (h_cause h c) f.now

-- ---- no group for a cancelled bill, no RSP after its Scheduled Date
lawful : (t : Bool) (v : View) (g : Group) → Lawful (record { now = v; group = g; verdict = verdict_by t v g })
lawful t v g = go (verdict_by t v g) refl
  where
    go : (c : Result Posted ErrorCode) → verdict_by t v g ≡ c → Lawful (record { now = v; group = g; verdict = c })
    go (Ok amounts) e =
        record {
          held = λ a. accepted-exists t v g amounts e;
          alive = λ a. accepted-alive t v g amounts e;
          in_time = λ a r. accepted-in-time t v g amounts e r;
        }
    go (Err n) e =
        record {
          held = λ a. absurd (false≢true a);
          alive = λ a. absurd (false≢true a);
          in_time = λ a r. absurd (false≢true a);
        }

groups-lawful : (before gs : List Group) (h : History) → All Lawful (decisions before h gs)
unfolding decisions
groups-lawful before [] h = tt
groups-lawful before (g ∷ gs) h =
    (lawful (line3 (before ++ gs) g) h.now g, groups-lawful (before ++ (g ∷ [])) gs (decided h g (verdict_now before h g gs)))

call-lawful : (h : History) (c : Call) (v : Result ⊤ Cause) → All Lawful (call_decisions h c v)
unfolding call_decisions
call-lawful h (request r room) v = tt
call-lawful h (calendar q hs room) v = tt
call-lawful h (file s room) (Ok tt) = groups-lawful [] (file_groups s) h
call-lawful h (file s room) (Err n) = tt
call-lawful h (cancel id room) v = tt
call-lawful h (close d) v = tt
call-lawful h (removal a) v = tt

all-lawful : (cs : List Call) (h : History) → All (All Lawful) (h_decisions h cs)
unfolding h_decisions
all-lawful [] h = tt
all-lawful (c ∷ cs) h = (call-lawful h c (h_cause h c), all-lawful cs (h_step h c))

-- ---- the claim
fresh-follows : (s : Start) → first (fresh_causes s) ≡ Ok tt → Follows (fresh s) (begun s)
fresh-follows s e =
    record {
      now = refl;
      sums = tt;
      unposted = λ t h. refl;
      sound = book-facts (fresh s) (ledger-book (fresh_ledger s) (fresh-sound s e));
    }

pub claim : SumFromHistory
unfolding verdicts_of
claim s ok cs =
    let l = fresh s in
    let h = begun s in
    let f₀ = fresh-follows s ok in
    let f = after-follows cs l h f₀ in
    record {
      returned = sym (changes-total cs l) ∙ +ℤ_idl (changes (outcomes l cs));
      history = total-history (after l cs) (h_after h cs) f;
      bills = f.now;
      results = all_results cs l h f₀;
      verdicts = each-call (λ (o : Outcome). o.verdicts) verdicts_of step-verdicts cs l h f₀;
      accepted = each-call (λ (o : Outcome). o.accepted) (count accepts) step-accepted cs l h f₀;
      counted = each-call (λ (o : Outcome). o.accepted + o.rejected) length step-counted cs l h f₀;
      acfs = each-call (λ (o : Outcome). acfs_in o.written) acfs_of step-acfs cs l h f₀;
      lawful = all-lawful cs h;
      once = row-once s.tracking (after l cs).tracking (assigned (outcomes l cs)) (row-all cs l h f₀);
      kept = facts-sound (after l cs) f.sound;
    }

pub claim-by-value : SumByValue
unfolding fresh_called fresh_by
claim-by-value l s ok cs = rw ok (record { runs = runs (fresh_ledger s) (fresh-sound s ok) cs; claims = claim s ok cs })
