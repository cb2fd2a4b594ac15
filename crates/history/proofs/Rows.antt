-- The Tracking IDs that are assigned, in order, are the numbers from the first to the next. Assumes nothing.
use Prim.Native.Nat.{ℕ, zero, suc, ◌+◌, ◌≤◌, ◌<◌}
use mathlib.Core.Path.{◌≡◌, refl, sym, ap, ◌∙◌, subst}
use mathlib.Core.Bool.{Bool, true, false}
use mathlib.Core.List.{List, [], ◌∷◌, ◌++◌, map}
use native.Mathlib.Nat.{add-zero, not-suc-le-zero}
use native.Mathlib.Omega.{arith}
use lib.ListN.{length, get_or, length-append}
use Rattle.fields.proofs.BoolLaws.{and_left, and_right, cases}
use Rattle.units.specs.Calendar.{is_date}
use Rattle.ledger.specs.declared.Bill.{Bill}
use Rattle.ledger.specs.declared.Identity.{Identity}
use Rattle.rules.specs.Lists.{every, count}
use Rattle.ledger.specs.Bills.{is_of}
use Rattle.ledger.specs.Books.{Book, view, bill_terms}
use Rattle.ledger.specs.Sound.{sound_bill, holds_id}
use Rattle.ledger.proofs.SoundLaws.{terms-facts, bill-terms}
use Rattle.file.specs.File.{Group, file_groups, asks_id, line3}
use Rattle.rules.specs.Rules.{first}
use Rattle.verdict.specs.Lines.{is_nothing, terms_of}
use Rattle.group.specs.Groups.{identity_of, sought_in, sought, settled, answer, verdict_by, verdict_here, taken, answers, is_accepted}
use Rattle.calls.proofs.FileSound.{confirmation-up, tracking-up, count-step}
use Rattle.causes.specs.declared.Request.{Request}
use Rattle.causes.specs.Causes.{Call, request, calendar, file, cancel, close, removal, causes, worked_out}
use Rattle.calls.specs.Machine.{next, next_written, outcome, step, after, outcomes}
use Rattle.causes.proofs.CauseLaws.{asks, sends, cancels}
use Rattle.calls.proofs.CalendarCalls.{clear-dated}
use Rattle.history.specs.History.{History, h_step, decided, verdict_now}
use Rattle.history.specs.Written.{assigned_in}
use Rattle.history.specs.Claim.{All, NoneTwice, assigned}
use Rattle.history.proofs.WrittenRecordLaws.{Formed, formed-file}
use Rattle.history.proofs.WrittenLaws.{bil-assigns, cxl-assigns, none-assigned, given_to, answer-assigns}
use Rattle.history.proofs.Accepted.{accepted-exists}
use Rattle.history.proofs.Follow.{Follows, group-follows}
use Rattle.history.proofs.Simulation.{cause-is, step_follows}
use Rattle.std.specs.Prelude.{Result, Ok, Err, ⊤}
use Rattle.ledger.specs.declared.Posted.{Posted}
use Rattle.rules.specs.declared.Cause.{Cause}
use Rattle.rules.specs.declared.ErrorCode.{ErrorCode}

-- n, n + 1, .. : k numbers
unfoldable pub range : ℕ → ℕ → List ℕ
range n zero = []
range n (suc k) = n ∷ range (n + 1) k

range-append : (n a b : ℕ) → range n a ++ range (n + a) b ≡ range n (a + b)
unfolding range
range-append n zero b = let h : n + 0 ≡ n = omega arith in let k : 0 + b ≡ b = omega arith in rw (h, k)
range-append n (suc a) b =
    let h : n + suc a ≡ (n + 1) + a = omega arith in
    let k : suc a + b ≡ suc (a + b) = omega arith in
    rw (h, k) (ap (λ (l : List ℕ). n ∷ l) (range-append (n + 1) a b))

range_at : (a n i : ℕ) → i < n → get_or (range a n) i 0 ≡ a + i
unfolding range
range_at a zero i h = absurd (not-suc-le-zero h)
range_at a (suc n) zero h = omega arith
range_at a (suc n) (suc i) h = range_at (a + 1) n i (omega arith) ∙ omega arith

-- these numbers go from one to the next
pub record Row (from : ℕ) (ids : List ℕ) (to : ℕ) : Type 0 where
  pub row : ids ≡ range from (length ids)
  pub ends : from + length ids ≡ to

row-append : (a b c : ℕ) (xs ys : List ℕ) → Row a xs b → Row b ys c → Row a (xs ++ ys) c
row-append a b c xs ys p q =
    let e : xs ++ ys ≡ range a (length xs + length ys) =
    ap (λ (l : List ℕ). l ++ ys) p.row ∙ ap (λ (l : List ℕ). range a (length xs) ++ l) q.row
    ∙ ap (λ (n : ℕ). range a (length xs) ++ range n (length ys)) (sym p.ends) ∙ range-append a (length xs) (length ys) in
    record {
      row = e ∙ ap (range a) (sym (length-append xs ys));
      ends = omega (arith, length-append xs ys, p.ends, q.ends);
    }

row_is : (a b : ℕ) (xs ys : List ℕ) → xs ≡ ys → Row a ys b → Row a xs b
row_is a b xs ys e r = subst (λ (l : List ℕ). Row a l b) (sym e) r

row-none : (a : ℕ) → Row a [] a
unfolding range
row-none a = record { row = refl; ends = omega arith }

row_one : (a : ℕ) → Row a (a ∷ []) (a + 1)
unfolding range
row_one a = record { row = refl; ends = refl }

pub row-once : (a b : ℕ) (ids : List ℕ) → Row a ids b → NoneTwice ids
row-once a b ids r i j hi hj e =
    let p : get_or ids i 0 ≡ a + i = ap (λ (l : List ℕ). get_or l i 0) r.row ∙ range_at a (length ids) i hi in
    let q : get_or ids j 0 ≡ a + j = ap (λ (l : List ℕ). get_or l j 0) r.row ∙ range_at a (length ids) j hj in
    omega arith

-- ---- a group
-- the bill that is sought has a Scheduled Date
dated : (id : Identity) (bs : List Bill) → every sound_bill bs ≡ true → is_nothing (sought_in id (map bill_terms bs)) ≡ false
    → is_date (terms_of (sought_in id (map bill_terms bs))).latest.scheduled.0 ≡ true
dated id [] a n = absurd (mathlib.Core.Bool.true≢false n)
dated id (b ∷ bs) a n =
    cases (is_of id b.terms)
    (λ e. rw e (terms-facts b.terms (bill-terms b (and_left (sound_bill b) (every sound_bill bs) a))).scheduled)
    (λ e. rw e (dated id bs (and_right (sound_bill b) (every sound_bill bs) a) (rw e at n)))

group-dated : (t : Bool) (l : Book) (h : History) (g : Group) → Follows l h → (v : Result Posted ErrorCode) → verdict_by t (view l) g ≡ v → is_accepted v ≡ true
    → is_date (terms_of (sought (view l) g)).latest.scheduled.0 ≡ true
group-dated t l h g f (Ok amounts) e a = dated (identity_of g) l.bills f.sound.bills (accepted-exists t (view l) g amounts e)
group-dated t l h g f (Err n) e a = absurd (mathlib.Core.Bool.false≢true a)

row-group : (l : Book) (g : Group) (v : Result Posted ErrorCode) → Row l.tracking (given_to l.tracking g v) (settled l g v).tracking
unfolding settled
row-group l g (Ok amounts) =
    cases (asks_id g) (λ e. rw e (row_one l.tracking)) (λ e. rw e (rw (add-zero l.tracking) (row-none l.tracking)))
row-group l g (Err n) = row-none l.tracking

row-groups : (before gs : List Group) (l : Book) (h : History) → Follows l h → All Formed gs → l.confirmation + length gs ≤ 1000000000
    → l.tracking + count asks_id gs ≤ 1000000000 → Row l.tracking (assigned_in (answers before l gs)) (taken before l gs).tracking
unfolding answers taken
row-groups before [] l h f w c n = row_is l.tracking l.tracking (assigned_in []) [] none-assigned (row-none l.tracking)
row-groups before (g ∷ gs) l h f w c n =
    let s = count-step (asks_id g) (count asks_id gs) in
    let t = line3 (before ++ gs) g in
    let v = verdict_here before l g gs in
    let l' = settled l g v in
    let rest = answers (before ++ (g ∷ [])) l' gs in
    row_is l.tracking (taken (before ++ (g ∷ [])) l' gs).tracking (assigned_in (answer (view l) g v ++ rest)) (given_to l.tracking g v ++ assigned_in rest)
    (answer-assigns (view l) g v rest w.0 (group-dated t l h g f v refl) (omega arith))
    (row-append l.tracking l'.tracking (taken (before ++ (g ∷ [])) l' gs).tracking (given_to l.tracking g v) (assigned_in rest)
    (row-group l g v)
    (row-groups (before ++ (g ∷ [])) gs l' (decided h g (verdict_now before h g gs))
    (group-follows t l h g f (omega arith) (omega arith))
    w.1 (omega (arith, confirmation-up l g v)) (omega (arith, tracking-up l g v))))

-- ---- the calls
-- the Tracking ID of the BIL is the next one
row-request : (l : Book) (r : Request) (room : ℕ) → first (causes (view l) (request r room)) ≡ Ok tt
    → Row l.tracking (assigned_in (next_written l (request r room))) (next l (request r room)).tracking
unfolding next_written next causes
row-request l r room e =
    let a = asks r room l.today l.tracking l.confirmation (length (map bill_terms l.bills)) (sought_in r.identity (map bill_terms l.bills)) e in
    let t = a.left.0 in
    cases (holds_id r.identity l.bills)
    (λ k. rw k (row_is l.tracking (l.tracking + 1) _ (l.tracking ∷ []) (bil-assigns _ (omega arith)) (row_one l.tracking)))
    (λ k. rw k (row_is l.tracking (l.tracking + 1) _ (l.tracking ∷ []) (bil-assigns _ (omega arith)) (row_one l.tracking)))

row_next : (l : Book) (h : History) (c : Call) → Follows l h → first (causes (view l) c) ≡ Ok tt
    → Row l.tracking (assigned_in (next_written l c)) (next l c).tracking
unfolding next_written next causes
row_next l h (request r room) f e = row-request l r room e
row_next l h (calendar q hs room) f e = row-request l (worked_out q hs l.today) room (clear-dated (view l) q hs room e)
row_next l h (file s room) f e =
    let a = sends s room l.tracking l.confirmation e in
    row-groups [] (file_groups s) l h f (formed-file s) a.left.1 a.left.0
row_next l h (cancel id room) f e =
    let t = (cancels id room l.tracking l.confirmation (sought_in id (map bill_terms l.bills)) e).left.0 in
    row_is l.tracking (l.tracking + 1) _ (l.tracking ∷ []) (cxl-assigns _ (omega arith)) (row_one l.tracking)
row_next l h (close d) f e = row_is l.tracking l.tracking (assigned_in []) [] none-assigned (row-none l.tracking)
row_next l h (removal a) f e = row_is l.tracking l.tracking (assigned_in []) [] none-assigned (row-none l.tracking)

row_step : (l : Book) (h : History) (c : Call) → Follows l h → Row l.tracking (assigned_in (step l c).written) (step l c).ledger.tracking
unfolding step outcome
row_step l h c f = rw (cause-is l h c f) (go (first (causes (view l) c)) refl)
  where
    go : (v : Result ⊤ Cause) → first (causes (view l) c) ≡ v → Row l.tracking (assigned_in (outcome l c v).written) (outcome l c v).ledger.tracking
    go (Ok tt) e = row_next l h c f e
    go (Err n) e = row_is l.tracking l.tracking (assigned_in []) [] none-assigned (row-none l.tracking)

pub row-all : (cs : List Call) (l : Book) (h : History) → Follows l h → Row l.tracking (assigned (outcomes l cs)) (after l cs).tracking
unfolding assigned outcomes after
row-all [] l h f = row-none l.tracking
row-all (c ∷ cs) l h f =
    row-append l.tracking (step l c).ledger.tracking (after (step l c).ledger cs).tracking (assigned_in (step l c).written)
    (assigned (outcomes (step l c).ledger cs)) (row_step l h c f) (row-all cs (step l c).ledger (h_step h c) (step_follows l h c f))
