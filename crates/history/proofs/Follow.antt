-- The history follows the ledger, one step at a time. Assumes nothing.
use Prim.Native.Nat.{ℕ, ◌+◌, ◌≤◌, ◌<◌}
use mathlib.Core.Path.{◌≡◌, refl, sym, ap, ◌∙◌, subst}
use mathlib.Core.Bool.{Bool, true, false, cond, true≢false}
use mathlib.Core.List.{List, [], ◌∷◌, ◌++◌, map}
use native.Mathlib.Nat.{add-zero}
use native.Mathlib.Omega.{arith}
use lib.ListN.{length}
use Rattle.fields.proofs.BoolLaws.{or-both, cases}
use Rattle.ledger.specs.declared.Bill.{Bill}
use Rattle.ledger.specs.declared.Identity.{Identity}
use Rattle.ledger.specs.declared.Posted.{Posted}
use Rattle.ledger.specs.declared.Terms.{Terms}
use Rattle.rules.specs.Lists.{count, update}
use Rattle.ledger.specs.Bills.{is_of, renewed, posting, cancelled_bill, removed_terms}
use Rattle.ledger.specs.Books.{Book, view, bill_terms, of_id, of_account, removed_of, bill_charge}
use Rattle.ledger.specs.Sound.{holds_id}
use Rattle.ledger.proofs.SoundLaws.{BookFacts}
use Rattle.file.specs.File.{Group, file_groups, detail_of, asks_id, line3}
use Rattle.file.proofs.WalkLaws.{has-append}
use Rattle.rules.specs.Rules.{first}
use Rattle.verdict.specs.Lines.{is_nothing, sent_charge}
use Rattle.group.specs.Groups.{identity_of, sought_in, verdict_by, settled, verdict_here, taken}
use Rattle.calls.proofs.FileSound.{holds_kept, settled-facts, confirmation-up, tracking-up, count-step}
use Rattle.causes.specs.declared.Request.{Request}
use Rattle.causes.specs.declared.AccountRemoval.{AccountRemoval}
use Rattle.causes.specs.Causes.{Call, request, calendar, file, cancel, close, removal, causes, worked_out}
use Rattle.causes.specs.Requests.{latest_of, new_bill}
use Rattle.calls.specs.Machine.{next}
use Rattle.causes.proofs.CauseLaws.{sends}
use Rattle.calls.proofs.NextSound.{nowhere, removed-holds, next-facts}
use Rattle.calls.proofs.CalendarCalls.{clear-dated}
use Rattle.history.specs.History.{Posting, History, last_charge, counted_charge, renews, marked, raised, with_removal, onward, decided, verdict_now, decided_all, h_next}
use Rattle.history.specs.Claim.{All}
use Rattle.history.proofs.Accepted.{accepted-exists, accepted-alive, accepted-charge}
use Rattle.history.proofs.UpdateLaws.{identity-same, has-map, map-append, all_append, map-update, all-update}
use Rattle.std.specs.Prelude.{Some, Result, Ok, Err}
use Rattle.rules.specs.declared.ErrorCode.{ErrorCode}

-- the history of a ledger, with these postings
abbrev pub hist : Book → List Posting → History
hist l ps = record { now = view l; postings = ps }

-- a bill's charge is that of its last posting
abbrev pub Agrees : List Posting → Bill → Type 0
Agrees ps b = bill_charge b ≡ counted_charge ps b.terms

pub record Follows (l : Book) (h : History) : Type 0 where
  pub now : h.now ≡ view l
  pub sums : All (Agrees h.postings) l.bills
  -- a bill that is not held has no posting
  pub unposted : (t : Terms) → holds_id t.identity l.bills ≡ false → last_charge t h.postings ≡ 0
  pub sound : BookFacts l

-- it is enough to look at histories whose view is the ledger's
pub along : (C : History → Type 0) (l : Book) (h : History) → h.now ≡ view l → C (hist l h.postings) → C h
along C l h e c = subst C (λ i. record { now = sym e i; postings = h.postings }) c

pub same_view : (l : Book) (h : History) → Follows l h → Follows l (hist l h.postings)
same_view l h f = record { now = refl; sums = f.sums; unposted = f.unposted; sound = f.sound }

-- the last posting reads the identity alone
last-same : (t u : Terms) → t.identity ≡ u.identity → (ps : List Posting) → last_charge t ps ≡ last_charge u ps
last-same t u e [] = refl
last-same t u e (p ∷ ps) = rw (last-same t u e ps, e)

-- ---- a removal
-- the bills with the date, by the history and by the ledger
removal-view : (a : AccountRemoval) (bs : List Bill) → with_removal a (map bill_terms bs) ≡ map bill_terms (map (removed_of a.account a.date) bs)
removal-view a [] = refl
removal-view a (b ∷ bs) =
    cases (of_account a.account b)
    (λ e. rw e (ap (λ (ts : List Terms). removed_terms a.date b.terms ∷ ts) (removal-view a bs)))
    (λ e. rw e (ap (λ (ts : List Terms). b.terms ∷ ts) (removal-view a bs)))

-- each bill's charge is still that of its last posting
removal-sums : (a : AccountRemoval) (ps : List Posting) (bs : List Bill) → All (Agrees ps) bs → All (Agrees ps) (map (removed_of a.account a.date) bs)
removal-sums a ps [] q = tt
removal-sums a ps (b ∷ bs) q = (
  cases (of_account a.account b)
      (λ e. rw e (q.0 ∙ ap (λ (n : ℕ). cond b.terms.cancelled 0 n) (last-same b.terms (removed_terms a.date b.terms) refl ps)))
      (λ e. rw e q.0),
  removal-sums a ps bs q.1,
)

-- ---- a group
-- the history's view after a group is the ledger's
settled-now : (l : Book) (ps : List Posting) (g : Group) (v : Result Posted ErrorCode) → (decided (hist l ps) g v).now ≡ view (settled l g v)
unfolding settled decided
settled-now l ps g (Ok amounts) =
    λ i. record {
      today = l.today;
      tracking = l.tracking + cond (asks_id g) 1 0;
      confirmation = l.confirmation + 1;
      bills = sym (map-update (identity_of g) (posting amounts (asks_id g)) (raised (asks_id g)) (λ b. refl) l.bills) i;
    }
settled-now l ps g (Err m) =
    λ i. record {
      today = l.today;
      tracking = add-zero l.tracking i;
      confirmation = l.confirmation + 1;
      bills = map bill_terms l.bills;
    }

pub decided-now : (t : Bool) (l : Book) (h : History) (g : Group) → h.now ≡ view l
    → (decided h g (verdict_by t h.now g)).now ≡ view (settled l g (verdict_by t (view l) g))
decided-now t l h g e =
    along (λ k. (decided k g (verdict_by t k.now g)).now ≡ view (settled l g (verdict_by t (view l) g))) l h e
    (settled-now l h.postings g (verdict_by t (view l) g))

module _ (t : Bool) (l : Book) (ps : List Posting) (g : Group) (f : Follows l (hist l ps)) (c : l.confirmation < 1000000000)
    (n : l.tracking + cond (asks_id g) 1 0 ≤ 1000000000) where
  facts : (v : Result Posted ErrorCode) → verdict_by t (view l) g ≡ v → BookFacts (settled l g v)
  facts v e = subst (λ (w : Result Posted ErrorCode). BookFacts (settled l g w)) e (settled-facts t l g f.sound c n)

  abbrev named : Identity
  named = identity_of g

  abbrev paid : Posting
  paid = record { identity = identity_of g; charge = sent_charge (detail_of g) }

  -- the bill that the group is about takes the group's charge
  takes : (amounts : Posted) → verdict_by t (view l) g ≡ Ok amounts → (b : Bill) → of_id named b ≡ true
      → sought_in named (map bill_terms l.bills) ≡ Some b.terms → Agrees (paid ∷ ps) (posting amounts (asks_id g) b)
  takes amounts e b t' y =
      let alive : b.terms.cancelled ≡ false = rw y at (accepted-alive t (view l) g amounts e) in
      rw (alive, t') (accepted-charge t (view l) g amounts e)

  -- a bill that is not held is not the group's
  other : (amounts : Posted) → verdict_by t (view l) g ≡ Ok amounts → (u : Terms) → holds_id u.identity l.bills ≡ false
      → last_charge u (paid ∷ ps) ≡ 0
  other amounts e u o =
      cases (is_of named u)
      (λ s.
      let m : holds_id named l.bills ≡ false = ap (λ (i : Identity). holds_id i l.bills) (sym (identity-same named u s)) ∙ o in
      let x : is_nothing (sought_in named (map bill_terms l.bills)) ≡ true = rw (nowhere named l.bills m) in
      absurd (true≢false (sym x ∙ accepted-exists t (view l) g amounts e)))
      (λ s. rw s (f.unposted u o))

  group-moves : (v : Result Posted ErrorCode) → verdict_by t (view l) g ≡ v → Follows (settled l g v) (decided (hist l ps) g v)
  unfolding settled decided
  group-moves (Ok amounts) e =
      record {
        now = settled-now l ps g (Ok amounts);
        sums =
            all-update named (Agrees ps) (Agrees (paid ∷ ps)) (posting amounts (asks_id g)) l.bills f.sound.once
            (λ b s y q. takes amounts e b s y) (λ b s q. rw s q) f.sums;
        unposted = λ u o. other amounts e u (sym (holds_kept named (posting amounts (asks_id g)) (λ b. refl) u.identity l.bills) ∙ o);
        sound = facts (Ok amounts) e;
      }
  group-moves (Err m) e =
      record {
        now = settled-now l ps g (Err m);
        sums = f.sums;
        unposted = f.unposted;
        sound = facts (Err m) e;
      }

pub group-follows : (t : Bool) (l : Book) (h : History) (g : Group) → Follows l h → l.confirmation < 1000000000
    → l.tracking + cond (asks_id g) 1 0 ≤ 1000000000
    → Follows (settled l g (verdict_by t (view l) g)) (decided h g (verdict_by t h.now g))
group-follows t l h g f c n =
    along (λ k. Follows (settled l g (verdict_by t (view l) g)) (decided k g (verdict_by t k.now g))) l h f.now
    (group-moves t l h.postings g (same_view l h f) c n (verdict_by t (view l) g) refl)

-- the groups of a file
pub groups-follow : (before gs : List Group) (l : Book) (h : History) → Follows l h → l.confirmation + length gs ≤ 1000000000
    → l.tracking + count asks_id gs ≤ 1000000000 → Follows (taken before l gs) (decided_all before h gs)
unfolding taken decided_all
groups-follow before [] l h f c n = f
groups-follow before (g ∷ gs) l h f c n =
    let s = count-step (asks_id g) (count asks_id gs) in
    let v = verdict_here before l g gs in
    groups-follow (before ++ (g ∷ [])) gs (settled l g v) (decided h g (verdict_now before h g gs))
    (group-follows (line3 (before ++ gs) g) l h g f (omega arith) (omega arith))
    (omega (arith, confirmation-up l g v))
    (omega (arith, tracking-up l g v))

-- ---- the calls
module _ (l : Book) (ps : List Posting) (f : Follows l (hist l ps)) where
  -- one bill changes, which keeps its charge
  module _ (id : Identity) (g : Bill → Bill) (g' : Terms → Terms) (same : (b : Bill) → (g b).terms ≡ g' b.terms)
      (keeps : (b : Bill) → (g b).terms.identity ≡ b.terms.identity)
      (agrees : (b : Bill) → Agrees ps b → Agrees ps (g b)) where
    abbrev after : Book
    after =
        record {
          today = l.today;
          tracking = l.tracking + 1;
          confirmation = l.confirmation + 1;
          bills = update (of_id id) g l.bills;
        }

    pub change-follows : BookFacts after
        → Follows after (record { now = onward (view l) 1 1 (update (is_of id) g' (map bill_terms l.bills)); postings = ps })
    change-follows s =
        record {
          now = ap (onward (view l) 1 1) (sym (map-update id g g' same l.bills));
          sums = all-update id (Agrees ps) (Agrees ps) g l.bills f.sound.once (λ b e y q. agrees b q) (λ b e q. q) f.sums;
          unposted = λ u o. f.unposted u (sym (holds_kept id g keeps u.identity l.bills) ∙ o);
          sound = s;
        }

  -- a bill more, with no charge
  add-follows : (b : Bill) → bill_charge b ≡ 0 → holds_id b.terms.identity l.bills ≡ false
      → BookFacts (record { today = l.today; tracking = l.tracking + 1; confirmation = l.confirmation + 1; bills = l.bills ++ (b ∷ []) })
      → Follows (record { today = l.today; tracking = l.tracking + 1; confirmation = l.confirmation + 1; bills = l.bills ++ (b ∷ []) })
      (record { now = onward (view l) 1 1 (map bill_terms l.bills ++ (b.terms ∷ [])); postings = ps })
  add-follows b z o s =
      record {
        now = ap (onward (view l) 1 1) (sym (map-append l.bills b));
        sums = all_append (Agrees ps) l.bills b f.sums (z ∙ sym (no-charge b.terms.cancelled (f.unposted b.terms o)));
        unposted =
            λ u m.
            f.unposted u
            (or-both (holds_id u.identity l.bills) (holds_id u.identity (b ∷ [])) (sym (has-append (of_id u.identity) l.bills (b ∷ [])) ∙ m)).0;
        sound = s;
      }
    where
      no-charge : (x : Bool) {n : ℕ} → n ≡ 0 → cond x 0 n ≡ 0
      no-charge true e = refl
      no-charge false e = e

  request-follows : (r : Request) (room : ℕ) → first (causes (view l) (request r room)) ≡ Ok tt
      → Follows (next l (request r room)) (h_next (hist l ps) (request r room))
  unfolding next h_next causes
  request-follows r room e =
      let again : (b : Bill) → Agrees ps b → Agrees ps (renewed (latest_of r l.tracking) b) =
      λ b q. q ∙ ap (λ (n : ℕ). cond b.terms.cancelled 0 n) (last-same b.terms (renewed (latest_of r l.tracking) b).terms refl ps) in
      let s = next-facts l (request r room) f.sound e in
      cases (holds_id r.identity l.bills)
      (λ h. rw (has-map r.identity l.bills, h)
      (change-follows r.identity (renewed (latest_of r l.tracking)) (renews r l.tracking) (λ b. refl) (λ b. refl) again (rw h at s)))
      (λ h. rw (has-map r.identity l.bills, h) (add-follows (new_bill r l.tracking) refl h (rw h at s)))

  removal-follows : (a : AccountRemoval) → first (causes (view l) (removal a)) ≡ Ok tt → Follows (next l (removal a)) (h_next (hist l ps) (removal a))
  unfolding next h_next causes
  removal-follows a e =
      record {
        now =
            ap (λ (ts : List Terms). record { today = l.today; tracking = l.tracking; confirmation = l.confirmation; bills = ts })
            (removal-view a l.bills);
        sums = removal-sums a ps l.bills f.sums;
        unposted = λ t m. f.unposted t (sym (removed-holds a.account a.date t.identity l.bills) ∙ m);
        sound = next-facts l (removal a) f.sound e;
      }

  pub next-follows : (c : Call) → first (causes (view l) c) ≡ Ok tt → Follows (next l c) (h_next (hist l ps) c)
  unfolding next h_next causes
  next-follows (request r room) e = request-follows r room e
  next-follows (calendar q hs room) e = request-follows (worked_out q hs l.today) room (clear-dated (view l) q hs room e)
  next-follows (file s room) e =
      let a = sends s room l.tracking l.confirmation e in
      groups-follow [] (file_groups s) l (hist l ps) f a.left.1 a.left.0
  next-follows (cancel id room) e =
      change-follows id cancelled_bill marked (λ b. refl) (λ b. refl) (λ b q. refl) (next-facts l (cancel id room) f.sound e)
  next-follows (close d) e =
      record { now = refl; sums = f.sums; unposted = f.unposted; sound = next-facts l (close d) f.sound e }
  next-follows (removal a) e = removal-follows a e
