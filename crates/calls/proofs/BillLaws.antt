-- What a request and a cancel do to the struct is what the machine says of the book, by value and in words. Assumes nothing.
use Prim.Native.Nat.{ℕ, ◌+◌, ◌≤◌, ◌<◌, ◌^◌}
use mathlib.Core.Path.{◌≡◌, refl, sym, ap, ap₂, ◌∙◌, subst}
use mathlib.Core.Bool.{true, false, true≢false}
use mathlib.Core.List.{List, [], ◌∷◌, ◌++◌, map}
use native.Mathlib.Omega.{arith}
use lib.ListN.{length, set, drop, take-append-drop, length-set, length-map}
use lib.Seq.{drop-set-lt}
use lib.IntN.{pos, ◌-ℤ◌}
use borrow.Author.Tests.{ltb-true, lt-ltb}
use Rattle.fields.proofs.BoolLaws.{cases}
use Rattle.ledger.specs.declared.Identity.{Identity}
use Rattle.ledger.specs.declared.Bill.{Bill}
use Rattle.ledger.specs.declared.Ledger.{Ledger}
use Rattle.ledger.specs.declared.LedgerHeader.{LedgerHeader}
use Rattle.rules.specs.Lists.{update}
use Rattle.ledger.specs.Bills.{renewed, cancelled_bill, blank_bill}
use Rattle.ledger.specs.Books.{Book, book, view, live, stored, of_id, place_of, bill_terms, bill_charge, total_of}
use Rattle.ledger.specs.parts.Places.{bill_at, header_of, updated, place_for}
use Rattle.ledger.specs.Sound.{holds_id, sound_bill, sound_ledger}
use Rattle.ledger.proofs.BookLaws.{live-appended, live-replaced, length-live, difference}
use Rattle.rules.proofs.ListLaws.{sum-append}
use Rattle.ledger.proofs.SoundLaws.{TermsFacts, terms-facts, bill-terms, bill-small, book-facts, ledger-book, ledger-count}
use Rattle.rules.specs.Rules.{first}
use Rattle.verdict.specs.Lines.{is_nothing}
use Rattle.notices.proofs.NoticeLengths.{length-bil, length-cxl}
use Rattle.group.specs.Groups.{sought_in}
use Rattle.group.specs.parts.Turns.{sought_by}
use Rattle.group.proofs.FoundLaws.{Held, nowhere, somewhere, held, sought-is, every_held}
use Rattle.causes.specs.declared.Request.{Request}
use Rattle.causes.specs.declared.BillCall.{BillCall}
use Rattle.causes.specs.declared.BillCall.TheVariants as bill_call
use Rattle.ledger.specs.declared.Update.{Update}
use Rattle.causes.specs.Causes.{request, cancel, causes}
use Rattle.causes.specs.Requests.{latest_of, new_bill}
use Rattle.causes.specs.parts.Decisions.{SoundAt, as_call, call_identity, causes_by, update_by, decided_by, ChangeFits, change_by, notice_by}
use Rattle.causes.proofs.CauseLaws.{Asks, asks, Cancels, cancels}
use Rattle.calls.specs.Machine.{bill_of, numbered, next, next_written, next_verdicts, next_closed, total, outcome, answer_by, cause_in}
use Rattle.calls.specs.parts.Answers.{noticed}
use Rattle.calls.proofs.PlaceOfLaws.{first-of, spot, spot-none}
use Rattle.calls.proofs.CallLaws.{Carried, Stopped, carried, stopped, cause-sound}
use Rattle.std.specs.Prelude.{Option, Some, None, Result, Ok, Err, ⊤}
use Rattle.rules.specs.declared.Cause.{Cause}

-- ---- where a bill is
-- all that is known of a bill by its place in the struct
pub data Placed (l : Ledger) (id : Identity) : Type 0 where
  new : place_of id (live l) ≡ None → holds_id id (live l) ≡ false → bill_of id (live l) ≡ blank_bill
      → sought_in id (map bill_terms (live l)) ≡ None → Placed l id
  old : (p : ℕ) → p < l.count → place_of id (live l) ≡ Some p → holds_id id (live l) ≡ true → bill_of id (live l) ≡ bill_at l p
      → sought_in id (map bill_terms (live l)) ≡ Some (bill_at l p).terms
      → ((f : Bill → Bill) → update (of_id id) f (live l) ≡ set (live l) p (f (bill_at l p))) → Placed l id

pub placed : (l : Ledger) (id : Identity) → Placed l id
placed l id = go (held l id)
  where
    go : Held l id → Placed l id
    go (nowhere x y) = let n = spot-none (of_id id) l x in new x n.0 (first-of id (live l) ∙ n.1) y
    go (somewhere p h x y z) = let s = spot (of_id id) l p x in old p h x s.some (first-of id (live l) ∙ s.bill) y z

-- ---- the struct after a change holds the changed book, and past it what it held
stored_same : (l k : Ledger) → k.count ≤ length k.bills → drop k.count k.bills ≡ drop k.count l.bills → stored l (book k) ≡ k
stored_same l k h e = rw (length-live k h, sym e, take-append-drop k.count k.bills)

-- "uses one of each number"
abbrev counted : LedgerHeader → ℕ → LedgerHeader
counted h n = record { today = h.today; tracking = h.tracking + 1; confirmation = h.confirmation + 1; count = n }

abbrev grown_by : Ledger → Bill → Ledger
grown_by l b = updated l l.count (record { header = counted (header_of l) (l.count + 1); bill = b })

abbrev changed_by : Ledger → ℕ → Bill → Ledger
changed_by l p b = updated l p (record { header = counted (header_of l) l.count; bill = b })

stored-new : (l : Ledger) (b : Bill) → l.count < length l.bills → grown_by l b ≡ stored l (numbered (book l) (live l ++ (b ∷ [])))
stored-new l b h =
    sym (stored_same l (grown_by l b) (omega (arith, length-set l.bills l.count b)) (drop-set-lt (l.count + 1) l.bills l.count b (omega arith)))
    ∙ ap (λ (bs : List Bill). stored l (numbered (book l) bs)) (live-appended l b h)

stored-old : (l : Ledger) (p : ℕ) (b : Bill) → p < l.count → l.count ≤ length l.bills → changed_by l p b ≡ stored l (numbered (book l) (set (live l) p b))
stored-old l p b h k =
    sym (stored_same l (changed_by l p b) (omega (arith, length-set l.bills p b)) (drop-set-lt l.count l.bills p b h))
    ∙ ap (λ (bs : List Bill). stored l (numbered (book l) bs)) (live-replaced l p b h)

-- ---- the total
-- the bill of an identity changed: what went is added to the new total, what came to the old
update-total : (id : Identity) (f : Bill → Bill) → bill_charge (f blank_bill) ≡ 0 → (bs : List Bill)
    → total_of (update (of_id id) f bs) + bill_charge (bill_of id bs) ≡ total_of bs + bill_charge (f (bill_of id bs))
update-total id f z [] = omega (arith, z)
update-total id f z (b ∷ bs) = cases (of_id id b)
    (λ e. rw e (omega arith))
    (λ e. rw e (omega (arith, update-total id f z bs)))

-- a request leaves the total as it is
pub total-request : (k : Book) (r : Request) (room : ℕ) → total (next k (request r room)) ≡ total k
unfolding next
total-request k r room = cases (holds_id r.identity k.bills)
    (λ e. rw e (omega (arith, update-total r.identity (renewed (latest_of r k.tracking)) refl k.bills)))
    (λ e. rw e (omega (arith, sum-append bill_charge k.bills (new_bill r k.tracking ∷ []))))

pub change-request : (k : Book) (r : Request) (room : ℕ) → pos (total (next k (request r room))) -ℤ pos (total k) ≡ pos 0
change-request k r room = difference (total (next k (request r room))) (total k) 0 0 (omega (arith, total-request k r room))

-- a cancel takes away what was posted
pub change-cancel : (k : Book) (id : Identity) (room : ℕ)
    → pos (total (next k (cancel id room))) -ℤ pos (total k) ≡ pos 0 -ℤ pos (bill_charge (bill_of id k.bills))
unfolding next
change-cancel k id room = difference _ _ _ _ (update-total id cancelled_bill refl k.bills)

-- ---- what a sound struct gives
module _ (l : Ledger) (long : length l.bills ≡ 128) (s : sound_ledger l ≡ true) where
  pub within : l.count ≤ length l.bills
  within = omega (arith, ledger-count l s)

  sound-at : (p : ℕ) → p < l.count → sound_bill (bill_at l p) ≡ true
  sound-at p h = every_held sound_bill l p h within (book-facts (book l) (ledger-book l s)).bills

  facts_at : (p : ℕ) → p < l.count → TermsFacts (bill_at l p).terms
  facts_at p h = terms-facts (bill_at l p).terms (bill-terms (bill_at l p) (sound-at p h))

  pub held-length : length (map bill_terms (live l)) ≡ l.count
  held-length = length-map (live l) bill_terms ∙ length-live l within

-- ---- what they answer
pub request-answer : (k : Book) (r : Request) (room : ℕ) → noticed (pos 0) ≡ answer_by (outcome k (request r room) (Ok tt)) (Ok tt)
unfolding outcome answer_by next_written next_verdicts next_closed
request-answer k r room = rw (change-request k r room, length-bil)

pub cancel-answer : (k : Book) (id : Identity) (room : ℕ)
    → noticed (pos 0 -ℤ pos (bill_charge (bill_of id k.bills))) ≡ answer_by (outcome k (cancel id room) (Ok tt)) (Ok tt)
unfolding outcome answer_by next_written next_verdicts next_closed
cancel-answer k id room = rw (change-cancel k id room, length-cxl)

-- what is known of a request or a cancel, c, that d decides: b stands at its place p
pub record Decided (l : Ledger) (c : BillCall) (room : ℕ) (h : LedgerHeader) (f : Option ℕ) (p : ℕ) (b : Bill) (d : Result Update Cause) : Type 0 where
  pub stops : (n : Cause) → d ≡ Err n → Stopped l (as_call c room) n
  pub wide : (u : Update) → d ≡ Ok u → 642 ≤ room
  pub fits : (u : Update) → d ≡ Ok u → ChangeFits c b
  pub done : (u : Update) → d ≡ Ok u → Carried l (as_call c room) (updated l p u) (noticed (change_by c b)) (notice_by c h f b u.bill)

-- ---- a call on a struct that is known to be sound: b stands at the place p, of what a search found
module _ (l : Ledger) (long : length l.bills ≡ 128) (sure : sound_ledger l ≡ true) (f : Option ℕ) (p : ℕ) (pe : p ≡ place_for f l.count) where
  few : l.count ≤ 128
  few = ledger-count l sure

  module _ (id : Identity) (fe : f ≡ place_of id (live l)) where
    known_at : (i : ℕ) → i < l.count → place_of id (live l) ≡ Some i → p ≡ i
    known_at i h x = pe ∙ rw (fe ∙ x, lt-ltb i 128 (omega (arith, few)))

    pub sound-here : SoundAt f (bill_at l p)
    sound-here = go (placed l id)
      where
        go : Placed l id → SoundAt f (bill_at l p)
        go (new x b c y) = rw (fe ∙ x) tt
        go (old i h x b c y u) = rw (fe ∙ x, known_at i h x) ((facts_at l long sure i h).requests, (facts_at l long sure i h).sequence)

  module _ (room : ℕ) where
    -- the causes by the header and the bill are those of the book
    causes-are : (c : BillCall) → f ≡ place_of (call_identity c) (live l)
        → first (causes (view (book l)) (as_call c room)) ≡ first (causes_by c room (header_of l) f (bill_at l p))
    unfolding causes
    causes-are (bill_call.Request r) fe = rw (held-length l long sure, ← sought-is l few r.identity f p fe pe)
    causes-are (bill_call.Cancel id) fe = rw (← sought-is l few id f p fe pe)

    -- what is known of a call that no cause is against
    record Carries (c : BillCall) : Type 0 where
      wide : 642 ≤ room
      fits : ChangeFits c (bill_at l p)
      left : updated l p (update_by c (header_of l) f (bill_at l p)) ≡ stored l (next (book l) (as_call c room))
      answer : noticed (change_by c (bill_at l p)) ≡ answer_by (outcome (book l) (as_call c room) (Ok tt)) (Ok tt)
      bytes : notice_by c (header_of l) f (bill_at l p) (update_by c (header_of l) f (bill_at l p)).bill ≡ next_written (book l) (as_call c room)

    -- a request
    module _ (r : Request) (fe : f ≡ place_of r.identity (live l)) (e : first (causes_by (bill_call.Request r) room (header_of l) f (bill_at l p)) ≡ Ok tt) where
      abbrev request-facts : Asks r room l.today l.next_tracking l.next_confirmation l.count (sought_by f (bill_at l p))
      request-facts = asks r room l.today l.next_tracking l.next_confirmation l.count (sought_by f (bill_at l p)) e

      requests : Placed l r.identity → Carries (bill_call.Request r)
      unfolding next next_written
      requests (new x b c y) =
          let z : f ≡ None = fe ∙ x in
          let m : l.count < 128 = request-facts.new (rw z) in
          let k : p ≡ l.count = pe ∙ rw (z, lt-ltb l.count 128 m) in
          record {
            wide = request-facts.wide;
            fits = tt;
            left = rw (z, k, b) (stored-new l (new_bill r l.next_tracking) (omega arith));
            answer = request-answer (book l) r room;
            bytes = rw (z, b, c);
          }
      requests (old i m x b c y u) =
          let k = known_at r.identity fe i m x in
          record {
            wide = request-facts.wide;
            fits = tt;
            left =
                rw (fe ∙ x, k, b, u (renewed (latest_of r l.next_tracking)))
                (stored-old l i (renewed (latest_of r l.next_tracking) (bill_at l i)) m (within l long sure));
            answer = request-answer (book l) r room;
            bytes = rw (fe ∙ x, k, b, c);
          }

    -- a cancel: its bill is known, and what it takes away can be told with a sign
    module _ (id : Identity) (fe : f ≡ place_of id (live l)) (e : first (causes_by (bill_call.Cancel id) room (header_of l) f (bill_at l p)) ≡ Ok tt) where
      abbrev cancel-facts : Cancels id room l.next_tracking l.next_confirmation (sought_by f (bill_at l p))
      cancel-facts = cancels id room l.next_tracking l.next_confirmation (sought_by f (bill_at l p)) e

      cancelled : Placed l id → Carries (bill_call.Cancel id)
      unfolding next next_written
      cancelled (new x y z w) = absurd (true≢false (subst (λ (i : Option ℕ). is_nothing (sought_by i (bill_at l p)) ≡ false) (fe ∙ x) cancel-facts.known))
      cancelled (old i m x y z w u) =
          let k = known_at id fe i m x in
          let small : bill_charge (bill_at l i) < 10 ^ 13 = ltb-true _ _ (bill-small (bill_at l i) (sound-at l long sure i m)) in
          let same : bill_at l p ≡ bill_of id (live l) = ap (bill_at l) k ∙ sym z in
          record {
            wide = cancel-facts.wide;
            fits = rw k (omega arith);
            left = rw (k, u cancelled_bill) (stored-old l i (cancelled_bill (bill_at l i)) m (within l long sure));
            answer = ap (λ (b : Bill). noticed (pos 0 -ℤ pos (bill_charge b))) same ∙ cancel-answer (book l) id room;
            bytes = rw same;
          }

    carries : (c : BillCall) → f ≡ place_of (call_identity c) (live l) → first (causes_by c room (header_of l) f (bill_at l p)) ≡ Ok tt → Carries c
    carries (bill_call.Request r) fe e = requests r fe e (placed l r.identity)
    carries (bill_call.Cancel id) fe e = cancelled id fe e (placed l id)

    -- a request or a cancel
    module _ (c : BillCall) (fe : f ≡ place_of (call_identity c) (live l)) (h : LedgerHeader) (he : h ≡ header_of l) (b : Bill) (be : b ≡ bill_at l p) (d : Result Update Cause)
        (de : d ≡ decided_by (first (causes_by c room h f b)) c h f b) where
      abbrev now : Result ⊤ Cause
      now = first (causes_by c room (header_of l) f (bill_at l p))

      decision-now : d ≡ decided_by now c (header_of l) f (bill_at l p)
      decision-now = de ∙ ap₂ (λ (t : LedgerHeader) (x : Bill). decided_by (first (causes_by c room t f x)) c t f x) he be

      -- what is decided tells what the check came to
      stop-by : (k : Result ⊤ Cause) (n : Cause) → decided_by k c (header_of l) f (bill_at l p) ≡ Err n → k ≡ Err n
      stop-by (Ok u) n e = let z : ◌≡◌ {A = ℕ} 0 1 = cc in absurd (omega arith)
      stop-by (Err m) n e = let z : m ≡ n = cc in rw z

      clear-by : (k : Result ⊤ Cause) (u : Update) → decided_by k c (header_of l) f (bill_at l p) ≡ Ok u → (k ≡ Ok tt) × (u ≡ update_by c (header_of l) f (bill_at l p))
      clear-by (Ok x) u e = (refl, cc)
      clear-by (Err m) u e = let z : ◌≡◌ {A = ℕ} 0 1 = cc in absurd (omega arith)

      cause-now : cause_in l (as_call c room) ≡ now
      cause-now = cause-sound l (as_call c room) sure ∙ causes-are c fe

      clear-now : (u : Update) → d ≡ Ok u → (now ≡ Ok tt) × (u ≡ update_by c (header_of l) f (bill_at l p))
      clear-now u e = clear-by now u (sym decision-now ∙ e)

      known : (u : Update) → d ≡ Ok u → Carries c
      known u e = carries c fe (clear-now u e).0

      pub decided : Decided l c room h f p b d
      decided =
          record {
            stops = λ n e. stopped l (as_call c room) n (cause-now ∙ stop-by now n (sym decision-now ∙ e));
            wide = λ u e. (known u e).wide;
            fits = λ u e. rw be (known u e).fits;
            done =
                λ u e.
                carried l (as_call c room) (cause-now ∙ (clear-now u e).0) _ _ _
                (ap (updated l p) (clear-now u e).1 ∙ (known u e).left)
                (ap (λ (x : Bill). noticed (change_by c x)) be ∙ (known u e).answer)
                (ap₂ (λ (t : LedgerHeader) (x : Bill). notice_by c t f x u.bill) he be
                ∙ ap (λ (z : Update). notice_by c (header_of l) f (bill_at l p) z.bill) (clear-now u e).1
                ∙ (known u e).bytes);
          }
