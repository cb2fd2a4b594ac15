-- A file that has the numbers it needs keeps a book sound. Assumes nothing.
use Prim.Native.Nat.{ℕ, suc, ◌+◌, ◌≤◌, ◌<◌}
use mathlib.Core.Path.{◌≡◌, refl, ◌∙◌}
use mathlib.Core.Bool.{Bool, true, false, cond}
use mathlib.Core.List.{List, [], ◌∷◌, ◌++◌, map}
use lib.ListN.{length}
use native.Mathlib.Nat.{add-zero}
use native.Mathlib.Omega.{arith}
use borrow.Author.Tests.{le-leb}
use Rattle.fields.proofs.BoolLaws.{and_left, and_right, cases}
use Rattle.ledger.specs.declared.Bill.{Bill}
use Rattle.ledger.specs.declared.Identity.{Identity}
use Rattle.rules.specs.Lists.{every, count, update}
use Rattle.ledger.specs.Bills.{is_of, posting}
use Rattle.ledger.specs.Books.{Book, view, bill_terms, of_id}
use Rattle.ledger.specs.Sound.{is_next, sound_bill, holds_id, distinct, sound}
use Rattle.ledger.proofs.SoundLaws.{BookFacts, book-facts, facts-sound}
use Rattle.file.specs.File.{Group, asks_id, line3}
use Rattle.group.specs.Groups.{identity_of, sought_in, verdict_by, settled, verdict_here, taken}
use Rattle.group.proofs.GroupWalk.{length-settled}
use Rattle.calls.proofs.SoundKept.{sound-posted}
use Rattle.std.specs.Prelude.{Some, Result, Ok, Err}
use Rattle.ledger.specs.declared.Posted.{Posted}
use Rattle.rules.specs.declared.ErrorCode.{ErrorCode}

-- ---- the bills
-- every bill stays sound if the one that is sought does
pub bills-kept : (id : Identity) (f : Bill → Bill) (bs : List Bill) → every sound_bill bs ≡ true
    → ((b : Bill) → sought_in id (map bill_terms bs) ≡ Some b.terms → sound_bill b ≡ true → sound_bill (f b) ≡ true)
    → every sound_bill (update (of_id id) f bs) ≡ true
bills-kept id f [] a q = refl
bills-kept id f (b ∷ bs) a q =
    let x = and_left (sound_bill b) (every sound_bill bs) a in
    let y = and_right (sound_bill b) (every sound_bill bs) a in
    cases (is_of id b.terms)
    (λ e. rw (e, q b (rw e) x, y))
    (λ e. rw (e, x) (bills-kept id f bs y (λ c m. q c (rw e m))))

-- a change that leaves identities as they are
module _ (id : Identity) (f : Bill → Bill) (keeps : (b : Bill) → (f b).terms.identity ≡ b.terms.identity) where
  pub holds_kept : (i : Identity) (bs : List Bill) → holds_id i (update (of_id id) f bs) ≡ holds_id i bs
  holds_kept i [] = refl
  holds_kept i (b ∷ bs) = cases (is_of id b.terms) (λ e. rw (e, keeps b)) (λ e. rw (e, holds_kept i bs))

  pub distinct-kept : (bs : List Bill) → distinct (update (of_id id) f bs) ≡ distinct bs
  unfolding distinct
  distinct-kept [] = refl
  distinct-kept (b ∷ bs) = cases (is_of id b.terms) (λ e. rw (e, keeps b)) (λ e. rw (e, holds_kept b.terms.identity bs, distinct-kept bs))

-- ---- the next numbers
pub next_up : (n : ℕ) → is_next n ≡ true → n < 1000000000 → is_next (n + 1) ≡ true
next_up n h k = rw (le-leb 1 (n + 1) (omega arith), le-leb (n + 1) 1000000000 (omega arith))

next-by : (b : Bool) (n : ℕ) → is_next n ≡ true → n + cond b 1 0 ≤ 1000000000 → is_next (n + cond b 1 0) ≡ true
next-by true n h k = next_up n h (omega arith)
next-by false n h k = rw (add-zero n) h

-- ---- one group
module _ (t : Bool) (k : Book) (g : Group) (f : BookFacts k) (c : k.confirmation < 1000000000) (n : k.tracking + cond (asks_id g) 1 0 ≤ 1000000000) where
  pub settled-facts : BookFacts (settled k g (verdict_by t (view k) g))
  unfolding settled
  settled-facts = go (verdict_by t (view k) g) refl
    where
      go : (v : Result Posted ErrorCode) → verdict_by t (view k) g ≡ v → BookFacts (settled k g v)
      go (Err m) e =
          record {
            today = f.today;
            tracking = f.tracking;
            confirmation = next_up k.confirmation f.confirmation c;
            few = f.few;
            bills = f.bills;
            once = f.once;
          }
      go (Ok amounts) e =
          record {
            today = f.today;
            tracking = next-by (asks_id g) k.tracking f.tracking n;
            confirmation = next_up k.confirmation f.confirmation c;
            few = omega (arith, length-settled k g (Ok amounts), f.few);
            bills =
                bills-kept (identity_of g) (posting amounts (asks_id g)) k.bills f.bills
                (λ b y. sound-posted t k g b amounts e y);
            once = distinct-kept (identity_of g) (posting amounts (asks_id g)) (λ b. refl) k.bills ∙ f.once;
          }

-- ---- the groups of a file
pub confirmation-up : (k : Book) (g : Group) (v : Result Posted ErrorCode) → (settled k g v).confirmation ≡ k.confirmation + 1
unfolding settled
confirmation-up k g (Ok amounts) = refl
confirmation-up k g (Err m) = refl

pub tracking-up : (k : Book) (g : Group) (v : Result Posted ErrorCode) → (settled k g v).tracking ≤ k.tracking + cond (asks_id g) 1 0
unfolding settled
tracking-up k g (Ok amounts) = omega arith
tracking-up k g (Err m) = omega arith

pub count-step : (b : Bool) (n : ℕ) → cond b (suc n) n ≡ cond b 1 0 + n
count-step true n = omega arith
count-step false n = omega arith

taken-facts : (before : List Group) (k : Book) (gs : List Group) → BookFacts k → k.confirmation + length gs ≤ 1000000000
    → k.tracking + count asks_id gs ≤ 1000000000 → BookFacts (taken before k gs)
unfolding taken
taken-facts before k [] f c n = f
taken-facts before k (g ∷ gs) f c n =
    let s = count-step (asks_id g) (count asks_id gs) in
    let v = verdict_here before k g gs in
    taken-facts (before ++ (g ∷ [])) (settled k g v) gs
    (settled-facts (line3 (before ++ gs) g) k g f (omega arith) (omega arith))
    (omega (arith, confirmation-up k g v))
    (omega (arith, tracking-up k g v))

pub file-sound : (k : Book) (gs : List Group) → sound k ≡ true → k.confirmation + length gs ≤ 1000000000 → k.tracking + count asks_id gs ≤ 1000000000
    → sound (taken [] k gs) ≡ true
file-sound k gs h c n = facts-sound (taken [] k gs) (taken-facts [] k gs (book-facts k h) c n)
