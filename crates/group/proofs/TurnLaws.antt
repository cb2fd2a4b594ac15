-- What a group's turn does to the struct is what the rules say of the book. Assumes nothing.
use Prim.Native.Nat.{ℕ, ◌+◌, ◌≤◌, ◌<◌}
use mathlib.Core.Path.{◌≡◌, refl, sym, ap, ap₂, ◌∙◌}
use mathlib.Core.Bool.{Bool, false}
use mathlib.Core.List.{List, ◌++◌}
use native.Mathlib.Omega.{arith}
use native.Mathlib.Nat.{add-zero}
use lib.ListN.{length, get_or, set, drop, take-append-drop, length-set}
use lib.Seq.{get_or-take, take-set-lt, drop-set-lt, length-take-le, set-get_or}
use borrow.Author.Tests.{lt-ltb}
use Rattle.ledger.specs.declared.Bill.{Bill}
use Rattle.ledger.specs.declared.Identity.{Identity}
use Rattle.ledger.specs.declared.Ledger.{Ledger}
use Rattle.ledger.specs.declared.Posted.{Posted}
use Rattle.rules.specs.Lists.{update}
use Rattle.ledger.specs.Bills.{posting, blank_bill}
use Rattle.ledger.specs.Books.{book, live, view, of_id, place_of, stored, bill_charge, total_of}
use Rattle.ledger.specs.parts.Places.{bill_at, header_of, updated, place_for}
use Rattle.rules.proofs.ListLaws.{sum-set}
use Rattle.file.specs.File.{Group, asks_id, line1}
use Rattle.file.specs.parts.Walk.{group_at}
use Rattle.group.specs.Groups.{identity_of, sought, lines_by, verdict_on, verdict_by, settled, answer}
use Rattle.group.specs.parts.Turns.{identity_at, sought_by, bill_by, header_by, numbered, answer_at, came_by, went_by}
use Rattle.group.proofs.FoundLaws.{Held, nowhere, somewhere, held, sought-is}
use Rattle.group.proofs.DecideLaws.{by-bill, same_name}
use Rattle.group.proofs.AcceptedLaws.{nothing-rejects, accepted-clear}
use Rattle.rules.proofs.RuleLaws.{clear-off}
use Rattle.std.specs.Prelude.{Option, Some, Result, Ok, Err}
use Rattle.ledger.specs.declared.Terms.{Terms}
use Rattle.rules.specs.declared.ErrorCode.{ErrorCode}

-- what comes of a group on a ledger
pub data Comes (t : Bool) (l : Ledger) (g : Group) : Type 0 where
  rejects : (n : ErrorCode) → verdict_by t (view (book l)) g ≡ Err n → Comes t l g
  posts : (p : ℕ) (amounts : Posted) → p < l.count → verdict_by t (view (book l)) g ≡ Ok amounts → place_of (identity_of g) (live l) ≡ Some p
      → sought (view (book l)) g ≡ Some (bill_at l p).terms
      → ((f : Bill → Bill) → update (of_id (identity_of g)) f (live l) ≡ set (live l) p (f (bill_at l p))) → Comes t l g

pub comes : (t : Bool) (l : Ledger) (g : Group) → Comes t l g
unfolding verdict_by
comes t l g = go (held l (identity_of g))
  where
    by : (p : ℕ) → p < l.count → place_of (identity_of g) (live l) ≡ Some p → sought (view (book l)) g ≡ Some (bill_at l p).terms
        → ((f : Bill → Bill) → update (of_id (identity_of g)) f (live l) ≡ set (live l) p (f (bill_at l p)))
        → (v : Result Posted ErrorCode) → verdict_by t (view (book l)) g ≡ v → Comes t l g
    by p h x y z (Ok amounts) e = posts p amounts h e x y z
    by p h x y z (Err n) e = rejects n e

    go : Held l (identity_of g) → Comes t l g
    go (nowhere x y) =
        let q = nothing-rejects t l.today g in rejects q.0 (ap (λ (b : Option Terms). verdict_on t l.today b g) y ∙ q.1)
    go (somewhere p h x y z) = by p h x y z (verdict_by t (view (book l)) g) refl

-- a struct whose count is in range holds its book, and past it what it held
pub stored-book : (l : Ledger) → l.count ≤ length l.bills → stored l (book l) ≡ l
stored-book l h =
    let e = length-take-le l.count l.bills h in
    rw (e, take-append-drop l.count l.bills)

pub stored-set : (l : Ledger) (p : ℕ) (b : Bill) → p < l.count → l.count ≤ length l.bills
    → set (live l) p b ++ drop (length (set (live l) p b)) l.bills ≡ set l.bills p b
stored-set l p b h k =
    let e = length-set (live l) p b ∙ length-take-le l.count l.bills k in
    ap (λ (n : ℕ). set (live l) p b ++ drop n l.bills) e
    ∙ ap₂ (λ (x y : List Bill). x ++ y) (sym (take-set-lt l.count l.bills p b h)) (sym (drop-set-lt l.count l.bills p b h))
    ∙ take-append-drop l.count (set l.bills p b)

-- ---- the turn of the group whose header is record i, where its bill was found at f, and p is the place
module _ (l : Ledger) (long : length l.bills ≡ 128) (few : l.count ≤ 128) (s : List ℕ) (i n : ℕ) (t : Bool) (f : Option ℕ) (p : ℕ)
    (e : f ≡ place_of (identity_at s i n) (live l)) (q : p ≡ place_for f l.count) where
  abbrev g : Group
  g = group_at s i n

  abbrev v : Result Posted ErrorCode
  v = verdict_by t (view (book l)) g

  fits : l.count ≤ length l.bills
  fits = omega arith

  -- the bill that was found is the one that the group names, unless it fails line 1
  same-sought : line1 g ≡ false → sought_by f (bill_at l p) ≡ sought (view (book l)) g
  same-sought h =
      sought-is l few (identity_of g) f p (e ∙ ap (λ (id : Identity). place_of id (live l)) (same_name s i n h)) q

  -- so its verdict is that of the rules
  pub verdict-is : verdict_on t l.today (sought_by f (bill_at l p)) g ≡ v
  unfolding verdict_by
  verdict-is = by-bill t l.today (sought_by f (bill_at l p)) g (sought (view (book l)) g) same-sought

  -- a bill that is posted to stands at the place
  posts-at : (j : ℕ) (amounts : Posted) → j < l.count → v ≡ Ok amounts → place_of (identity_of g) (live l) ≡ Some j → p ≡ j
  unfolding lines_by
  posts-at j amounts h x y =
      let o = clear-off (lines_by t (view (book l)) g) (accepted-clear t (view (book l)) g amounts x).0 in
      let z : f ≡ Some j = e ∙ ap (λ (id : Identity). place_of id (live l)) (same_name s i n o.0) ∙ y in
      q ∙ rw (z, lt-ltb j 128 (omega arith))

  held-long : length (live l) ≡ l.count
  held-long = length-take-le l.count l.bills fits

  -- the struct that it leaves
  pub ledger-is : updated l p (record { header = header_by v (asks_id g) (header_of l); bill = bill_by v (asks_id g) (bill_at l p) }) ≡ stored l (settled (book l) g v)
  unfolding settled
  ledger-is = go (comes t l g)
    where
      go : Comes t l g → updated l p (record { header = header_by v (asks_id g) (header_of l); bill = bill_by v (asks_id g) (bill_at l p) }) ≡ stored l (settled (book l) g v)
      go (rejects m x) =
          rw (x, held-long, set-get_or l.bills p blank_bill, add-zero l.next_tracking, take-append-drop l.count l.bills)
      go (posts j amounts h x y u z) =
          rw (
            x,
            posts-at j amounts h x y,
            z (posting amounts (asks_id g)),
            stored-set l j (posting amounts (asks_id g) (bill_at l j)) h fits,
            length-set (live l) j (posting amounts (asks_id g) (bill_at l j)),
            held-long,
          )

  -- its answer
  pub answer-is : answer_at (numbered v) (header_of l) (bill_at l p) g ≡ answer (view (book l)) g v
  unfolding answer_at answer
  answer-is = go (comes t l g)
    where
      go : Comes t l g → answer_at (numbered v) (header_of l) (bill_at l p) g ≡ answer (view (book l)) g v
      go (rejects m x) = rw x
      go (posts j amounts h x y u z) = rw (x, posts-at j amounts h x y, u)

  -- what it adds to the total, and what it takes away
  pub sums-is : total_of (settled (book l) g v).bills + went_by v (bill_at l p) ≡ total_of (live l) + came_by v
  unfolding settled
  sums-is = go (comes t l g)
    where
      go : Comes t l g → total_of (settled (book l) g v).bills + went_by v (bill_at l p) ≡ total_of (live l) + came_by v
      go (rejects m x) = rw x
      go (posts j amounts h x y u z) =
          let c : Bill = posting amounts (asks_id g) (bill_at l j) in
          let w : bill_at l p ≡ get_or (live l) j blank_bill =
          ap (bill_at l) (posts-at j amounts h x y) ∙ sym (get_or-take l.count l.bills j blank_bill h) in
          rw (x, z (posting amounts (asks_id g)))
          (ap (λ (k : Bill). total_of (set (live l) j c) + bill_charge k) w ∙ sum-set bill_charge (live l) j c blank_bill (omega (arith, held-long)))
