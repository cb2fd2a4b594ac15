-- What the walk holds at its end is the bill that the definition names: open, of the account, none such due earlier and none of equals before it.
-- Assumes nothing.
use Prim.Native.Nat.{ℕ, zero, suc, ◌+◌, ◌≤◌, ◌<◌}
use mathlib.Core.Path.{◌≡◌, refl, sym, ap, subst, ◌∙◌}
use mathlib.Core.Bool.{Bool, true, false, true≢false}
use mathlib.Core.List.{List, [], ◌∷◌}
use native.Mathlib.Omega.{arith}
use native.Mathlib.Decide.{dec_le}
use native.Mathlib.Numerals.{add-one}
use lib.Dec.{leb}
use lib.ListN.{length, get_or, drop}
use lib.Seq.{drop-cons, drop-length, slice, slice-cons}
use borrow.Author.Tests.{leb-true, leb-false, lt-ltb, le-ltb}
use Rattle.fields.proofs.BoolLaws.{cases}
use Rattle.rules.specs.Lists.{has, find}
use Rattle.rules.proofs.ListLaws.{has-none, has_some, find_none, find_first}
use Rattle.units.specs.declared.Date.{Date}
use Rattle.ledger.specs.declared.Bill.{Bill}
use Rattle.ledger.specs.Bills.{blank_bill}
use Rattle.lookups.specs.declared.Due.{Due}
use Rattle.lookups.specs.Lookups.{is_open_of, due, is_due_before, is_earliest}
use Rattle.lookups.specs.parts.Walk.{none_due, due_with, due_after, found_due}
use Rattle.std.specs.Prelude.{Option, Some, None, is_some}

-- ---- one turn of a loop over the bills from i up to n
module _ (account : ℕ) (today : Date) (n i : ℕ) (h : Option Due) (bs : List Bill) where
  pub due-step : i < n → n ≤ length bs
      → due_after account today i h (slice i n bs) ≡ due_after account today (i + 1) (due_with account today i (get_or bs i blank_bill) h) (slice (i + 1) n bs)
  due-step a b = simp (slice-cons i n bs blank_bill a b, add-one i)

-- go by what is held, and keep the equation
pub by-held : {C : Type 0} (h : Option Due) → (h ≡ None → C) → ((d : Due) → h ≡ Some d → C) → C
by-held None f g = f refl
by-held (Some d) f g = g d refl

-- ---- the walk over the bills bs
module _ (account : ℕ) (today : Date) (bs : List Bill) where
  abbrev at : ℕ → Bill
  at q = get_or bs q blank_bill

  abbrev opens : ℕ → Bool
  opens q = is_open_of account today (at q)

  -- the bill at place p is the one due first among the first i
  pub record Leads (i p : ℕ) : Type 0 where
    pub below : p < i
    pub passes : opens p ≡ true
    pub earliest : (q : ℕ) → q < i → opens q ≡ true → due (at p) ≤ due (at q)
    pub before : (q : ℕ) → q < p → opens q ≡ true → due (at p) < due (at q)

  -- h is what is held after the first i
  abbrev After : ℕ → Option Due → Type 0
  After i None = (q : ℕ) → q < i → opens q ≡ false
  After i (Some d) = Leads i d.place × (d.date.0 ≡ due (at d.place))

  start : After 0 none_due
  start = λ q h. absurd (omega arith)

  -- a place below i + 1 is below i or it is i
  split : {C : Type 0} (i q : ℕ) → q < suc i → (q < i → C) → (q ≡ i → C) → C
  split i q h f g = elim (dec_le i q) [ yes k ↦ g (omega arith) | no k ↦ f (omega arith) ]

  module _ (i : ℕ) where
    -- the bill at place i is held now
    taken : opens i ≡ true → ((q : ℕ) → q < i → opens q ≡ true → due (at i) < due (at q))
        → After (suc i) (Some (record { place = i; date = (at i).terms.latest.scheduled }))
    taken o f = (
      record {
        below = omega arith;
        passes = o;
        earliest = λ q k t. split i q k (λ m. let z = f q m t in omega arith) (λ m. let z : due (at q) ≡ due (at i) = ap (λ (j : ℕ). due (at j)) m in omega arith);
        before = f;
      },
      refl,
    )

    -- none is held still
    kept-none : After i None → opens i ≡ false → After (suc i) None
    kept-none a o = λ q k. split i q k (a q) (λ m. ap opens m ∙ o)

    -- the one held before is held still
    kept : (d : Due) → After i (Some d) → (opens i ≡ true → d.date.0 ≤ due (at i)) → After (suc i) (Some d)
    kept d a f =
        let l = a.0 in (
          record {
            below = let z = l.below in omega arith;
            passes = l.passes;
            earliest = λ q k t.
                split i q k (λ m. l.earliest q m t)
                (λ m.
                let z = f (ap opens (sym m) ∙ t) in
                let y = a.1 in
                let x : due (at q) ≡ due (at i) = ap (λ (j : ℕ). due (at j)) m in
                omega arith);
            before = l.before;
          },
          a.1,
        )

    one_more : (h : Option Due) → After i h → After (suc i) (due_with account today i (at i) h)
    one_more None a =
        cases (opens i)
        (λ o. rw o (taken o (λ q k s. absurd (true≢false (sym s ∙ a q k)))))
        (λ o. rw o (kept-none a o))
    one_more (Some d) a =
        cases (opens i)
        (λ o.
        cases (leb d.date.0 (due (at i)))
        (λ t. rw (o, t) (kept d a (λ _. leb-true d.date.0 (due (at i)) t)))
        (λ t.
        rw (o, t)
        (taken o
        (λ q k s.
        let x = a.0.earliest q k s in
        let y = a.1 in
        let z = leb-false d.date.0 (due (at i)) t in
        omega arith))))
        (λ o. rw o (kept d a (λ t. absurd (true≢false (sym t ∙ o)))))

  -- all bills from place i on, k of them
  walked : (k i : ℕ) (h : Option Due) → i + k ≡ length bs → After i h → After (length bs) (due_after account today i h (drop i bs))
  walked zero i h e a =
      let m : i ≡ length bs = omega arith in
      let n : drop i bs ≡ [] = ap (λ (j : ℕ). drop j bs) m ∙ drop-length bs in
      rw (n, sym m) a
  walked (suc k) i h e a =
      let n : drop i bs ≡ at i ∷ drop (suc i) bs = drop-cons bs i blank_bill (omega arith) in
      rw n (walked k (suc i) (due_with account today i (at i) h) (omega arith) (one_more i h a))

  abbrev walk : Option Due
  walk = due_after account today 0 none_due bs

  held-after : (h : Option Due) → walk ≡ h → After (length bs) h
  held-after h e = subst (After (length bs)) e (walked (length bs) 0 none_due (omega arith) start)

  -- ---- the bill that leads among all is the one that the definition finds, and only it
  module _ (p : ℕ) (l : Leads (length bs) p) where
    leads-earliest : is_earliest account today bs (at p) ≡ true
    leads-earliest =
        let n : has (is_due_before account today (at p)) bs ≡ false =
        has-none (is_due_before account today (at p)) blank_bill bs
        (λ q h. cases (opens q) (λ t. rw (t, le-ltb (due (at q)) (due (at p)) (l.earliest q h t))) (λ t. rw t)) in
        rw (l.passes, n)

    leads-first : (q : ℕ) → q < p → is_earliest account today bs (at q) ≡ false
    leads-first q h =
        cases (opens q)
        (λ t.
        let n : has (is_due_before account today (at q)) bs ≡ true =
        has_some (is_due_before account today (at q)) blank_bill bs p l.below
        (rw (l.passes, lt-ltb (due (at p)) (due (at q)) (l.before q h t))) in
        rw (t, n))
        (λ t. rw t)

    pub leads-found : find (is_earliest account today bs) 0 bs ≡ Some p
    leads-found =
        let m : 0 + p ≡ p = omega arith in
        find_first (is_earliest account today bs) blank_bill 0 bs p l.below leads-earliest leads-first ∙ ap Some m

  -- ---- what the walk found
  pub walk-found : found_due walk ≡ find (is_earliest account today bs) 0 bs
  walk-found =
      by-held walk
      (λ e. rw e (sym (find_none (is_earliest account today bs) blank_bill 0 bs (λ q h. rw (held-after None e q h)))))
      (λ d e. rw e (sym (leads-found d.place (held-after (Some d) e).0)))

  pub walk-held : has (is_open_of account today) bs ≡ is_some walk
  walk-held =
      by-held walk
      (λ e. rw e (has-none (is_open_of account today) blank_bill bs (held-after None e)))
      (λ d e. let l = (held-after (Some d) e).0 in rw e (has_some (is_open_of account today) blank_bill bs d.place l.below l.passes))

  -- the place that was found leads
  pub found-leads : (p : ℕ) → find (is_earliest account today bs) 0 bs ≡ Some p → Leads (length bs) p
  found-leads p f =
      by-held walk
      (λ e. let z : ◌≡◌ {A = ℕ} 0 1 = cc (walk-found, e) in absurd (omega arith))
      (λ d e. let l = (held-after (Some d) e).0 in let m : d.place ≡ p = cc (leads-found d.place l) in subst (Leads (length bs)) m l)

  -- where nothing was found there is no open bill of the account
  pub none_found : find (is_earliest account today bs) 0 bs ≡ None → has (is_open_of account today) bs ≡ false
  none_found f =
      by-held walk
      (λ e. walk-held ∙ ap is_some e)
      (λ d e. let z : ◌≡◌ {A = ℕ} 0 1 = cc (walk-found, e) in absurd (omega arith))
