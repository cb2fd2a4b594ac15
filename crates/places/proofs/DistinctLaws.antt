-- Laws of the walk that finds an identity that stands twice: one bill more, and the slots of the identities met. Assumes nothing.
use Prim.Native.Nat.{ℕ, zero, suc, ◌+◌, ◌-◌, ◌*◌, ◌%◌, ◌<◌}
use mathlib.Core.Path.{◌≡◌, refl, sym, ap, ap₂, ◌∙◌}
use mathlib.Core.Bool.{Bool, true, false, not, ◌&&◌, ◌||◌, and-false, true≢false}
use mathlib.Core.List.{List, [], ◌∷◌, ◌++◌}
use native.Mathlib.Omega.{arith}
use native.Mathlib.Numerals.{add-one}
use lib.Dec.{eqb}
use lib.ListN.{length, take, get_or, set}
use lib.Seq.{take-suc, take-add, get_or-set_same, get_or-set_other}
use borrow.Author.Tests.{eqb-true, eqb-false, eq-eqb, ne_eqb}
use Rattle.fields.proofs.BoolLaws.{and_left, and_right, cases}
use Rattle.ledger.specs.declared.Identity.{Identity}
use Rattle.ledger.specs.declared.Bill.{Bill}
use Rattle.rules.specs.Lists.{has, find}
use Rattle.ledger.specs.Bills.{blank_bill}
use Rattle.ledger.specs.Books.{of_id}
use Rattle.ledger.specs.Sound.{holds_id, distinct}
use Rattle.places.specs.parts.Slots.{slots, identity_slot}
use Rattle.std.specs.Prelude.{is_some}

-- ---- lists
module _ {A : Type 0} (p : A → Bool) where
  has-append : (xs ys : List A) → has p (xs ++ ys) ≡ (has p xs || has p ys)
  has-append [] ys = refl
  has-append (x ∷ xs) ys = cases (p x) (λ e. rw e) (λ e. rw e (has-append xs ys))

  has-none : (xs : List A) (i : ℕ) (d : A) → ((k : ℕ) → k < i → p (get_or xs k d) ≡ false) → has p (take i xs) ≡ false
  has-none xs zero d f = refl
  has-none [] (suc i) d f = refl
  has-none (x ∷ xs) (suc i) d f = rw (f 0 (omega arith)) (has-none xs i d (λ k h. f (suc k) (omega arith)))

  -- a search says whether some element passes
  pub found-some : (n : ℕ) (xs : List A) → is_some (find p n xs) ≡ has p xs
  found-some n [] = refl
  found-some n (x ∷ xs) = cases (p x) (λ f. rw f refl) (λ f. rw f (found-some (suc n) xs))

-- ---- no identity stands twice
eqb_swap : (a b : ℕ) → eqb a b ≡ eqb b a
eqb_swap a b =
    cases (eqb a b) (λ e. e ∙ sym (eq-eqb b a (sym (eqb-true a b e)))) (λ e. e ∙ sym (ne_eqb b a (λ f. eqb-false a b e (sym f))))

-- one bill has the identity of another if that has the identity of this
same-swap : (x y : Bill) → of_id x.terms.identity y ≡ of_id y.terms.identity x
same-swap x y =
    ap₂ (λ (p q : Bool). p && q) (eqb_swap y.terms.identity.account x.terms.identity.account)
    (eqb_swap y.terms.identity.key x.terms.identity.key)

regroup : (h o d k : Bool) → (not (h || (o || false)) && (d && not k)) ≡ ((not h && d) && not (o || k))
regroup true o d k = refl
regroup false true d k = sym (and-false d)
regroup false false d k = refl

distinct_more : (bs : List Bill) (b : Bill) → distinct (bs ++ (b ∷ [])) ≡ (distinct bs && not (holds_id b.terms.identity bs))
unfolding distinct
distinct_more [] b = refl
distinct_more (x ∷ bs) b =
    ap₂ (λ (p q : Bool). not p && q) (has-append (of_id x.terms.identity) bs (b ∷ [])) (distinct_more bs b)
    ∙ regroup (holds_id x.terms.identity bs) (of_id x.terms.identity b) (distinct bs) (holds_id b.terms.identity bs)
    ∙ ap (λ (o : Bool). (not (holds_id x.terms.identity bs) && distinct bs) && not (o || holds_id b.terms.identity bs)) (same-swap x b)

-- what stands twice among the first still does among more
distinct-first : (xs ys : List Bill) → distinct xs ≡ false → distinct (xs ++ ys) ≡ false
unfolding distinct
distinct-first [] ys h = absurd (true≢false h)
distinct-first (x ∷ xs) ys h =
    cases (holds_id x.terms.identity xs) (λ e. rw (has-append (of_id x.terms.identity) xs ys, e))
    (λ e. ap (λ (q : Bool). not (holds_id x.terms.identity (xs ++ ys)) && q) (distinct-first xs ys (rw e at h)) ∙ and-false (not (holds_id x.terms.identity (xs ++ ys))))

module _ (bs : List Bill) (i : ℕ) (l : i < length bs) where
  abbrev next-id : Identity
  next-id = (get_or bs i blank_bill).terms.identity

  distinct-suc : distinct (take (i + 1) bs) ≡ (distinct (take i bs) && not (holds_id next-id (take i bs)))
  distinct-suc =
      ap (λ (n : ℕ). distinct (take n bs)) (add-one i) ∙ ap distinct (take-suc bs i blank_bill l) ∙ distinct_more (take i bs) (get_or bs i blank_bill)

  pub distinct-good : distinct (take i bs) ≡ true → holds_id next-id (take i bs) ≡ false → distinct (take (i + 1) bs) ≡ true
  distinct-good d e = distinct-suc ∙ ap₂ (λ (p q : Bool). p && not q) d e

  pub distinct-bad : (n : ℕ) → i < n → holds_id next-id (take i bs) ≡ true → distinct (take n bs) ≡ false
  distinct-bad n h e =
      let k : n ≡ i + 1 + (n - (i + 1)) = omega arith in
      let f : distinct (take (i + 1) bs) ≡ false = distinct-suc ∙ ap (λ (q : Bool). distinct (take i bs) && not q) e ∙ and-false (distinct (take i bs)) in
      ap (λ (m : ℕ). distinct (take m bs)) k ∙ ap distinct (take-add (i + 1) (n - (i + 1)) bs) ∙ distinct-first (take (i + 1) bs) _ f

-- ---- the slots of the identities met
-- the slot of the bill at a place
abbrev pub slot_at : List Bill → ℕ → ℕ
slot_at bs k = identity_slot (get_or bs k blank_bill).terms.identity

-- every identity before place i is noted in its slot
abbrev pub Noted : List Bill → List Bool → ℕ → Type 0
Noted bs m i = (k : ℕ) → k < i → get_or m (slot_at bs k) false ≡ true

pub noted_more : (bs : List Bill) (m : List Bool) (i s : ℕ) → s ≡ slot_at bs i → s < length m → Noted bs m i → Noted bs (set m s true) (i + 1)
noted_more bs m i s e b w k l = cases (eqb (slot_at bs k) s) here there
  where
    here : eqb (slot_at bs k) s ≡ true → get_or (set m s true) (slot_at bs k) false ≡ true
    here f = ap (λ (o : ℕ). get_or (set m s true) o false) (eqb-true (slot_at bs k) s f) ∙ get_or-set_same m s true false b

    there : eqb (slot_at bs k) s ≡ false → get_or (set m s true) (slot_at bs k) false ≡ true
    there f =
        let g = eqb-false (slot_at bs k) s f in
        get_or-set_other m s (slot_at bs k) true false g
        ∙ cases (eqb k i) (λ h. absurd (g (ap (slot_at bs) (eqb-true k i h) ∙ sym e))) (λ h. w k (omega (arith, eqb-false k i h)))

same-slot : (id : Identity) (b : Bill) → of_id id b ≡ true → identity_slot b.terms.identity ≡ identity_slot id
unfolding identity_slot
same-slot id b e =
    let p = eqb b.terms.identity.account id.account in
    let q = eqb b.terms.identity.key id.key in
    ap₂ (λ (a k : ℕ). (a % slots * 329 + k % slots) % slots) (eqb-true _ _ (and_left p q e)) (eqb-true _ _ (and_right p q e))

-- where the slot of an identity was not met, no place before has it
unmet : (bs : List Bill) (m : List Bool) (i : ℕ) (id : Identity) → Noted bs m i → get_or m (identity_slot id) false ≡ false → holds_id id (take i bs) ≡ false
unmet bs m i id w e =
    has-none (of_id id) bs i blank_bill
    (λ k l.
    cases (of_id id (get_or bs k blank_bill))
    (λ f. absurd (true≢false (sym (w k l) ∙ ap (λ (o : ℕ). get_or m o false) (same-slot id (get_or bs k blank_bill) f) ∙ e))) (λ f. f))

-- nor where it was met and the walk found none
pub none_before : (bs : List Bill) (m : List Bool) (i s : ℕ) (id : Identity) → s ≡ identity_slot id → Noted bs m i
    → (get_or m s false && holds_id id (take i bs)) ≡ false → holds_id id (take i bs) ≡ false
none_before bs m i s id e w h =
    cases (get_or m s false) (λ f. rw f at h) (λ f. unmet bs m i id w (ap (λ (o : ℕ). get_or m o false) (sym e) ∙ f))
