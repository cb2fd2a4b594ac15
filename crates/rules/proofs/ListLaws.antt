-- Laws of the tests, sums and searches of specs/Lists.antt: over a list, and over the elements that a loop still has before it. Assumes nothing.
use Prim.Native.Nat.{ℕ, zero, suc, ◌+◌, ◌≤◌, ◌<◌}
use mathlib.Core.Path.{◌≡◌, refl, sym, ap, ◌∙◌}
use mathlib.Core.Bool.{Bool, true, false, cond, ◌&&◌, and_assoc, and-true}
use mathlib.Core.List.{List, [], ◌∷◌, ◌++◌}
use native.Mathlib.Omega.{arith}
use native.Mathlib.Nat.{not-suc-le-zero, le_of_suc-le-suc}
use native.Mathlib.Numerals.{add-one}
use lib.ListN.{length, get_or, set, take, drop, take-append-drop}
use lib.Seq.{slice, slice-cons, slice_empty, take-suc}
use Rattle.fields.proofs.BoolLaws.{cases, and_left, and_right}
use Rattle.rules.specs.Lists.{all, every, has, sum, find}
use Rattle.std.specs.Prelude.{Option, Some, None}

-- tests that all pass, one by one
abbrev pub On : List Bool → Type 0
On [] = Unit {0}
On (b ∷ bs) = (b ≡ true) × On bs

pub all-on : (bs : List Bool) → all bs ≡ true → On bs
all-on [] h = tt
all-on (b ∷ bs) h = (and_left b (all bs) h, all-on bs (and_right b (all bs) h))

pub on-all : (bs : List Bool) → On bs → all bs ≡ true
on-all [] h = refl
on-all (b ∷ bs) h = rw h.0 (on-all bs h.1)

-- one test more, at the end
pub all_append : (bs : List Bool) (b : Bool) → all (bs ++ (b ∷ [])) ≡ (all bs && b)
all_append [] b = and-true b
all_append (a ∷ bs) b = ap (λ (z : Bool). a && z) (all_append bs b) ∙ sym (and_assoc a (all bs) b)

-- tests joined from the left, as code joins them
abbrev pub joined : Bool → List Bool → Bool
joined a [] = a
joined a (b ∷ bs) = joined (a && b) bs

pub all-joined : (a : Bool) (bs : List Bool) → joined a bs ≡ (a && all bs)
all-joined a [] = sym (and-true a)
all-joined a (b ∷ bs) = all-joined (a && b) bs ∙ and_assoc a b (all bs)

module _ {A : Type 0} where
  pub every_append : (p : A → Bool) (xs ys : List A) → every p (xs ++ ys) ≡ (every p xs && every p ys)
  every_append p [] ys = refl
  every_append p (x ∷ xs) ys = ap (λ (b : Bool). p x && b) (every_append p xs ys) ∙ sym (and_assoc (p x) (every p xs) (every p ys))

  -- where all pass, each does
  pub every-at : (p : A → Bool) (xs : List A) (i : ℕ) (d : A) → every p xs ≡ true → i < length xs → p (get_or xs i d) ≡ true
  every-at p [] i d a h = absurd (not-suc-le-zero h)
  every-at p (x ∷ xs) zero d a h = and_left (p x) (every p xs) a
  every-at p (x ∷ xs) (suc i) d a h = every-at p xs i d (and_right (p x) (every p xs) a) (le_of_suc-le-suc h)

  -- a test that follows from another
  pub every_map : (p q : A → Bool) → ((x : A) → p x ≡ true → q x ≡ true) → (xs : List A) → every p xs ≡ true → every q xs ≡ true
  every_map p q f [] h = refl
  every_map p q f (x ∷ xs) h = rw (f x (and_left (p x) (every p xs) h)) (every_map p q f xs (and_right (p x) (every p xs) h))

  pub sum-append : (f : A → ℕ) (xs ys : List A) → sum f (xs ++ ys) ≡ sum f xs + sum f ys
  sum-append f [] ys = omega arith
  sum-append f (x ∷ xs) ys = omega (arith, sum-append f xs ys)

  -- the sum over the first elements: with one more, and against the whole
  pub sum_more : (f : A → ℕ) (xs : List A) (i : ℕ) (d : A) → i < length xs → sum f (take (i + 1) xs) ≡ sum f (take i xs) + f (get_or xs i d)
  sum_more f xs i d h = rw (add-one i, take-suc xs i d h) (omega (arith, sum-append f (take i xs) (get_or xs i d ∷ [])))

  pub sum_first : (f : A → ℕ) (xs : List A) (i : ℕ) → sum f (take i xs) ≤ sum f xs
  sum_first f xs i = omega (arith, sum-append f (take i xs) (drop i xs), ap (sum f) (take-append-drop i xs))

  -- one element replaced: the new sum and what went make the old sum and what came
  pub sum-set : (f : A → ℕ) (xs : List A) (i : ℕ) (y d : A) → i < length xs → sum f (set xs i y) + f (get_or xs i d) ≡ sum f xs + f y
  sum-set f [] i y d h = omega arith
  sum-set f (x ∷ xs) zero y d h = omega arith
  sum-set f (x ∷ xs) (suc i) y d h = let k : i < length xs = omega arith in omega (arith, sum-set f xs i y d k)

below_by : (t : Bool) (n m i : ℕ) (r : Option ℕ) → (r ≡ Some i → i < suc n + m) → cond t (Some n) r ≡ Some i → i < n + suc m
below_by true n m i r k e = let z : n ≡ i = cc in omega arith
below_by false n m i r k e = omega (arith, k e)

module _ {A : Type 0} where
  -- what a search finds is a place of the list
  pub find-below : (p : A → Bool) (n : ℕ) (xs : List A) (i : ℕ) → find p n xs ≡ Some i → i < n + length xs
  find-below p n [] i e = let z : ◌≡◌ {A = ℕ} 0 1 = cc in omega arith
  find-below p n (x ∷ xs) i e = below_by (p x) n (length xs) i (find p (suc n) xs) (find-below p (suc n) xs i) e

-- a list by its places: no element passes the test, one does, and a search finds the first that does
module _ {A : Type 0} (p : A → Bool) (d : A) where
  pub has-none : (xs : List A) → ((q : ℕ) → q < length xs → p (get_or xs q d) ≡ false) → has p xs ≡ false
  has-none [] f = refl
  has-none (x ∷ xs) f = rw (f 0 (omega arith)) (has-none xs (λ q h. f (suc q) (omega arith)))

  pub has_some : (xs : List A) (q : ℕ) → q < length xs → p (get_or xs q d) ≡ true → has p xs ≡ true
  has_some [] q h e = absurd (omega arith)
  has_some (x ∷ xs) zero h e = rw e
  has_some (x ∷ xs) (suc q) h e =
      cases (p x) (λ t. rw t) (λ t. rw t (has_some xs q (omega arith) e))

  pub find_none : (n : ℕ) (xs : List A) → ((q : ℕ) → q < length xs → p (get_or xs q d) ≡ false) → find p n xs ≡ None
  find_none n [] f = refl
  find_none n (x ∷ xs) f = rw (f 0 (omega arith)) (find_none (suc n) xs (λ q h. f (suc q) (omega arith)))

  pub find_first : (n : ℕ) (xs : List A) (i : ℕ) → i < length xs → p (get_or xs i d) ≡ true → ((q : ℕ) → q < i → p (get_or xs q d) ≡ false)
      → find p n xs ≡ Some (n + i)
  find_first n [] i h e f = absurd (omega arith)
  find_first n (x ∷ xs) zero h e f = rw e (ap Some (omega arith))
  find_first n (x ∷ xs) (suc i) h e f =
      let m : suc n + i ≡ n + suc i = omega arith in
      rw (f 0 (omega arith)) (find_first (suc n) xs i (omega arith) e (λ q k. f (suc q) (omega arith)) ∙ ap Some m)

-- one turn of a loop over the elements from i up to n
module _ {A : Type 0} (n i : ℕ) (xs : List A) (d : A) (h : i < n) (k : n ≤ length xs) where
  pub slice-step : slice i n xs ≡ get_or xs i d ∷ slice (i + 1) n xs
  slice-step = simp (slice-cons i n xs d h k, add-one i)

  pub has-hit : (p : A → Bool) → p (get_or xs i d) ≡ true → has p (slice i n xs) ≡ true
  has-hit p e = rw (slice-step, e)

  pub has-miss : (p : A → Bool) → p (get_or xs i d) ≡ false → has p (slice i n xs) ≡ has p (slice (i + 1) n xs)
  has-miss p e = rw (slice-step, e)

  pub find-hit : (p : A → Bool) → p (get_or xs i d) ≡ true → find p i (slice i n xs) ≡ Some i
  find-hit p e = simp (slice-cons i n xs d h k, e)

  pub find-miss : (p : A → Bool) → p (get_or xs i d) ≡ false → find p i (slice i n xs) ≡ find p (i + 1) (slice (i + 1) n xs)
  find-miss p e = simp (slice-cons i n xs d h k, e, add-one i)

-- the loop's end
module _ {A : Type 0} (n i : ℕ) (xs : List A) (h : i ≤ n) (k : n ≤ i) where
  pub slice-end : slice i n xs ≡ []
  slice-end = let e : i ≡ n = omega arith in simp (e, slice_empty n xs)
