-- Tests, sums and searches over a list. Assumes nothing.
use Rattle.std.specs.Prelude.{ℕ, suc, ◌+◌, Bool, true, false, cond, ◌&&◌, ◌||◌, List, [], ◌∷◌, Option, Some, None}

-- all of these are true
abbrev pub all : List Bool → Bool
all [] = true
all (b ∷ bs) = b && all bs

module _ {A : Type 0} where
  -- every element passes the test
  abbrev pub every : (A → Bool) → List A → Bool
  every p [] = true
  every p (x ∷ xs) = p x && every p xs

  -- some element passes the test
  abbrev pub has : (A → Bool) → List A → Bool
  has p [] = false
  has p (x ∷ xs) = p x || has p xs

  -- how many elements pass the test
  abbrev pub count : (A → Bool) → List A → ℕ
  count p [] = 0
  count p (x ∷ xs) = cond (p x) (suc (count p xs)) (count p xs)

  -- the sum of f over the elements
  abbrev pub sum : (A → ℕ) → List A → ℕ
  sum f [] = 0
  sum f (x ∷ xs) = f x + sum f xs

  -- the place of the first element that passes the test, counted from n
  abbrev pub find : (A → Bool) → ℕ → List A → Option ℕ
  find p n [] = None
  find p n (x ∷ xs) = cond (p x) (Some n) (find p (suc n) xs)

  -- the list with f applied to the first element that passes the test
  abbrev pub update : (A → Bool) → (A → A) → List A → List A
  update p f [] = []
  update p f (x ∷ xs) = cond (p x) (f x ∷ xs) (x ∷ update p f xs)
