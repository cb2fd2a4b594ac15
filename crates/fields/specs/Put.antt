-- Parts of a list: taken out, put in, compared. Assumes nothing.
use Rattle.std.specs.Prelude.{ℕ, ◌+◌, ◌-◌, Bool, true, false, ◌&&◌, List, [], ◌∷◌, ◌++◌, length, take, drop, replicate, eqb}

-- the n elements of xs from index at on
unfoldable pub part : List ℕ → ℕ → ℕ → List ℕ
part xs at n = take n (drop at xs)

-- "positions count from 1": the bytes of a record at positions a to b, both included
abbrev pub positions : List ℕ → ℕ → ℕ → List ℕ
positions r a b = part r (a - 1) (b + 1 - a)

-- xs with ys in the place of what stands from index at on
unfoldable pub put : List ℕ → ℕ → List ℕ → List ℕ
put xs at ys = take at xs ++ (ys ++ drop (at + length ys) xs)

-- n times b
unfoldable pub filled : ℕ → ℕ → List ℕ
filled n b = replicate n b

-- two lists are equal
unfoldable pub same_list : List ℕ → List ℕ → Bool
same_list [] [] = true
same_list [] (y ∷ ys) = false
same_list (x ∷ xs) [] = false
same_list (x ∷ xs) (y ∷ ys) = eqb x y && same_list xs ys

-- xs holds ys from index at on
abbrev pub holds : List ℕ → ℕ → List ℕ → Bool
holds xs at ys = same_list (part xs at (length ys)) ys
