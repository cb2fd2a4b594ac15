-- Laws of `digits`, over the width. Assumes nothing.
use mathlib.Core.Path.{◌≡◌, refl, sym, ap, ap₂, ◌∙◌}
use mathlib.Core.Bool.{Bool, true, false, ◌&&◌}
use mathlib.Core.List.{List, [], ◌∷◌, ◌++◌}
use Prim.Native.Nat.{ℕ, zero, suc, ◌+◌, ◌-◌, ◌*◌, ◌/◌, ◌%◌, ◌^◌, ◌≤◌, ◌<◌}
use native.Mathlib.Nat.{mod-one, pow-suc, pow-succ', mod-lt, mod-eq_of_lt, mul-add-div_right, mul-add-mod_self_right, not-suc-le-zero, le_of_suc-le-suc, div-div-eq-div-mul}
use native.Mathlib.Omega.{arith}
use lib.ListN.{length, get_or, set, length-append}
use Rattle.fields.specs.Put.{put}
use Rattle.fields.specs.Field.{field_of}
use Rattle.fields.proofs.BoolLaws.{and_both}
use Rattle.fields.proofs.PutLaws.{put-cons}
use lib.Arith.{mod-mul, digits_lt, digits_div}
use lib.Dec.{leb}
use borrow.Author.Tests.{le-leb, leb-true}
use Rattle.fields.specs.Digits.{digits, number, is_digit, numeric}
use Rattle.std.specs.Prelude.{Some, None}

pub pow_pos : (w : ℕ) → 0 < 10 ^ w
pow_pos zero = omega arith
pow_pos (suc w) = rw (pow-suc 10 w) (omega (arith, pow_pos w))

pub pow-le : (i w : ℕ) → i ≤ w → 10 ^ i ≤ 10 ^ w
pow-le zero w h = pow_pos w
pow-le (suc i) zero h = absurd (not-suc-le-zero h)
pow-le (suc i) (suc w) h = rw (pow-suc 10 i, pow-suc 10 w) (omega (arith, pow-le i w (le_of_suc-le-suc h)))

pub length_digits : (w n : ℕ) → length (digits w n) ≡ w
unfolding digits
length_digits zero n = refl
length_digits (suc w) n = ap suc (length_digits w n)

-- the number of the lowest w digits
pub number-digits-mod : (w n : ℕ) → number (digits w n) ≡ n % 10 ^ w
unfolding digits number
number-digits-mod zero n = sym (mod-one n)
number-digits-mod (suc w) n =
    let e : 48 + n / 10 ^ w % 10 - 48 ≡ n / 10 ^ w % 10 = omega arith in
    rw (length_digits w n, number-digits-mod w n, e, pow-succ' 10 w)
    (sym (mod-mul n {m = 10} {c = 10 ^ w} (omega arith) (pow_pos w)))

pub number_digits : (w n : ℕ) → n < 10 ^ w → number (digits w n) ≡ n
number_digits w n h = number-digits-mod w n ∙ mod-eq_of_lt h

pub is_digit-range : (x : ℕ) → is_digit x ≡ true → (48 ≤ x) × (x ≤ 57)
unfolding is_digit
is_digit-range x h =
    let p = and_both (leb 48 x) (leb x 57) h in
    (leb-true 48 x p.0, leb-true x 57 p.1)

pub is_digit-in : (x : ℕ) → 48 ≤ x → x ≤ 57 → is_digit x ≡ true
unfolding is_digit
is_digit-in x h k = simp (le-leb 48 x h, le-leb x 57 k)

pub numeric-digits : (w n : ℕ) → numeric (digits w n) ≡ true
unfolding digits numeric
numeric-digits zero n = refl
numeric-digits (suc w) n =
    rw (is_digit-in (48 + n / 10 ^ w % 10) (omega arith) (omega (arith, mod-lt (n / 10 ^ w) {m = 10} (omega arith)))) (numeric-digits w n)

pub number_lt : (xs : List ℕ) → numeric xs ≡ true → number xs < 10 ^ length xs
unfolding number numeric
number_lt [] h = omega arith
number_lt (x ∷ xs) h =
    let p = and_both (is_digit x) (numeric xs) h in
    let d = is_digit-range x p.0 in
    rw (pow-succ' 10 (length xs)) (digits_lt {q = x - 48} {m = 10} {r = number xs} {c = 10 ^ length xs} (omega arith) (number_lt xs p.1))

-- what stands above the w digits does not count
pub digits-high : (w q r : ℕ) → digits w (q * 10 ^ w + r) ≡ digits w r
unfolding digits
digits-high zero q r = refl
digits-high (suc w) q r =
    let e : q * 10 ^ suc w + r ≡ q * 10 * 10 ^ w + r = rw (pow-suc 10 w) (omega arith) in
    let f : (q * 10 * 10 ^ w + r) / 10 ^ w % 10 ≡ r / 10 ^ w % 10 =
    ap (λ (k : ℕ). k % 10) (mul-add-div_right {m = 10 ^ w} (pow_pos w) (q * 10) r) ∙ mul-add-mod_self_right q 10 (r / 10 ^ w) in
    rw (e, f, digits-high w (q * 10) r)

pub digits_number : (xs : List ℕ) → numeric xs ≡ true → digits (length xs) (number xs) ≡ xs
unfolding digits number numeric
digits_number [] h = refl
digits_number (x ∷ xs) h =
    let p = and_both (is_digit x) (numeric xs) h in
    let d = is_digit-range x p.0 in
    let k : number xs < 10 ^ length xs = number_lt xs p.1 in
    let e : 48 + ((x - 48) * 10 ^ length xs + number xs) / 10 ^ length xs % 10 ≡ x =
    ap (λ (j : ℕ). 48 + j % 10) (digits_div (x - 48) k) ∙ omega arith in
    ap₂ {C = List ℕ} (λ (a : ℕ) (l : List ℕ). a ∷ l) e (digits-high (length xs) (x - 48) (number xs) ∙ digits_number xs p.1)

-- one digit more on the right, as a reader takes it
pub number-snoc : (xs : List ℕ) (x : ℕ) → number (xs ++ (x ∷ [])) ≡ number xs * 10 + (x - 48)
unfolding number
number-snoc [] x = omega arith
number-snoc (y ∷ xs) x =
    rw (number-snoc xs x, length-append xs (x ∷ []))
    (let e : 10 ^ (length xs + 1) ≡ 10 ^ length xs * 10 = rw (native.Mathlib.Numerals.add-one (length xs)) (pow-suc 10 (length xs)) in
    rw e (omega arith))

pub numeric-snoc : (xs : List ℕ) (x : ℕ) → numeric xs ≡ true → is_digit x ≡ true → numeric (xs ++ (x ∷ [])) ≡ true
unfolding numeric
numeric-snoc [] x h k = simp k
numeric-snoc (y ∷ xs) x h k =
    let p = and_both (is_digit y) (numeric xs) h in
    simp p.0 (numeric-snoc xs x p.1 k)

-- one code that is no digit
pub numeric-at : (xs : List ℕ) (i : ℕ) → i < length xs → is_digit (get_or xs i 0) ≡ false → numeric xs ≡ false
unfolding numeric
numeric-at [] i h k = absurd (not-suc-le-zero h)
numeric-at (x ∷ xs) zero h k = simp k
numeric-at (x ∷ xs) (suc i) h k = go (is_digit x) (numeric-at xs i (le_of_suc-le-suc h) k)
  where
    go : (b : Bool) → numeric xs ≡ false → (b && numeric xs) ≡ false
    go true e = e
    go false e = refl

-- the digit at an index
pub digits-at : (w n k : ℕ) → k < w → get_or (digits w n) k 0 ≡ 48 + n / 10 ^ (w - suc k) % 10
unfolding digits
digits-at zero n k h = absurd (not-suc-le-zero h)
digits-at (suc w) n zero h =
    let e : suc w - 1 ≡ w = omega arith in
    ap (λ (j : ℕ). 48 + n / 10 ^ j % 10) (sym e)
digits-at (suc w) n (suc k) h =
    let e : suc w - suc (suc k) ≡ w - suc k = omega arith in
    digits-at w n k (le_of_suc-le-suc h) ∙ ap (λ (j : ℕ). 48 + n / 10 ^ j % 10) (sym e)

-- a turn of the loop that writes digits from the right
pub put-digit : (xs : List ℕ) (a w i n : ℕ) → 0 < i → i ≤ w → a + w ≤ length xs
    → set (put xs (a + i) (digits (w - i) n)) (a + (i - 1)) (48 + n / 10 ^ (w - i) % 10) ≡ put xs (a + (i - 1)) (digits (w - (i - 1)) n)
unfolding digits
put-digit xs a w i n h k l =
    let e : w - (i - 1) ≡ suc (w - i) = omega arith in
    let f : a + i ≡ a + (i - 1) + 1 = omega arith in
    ap (λ (j : ℕ). set (put xs j (digits (w - i) n)) (a + (i - 1)) (48 + n / 10 ^ (w - i) % 10)) f
    ∙ put-cons xs (a + (i - 1)) (48 + n / 10 ^ (w - i) % 10) (digits (w - i) n) (omega (arith, length_digits (w - i) n))
    ∙ ap (λ (j : ℕ). put xs (a + (i - 1)) (digits j n)) (sym e)

-- what is left of the number after the turn
pub div-more : (n w i : ℕ) → 0 < i → i ≤ w → n / 10 ^ (w - i) / 10 ≡ n / 10 ^ (w - (i - 1))
div-more n w i h k =
    let e : w - (i - 1) ≡ suc (w - i) = omega arith in
    div-div-eq-div-mul n (10 ^ (w - i)) 10 ∙ ap (λ (j : ℕ). n / j) (sym (pow-suc 10 (w - i)) ∙ ap (λ (j : ℕ). 10 ^ j) (sym e))

-- what a field holds, by its test
pub field-number : (xs : List ℕ) (n : ℕ) → numeric xs ≡ true → n ≡ number xs → Some n ≡ field_of xs
unfolding field_of
field-number xs n h e = rw (h, e)

pub field-not : (xs : List ℕ) → numeric xs ≡ false → None ≡ field_of xs
unfolding field_of
field-not xs h = rw h

-- a field that was written reads back as its number
pub field-digits : (w n : ℕ) → n < 10 ^ w → field_of (digits w n) ≡ Some n
field-digits w n h = sym (field-number (digits w n) n (numeric-digits w n) (sym (number_digits w n h)))

-- two numbers with the same digits are equal
pub digits_same : (w n m : ℕ) → n < 10 ^ w → m < 10 ^ w → digits w n ≡ digits w m → n ≡ m
digits_same w n m h k e = sym (number_digits w n h) ∙ ap number e ∙ number_digits w m k
