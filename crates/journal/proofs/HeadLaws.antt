-- Laws of what stands at the start of some bytes: what a whole entry is, and that bytes behind it change nothing. Assumes nothing.
use Prim.Native.Nat.{ℕ, ◌+◌, ◌-◌, ◌*◌, ◌≤◌, ◌<◌}
use mathlib.Core.Path.{◌≡◌, refl, sym, ap, ◌∙◌}
use mathlib.Core.Bool.{Bool, true, false, cond, not, ◌&&◌}
use mathlib.Core.List.{List, ◌++◌}
use native.Mathlib.Omega.{arith}
use lib.Dec.{eqb, leb, ltb}
use lib.ListN.{length, get_or, length-append, get_or-append}
use borrow.Author.Tests.{ltb-true, ltb-false, leb-true, eqb-true, le-ltb}
use Rattle.fields.specs.Put.{part}
use Rattle.fields.proofs.PutLaws.{part_left, length_part}
use Rattle.fields.proofs.BoolLaws.{and_both}
use Rattle.journal.specs.declared.Body.{Body}
use Rattle.journal.specs.declared.Head.{Head}
use Rattle.journal.specs.declared.Head.TheVariants.{Cut, Bad, Whole}
use Rattle.journal.specs.Entries.{body_of, good_length, in_turn, fresh_taken, whole_of, head_by, head_of}

-- the tag of the entry at the start of s, and the length that it says its body has
abbrev pub tag_in : List ℕ → ℕ
tag_in s = get_or s 0 0

abbrev pub length_in : List ℕ → ℕ
length_in s = get_or s 1 0 * 256 + get_or s 2 0

-- ---- a whole entry
small_by : (a b d e f k : Bool) (n : ℕ)
    → cond a (eqb n 26) (cond b (eqb n 56) (cond d (leb n 64200) (cond e (eqb n 16) (cond f (eqb n 8) (cond k (eqb n 20) false))))) ≡ true → n ≤ 64200
small_by true b d e f k n g = omega (arith, eqb-true n 26 g)
small_by false true d e f k n g = omega (arith, eqb-true n 56 g)
small_by false false true e f k n g = leb-true n 64200 g
small_by false false false true f k n g = omega (arith, eqb-true n 16 g)
small_by false false false false true k n g = omega (arith, eqb-true n 8 g)
small_by false false false false false true n g = omega (arith, eqb-true n 20 g)
small_by false false false false false false n g = let z : ◌≡◌ {A = ℕ} 0 1 = cc in absurd (omega arith)

-- the length of an entry's body
pub good-small : (tag n : ℕ) → good_length tag n ≡ true → n ≤ 64200
unfolding good_length
good-small tag n g = small_by (eqb tag 0) (eqb tag 1) (eqb tag 2) (eqb tag 3) (eqb tag 4) (eqb tag 5) n g

-- a choice that is a whole entry: it was not the other one
module _ (h : Head) (b : Body) (n : ℕ) where
  not-cut : (t : Bool) → cond t Cut h ≡ Whole b n → (t ≡ false) × (h ≡ Whole b n)
  not-cut true e = let z : ◌≡◌ {A = ℕ} 0 1 = cc in absurd (omega arith)
  not-cut false e = (refl, e)

  not-bad : (t : Bool) → cond t h Bad ≡ Whole b n → (t ≡ true) × (h ≡ Whole b n)
  not-bad true e = (refl, e)
  not-bad false e = let z : ◌≡◌ {A = ℕ} 0 1 = cc in absurd (omega arith)

  not-refused : (t : Bool) → cond t Bad h ≡ Whole b n → (t ≡ false) × (h ≡ Whole b n)
  not-refused true e = let z : ◌≡◌ {A = ℕ} 0 1 = cc in absurd (omega arith)
  not-refused false e = (refl, e)

whole-body : (a b : Body) (m n : ℕ) → Whole a m ≡ Whole b n → b ≡ a
whole-body a b m n e = cc

whole_length : (a b : Body) (m n : ℕ) → Whole a m ≡ Whole b n → n ≡ m
whole_length a b m n e = cc

taken-by : (t f : Bool) → (t && not f) ≡ false → t ≡ true → f ≡ true
taken-by true true h e = refl
taken-by true false h e = sym h
taken-by false f h e = let z : ◌≡◌ {A = ℕ} 0 1 = cc in absurd (omega arith)

-- what a whole entry at the start of s is, where seen came before: n is the number of its bytes and b what its body holds
pub record WholeAt (seen : ℕ) (s : List ℕ) (b : Body) (n : ℕ) : Type 0 where
  pub few : seen < 1000000000
  pub inside : n ≤ length s
  pub bytes : n ≡ length_in s + 3
  pub turn : in_turn seen (tag_in s) ≡ true
  pub good : good_length (tag_in s) (length_in s) ≡ true
  pub body : b ≡ body_of (tag_in s) (part s 3 (length_in s))
  pub taken : eqb (tag_in s) 0 ≡ true → fresh_taken b ≡ true

pub whole_is : (seen : ℕ) (s : List ℕ) (b : Body) (n : ℕ) → head_of seen s ≡ Whole b n → WholeAt seen s b n
unfolding head_of head_by
whole_is seen s b n e =
    let m = length_in s in
    let tag = tag_in s in
    let x = body_of tag (part s 3 m) in
    let e1 = not-cut _ b n (ltb (length s) 3) e in
    let e2 = not-bad _ b n (ltb seen 1000000000 && in_turn seen tag && good_length tag m) e1.1 in
    let e3 = not-cut _ b n (ltb (length s) (m + 3)) e2.1 in
    let e4 = not-refused _ b n (eqb tag 0 && not (fresh_taken x)) e3.1 in
    let t = and_both (ltb seen 1000000000 && in_turn seen tag) (good_length tag m) e2.0 in
    let u = and_both (ltb seen 1000000000) (in_turn seen tag) t.0 in
    let h : b ≡ x = whole-body x b (m + 3) n e4.1 in
    let k : n ≡ m + 3 = whole_length x b (m + 3) n e4.1 in
    record {
      few = ltb-true seen 1000000000 u.0;
      inside = omega (arith, ltb-false (length s) (m + 3) e3.0);
      bytes = k;
      turn = u.1;
      good = t.1;
      body = h;
      taken = λ z. ap fresh_taken h ∙ taken-by (eqb tag 0) (fresh_taken x) e4.0 z;
    }

-- it has its three bytes at least, lies within the bytes, and came in time
pub whole-fits : (seen : ℕ) (s : List ℕ) (b : Body) (n : ℕ) → head_of seen s ≡ Whole b n → (3 ≤ n) × (n ≤ length s) × (seen < 1000000000)
whole-fits seen s b n e =
    let w = whole_is seen s b n e in
    (omega (arith, w.bytes), w.inside, w.few)

-- its body's length, and what its body holds by its bytes
pub whole-small : (seen : ℕ) (s : List ℕ) (b : Body) (n : ℕ) → head_of seen s ≡ Whole b n → n - 3 ≤ 64200
whole-small seen s b n e =
    let w = whole_is seen s b n e in
    omega (arith, w.bytes, good-small (tag_in s) (length_in s) w.good)

pub whole-holds : (seen : ℕ) (s : List ℕ) (b : Body) (n : ℕ) → head_of seen s ≡ Whole b n → b ≡ body_of (tag_in s) (part s 3 (n - 3))
whole-holds seen s b n e =
    let w = whole_is seen s b n e in
    let k : length_in s ≡ n - 3 = omega (arith, w.bytes) in
    w.body ∙ ap (λ (m : ℕ). body_of (tag_in s) (part s 3 m)) k

pub whole-bytes : (seen : ℕ) (s : List ℕ) (b : Body) (n : ℕ) → head_of seen s ≡ Whole b n → length (part s 3 (n - 3)) ≡ n - 3
whole-bytes seen s b n e =
    let w = whole_is seen s b n e in
    length_part s 3 (n - 3) (omega (arith, w.bytes, w.inside))

-- ---- unless it is cut, an entry stays as it is where bytes come behind it
abbrev pub Stays : Head → Head → Type 0
Stays a b = (a ≡ Cut → ⊥) → b ≡ a

stays-cut : (t u : Bool) (a b : Head) → (t ≡ false → u ≡ false) → (t ≡ false → Stays a b) → Stays (cond t Cut a) (cond u Cut b)
stays-cut true u a b h k n = absurd (n refl)
stays-cut false u a b h k n = rw (h refl) (k refl n)

stays-bad : (t : Bool) (a b : Head) → Stays a b → Stays (cond t a Bad) (cond t b Bad)
stays-bad true a b h = h
stays-bad false a b h = λ n. refl

module _ (s t : List ℕ) where
  longer : (k : ℕ) → ltb (length s) k ≡ false → ltb (length (s ++ t)) k ≡ false
  longer k e = le-ltb (length (s ++ t)) k (omega (arith, ltb-false (length s) k e, length-append s t))

  by-stays : (seen tag n : ℕ) → Stays (head_by seen s tag n) (head_by seen (s ++ t) tag n)
  unfolding head_by
  by-stays seen tag n =
      stays-bad (ltb seen 1000000000 && in_turn seen tag && good_length tag n) _ _
      (stays-cut (ltb (length s) (n + 3)) (ltb (length (s ++ t)) (n + 3)) _ _ (longer (n + 3))
      (λ e z. ap (λ (x : List ℕ). whole_of tag (body_of tag x) (n + 3)) (part_left s t 3 n (omega (arith, ltb-false (length s) (n + 3) e)))))

  pub head-stays : (seen : ℕ) → Stays (head_of seen s) (head_of seen (s ++ t))
  unfolding head_of
  head-stays seen =
      stays-cut (ltb (length s) 3) (ltb (length (s ++ t)) 3) _ _ (longer 3)
      (λ e. let h : 3 ≤ length s = ltb-false (length s) 3 e in
      let a : get_or (s ++ t) 0 0 ≡ get_or s 0 0 = get_or-append s t 0 0 (omega arith) in
      let b : get_or (s ++ t) 1 0 ≡ get_or s 1 0 = get_or-append s t 0 1 (omega arith) in
      let d : get_or (s ++ t) 2 0 ≡ get_or s 2 0 = get_or-append s t 0 2 (omega arith) in
      rw (a, b, d) (by-stays seen (get_or s 0 0) (get_or s 1 0 * 256 + get_or s 2 0)))
