-- Lines, and the dates that they hold. Assumes nothing.
use Prim.Native.Nat.{ℕ, zero, suc, ◌+◌, ◌-◌, ◌≤◌, ◌<◌}
use mathlib.Core.Path.{◌≡◌, refl, sym, ap, ◌∙◌}
use mathlib.Core.Bool.{false, ◌&&◌}
use mathlib.Core.List.{List, [], ◌∷◌, map}
use native.Mathlib.Omega.{arith}
use native.Mathlib.Numerals.{add-one}
use native.Mathlib.Nat.{not-suc-le-zero}
use lib.Dec.{eqb, ltb}
use Rattle.std.specs.List.{position, position_or_len}
use Rattle.std.specs.Option.{unwrap_or}
use lib.ListN.{length, get_or, take, drop, set, length-take, length-drop, drop_of_length-le}
use lib.Seq.{drop-cons, drop-drop, get_or-take}
use borrow.Author.Tests.{eq-eqb, ne_eqb, ltb-false, le-ltb}
use Rattle.fields.specs.Field.{field_of, value}
use Rattle.fields.specs.Put.{put}
use Rattle.fields.proofs.BoolLaws.{cases}
use Rattle.fields.proofs.PutLaws.{Copied, copied_none, copied_more, copied_all}
use Rattle.holidays.specs.Lines.{date_in, on_first, lines, holidays_of}
use Rattle.holidays.specs.parts.FirstLine.{first_line}

-- ---- a date
pub date-not : (s : List ℕ) → (length s ≡ 8 → ⊥) → 0 ≡ date_in s
unfolding date_in
date-not s h = rw (ne_eqb (length s) 8 h)

pub date-is : (s : List ℕ) (r : ℕ) → length s ≡ 8 → r ≡ value (field_of s) → r ≡ date_in s
unfolding date_in
date-is s r h e = rw (eq-eqb (length s) 8 h) e

-- ---- where a line ends
pub line-length : (s : List ℕ) → length (first_line s) ≤ length s
line-length [] = omega arith
line-length (b ∷ s) = cases (eqb b 10) (λ e. rw e (omega arith)) (λ e. rw e (omega (arith, line-length s)))

line-prefix : (s : List ℕ) → position_or_len (λ b. eqb b 10) s ≡ length (first_line s)
line-prefix [] = refl
line-prefix (b ∷ s) = cases (eqb b 10) (λ e. rw e) (λ e. rw e (omega (arith, line-prefix s)))

-- past a byte that does not end it
pub line-more : (s : List ℕ) (i : ℕ) → i < length s → (get_or s i 0 ≡ 10 → ⊥)
    → length (first_line (drop i s)) ≡ suc (length (first_line (drop (i + 1) s)))
line-more s i h e = rw (add-one i, drop-cons s i 0 h, ne_eqb (get_or s i 0) 10 e)

-- at the first byte 10, or where the bytes end
pub line-found : (s : List ℕ) → unwrap_or (position (λ b. eqb b 10) s) (length s) ≡ length (first_line s)
line-found s =
    rw (line-prefix s)
    (cases (ltb (length (first_line s)) (length s))
    (λ e. rw e)
    (λ e. rw e (omega (arith, line-length s, ltb-false (length (first_line s)) (length s) e))))

-- where the line of a turn ends
pub end-within : (s : List ℕ) (at e : ℕ) → at < length s → e ≡ at + length (first_line (drop at s)) → (at ≤ e) × (e ≤ length s)
end-within s at e h q = (omega arith, omega (arith, line-length (drop at s), length-drop at s))

-- ---- the lines of some bytes: the first one, and those after it
pub first_part : (s : List ℕ) → take (length (first_line s)) s ≡ first_line s
first_part [] = refl
first_part (b ∷ s) = cases (eqb b 10) (λ e. rw e) (λ e. rw (e, first_part s))

pub lines-first : (s : List ℕ) → 0 < length s → lines s ≡ first_line s ∷ lines (drop (suc (length (first_line s))) s)
lines-first [] h = absurd (not-suc-le-zero h)
lines-first (b ∷ []) h = cases (eqb b 10) (λ e. rw e) (λ e. rw e)
lines-first (b ∷ x ∷ s) h =
    cases (eqb b 10) (λ e. rw e)
    (λ e. rw e (ap (on_first b) (lines-first (x ∷ s) (omega arith))))

-- ---- the dates put one after another: the first n are put, and those of the bytes from `at` on are still to come
pub record ReadTo (s hs₀ hs : List ℕ) (at n : ℕ) : Type 0 where
  pub copied : Copied hs₀ 0 (take (length hs₀) (holidays_of s)) hs n
  pub rest : drop n (holidays_of s) ≡ holidays_of (drop at s)

pub read_none : (s hs : List ℕ) → ReadTo s hs hs 0 0
read_none s hs = record { copied = copied_none hs 0 (take (length hs) (holidays_of s)); rest = refl }

none : holidays_of [] ≡ []
unfolding holidays_of
none = refl

-- a list from an index on
drop_head : (l : List ℕ) (n x : ℕ) (r : List ℕ) → drop n l ≡ x ∷ r → (n < length l) × (get_or l n 0 ≡ x) × (drop (suc n) l ≡ r)
drop_head [] zero x r e = let z : 0 ≡ suc (length r) = ap length e in absurd (omega arith)
drop_head [] (suc n) x r e = let z : 0 ≡ suc (length r) = ap length e in absurd (omega arith)
drop_head (y ∷ l) zero x r e = (omega arith, cc, cc)
drop_head (y ∷ l) (suc n) x r e = let q = drop_head l n x r e in (omega (arith, q.0), q.1, q.2)

holidays-first : (s : List ℕ) (at e : ℕ) → at < length s → e ≡ at + length (first_line (drop at s))
    → holidays_of (drop at s) ≡ date_in (take (e - at) (drop at s)) ∷ holidays_of (drop (e + 1) s)
unfolding holidays_of
holidays-first s at e h q =
    let f : List ℕ = first_line (drop at s) in
    let k : e - at ≡ length f = omega arith in
    let m : at + suc (length f) ≡ e + 1 = omega arith in
    ap (map date_in) (lines-first (drop at s) (omega (arith, length-drop at s)))
    ∙ rw (k, first_part (drop at s), ← m, ← drop-drop (suc (length f)) at s)

module _ {s hs₀ hs : List ℕ} {at n : ℕ} (t : ReadTo s hs₀ hs at n) where
  pub read_more : at < length s → n < length hs → (e d : ℕ) → e ≡ at + length (first_line (drop at s)) → d ≡ date_in (take (e - at) (drop at s))
      → ReadTo s hs₀ (set hs n d) (e + 1) (n + 1)
  read_more h k e d q w =
      let all : List ℕ = holidays_of s in
      let src : List ℕ = take (length hs₀) all in
      let p : drop n all ≡ d ∷ holidays_of (drop (e + 1) s) = t.rest ∙ holidays-first s at e h q ∙ ap (λ (x : ℕ). x ∷ holidays_of (drop (e + 1) s)) (sym w) in
      let g = drop_head all n d (holidays_of (drop (e + 1) s)) p in
      let m : n < length hs₀ = omega (arith, t.copied.kept) in
      let i : get_or src n 0 ≡ d = get_or-take (length hs₀) all n 0 m ∙ g.1 in
      let z : 0 + n ≡ n = omega arith in
      record {
        copied = rw (i, z) at (copied_more t.copied (omega (arith, length-take (length hs₀) all)) (omega (arith, length-take (length hs₀) all, g.0)));
        rest = ap (λ (j : ℕ). drop j all) (add-one n) ∙ g.2;
      }

  -- the bytes or the room came to an end
  pub read_all : (ltb at (length s) && ltb n (length hs)) ≡ false
      → (n ≡ length (take (length hs₀) (holidays_of s))) × (hs ≡ put hs₀ 0 (take (length hs₀) (holidays_of s)))
  read_all h =
      let src : List ℕ = take (length hs₀) (holidays_of s) in
      let m = length-take (length hs₀) (holidays_of s) in
      let all : length src ≤ n =
      cases (ltb at (length s))
      (λ e. omega (arith, t.copied.kept, ltb-false n (length hs) (rw e at h)))
      (λ e. omega (arith, ap length (t.rest ∙ ap holidays_of (drop_of_length-le s (ltb-false at (length s) e)) ∙ none), length-drop n (holidays_of s))) in
      (omega (arith, t.copied.fits), copied_all t.copied all)

  -- the bytes did
  pub read_ended : length s ≤ at → (n ≡ length (take (length hs₀) (holidays_of s))) × (hs ≡ put hs₀ 0 (take (length hs₀) (holidays_of s)))
  read_ended h = read_all (rw (le-ltb at (length s) h))
