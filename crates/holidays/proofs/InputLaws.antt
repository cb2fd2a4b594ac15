-- Bytes or lines over the most that good holidays have: the answer is the same whatever more of them come. Assumes nothing.
use Prim.Native.Nat.{ℕ, suc, ◌*◌, ◌≤◌, ◌<◌}
use mathlib.Core.Path.{◌≡◌, refl, ap, ◌∙◌}
use mathlib.Core.Bool.{true, false, ◌&&◌}
use mathlib.Core.List.{List, [], ◌∷◌, ◌++◌, map}
use native.Mathlib.Omega.{arith}
use native.Mathlib.Decide.{dec_le}
use lib.Dec.{leb, ltb, eqb}
use lib.ListN.{length, take, length-append, length-map}
use lib.Seq.{take_all, length-take-le}
use borrow.Author.Tests.{leb-true, eqb-true}
use Rattle.fields.specs.Put.{put}
use Rattle.fields.proofs.PutLaws.{front-put, put-longer}
use Rattle.fields.proofs.BoolLaws.{and_left, and_right, cases}
use Rattle.rules.specs.Lists.{every, sum}
use Rattle.units.specs.Calendar.{is_date}
use Rattle.units.proofs.DateLaws.{date-some}
use Rattle.calendar.specs.BusinessDays.{rise, most_holidays, good_holidays, further_causes, further_day}
use Rattle.holidays.specs.Lines.{date_in, on_first, lines, holidays_of}
use Rattle.holidays.specs.DayLine.{day_of}

-- ---- holidays that are refused
-- whichever they are, 14 stands for them, after the 2 of the same call
refused-both : (hs ks : List ℕ) (start number : ℕ) → good_holidays hs ≡ false → good_holidays ks ≡ false → further_day hs start number ≡ further_day ks start number
unfolding further_day further_causes
refused-both hs ks start number p q =
    cases (is_date start)
    (λ d. cases (ltb 9 number) (λ e. rw (d, e)) (λ e. rw (d, e, p, q)))
    (λ d. rw d)

good-few : (hs : List ℕ) → good_holidays hs ≡ true → length hs ≤ most_holidays
good-few hs h =
    leb-true (length hs) most_holidays
    (and_right (rise hs) (leb (length hs) most_holidays) (and_left (rise hs && leb (length hs) most_holidays) (every is_date hs) h))

many-refused : (hs : List ℕ) → most_holidays < length hs → good_holidays hs ≡ false
many-refused hs h = cases (good_holidays hs) (λ e. absurd (omega (arith, good-few hs e))) (λ e. e)

-- one more than the most are as good as all
further-first : (hs : List ℕ) (start number : ℕ) → further_day (take 65 hs) start number ≡ further_day hs start number
further-first hs start number = elim (dec_le (length hs) 65) [
  | yes h ↦ ap (λ (l : List ℕ). further_day l start number) (take_all 65 hs h)
  | no h ↦ (let e = length-take-le 65 hs (omega arith) in refused-both (take 65 hs) hs start number (many-refused (take 65 hs) (omega arith)) (many-refused hs (omega arith)))
]

-- ---- the holidays of an array into which as many were put as it has room for
module _ (zs hs all : List ℕ) (n : ℕ) (e : n ≡ length (take (length zs) all)) (q : hs ≡ put zs 0 (take (length zs) all)) where
  pub held-within : n ≤ length hs
  held-within = omega (arith, ap length q, put-longer zs (take (length zs) all))

  held : take n hs ≡ take (length zs) all
  held = ap (take n) q ∙ front-put zs (take (length zs) all) n e

  -- an array with room for one more than the most
  pub further-held : length zs ≡ 65 → (start number : ℕ) → further_day (take n hs) start number ≡ further_day all start number
  further-held l start number =
      ap (λ (k : List ℕ). further_day k start number) (held ∙ ap (λ (k : ℕ). take k all) l) ∙ further-first all start number

-- ---- how many bytes they have
-- every byte stands in a line or ends one
lines-bytes : (s : List ℕ) → length s ≤ sum (λ (l : List ℕ). suc (length l)) (lines s)
lines-bytes [] = omega arith
lines-bytes (b ∷ s) = cases (eqb b 10) (λ e. rw e (omega (arith, lines-bytes s))) (λ e. rw e (go (lines s) (lines-bytes s)))
  where
    go : (ls : List (List ℕ)) → length s ≤ sum (λ (l : List ℕ). suc (length l)) ls → suc (length s) ≤ sum (λ (l : List ℕ). suc (length l)) (on_first b ls)
    go [] h = omega arith
    go (l ∷ ls) h = omega arith

date-length : (l : List ℕ) → is_date (date_in l) ≡ true → length l ≡ 8
unfolding date_in
date-length l h = cases (eqb (length l) 8) (λ e. eqb-true (length l) 8 e) (λ e. absurd (omega (arith, date-some 0 (rw e at h))))

dates-bytes : (ls : List (List ℕ)) → every is_date (map date_in ls) ≡ true → sum (λ (l : List ℕ). suc (length l)) ls ≡ 9 * length ls
dates-bytes [] h = refl
dates-bytes (l ∷ ls) h =
    let p = date-length l (and_left (is_date (date_in l)) (every is_date (map date_in ls)) h) in
    omega (arith, p, dates-bytes ls (and_right (is_date (date_in l)) (every is_date (map date_in ls)) h))

-- 64 lines of 9 bytes
long-refused : (s : List ℕ) → 576 < length s → good_holidays (holidays_of s) ≡ false
unfolding holidays_of
long-refused s h =
    cases (good_holidays (holidays_of s))
    (λ e. absurd (omega (
      arith,
      good-few (holidays_of s) e,
      length-map (lines s) date_in,
      lines-bytes s,
      dates-bytes (lines s) (and_right (rise (holidays_of s) && leb (length (holidays_of s)) most_holidays) (every is_date (holidays_of s)) e),
    )))
    (λ e. e)

-- what comes after more bytes than good holidays have is not read
pub unread-rest : (date number s more : List ℕ) → 576 < length s → day_of date number (s ++ more) ≡ day_of date number s
unfolding day_of
unread-rest date number s more h =
    refused-both (holidays_of (s ++ more)) (holidays_of s) _ _ (long-refused (s ++ more) (omega (arith, length-append s more))) (long-refused s h)
