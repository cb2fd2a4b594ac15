-- How business days are counted from one date to the next, and where the count ends. Assumes nothing.
use Prim.Native.Nat.{ℕ, zero, suc, ◌+◌, ◌-◌, ◌≤◌, ◌<◌}
use mathlib.Core.Path.{◌≡◌, refl, sym, ap, ◌∙◌}
use mathlib.Core.Bool.{Bool, true, false, cond, not, ◌&&◌, and-false}
use mathlib.Core.List.{List}
use native.Mathlib.Omega.{arith}
use native.Mathlib.Decide.{dec_le}
use lib.Dec.{leb, eqb}
use borrow.Author.Tests.{eq-eqb, ne_eqb}
use Rattle.fields.proofs.BoolLaws.{and_left, cases}
use Rattle.rules.specs.Lists.{has}
use Rattle.rules.specs.Least.{least_up_to}
use Rattle.rules.proofs.LeastLaws.{up-to-hit, up-to-none, up-to-skip, up-to-found, up-to-before, up-to-nothing}
use Rattle.units.specs.Calendar.{is_date}
use Rattle.units.specs.Days.{last_date, weekday}
use Rattle.units.proofs.DateLaws.{Next, date-last}
use Rattle.calendar.specs.BusinessDays.{is_business_day, business_days, next_business_day, is_further, business_day, next_day, next_causes, further_day, further_causes}
use Rattle.std.specs.Prelude.{Option, Some, None}

day-date : (hs : List ℕ) (d : ℕ) → is_business_day hs d ≡ true → is_date d ≡ true
unfolding is_business_day
day-date hs d h =
    and_left (is_date d) (leb (weekday d) 5)
    (and_left (is_date d && leb (weekday d) 5) (not (has (eqb d) hs)) h)

no-date-no-day : (hs : List ℕ) (d : ℕ) → is_date d ≡ false → is_business_day hs d ≡ false
unfolding is_business_day
no-date-no-day hs d h = rw h

-- ---- counting
module _ (hs : List ℕ) (start : ℕ) where
  count_none : business_days hs start (start - start) ≡ 0
  unfolding business_days
  count_none = let e : start - start ≡ 0 = omega arith in rw e

  count-more : (m : ℕ) → business_days hs start (suc m) ≡ business_days hs start m + cond (is_business_day hs (start + suc m)) 1 0
  unfolding business_days
  count-more m = refl

  -- over k numbers that are no business days
  count_same :
      (k n : ℕ) → ((e : ℕ) → start + n < e → e ≤ start + n + k → is_business_day hs e ≡ false)
      → business_days hs start (n + k) ≡ business_days hs start n
  count_same zero n f = let e : n + 0 ≡ n = omega arith in ap (business_days hs start) e
  count_same (suc k) n f =
      let e : n + suc k ≡ suc (n + k) = omega arith in
      let b = f (start + suc (n + k)) (omega arith) (omega arith) in
      let s = count_same k n (λ j g h. f j g (omega arith)) in
      rw e (omega (arith, s, simp b at (count-more (n + k))))

  -- from d to r, with no business day between
  module _ (d r : ℕ) (h : start ≤ d) (l : d < r) (f : (e : ℕ) → d < e → e < r → is_business_day hs e ≡ false) where
    count_next : business_days hs start (r - start) ≡ business_days hs start (d - start) + cond (is_business_day hs r) 1 0
    count_next =
        let n = d - start in
        let k = r - suc d in
        let m : r - start ≡ suc (n + k) = omega arith in
        let t : start + suc (n + k) ≡ r = omega arith in
        let s = count_same k n (λ e i j. f e (omega arith) (omega arith)) in
        rw m (omega (arith, s, rw t at (count-more (n + k))))

-- ---- which date is the one
module _ (hs : List ℕ) (start number : ℕ) where
  enough : (d : ℕ) → is_date d ≡ true → business_days hs start (d - start) ≡ number → is_further hs start number d ≡ true
  unfolding is_further
  enough d h e = rw (h, eq-eqb (business_days hs start (d - start)) number e)

  too_few : (d left : ℕ) → 0 < left → business_days hs start (d - start) + left ≡ number → is_further hs start number d ≡ false
  unfolding is_further
  too_few d left h e = rw (ne_eqb (business_days hs start (d - start)) number (λ i. omega arith), and-false (is_date d))

  not-a-date : (d : ℕ) → is_date d ≡ false → is_further hs start number d ≡ false
  unfolding is_further
  not-a-date d h = rw h

-- on the way from the start: at d, with so many business days left, the one sought is the one sought from d on
pub record Way (hs : List ℕ) (start number d left : ℕ) : Type 0 where
  pub date : is_date d ≡ true
  pub from : start ≤ d
  pub counted : business_days hs start (d - start) + left ≡ number
  pub same : least_up_to (is_further hs start number) d last_date ≡ business_day hs start number

module _ (hs : List ℕ) (start number : ℕ) where
  pub way-start : is_date start ≡ true → Way hs start number start number
  unfolding business_day
  way-start h = record { date = h; from = omega arith; counted = omega (arith, count_none hs start); same = refl }

  module _ (d left : ℕ) (w : Way hs start number d left) where
    pub way_end : left ≡ 0 → business_day hs start number ≡ Some d
    way_end z =
        sym w.same
        ∙ up-to-hit (is_further hs start number) d last_date (date-last d w.date) (enough hs start number d w.date (omega (arith, w.counted)))

    pub way-none : 0 < left → last_date ≤ d → business_day hs start number ≡ None
    way-none h l =
        let p = is_further hs start number in
        let e : d ≡ last_date = omega (arith, date-last d w.date) in
        let not_yet = too_few hs start number d left h w.counted in
        sym w.same
        ∙ up-to-skip p d (suc d) last_date (omega arith) (omega arith) (λ j a b. let i : j ≡ d = omega arith in rw i not_yet)
        ∙ up-to-none p (suc d) last_date (omega arith)

    pub way_on : (r rest : ℕ) → 0 < left → Next d r → rest + cond (is_business_day hs r) 1 0 ≡ left → Way hs start number r rest
    way_on r rest h n e =
        let p = is_further hs start number in
        let not_yet = too_few hs start number d left h w.counted in
        let c = count_next hs start d r w.from n.after (λ j a b. no-date-no-day hs j (n.between j a b)) in
        record {
          date = n.date;
          from = omega (arith, w.from, n.after);
          counted = omega (arith, c, w.counted);
          same =
              sym
              (up-to-skip p d r last_date (omega (arith, n.after)) (omega (arith, date-last r n.date))
              (λ j a b.
              elim (dec_le j d) [
                | yes g ↦ (let i : j ≡ d = omega arith in rw i not_yet)
                | no g ↦ not-a-date hs start number j (n.between j (omega arith) b)
              ]))
              ∙ w.same;
        }

-- ---- the next business day is one further on
module _ (hs : List ℕ) (d : ℕ) where
  abbrev p : ℕ → Bool
  p = is_further hs d 1

  -- where no number after d up to e is a business day
  still : (e : ℕ) → d ≤ e → ((j : ℕ) → d < j → j ≤ e → is_business_day hs j ≡ false) → p e ≡ false
  still e h f =
      let s = count_same hs d (e - d) 0 (λ j a b. f j (omega arith) (omega arith)) in
      let z : 0 + (e - d) ≡ e - d = omega arith in
      let n : d - d ≡ 0 = omega arith in
      too_few hs d 1 e 1 (omega arith) (omega (arith, rw z at s, rw n at (count_none hs d)))

  one_further : (f : Option ℕ) → least_up_to (is_business_day hs) (suc d) last_date ≡ f → d ≤ last_date → f ≡ least_up_to p d last_date
  one_further (Some r) e t =
      let b = is_business_day hs in
      let g = up-to-found b (suc d) last_date r e in
      let none = up-to-before b (suc d) last_date r e in
      let c = count_next hs d d r (omega arith) g.1 none in
      let k = enough hs d 1 r (day-date hs r g.0) (omega (arith, count_none hs d, rw g.0 at c)) in
      sym
      (up-to-skip p d r last_date (omega arith) (omega arith) (λ j a l. still j a (λ i m n. none i m (omega arith)))
      ∙ up-to-hit p r last_date g.2 k)
  one_further None e t =
      let none = up-to-nothing (is_business_day hs) (suc d) last_date e in
      sym
      (up-to-skip p d (suc last_date) last_date (omega arith) (omega arith) (λ j a l. still j a (λ i m n. none i m (omega arith)))
      ∙ up-to-none p (suc last_date) last_date (omega arith))

pub next-is-one-further : (hs : List ℕ) (d : ℕ) → is_date d ≡ true → next_business_day hs d ≡ business_day hs d 1
unfolding next_business_day business_day
next-is-one-further hs d h = one_further hs d (least_up_to (is_business_day hs) (suc d) last_date) refl (date-last d h)

-- and is refused for the same
pub next-as-further : (hs : List ℕ) (d : ℕ) → next_day hs d ≡ further_day hs d 1
unfolding next_day next_causes further_day further_causes
next-as-further hs d = cases (is_date d) (λ h. rw (h, next-is-one-further hs d h)) (λ h. rw h)
