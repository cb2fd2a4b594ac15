-- `units::Date::next` meets its contract: in each case what stands between is no date.
use Prim.Native.Nat.{ℕ, ◌+◌, ◌*◌, ◌/◌, ◌≤◌, ◌<◌}
use mathlib.Core.Path.{◌≡◌}
use mathlib.Core.Bool.{true}
use native.Mathlib.Omega.{arith}
use Rattle.units.specs.Calendar.{year, month, day, month_days, is_date}
use Rattle.units.specs.Days.{last_date}
use Rattle.units.proofs.DateLaws.{Next, date-parts, parts-date, no-date, date-month, next-found}
use Rattle.units.proofs.MonthLaws.{month-long, month-some, december}
use Rattle.units.proofs.Date.next.Goals as goal

module _ (d : ℕ) (h : is_date d ≡ true) where
  in-month : day d < month_days (year d) (month d) → Next d (d + 1)
  in-month l =
      let p = date-parts d h in
      let m = date-month d h in
      let w = month-long (year d) (month d) m.0 m.1 in
      let e : year (d + 1) ≡ year d = omega arith in
      let f : month (d + 1) ≡ month d = omega arith in
      record {
        date = parts-date (d + 1) (record { from = omega arith; to = omega arith; some = omega arith; within = rw (e, f) (omega arith) });
        after = omega arith;
        between = λ e a b. absurd (omega arith);
      }

  month-end : month_days (year d) (month d) ≤ day d → month d < 12 → Next d (d / 100 * 100 + 101)
  month-end l k =
      let p = date-parts d h in
      let r = d / 100 * 100 + 101 in
      let w = month-long (year r) (month r) (omega arith) (omega arith) in
      record {
        date = parts-date r (record { from = omega arith; to = omega arith; some = omega arith; within = omega arith });
        after = omega arith;
        between = λ e a b. no-date e (λ s t.
            let q : e < d / 100 * 100 + 100 = omega arith in
            let y : year e ≡ year d = omega arith in
            let m : month e ≡ month d = omega arith in
            omega (arith, rw (y, m) at t));
      }

  year-end : month_days (year d) (month d) ≤ day d → 12 ≤ month d → d < last_date → Next d (d / 10000 * 10000 + 10101)
  year-end l k j =
      let p = date-parts d h in
      let m : month d ≡ 12 = omega (arith, date-month d h) in
      let last : 31 ≤ day d = omega (arith, december (year d), rw m at l) in
      let r = d / 10000 * 10000 + 10101 in
      let w = month-long (year r) (month r) (omega arith) (omega arith) in
      record {
        date = parts-date r (record { from = omega arith; to = omega arith; some = omega arith; within = omega arith });
        after = omega arith;
        between = λ e a b. no-date e (λ s t.
            let n = month-some (year e) (month e) (omega arith) in
            omega (arith, month-long (year e) (month e) n.0 n.1));
      }

pub returns-then-d-last : goal.returns-then-d-last
returns-then-d-last c =
    let d = c.args.self.0 in
    next-found d (d + 1) (in-month d c.requires.0 (omega arith))

pub returns-then-m-lt12 : goal.returns-then-m-lt12
returns-then-m-lt12 c =
    let d = c.args.self.0 in
    next-found d (d / 100 * 100 + 101) (month-end d c.requires.0 (omega arith) (omega arith))

pub returns : goal.returns
returns c =
    let d = c.args.self.0 in
    let q = c.requires in
    next-found d (d / 10000 * 10000 + 10101) (year-end d q.0 (omega arith) (omega arith) q.1)
