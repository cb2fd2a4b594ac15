-- `calendar::further` meets its contract. The invariant, `Way`: the date sought from the start on is that sought from this date on.
use Prim.Native.Nat.{ℕ, ◌+◌, ◌-◌, ◌<◌}
use mathlib.Core.Path.{◌≡◌, sym, ◌∙◌}
use mathlib.Core.Bool.{Bool, true, false, cond}
use mathlib.Core.List.{List}
use native.Mathlib.Omega.{arith}
use Rattle.units.specs.Days.{last_date}
use Rattle.units.proofs.DateLaws.{Next, next-date, date-last}
use Rattle.calendar.specs.BusinessDays.{is_business_day}
use Rattle.calendar.proofs.FurtherLaws.{Way, way-start, way_end, way-none, way_on}
use Rattle.calendar.proofs.further.Goals as goal

-- one date more, r
module _ (d r : ℕ) (step : Next d r) where
  less : last_date - r < last_date - d
  less = omega (arith, step.after, date-last r step.date)

  on :
      (hs : List ℕ) (start number left rest : ℕ) (b : Bool) → Way hs start number d left → 0 < left → is_business_day hs r ≡ b → rest + cond b 1 0 ≡ left
      → Way hs start number r rest
  on hs start number left rest b w l e f = way_on hs start number d left w r rest l step (rw e f)

pub loop-left-init : goal.loop-left-init
loop-left-init c = way-start c.args.holidays.now c.args.start.0 c.args.number c.requires

pub returns-then-d-ge-LAST_DATE : goal.returns-then-d-ge-LAST_DATE
returns-then-d-ge-LAST_DATE c =
    let l = c.loop-left in
    let a = c.args in
    sym (way-none a.holidays.now a.start.0 a.number l.d.0 l.left l.invariant (omega arith) (omega arith))

pub is_business_day-requires : goal.is_business_day-requires
is_business_day-requires c = (next-date c.loop-left.d.0 c.next-d.result.0 c.next-d.ensures).date

pub loop-left-smaller-then-is_business_day : goal.loop-left-smaller-then-is_business_day
loop-left-smaller-then-is_business_day c = less _ _ (next-date c.loop-left.d.0 c.next-d.result.0 c.next-d.ensures)

pub loop-left-preserved-then-is_business_day : goal.loop-left-preserved-then-is_business_day
loop-left-preserved-then-is_business_day c = on _ _ (next-date c.loop-left.d.0 c.next-d.result.0 c.next-d.ensures) _ _ _ c.loop-left.left _ true c.loop-left.invariant (omega arith) (sym c.is_business_day.ensures ∙ c.if-is_business_day.true) (omega arith)

pub loop-left-smaller : goal.loop-left-smaller
loop-left-smaller c = less _ _ (next-date c.loop-left.d.0 c.next-d.result.0 c.next-d.ensures)

pub loop-left-preserved : goal.loop-left-preserved
loop-left-preserved c = on _ _ (next-date c.loop-left.d.0 c.next-d.result.0 c.next-d.ensures) _ _ _ c.loop-left.left _ false c.loop-left.invariant (omega arith) (sym c.is_business_day.ensures ∙ c.if-is_business_day.false) (omega arith)

pub returns : goal.returns
returns c =
    let l = c.loop-left in
    let a = c.args in
    sym (way_end a.holidays.now a.start.0 a.number l.d.0 l.left l.invariant (omega arith))
