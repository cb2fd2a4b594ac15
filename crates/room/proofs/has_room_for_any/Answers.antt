-- `report::room::has_room_for_any` meets its contract. The invariant is `Walking`.
use native.Mathlib.Omega.{arith}
use mathlib.Core.Path.{sym, ◌∙◌}
use Rattle.room.proofs.RoomLaws.{walking_start, has_room, no_room, frame-fits, shorter, walking_on}
use Rattle.room.proofs.has_room_for_any.Goals as goal

pub loop-frame-init : goal.loop-frame-init
loop-frame-init c = walking_start _ _

pub returns-then-left-most : goal.returns-then-left-most
returns-then-left-most c = no_room _ _ _ _ c.loop-frame.invariant _ (sym c.frame_at.ensures ∙ c.in-Some.is) (omega (arith, c.most_of-most.ensures, c.if-left-most.true))

pub overflow_add-rest : goal.overflow_add-rest
overflow_add-rest c = omega (arith, c.loop-frame.invariant.within, frame-fits _ _ (sym c.frame_at.ensures ∙ c.in-Some.is))

pub slice_bounds-rest-count : goal.slice_bounds-rest-count
slice_bounds-rest-count c = omega (arith, frame-fits _ _ (sym c.frame_at.ensures ∙ c.in-Some.is))

pub slice_bounds-rest-start : goal.slice_bounds-rest-start
slice_bounds-rest-start c = omega (arith, frame-fits _ _ (sym c.frame_at.ensures ∙ c.in-Some.is))

pub loop-frame-smaller : goal.loop-frame-smaller
loop-frame-smaller c = shorter _ _ _ (sym c.frame_at.ensures ∙ c.in-Some.is)

pub loop-frame-preserved : goal.loop-frame-preserved
loop-frame-preserved c = rw c.most_of-most.ensures (walking_on _ _ _ _ c.loop-frame.invariant _ (sym c.frame_at.ensures ∙ c.in-Some.is) (omega (arith, c.most_of-most.ensures, c.if-left-most.false)) _ (omega arith))

pub returns : goal.returns
returns c = has_room _ _ _ _ c.loop-frame.invariant (sym c.frame_at.ensures ∙ c.in_default.is)
