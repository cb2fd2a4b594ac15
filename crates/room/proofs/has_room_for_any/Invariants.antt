-- `report::room::has_room_for_any` meets its contract. The invariant is `Walking`.
use lib.ListN.{length}
use Rattle.room.proofs.RoomLaws.{Walking}
use Rattle.room.proofs.has_room_for_any.Given as goal

abbrev pub invariant-loop-frame : goal.invariant-loop-frame
invariant-loop-frame l = Walking l.src l.room l.rest l.left

abbrev pub decreases-loop-frame : goal.decreases-loop-frame
decreases-loop-frame l = length l.rest
