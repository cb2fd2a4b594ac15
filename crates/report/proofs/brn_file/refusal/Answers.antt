-- `report::brn_file::refusal` meets its contract: where the entries' tags and lengths do not show it, the run measures.
use mathlib.Core.Path.{sym, ◌∙◌}
use native.Mathlib.Omega.{arith}
use mathlib.Core.Bool.{false}
use Rattle.entries.proofs.RanLaws.{journal-bad, journal-written}
use Rattle.report.proofs.BrnLaws.{fits-any, fits-measured, short-measured}
use Rattle.report.proofs.brn_file.refusal.Goals as goal

pub returns-then-has_room_for_any : goal.returns-then-has_room_for_any
returns-then-has_room_for_any c = fits-any _ _ (sym c.has_room_for_any.ensures ∙ c.if-has_room_for_any.true)

pub returns-then-r-room : goal.returns-then-r-room
returns-then-r-room c =
    fits-measured _ _ _ (journal-written false _ _ _ _ _ _ c.run-r.ensures c.start.ensures.2 c.run-r.ensures.full) c.if-r-room.true

pub returns : goal.returns
returns c =
    short-measured _ _ _ (journal-written false _ _ _ _ _ _ c.run-r.ensures c.start.ensures.2 c.run-r.ensures.full) _ (rw c.is_bad.ensures at c.ends_bad.ensures ∙ journal-bad false _ _ _ _ _ _ c.run-r.ensures c.start.ensures.2 c.run-r.ensures.full) (omega (arith, c.if-r-room.false))
