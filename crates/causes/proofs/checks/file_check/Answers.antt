-- `causes::checks::file_check` meets its contract.
use borrow.Author.Tests.{lt-ltb, le-ltb}
use native.Mathlib.Omega.{arith}
use mathlib.Core.Path.{sym, ap, ◌∙◌}
use lib.ListN.{length}
use Rattle.rules.specs.Lists.{count}
use Rattle.file.specs.File.{asks_id}
use Rattle.causes.proofs.FileFreshLaws.{file-groups, groups-few, ids-few, stop-bad, stop-room, stop-numbers, no-cause, short-is}
use Rattle.causes.proofs.checks.file_check.Goals as goal

pub returns-then-not-good_file : goal.returns-then-not-good_file
returns-then-not-good_file c = stop-bad _ _ _ _ (sym c.good_file.ensures ∙ c.if-not-good_file.true)

pub returns-then-room-len : goal.returns-then-room-len
returns-then-room-len c =
    stop-room _ _ _ _ (sym c.good_file.ensures ∙ c.if-not-good_file.false) (lt-ltb _ _ c.if-room-len.true)

pub lacks-requires : goal.lacks-requires
lacks-requires c =
    let s = c.args.s.now in
    let g = sym c.good_file.ensures ∙ c.if-not-good_file.false in
    let k = c.count_groups-needs.ensures in (
      c.requires.0,
      c.requires.1,
      omega (arith, k.1, ap (count asks_id) (file-groups s), ids-few s g),
      omega (arith, k.0, ap length (file-groups s), groups-few s g),
    )

pub returns-then-lacks : goal.returns-then-lacks
returns-then-lacks c =
    let k = c.count_groups-needs.ensures in
    stop-numbers _ _ _ _ (sym c.good_file.ensures ∙ c.if-not-good_file.false) (le-ltb _ _ c.if-room-len.false)
    (short-is _ _ _ _ _ k.0 k.1 ∙ sym c.lacks.ensures ∙ c.if-lacks.true)

pub returns : goal.returns
returns c =
    let k = c.count_groups-needs.ensures in
    no-cause _ _ _ _ (sym c.good_file.ensures ∙ c.if-not-good_file.false) (le-ltb _ _ c.if-room-len.false)
    (short-is _ _ _ _ _ k.0 k.1 ∙ sym c.lacks.ensures ∙ c.if-lacks.false)
