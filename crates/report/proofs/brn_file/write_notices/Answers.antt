-- `report::brn_file::write_notices` meets its contract: the last notices are put behind the others.
use mathlib.Core.Path.{refl, sym, ap, ◌∙◌}
use native.Mathlib.Omega.{arith}
use lib.ListN.{length}
use lib.Seq.{length-take-le}
use Rattle.fields.proofs.PutLaws.{length-put}
use Rattle.report.proofs.BrnLaws.{all-given, LastRun, last-run}
use Rattle.report.proofs.brn_file.write_notices.Goals as goal

pub returns-then-not-full : goal.returns-then-not-full
returns-then-not-full c =
    all-given _ _ _ _ _ _ c.run-r.ensures c.start.ensures.2 c.requires (sym c.is_full-full.ensures ∙ c.if-not-full.true) _ (rw c.is_bad.ensures at c.ends_bad.ensures)

pub slice_bounds-last-end : goal.slice_bounds-last-end
slice_bounds-last-end c =
    -- the second run, into a buffer
    let last : LastRun c.args.src.now c.args.out.now c.run-r.new.out c.run-q.new.out c.run-r.result c.run-q.result =
    last-run _ _ _ _ _ _ c.run-r.ensures c.start.ensures.2 c.requires (sym c.is_full-full.ensures ∙ c.if-not-full.false) _ refl _ _ _ c.run-q.ensures in
    last.size

pub slice_bounds-put_bytes-end : goal.slice_bounds-put_bytes-end
slice_bounds-put_bytes-end c =
    -- the second run, into a buffer
    let last : LastRun c.args.src.now c.args.out.now c.run-r.new.out c.run-q.new.out c.run-r.result c.run-q.result =
    last-run _ _ _ _ _ _ c.run-r.ensures c.start.ensures.2 c.requires (sym c.is_full-full.ensures ∙ c.if-not-full.false) _ refl _ _ _ c.run-q.ensures in
    sym (length-take-le _ _ last.size)

pub put_bytes-requires : goal.put_bytes-requires
put_bytes-requires c =
    -- the second run, into a buffer
    let last : LastRun c.args.src.now c.args.out.now c.run-r.new.out c.run-q.new.out c.run-r.result c.run-q.result =
    last-run _ _ _ _ _ _ c.run-r.ensures c.start.ensures.2 c.requires (sym c.is_full-full.ensures ∙ c.if-not-full.false) _ refl _ _ _ c.run-q.ensures in
    last.room

pub overflow_add-result : goal.overflow_add-result
overflow_add-result c =
    -- the second run, into a buffer
    let last : LastRun c.args.src.now c.args.out.now c.run-r.new.out c.run-q.new.out c.run-r.result c.run-q.result =
    last-run _ _ _ _ _ _ c.run-r.ensures c.start.ensures.2 c.requires (sym c.is_full-full.ensures ∙ c.if-not-full.false) _ refl _ _ _ c.run-q.ensures in
    omega (arith, c.well_formed.1.0.0, last.sum)

pub overflow_sub-left-2 : goal.overflow_sub-left-2
overflow_sub-left-2 c =
    -- the second run, into a buffer
    let last : LastRun c.args.src.now c.args.out.now c.run-r.new.out c.run-q.new.out c.run-r.result c.run-q.result =
    last-run _ _ _ _ _ _ c.run-r.ensures c.start.ensures.2 c.requires (sym c.is_full-full.ensures ∙ c.if-not-full.false) _ refl _ _ _ c.run-q.ensures in
    last.used

pub shape_of-out : goal.shape_of-out
shape_of-out c =
    -- the second run, into a buffer
    let last : LastRun c.args.src.now c.args.out.now c.run-r.new.out c.run-q.new.out c.run-r.result c.run-q.result =
    last-run _ _ _ _ _ _ c.run-r.ensures c.start.ensures.2 c.requires (sym c.is_full-full.ensures ∙ c.if-not-full.false) _ refl _ _ _ c.run-q.ensures in
    ap length c.put_bytes.ensures ∙ length-put _ _ _ last.room ∙ c.run-r.ensures.kept

pub returns : goal.returns
returns c =
    -- the second run, into a buffer
    let last : LastRun c.args.src.now c.args.out.now c.run-r.new.out c.run-q.new.out c.run-r.result c.run-q.result =
    last-run _ _ _ _ _ _ c.run-r.ensures c.start.ensures.2 c.requires (sym c.is_full-full.ensures ∙ c.if-not-full.false) _ refl _ _ _ c.run-q.ensures in
    last.given _ _ c.put_bytes.ensures (rw c.is_bad-2.ensures at c.ends_bad-2.ensures)
