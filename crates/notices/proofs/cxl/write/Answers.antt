-- `notices::cxl::write` meets its contract: the header, then the detail.
use native.Mathlib.Omega.{arith}
use Prim.Native.Nat.{◌+◌}
use Rattle.fields.proofs.PutLaws.{first, next}
use mathlib.Core.Path.{refl}
use Rattle.notices.specs.Notices.{cxl_header, cxl_detail, cxl}
use Rattle.notices.proofs.NoticeLengths.{length-header, length-detail-to-key, length-spaces-from, length-cxl-detail}
use Rattle.notices.proofs.cxl.write.Goals as goal

pub returns : goal.returns
unfolding cxl cxl_header cxl_detail
returns c =
    let a = c.args in
    let w1 = first a.out.now a.at _ (omega (arith, c.requires)) (rw c.alike_for-alike.ensures at c.put_header.ensures) (length-header _ _ refl _ _) in
    let w2 = first _ (a.at + 321) _ (omega (arith, c.requires)) (rw c.alike_for-alike.ensures at c.put_detail_to_key.ensures) (length-detail-to-key _ _ refl _) in
    (next w1 _ (next w2 _ c.put_end.ensures (length-spaces-from 46)).same (length-cxl-detail a.x)).same
