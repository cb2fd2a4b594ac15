-- `notices::bil::write` meets its contract: the header, then the detail.
use native.Mathlib.Omega.{arith}
use Rattle.fields.proofs.PutLaws.{first, next}
use mathlib.Core.Path.{refl}
use Rattle.notices.specs.Notices.{bil_header, bil}
use Rattle.notices.proofs.NoticeLengths.{length-header, length-bil-detail}
use Rattle.notices.proofs.bil.write.Goals as goal

pub returns : goal.returns
unfolding bil bil_header
returns c =
    let a = c.args in
    let w1 = first a.out.now a.at _ (omega (arith, c.requires)) (rw c.alike_for-alike.ensures at c.put_header.ensures) (length-header _ _ refl _ _) in
    (next w1 _ c.put_detail.ensures (length-bil-detail _)).same
