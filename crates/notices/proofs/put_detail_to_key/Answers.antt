-- `notices::put_detail_to_key` meets its contract: two writes, one after the other.
use native.Mathlib.Omega.{arith}
use Rattle.fields.proofs.PutLaws.{first, next}
use mathlib.Core.Path.{refl}
use Rattle.fields.proofs.DigitLaws.{length_digits}
use Rattle.notices.specs.Notices.{detail_to_key}
use Rattle.notices.proofs.NoticeLengths.{length-alike}
use Rattle.notices.proofs.put_detail_to_key.Goals as goal

pub returns : goal.returns
unfolding detail_to_key
returns c =
    let a = c.args in
    let w1 = first a.out.now a.at _ (omega (arith, c.requires)) c.put_alike.ensures (length-alike a.l a.notice.now c.requires.wide _ refl) in
    (next w1 _ c.put_number.ensures (length_digits 4 _)).same
