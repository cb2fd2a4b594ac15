-- `notices::put_header` meets its contract: three writes, one after the other.
use native.Mathlib.Omega.{arith}
use Rattle.fields.proofs.PutLaws.{first, next}
use mathlib.Core.Path.{refl}
use Rattle.fields.specs.Text.{text}
use Rattle.fields.specs.Digits.{digits}
use Rattle.fields.proofs.DigitLaws.{length_digits}
use Rattle.notices.specs.Notices.{header}
use Rattle.notices.proofs.NoticeLengths.{length-alike, length-spaces-from}
use Rattle.notices.proofs.WriteLaws.{next-three}
use Rattle.notices.proofs.put_header.Goals as goal

pub returns : goal.returns
unfolding header
returns c =
    let a = c.args in
    let w1 = first a.out.now a.at _ (omega (arith, c.requires)) c.put_alike.ensures (length-alike a.l a.notice.now c.requires.wide _ refl) in
    let w2 = next-three w1 (digits 9 a.confirmation) (digits 8 a.scheduled) (text "01") c.put_to_count.ensures (length_digits 9 _) (length_digits 8 _) refl in
    (next w2 _ c.put_end.ensures (length-spaces-from 61)).same
