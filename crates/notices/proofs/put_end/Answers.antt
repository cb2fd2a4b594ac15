-- `notices::put_end` meets its contract: two writes, one after the other.
use native.Mathlib.Omega.{arith}
use Prim.Native.Nat.{◌+◌, ◌-◌}
use mathlib.Core.Path.{◌≡◌}
use Rattle.fields.specs.Put.{filled}
use Rattle.fields.proofs.PutLaws.{first, next, length-filled}
use Rattle.notices.specs.Notices.{spaces_from}
use Rattle.notices.proofs.put_end.Goals as goal

pub returns : goal.returns
unfolding spaces_from filled
returns c =
    let a = c.args in
    let p = c.requires in
    let e : 321 - (a.from + 1) ≡ 320 - a.from = omega arith in
    let s : a.at + 320 ≡ a.at + a.from + (320 - a.from) = omega arith in
    let w1 = first a.out.now (a.at + a.from) _ (omega arith) c.put_fill.ensures (length-filled (320 - a.from) 32) in
    rw e (next w1 _ (rw s at c.put_fill-2.ensures) (length-filled 1 13)).same
