-- `fields::put_bytes` meets its contract: the first k pieces of src stand in out from index `at` on, one more at each turn, and then what is left.
use Prim.Native.Nat.{ℕ, ◌+◌, ◌-◌, ◌*◌, ◌/◌}
use mathlib.Core.Path.{◌≡◌, ap, ◌∙◌}
use native.Mathlib.Omega.{arith}
use lib.ListN.{length, take, drop}
use Rattle.fields.specs.Put.{put, part}
use Rattle.fields.proofs.PutLaws.{copied_none, copied-part, copied_all, put-mid}
use Rattle.fields.proofs.put_bytes.Goals as goal

pub loop-k-init : goal.loop-k-init
loop-k-init c = copied_none _ _ _

pub loop-k-preserved : goal.loop-k-preserved
unfolding part
loop-k-preserved c =
    let a = c.args in
    let l = c.loop-k in
    let e : l.k * 32 + 32 - l.k * 32 ≡ 32 = omega arith in
    let q : l.k * 32 + 32 ≡ (l.k + 1) * 32 = omega arith in
    rw (← q)
    (copied-part l.invariant 32 _ c.requires (omega arith)
    (put-mid _ _ _ _ (omega arith) ∙ ap (put _ _) (c.copy_from_slice-in-loop-k.ensures.after ∙ c.copy_from_slice.ensures.after ∙ ap (λ (n : ℕ). take n (drop (l.k * 32) a.src.now)) e)))

pub returns : goal.returns
unfolding part
returns c =
    let a = c.args in
    let l = c.loop-k in
    let d : ℕ = length a.src.now / 32 * 32 in
    let e : l.k * 32 ≡ d = omega arith in
    copied_all
    (copied-part (rw e at l.invariant) (length a.src.now - d) _ c.requires (omega arith)
    (put-mid _ _ _ _ (omega arith) ∙ ap (put _ _) c.copy_from_slice-2.ensures.after))
    (omega arith)
