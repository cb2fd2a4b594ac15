-- `journal::keep` meets its contract: the library's copy is what stands there with the part put at the start.
use Rattle.std.proofs.Common.{◌+◌, ◌-◌, ℕ, ◌++◌, drop, sym, ap, ◌∙◌, arith, refl}
use Rattle.fields.specs.Put.{part, put}
use Rattle.fields.proofs.PutLaws.{length_part}
use Rattle.journal.proofs.keep.Goals as goal

pub returns : goal.returns
unfolding part put
returns c =
    let a = c.args in
    let xs = a.buf.now in
    let k = a.n - a.from in
    (refl, c.copy_within.ensures.after ∙ ap (λ (m : ℕ). part xs a.from k ++ drop (0 + m) xs) (sym (length_part xs a.from k (omega (arith, c.requires)))))
