-- A slice that holds no ledger holds none that is sound. Assumes nothing.
use mathlib.Core.Path.{◌≡◌, sym, ◌∙◌}
use mathlib.Core.Bool.{Bool, true, false, true≢false}
use Rattle.fields.proofs.BoolLaws.{cases}

pub held-none : (holds sound : Bool) → (sound ≡ true → holds ≡ true) → holds ≡ false → false ≡ sound
held-none holds sound f e = cases sound (λ s. absurd (true≢false (sym (f s) ∙ e))) (λ s. sym s)
